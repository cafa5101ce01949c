use Rattle.std.proofs.Common.{◌≡◌}
use Rattle.pixel_store.specs.Private.Stores.{extent_at, regions_in}
use Rattle.pixel_store.proofs.CallLaws.{fill_after}
use Rattle.pixel_store.proofs.StoreCalls.{extent_fits, filled_store}
use Rattle.pixel_store.proofs.store.Store.fill.Goals as goal

pub fill_rows-requires-clause-fits : goal.fill_rows-requires-clause-fits
fill_rows-requires-clause-fits c =
    let inside = c.self.inside in
    let here : c.extent_at-extent.result ≡ extent_at inside.extents.items c.args.slot = cc in
    extent_fits inside.bytes.items inside.used inside.extents.items c.args.self.now c.self.view_is c.self.invariant.0
    c.args.slot c.requires.slot c.extent_at-extent.result here

pub invariant_of-self : goal.invariant_of-self
invariant_of-self c =
    let inside = c.self.inside in
    let here : c.extent_at-extent.result ≡ extent_at inside.extents.items c.args.slot = cc in
    let filled =
    filled_store inside.bytes.items inside.used inside.extents.items c.args.self.now c.self.view_is
    c.self.invariant.0 c.args.slot c.requires.slot
    c.extent_at-extent.result here c.fill_rows.new.bytes.items c.args.code c.fill_rows.ensures.length
    c.fill_rows.ensures.fills in
    (filled.0, c.self.invariant.1)

pub returns-clause-others : goal.returns-clause-others
returns-clause-others c =
    let inside = c.self.inside in
    let here : c.extent_at-extent.result ≡ extent_at inside.extents.items c.args.slot = cc in
    let filled =
    filled_store inside.bytes.items inside.used inside.extents.items c.args.self.now c.self.view_is
    c.self.invariant.0 c.args.slot c.requires.slot
    c.extent_at-extent.result here c.fill_rows.new.bytes.items c.args.code c.fill_rows.ensures.length
    c.fill_rows.ensures.fills in
    filled.1

pub returns-clause-filled : goal.returns-clause-filled
returns-clause-filled c =
    let inside = c.self.inside in
    let here : c.extent_at-extent.result ≡ extent_at inside.extents.items c.args.slot = cc in
    let filled =
    filled_store inside.bytes.items inside.used inside.extents.items c.args.self.now c.self.view_is
    c.self.invariant.0 c.args.slot c.requires.slot
    c.extent_at-extent.result here c.fill_rows.new.bytes.items c.args.code c.fill_rows.ensures.length
    c.fill_rows.ensures.fills in
    filled.2

pub returns-clause-after : goal.returns-clause-after
returns-clause-after c =
    fill_after c.args.slot c.args.code c.args.self.now
    (regions_in c.fill_rows.new.bytes.items c.self.inside.used c.self.inside.extents.items)
    (returns-clause-others c) (returns-clause-filled c)
