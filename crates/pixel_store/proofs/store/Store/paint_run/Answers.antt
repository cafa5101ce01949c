use Rattle.std.proofs.Common.{◌≡◌, ◌+◌, ◌<◌, ◌≤◌, min, subst, sym, arith}
use Rattle.pixel_store.specs.Regions.{StoredRegion}
use Rattle.pixel_store.specs.Private.Stores.{extent_at, regions_in}
use Rattle.pixel_store.proofs.CallLaws.{run_after, outside_after}
use Rattle.pixel_store.proofs.StoreCalls.{extent_fits, run_store, region_is}
use Rattle.pixel_store.proofs.store.Store.paint_run.Goals as goal

pub paint_row-requires-clause-fits : goal.paint_row-requires-clause-fits
paint_row-requires-clause-fits c =
    let inside = c.self.inside in
    let here : c.extent_at-extent.result ≡ extent_at inside.extents.items c.args.slot = cc in
    extent_fits inside.bytes.items inside.used inside.extents.items c.args.self.now c.self.view_is c.self.invariant.0
    c.args.slot c.requires.slot c.extent_at-extent.result here

pub invariant_of-self : goal.invariant_of-self
invariant_of-self c =
    let inside = c.self.inside in
    let p = c.extent_at-extent.result in
    let here : p ≡ extent_at inside.extents.items c.args.slot = cc in
    let low : c.args.y < p.height = omega (arith, c.from.ensures) in
    let from : c.min-from.result ≡ min c.args.x p.width = omega (arith, c.min-from.ensures, c.from-width.ensures) in
    let to : c.min-to.result ≡ min (c.args.x + c.args.length) p.width =
    omega (arith, c.min-to.ensures, c.from-width.ensures) in
    let run =
    run_store inside.bytes.items inside.used inside.extents.items c.args.self.now c.self.view_is c.self.invariant.0
    c.args.slot c.requires.slot p here
    c.paint_row.new.bytes.items c.args.x c.args.y c.args.length c.args.code c.min-from.result c.min-to.result
    c.paint_row.ensures.length low from to c.paint_row.ensures.paints in
    (run.0, c.self.invariant.1)

pub returns-then-y-from-clause-others : goal.returns-then-y-from-clause-others
returns-then-y-from-clause-others c =
    let inside = c.self.inside in
    let p = c.extent_at-extent.result in
    let here : p ≡ extent_at inside.extents.items c.args.slot = cc in
    let low : c.args.y < p.height = omega (arith, c.from.ensures) in
    let from : c.min-from.result ≡ min c.args.x p.width = omega (arith, c.min-from.ensures, c.from-width.ensures) in
    let to : c.min-to.result ≡ min (c.args.x + c.args.length) p.width =
    omega (arith, c.min-to.ensures, c.from-width.ensures) in
    let run =
    run_store inside.bytes.items inside.used inside.extents.items c.args.self.now c.self.view_is c.self.invariant.0
    c.args.slot c.requires.slot p here
    c.paint_row.new.bytes.items c.args.x c.args.y c.args.length c.args.code c.min-from.result c.min-to.result
    c.paint_row.ensures.length low from to c.paint_row.ensures.paints in
    run.1

pub returns-then-y-from-clause-painted : goal.returns-then-y-from-clause-painted
returns-then-y-from-clause-painted c =
    let inside = c.self.inside in
    let p = c.extent_at-extent.result in
    let here : p ≡ extent_at inside.extents.items c.args.slot = cc in
    let low : c.args.y < p.height = omega (arith, c.from.ensures) in
    let from : c.min-from.result ≡ min c.args.x p.width = omega (arith, c.min-from.ensures, c.from-width.ensures) in
    let to : c.min-to.result ≡ min (c.args.x + c.args.length) p.width =
    omega (arith, c.min-to.ensures, c.from-width.ensures) in
    let run =
    run_store inside.bytes.items inside.used inside.extents.items c.args.self.now c.self.view_is c.self.invariant.0
    c.args.slot c.requires.slot p here
    c.paint_row.new.bytes.items c.args.x c.args.y c.args.length c.args.code c.min-from.result c.min-to.result
    c.paint_row.ensures.length low from to c.paint_row.ensures.paints in
    run.2

pub returns-then-y-from-clause-after : goal.returns-then-y-from-clause-after
returns-then-y-from-clause-after c =
    run_after c.args.slot c.args.x c.args.y c.args.length c.args.code c.args.self.now
    (regions_in c.paint_row.new.bytes.items c.self.inside.used c.self.inside.extents.items)
    (returns-then-y-from-clause-others c) (returns-then-y-from-clause-painted c)

pub returns-else-y-from-clause-after : goal.returns-else-y-from-clause-after
returns-else-y-from-clause-after c =
    let inside = c.self.inside in
    let p = c.extent_at-extent.result in
    let here : p ≡ extent_at inside.extents.items c.args.slot = cc in
    let region =
    region_is inside.bytes.items inside.used inside.extents.items c.args.self.now c.self.view_is c.self.invariant.0
    c.args.slot c.requires.slot p here in
    let below : p.height ≤ c.args.y = omega (arith, c.from.ensures) in
    outside_after c.args.slot c.args.x c.args.y c.args.length c.args.code c.args.self.now
    (subst (λ (r : StoredRegion). r.height ≤ c.args.y) (sym region) below)
