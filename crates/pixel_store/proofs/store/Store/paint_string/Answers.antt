use Rattle.std.proofs.Common.{◌≡◌}
use Rattle.string_painting.specs.Painting.{laid_over, pixels_of_codes}
use Rattle.pixel_store.specs.Private.Stores.{extent_at, regions_in}
use Rattle.pixel_store.proofs.CallLaws.{string_after}
use Rattle.pixel_store.proofs.StoreCalls.{extent_fits, row_store, row_others, row_painted}
use Rattle.pixel_store.proofs.store.Store.paint_string.Goals as goal

pub paint_row_string-requires-clause-fits : goal.paint_row_string-requires-clause-fits
paint_row_string-requires-clause-fits c =
    let inside = c.self.inside in
    let here : c.extent_at-extent.result ≡ extent_at inside.extents.items c.args.slot = cc in
    extent_fits inside.bytes.items inside.used inside.extents.items c.args.self.now c.self.view_is c.self.invariant.0
    c.args.slot c.requires.slot c.extent_at-extent.result here

pub invariant_of-self : goal.invariant_of-self
invariant_of-self c =
    let inside = c.self.inside in
    let here : c.extent_at-extent.result ≡ extent_at inside.extents.items c.args.slot = cc in
    let done = c.paint_row_string.ensures in (
      row_store inside.bytes.items inside.used inside.extents.items c.args.self.now c.self.view_is c.self.invariant.0
          c.args.slot c.requires.slot c.extent_at-extent.result here c.paint_row_string.new.bytes.items c.args.y
          done.length done.keeps,
      c.self.invariant.1,
    )

pub returns-clause-others : goal.returns-clause-others
returns-clause-others c =
    let inside = c.self.inside in
    let here : c.extent_at-extent.result ≡ extent_at inside.extents.items c.args.slot = cc in
    let done = c.paint_row_string.ensures in
    row_others inside.bytes.items inside.used inside.extents.items c.args.self.now c.self.view_is c.self.invariant.0
    c.args.slot c.requires.slot c.extent_at-extent.result here c.paint_row_string.new.bytes.items c.args.y
    done.length done.keeps

pub returns-clause-painted : goal.returns-clause-painted
returns-clause-painted c = λ codes front rest e s.
    let inside = c.self.inside in
    let here : c.extent_at-extent.result ≡ extent_at inside.extents.items c.args.slot = cc in
    let done = c.paint_row_string.ensures in
    row_painted inside.bytes.items inside.used inside.extents.items c.args.self.now c.self.view_is c.self.invariant.0
    c.args.slot c.requires.slot c.extent_at-extent.result here c.paint_row_string.new.bytes.items c.args.y
    done.length done.keeps c.args.x (laid_over c.args.brush c.args.table.now)
    (pixels_of_codes c.args.brush.string codes) (done.painted codes front rest e s)

pub returns-clause-after : goal.returns-clause-after
returns-clause-after c = λ codes front rest e s.
    string_after c.args.slot c.args.x c.args.y c.args.brush c.args.table.now
    (pixels_of_codes c.args.brush.string codes) c.args.self.now
    (regions_in c.paint_row_string.new.bytes.items c.self.inside.used c.self.inside.extents.items)
    (returns-clause-others c) (returns-clause-painted c codes front rest e s)
