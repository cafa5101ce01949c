use Rattle.std.proofs.Common.{◌≡◌, ◌∙◌, ◌+◌, ap, sym, subst, List, ℕ, slice_range}
use Rattle.pixel_store.specs.Private.Extents.{row_start, stride_of}
use Rattle.pixel_store.specs.Regions.{IsPackedRow, region_at}
use Rattle.pixel_store.specs.Private.Stores.{extent_at}
use Rattle.pixel_store.proofs.StoreCalls.{extent_fits, row_read}
use Rattle.pixel_store.proofs.store.Store.packed_row.Goals as goal

pub packed_row-requires-clause-fits : goal.packed_row-requires-clause-fits
packed_row-requires-clause-fits c =
    let inside = c.self.inside in
    let here : c.extent_at.result ≡ extent_at inside.extents.items c.args.slot = cc in
    rw c.deref.ensures.value
    (extent_fits inside.bytes.items inside.used inside.extents.items c.args.self.now c.self.view_is c.self.invariant.0
    c.args.slot c.requires.slot c.extent_at.result here)

pub returns : goal.returns
returns c =
    let inside = c.self.inside in
    let p = c.extent_at.result in
    let here : p ≡ extent_at inside.extents.items c.args.slot = cc in
    let row : List ℕ → List ℕ =
    λ bytes. slice_range bytes (row_start p c.args.y) (row_start p c.args.y + stride_of p) in
    subst (IsPackedRow (region_at c.args.self.now c.args.slot) c.args.y)
    (sym (c.packed_row.ensures ∙ ap row c.deref.ensures.value))
    (row_read inside.bytes.items inside.used inside.extents.items c.args.self.now c.self.view_is c.self.invariant.0
    c.args.slot c.requires.slot p here c.args.y c.requires.y)
