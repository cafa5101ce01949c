use Rattle.std.proofs.Common.{◌≡◌, ◌∙◌, sym, ap, arith}
use Rattle.decoder_model.specs.Shown.{window_of}
use Rattle.page_core.specs.Rows.{row_in, window_at}
use Rattle.page_core.proofs.Pictures.DrawnEntries.{way_begins, way_ends}
use Rattle.page_core.proofs.rows.row_into.Goals as goal

pub loop-entry-init : goal.loop-entry-init
loop-entry-init c =
    way_begins c.args.composition.now c.args.store.now c.args.inks.now c.row_place-place.result c.entries-entries.result
    c.clear_row.new.row
    (λ x inside. c.clear_row.ensures x (omega (arith, c.clear_row.auto.row))) c.entries-entries.ensures

pub returns : goal.returns
returns c = λ memory has display size.
    let window : window_of memory.display ≡ window_at c.row_place-place.result =
    ap window_of display ∙ sym c.row_place-place.ensures.window in
    way_ends c.args.composition.now c.args.store.now c.args.inks.now c.row_place-place.result c.loop-entry.entries
    c.loop-entry.row c.in_default.ensures.0 c.loop-entry.invariant memory has window
    (c.loop-entry.auto.row ∙ c.clear_row.auto.row ∙ size) ∙ ap (row_in memory) c.row_place-place.ensures.y
