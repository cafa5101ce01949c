use Rattle.std.proofs.Common.{◌∙◌, ap}
use Rattle.page_core.specs.Composition.{Composition, region_in}
use Rattle.page_core.specs.Rows.{window_at}
use Rattle.page_core.proofs.Pictures.DrawnEntries.{no_region, table_of, node_drawn, found_placed}
use Rattle.page_core.proofs.rows.entry_into.Goals as goal

pub region_into-requires-clause-region : goal.region_into-requires-clause-region
region_into-requires-clause-region c =
    let kept = c.in-Some.ensures in
    found_placed c.args.composition.now c.args.entry.region kept.0 c.in-Some.region c.args.store.now c.requires kept.1
    kept.2

pub returns-in-Some : goal.returns-in-Some
returns-in-Some c = λ memory has.
    let composition = c.args.composition.now in
    let region = c.in-Some.region in
    let kept = c.in-Some.ensures in
    node_drawn memory (window_at c.args.place) c.args.place.y c.args.entry kept.0 region composition c.args.store.now
    c.args.inks.now c.table-colours.result.now c.args.row.now c.region_into.new.row has
    (ap (λ (m : Composition). region_in m c.args.entry.region) has.nodes ∙ kept.1) kept.2
    (found_placed composition c.args.entry.region kept.0 region c.args.store.now c.requires kept.1 kept.2)
    (table_of c.args.inks.now c.table-colours.result.now region.head.clut region.head.depth
    c.table-colours.ensures.colours) c.region_into.ensures

pub returns-in_default : goal.returns-in_default
returns-in_default c = λ memory has.
    no_region memory (window_at c.args.place) c.args.place.y c.args.entry c.args.row.now
    (ap (λ (m : Composition). region_in m c.args.entry.region) has.nodes ∙ c.in_default.ensures)
