use Rattle.page_core.proofs.Pictures.DrawnEntries.{found_placed}
use Rattle.page_core.proofs.rows.packed_row.Goals as goal

pub packed_line-requires : goal.packed_line-requires
packed_line-requires c =
    let kept = c.in_ok-region.ensures in
    found_placed c.args.composition.now c.args.id kept.0 c.in_ok-region.region c.args.store.now c.requires kept.1 kept.2
