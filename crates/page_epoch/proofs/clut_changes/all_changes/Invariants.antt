use Rattle.std.proofs.Common.{◌≡◌, ◌==◌, All, filter, map}
use Rattle.std.specs.List.{range_with_len, list_any}
use Rattle.page_epoch.specs.Private.Changes.{AreChanges}
use Rattle.page_epoch.proofs.clut_changes.all_changes.Given as goal

abbrev pub invariant-loop-clut : goal.invariant-loop-clut
invariant-loop-clut l =
    (map (λ clut. clut.clut) l.cluts.items
    ≡ filter (λ clut. list_any (λ row. row.clut == clut) l.colours) (range_with_len 0 l.clut))
    × All (AreChanges l.colours) l.cluts.items
