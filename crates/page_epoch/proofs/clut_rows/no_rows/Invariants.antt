use Rattle.std.proofs.Common.{◌≡◌, map, take, None}
use Rattle.page_epoch.proofs.clut_rows.no_rows.Given as goal

abbrev pub invariant-loop-entry : goal.invariant-loop-entry
invariant-loop-entry l = l.current.items ≡ map (λ _. None) (take l._entry-index l.entries)
