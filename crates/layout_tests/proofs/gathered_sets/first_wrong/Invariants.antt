use Rattle.std.proofs.Common.{◌≡◌, []}
use Rattle.display_sets.specs.Gathered.{ready_sets}
use Rattle.layout_tests.proofs.gathered_sets.first_wrong.Given as goal

abbrev pub invariant-loop-row : goal.invariant-loop-row
invariant-loop-row l = ready_sets l.gathering ≡ []
