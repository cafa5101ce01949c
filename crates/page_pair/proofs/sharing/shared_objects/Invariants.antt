use Rattle.std.proofs.Common.{◌≡◌, ◌≤◌, ◌++◌, drop, length}
use Rattle.page_pair.specs.PairSets.{shared_objects}
use Rattle.page_pair.proofs.sharing.shared_objects.Given as goal

abbrev pub invariant-loop-object : goal.invariant-loop-object
invariant-loop-object l = record {
  pairs : shared_objects l.one l.two ≡ l.pairs.items ++ shared_objects (drop l.from l.one) (drop l.object-index l.two);
  few : length l.pairs.items ≤ l.object-index;
  within : l.from ≤ length l.one;
}
