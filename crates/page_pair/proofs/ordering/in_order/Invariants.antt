use Rattle.std.proofs.Common.{◌≡◌, ◌≤◌, ◌++◌, drop, length}
use Rattle.page_pair.specs.PairSets.{in_order, names_of}
use Rattle.page_pair.proofs.ordering.in_order.Given as goal

abbrev pub invariant-loop-pair : goal.invariant-loop-pair
invariant-loop-pair l = record {
  order : in_order l.pages (names_of l.shared.first.now) (names_of l.shared.second.now) l.shared.pairs.now l.one l.two
      ≡ l.ordered.objects.items
      ++ in_order l.pages (names_of l.shared.first.now) (names_of l.shared.second.now)
      (drop l.pair-index l.shared.pairs.now) (drop l.ordered.one_from l.one) (drop l.ordered.two_from l.two);
  one : l.ordered.one.now ≡ l.one;
  two : l.ordered.two.now ≡ l.two;
  within : l.ordered.one_from ≤ length l.one;
  within_two : l.ordered.two_from ≤ length l.two;
}
