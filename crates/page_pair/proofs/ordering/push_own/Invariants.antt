use Rattle.std.proofs.Common.{◌≡◌, ◌++◌, take}
use Rattle.page_pair.specs.PairSets.{names_of, own}
use Rattle.page_pair.proofs.ordering.push_own.Given as goal

abbrev pub invariant-loop-object : goal.invariant-loop-object
invariant-loop-object l =
    l.ordered.items ≡ l.initial.ordered.items ++ own l.page (names_of l.shared) (take l.object-index l.objects)
