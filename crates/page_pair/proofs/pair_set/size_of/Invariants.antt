use Rattle.std.proofs.Common.{◌≡◌, ◌*◌, ◌≤◌, ◌^◌, take}
use Rattle.std.specs.List.{sum_by}
use Rattle.page_pair.specs.PairSets.{paged_length}
use Rattle.page_pair.proofs.pair_set.size_of.Given as goal

abbrev pub invariant-loop-object : goal.invariant-loop-object
invariant-loop-object l =
    (l.size ≡ sum_by paged_length (take l.object-index l.objects)) × (l.size ≤ l.object-index * 2 ^ 34)
