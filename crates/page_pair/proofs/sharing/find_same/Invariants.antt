use Rattle.std.proofs.Common.{◌≡◌, drop}
use Rattle.page_pair.specs.PairSets.{first_and_rest, is_same_object}
use Rattle.page_pair.proofs.sharing.find_same.Given as goal

abbrev pub invariant-loop-at : goal.invariant-loop-at
invariant-loop-at l =
    first_and_rest (λ other. is_same_object other l.object) l.others
    ≡ first_and_rest (λ other. is_same_object other l.object) (drop l.at l.others)
