use Rattle.page_pair.proofs.OrderLaws.{NotBefore}
use Rattle.page_pair.proofs.ordering.find_cue.Given as goal

abbrev pub invariant-loop-at : goal.invariant-loop-at
invariant-loop-at l = NotBefore l.cue l.objects l.at
