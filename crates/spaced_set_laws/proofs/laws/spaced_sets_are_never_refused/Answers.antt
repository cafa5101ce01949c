use Rattle.spaced_set_laws.proofs.SpacedArrival.{not_refused}
use Rattle.spaced_set_laws.proofs.laws.spaced_sets_are_never_refused.Goals as goal

pub returns : goal.returns
returns c = not_refused
