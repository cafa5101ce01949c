use Rattle.spaced_set_laws.proofs.SpacedArrival.{arrive_in_time}
use Rattle.spaced_set_laws.proofs.laws.spaced_sets_arrive_in_time.Goals as goal

pub returns : goal.returns
returns c = arrive_in_time
