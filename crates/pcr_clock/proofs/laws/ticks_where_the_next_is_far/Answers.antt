use Rattle.pcr_clock.proofs.RunLaws.{ticks_where_far}
use Rattle.pcr_clock.proofs.laws.ticks_where_the_next_is_far.Goals as goal

pub returns : goal.returns
returns c = ticks_where_far
