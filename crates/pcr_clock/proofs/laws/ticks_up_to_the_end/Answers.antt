use Rattle.pcr_clock.proofs.RunLaws.{ticks_to_end}
use Rattle.pcr_clock.proofs.laws.ticks_up_to_the_end.Goals as goal

pub returns : goal.returns
returns c = ticks_to_end
