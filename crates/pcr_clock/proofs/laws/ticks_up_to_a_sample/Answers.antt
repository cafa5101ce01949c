use Rattle.pcr_clock.proofs.RunLaws.{ticks_to_sample}
use Rattle.pcr_clock.proofs.laws.ticks_up_to_a_sample.Goals as goal

pub returns : goal.returns
returns c = ticks_to_sample
