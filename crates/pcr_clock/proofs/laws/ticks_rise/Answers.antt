use Rattle.pcr_clock.proofs.RunLaws.{between_first, between_last, between_rises}
use Rattle.pcr_clock.proofs.laws.ticks_rise.Goals as goal

pub returns-clause-first : goal.returns-clause-first
returns-clause-first c = between_first

pub returns-clause-next : goal.returns-clause-next
returns-clause-next c = between_rises

pub returns-clause-last : goal.returns-clause-last
returns-clause-last c = between_last
