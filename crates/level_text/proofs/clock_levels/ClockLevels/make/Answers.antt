-- Levels of a stream of which no packet came.
use Rattle.std.proofs.Common.{refl}
use Rattle.level_text.proofs.ClockLaws.{nothing_clocked}
use Rattle.level_text.proofs.clock_levels.ClockLevels.make.Goals as goal

pub returns-clause-nothing : goal.returns-clause-nothing
returns-clause-nothing c =
    nothing_clocked _ c.in_ok-with_capacity.ensures.items refl refl refl c.new.ensures.sets c.new.ensures.found
