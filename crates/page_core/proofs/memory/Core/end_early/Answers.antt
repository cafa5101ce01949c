-- A set that waits, or is broken, leaves nothing.
use Rattle.page_core.proofs.Handed.Pasts.{ended_stands}
use Rattle.page_core.proofs.memory.Core.end_early.Goals as goal

pub returns-clause-stands : goal.returns-clause-stands
returns-clause-stands c past pts size readings end stands lifted verdict early =
    ended_stands past pts size c.args.time readings end c.args.self.now c.break_off.new.self stands lifted verdict early
    c.break_off.ensures.last c.break_off.ensures.same c.break_off.ensures.forgotten
