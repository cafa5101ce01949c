-- What stands after a loss.
use Rattle.page_core.proofs.Handed.Pasts.{loss_stands}
use Rattle.page_core.proofs.memory.Core.lose.Goals as goal

pub returns-clause-stands : goal.returns-clause-stands
returns-clause-stands c past stands = loss_stands past c.args.self.now c.forget.new.self c.forget.ensures stands
