use Rattle.live_plan.proofs.OneBatch as own
use Rattle.live_plan.proofs.laws.one_batch.Goals as goal

pub returns : goal.returns
returns c = own.one_batch
