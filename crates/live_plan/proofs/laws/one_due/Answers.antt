use Rattle.live_plan.proofs.OneBatch as own
use Rattle.live_plan.proofs.laws.one_due.Goals as goal

pub returns : goal.returns
returns c = record { one = own.one_due; whole = own.due_slots }
