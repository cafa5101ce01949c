use Rattle.shown_stream.proofs.Shown.SentEntered.{sent_entered}
use Rattle.shown_stream.proofs.laws.sent_plan_is_entered.Goals as goal

pub returns : goal.returns
returns c = sent_entered
