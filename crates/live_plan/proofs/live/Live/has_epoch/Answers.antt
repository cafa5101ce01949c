use Rattle.std.proofs.Common.{◌∙◌}
use Rattle.live_plan.proofs.LetRows.{epoch_seen}
use Rattle.live_plan.proofs.live.Live.has_epoch.Goals as goal

pub returns : goal.returns
returns c = λ past has. c.has_epoch.ensures ∙ epoch_seen _ _ past c.self.view_is has
