use Rattle.shown_stream.proofs.Shown.OneView.{one_view}
use Rattle.shown_stream.proofs.laws.one_view_is_shown.Goals as goal

pub returns : goal.returns
returns c = one_view
