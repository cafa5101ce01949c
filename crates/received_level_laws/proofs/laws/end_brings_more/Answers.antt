use Rattle.received_level_laws.proofs.MoreReceived.{end_receives_more}
use Rattle.received_level_laws.proofs.laws.end_brings_more.Goals as goal

pub returns : goal.returns
returns c = end_receives_more
