use Rattle.sent_sets.proofs.SentLaws.{those_left_come}
use Rattle.sent_sets.proofs.laws.sent_sets_late.Goals as goal

pub returns : goal.returns
returns c = those_left_come
