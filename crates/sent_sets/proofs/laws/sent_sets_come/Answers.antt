use Rattle.sent_sets.proofs.SentLaws.{all_come}
use Rattle.sent_sets.proofs.laws.sent_sets_come.Goals as goal

pub returns : goal.returns
returns c = all_come
