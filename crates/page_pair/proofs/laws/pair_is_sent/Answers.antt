use Rattle.page_pair.proofs.PairLaws.{pair_sent}
use Rattle.page_pair.proofs.laws.pair_is_sent.Goals as goal

pub returns : goal.returns
returns c = pair_sent
