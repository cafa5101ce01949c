use Rattle.page_pair.proofs.PairLaws.{pair_entered}
use Rattle.page_pair.proofs.laws.pair_is_entered.Goals as goal

pub returns : goal.returns
returns c = pair_entered
