use Rattle.splice.proofs.ShownSpliced as own
use Rattle.splice.proofs.laws.spliced_is_shown.Goals as goal

pub returns : goal.returns
returns c = own.spliced_is_shown
