use Rattle.decoder_model.proofs.UsualEncoder.{usual_set}
use Rattle.decoder_model.proofs.laws.usual_set_is_shown.Goals as goal

pub returns : goal.returns
returns c = usual_set
