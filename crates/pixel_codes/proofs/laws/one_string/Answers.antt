use Rattle.pixel_codes.proofs.OneString.{one_string}
use Rattle.pixel_codes.proofs.laws.one_string.Goals as goal

pub returns : goal.returns
returns c = one_string
