use Rattle.sub_base.proofs.ProfileLaws.{every_profile}
use Rattle.sub_base.proofs.profile.every_profile.Goals as goal

pub returns : goal.returns
returns c = every_profile
