-- The nodes of the profiles.
use Rattle.std.proofs.Common.{◌≡◌, ◌<◌, ◌^◌}
use Rattle.sub_base.specs.Profile.{profile_of}
use Rattle.sub_base.specs.declared.profile.Profile.{Profile}
use Rattle.sub_base.specs.declared.profile.ProfileName.{ProfileName}
use Rattle.sub_base.proofs.ProfileLaws.{is_profile}

-- every profile has few enough for a core
pub few_nodes : (profile : Profile) (name : ProfileName) → profile ≡ profile_of name → profile.nodes < 2 ^ 31
few_nodes profile name is = (is_profile profile name is).nodes.1
