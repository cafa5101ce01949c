-- What holds of every profile, by its name.
use Rattle.std.proofs.Common.{◌≡◌, ℕ, Option, Some, None, subst, sym, arith}
use Rattle.std.specs.Prelude.{IfSome, IsSome, unwrap_or}
use Rattle.sub_base.specs.Pace.{IsSending}
use Rattle.sub_base.specs.Profile.{profile_of, IsStep, IsProfile}
use Rattle.sub_base.specs.declared.profile.Profile.{Profile}
use Rattle.sub_base.specs.declared.profile.ProfileName.{ProfileName}
use Rattle.sub_base.specs.declared.profile.ProfileName.TheVariants.{Sd, Hd, Wide, Large}

-- by cases over the names, here alone
pub every_profile : (name : ProfileName) → IsProfile (profile_of name)
every_profile Sd = record {
  step = (omega arith, omega arith);
  coded = (omega arith, omega arith);
  pixels = omega arith;
  nodes = (omega arith, omega arith);
  wide = omega arith;
  high = omega arith;
}
every_profile Hd = record {
  step = (omega arith, omega arith);
  coded = (omega arith, omega arith);
  pixels = omega arith;
  nodes = (omega arith, omega arith);
  wide = omega arith;
  high = omega arith;
}
every_profile Wide = record {
  step = tt;
  coded = (omega arith, omega arith);
  pixels = omega arith;
  nodes = (omega arith, omega arith);
  wide = omega arith;
  high = omega arith;
}
every_profile Large = record {
  step = (omega arith, omega arith);
  coded = (omega arith, omega arith);
  pixels = omega arith;
  nodes = (omega arith, omega arith);
  wide = omega arith;
  high = omega arith;
}

-- a profile that is one of them
pub is_profile : (profile : Profile) (name : ProfileName) → profile ≡ profile_of name → IsProfile profile
is_profile profile name is = subst IsProfile (sym is) (every_profile name)

-- packets are sent within the bounds of a step
pub is_step : (profile : Profile) → IsSending profile → IsStep (unwrap_or profile.step 0)
is_step profile sending = by profile.step (is_profile profile sending.0.0 sending.0.1).step sending.1
  where
    by : (step : Option ℕ) → IfSome step IsStep → IsSome step → IsStep (unwrap_or step 0)
    by None bounds none = absurd cc
    by (Some step) bounds some = bounds
