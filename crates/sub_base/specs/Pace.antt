-- How packets are sent to a receiver of a profile: one at most at each step.
use Rattle.std.specs.Prelude.{◌≡◌, ℕ, ◌+◌, ◌*◌, ◌/◌, ◌^◌, ◌<◌, ◌≤◌, max, nat_le, if◌then◌else◌, unwrap_or, IsSome}
use Rattle.sub_base.specs.declared.load.SetLoad.{SetLoad}
use Rattle.sub_base.specs.declared.pace.Pace.{Pace}
use Rattle.sub_base.specs.declared.profile.Profile.{Profile}
use Rattle.sub_base.specs.declared.profile.ProfileName.{ProfileName}
use Rattle.sub_base.specs.declared.profile.TheConstants.{LARGEST_BUFFER}
use Rattle.sub_base.specs.Profile.{profile_of, IsStep}

-- one of the profiles, and one with a step: packets are sent in it
abbrev pub IsSending : Profile → Type 0
IsSending profile = ((name : ProfileName) × (profile ≡ profile_of name)) × IsSome profile.step

-- packets sent from the origin on, one at most at each step of the profile
abbrev pub pace_of : ℕ → Profile → Pace
pace_of origin profile = record { origin = origin; step = unwrap_or profile.step 0; coded = profile.coded }

-- the tick of a slot
abbrev pub tick_of : Pace → ℕ → ℕ
tick_of pace slot = pace.origin + slot * pace.step

-- the ticks that painting a region with these sides takes: one for each 64 pixels that are begun
abbrev pub painting_ticks : (width height : ℕ) → ℕ
painting_ticks width height = (width * height + 63) / 64

-- the tick at which a display set is done: it is decoded a byte a tick, and painted, once its last packet is there and
-- the set before is shown
abbrev pub done_tick : (last_arrival shown_before : ℕ) → SetLoad → ℕ
done_tick last_arrival shown_before load = max last_arrival shown_before + load.size + load.painted

-- the bytes of a set that have left the coded data buffer by a tick: all where it is done by then, and else none
abbrev pub left_by : (tick done bytes : ℕ) → ℕ
left_by tick done bytes = if nat_le done tick then bytes else 0

-- the numbers of a profile with a step, and an origin below 2^62
pub record IsSound (pace : Pace) : Type 0 where
  pub step : IsStep pace.step
  pub coded : pace.coded ≤ LARGEST_BUFFER
  pub origin : pace.origin < 2 ^ 62
