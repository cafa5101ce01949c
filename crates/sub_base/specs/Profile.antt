-- The profiles of receivers, and what holds of each of them.
use Rattle.std.specs.Prelude.{ℕ, ◌^◌, ◌<◌, ◌≤◌, Some, None, IfSome}
use Rattle.sub_base.specs.declared.profile.Profile.{Profile}
use Rattle.sub_base.specs.declared.profile.ProfileName.{ProfileName}
use Rattle.sub_base.specs.declared.profile.TheConstants.{LARGEST_BUFFER, LONGEST_STEP, SHORTEST_STEP}
use Rattle.sub_base.specs.declared.profile.ProfileName.TheVariants.{Sd, Hd, Wide, Large}

-- what a receiver of each profile has: bytes of coded data, bytes of pixels, nodes, ticks a packet, greatest display
abbrev pub profile_of : ProfileName → Profile
profile_of Sd = record { coded = 24576; pixels = 81920; nodes = 512; step = Some 705; width = 720; height = 576 }
profile_of Hd = record { coded = 61440; pixels = 327680; nodes = 2048; step = Some 360; width = 1920; height = 1080 }
profile_of Wide = record { coded = 262144; pixels = 4194304; nodes = 8192; step = None; width = 4096; height = 2304 }
profile_of Large =
    record { coded = 262144; pixels = 4194304; nodes = 8192; step = Some 90; width = 1920; height = 1080 }

-- the ticks from one packet's slot to the next lie between the shortest and the longest step
abbrev pub IsStep : ℕ → Type 0
IsStep step = (SHORTEST_STEP ≤ step) × (step ≤ LONGEST_STEP)

-- What holds of every profile: its step, where it has one, and its coded data buffer are within these bounds, its nodes
-- can be counted with signs in 32 bits, and it has no less than a receiver of standard definition.
pub record IsProfile (profile : Profile) : Type 0 where
  pub step : IfSome profile.step IsStep
  pub coded : ((profile_of Sd).coded ≤ profile.coded) × (profile.coded ≤ LARGEST_BUFFER)
  pub pixels : (profile_of Sd).pixels ≤ profile.pixels
  pub nodes : ((profile_of Sd).nodes ≤ profile.nodes) × (profile.nodes < 2 ^ 31)
  pub wide : (profile_of Sd).width ≤ profile.width
  pub high : (profile_of Sd).height ≤ profile.height
