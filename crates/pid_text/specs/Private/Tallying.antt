-- What is counted of the PES packets of one PID.
use Rattle.std.specs.Prelude.{◌≡◌, List, [], ◌∷◌, ◌++◌, length, filter_map, Option, Some, None}
use Rattle.stream_syntax.specs.DataField.{Frame}
use Rattle.pid_text.specs.PidText.{counted, first_time, last_time}
use Rattle.pid_text.specs.PidUnits.{Head, SubtitleUnit, head_in}
use Rattle.pid_text.specs.Private.Listing.{IsListing, PageListing}
use Rattle.pid_text.specs.declared.pid_tally.PidTally.{PidTally}

-- these PES packets of subtitles were counted
pub record HasTallied (units : List SubtitleUnit) (tally : PidTally) : Type 0 where
  pub count : tally.units ≡ counted (length units)
  pub first : tally.first ≡ first_time units
  pub last : tally.last ≡ last_time units
  pub pages : IsListing units [] tally.pages

-- and one more, where there is one
abbrev pub with_one : List SubtitleUnit → Option SubtitleUnit → List SubtitleUnit
with_one units None = units
with_one units (Some unit) = units ++ unit ∷ []

-- the segments of a field were counted, and these frames are left
pub record HasNoted (frames left : List Frame) (old new : PageListing) : Type 0 where
  pub heads : List Head
  pub counted_so : (units : List SubtitleUnit) → IsListing units [] old → IsListing units heads new
  pub all : heads ++ filter_map head_in left ≡ filter_map head_in frames
