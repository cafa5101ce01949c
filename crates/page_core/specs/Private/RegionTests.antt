-- The tests of the regions of a set, one behind another, by what the epoch had before the set.
use Rattle.std.specs.Prelude.{◌≡◌, ℕ, ◌-◌, ◌==◌, ◌&&◌, Bool, true, false, not, nat_lt, List, [], ◌∷◌, ◌++◌, filter, reverse, Option, Some, None, option_map, if◌then◌else◌}
use Rattle.std.specs.Option.{is_some, is_none}
use Rattle.stream_syntax.specs.Segments.{Region}
use Rattle.stream_syntax.specs.declared.region.RegionHead.{RegionHead}
use Rattle.sub_base.specs.Lists.{first_given, with_earlier}
use Rattle.decoder_model.specs.Contents.{page_of, region_of, display_of}
use Rattle.decoder_model.specs.Faults.{has_same_shape}
use Rattle.decoder_model.specs.Nodes.{region_bytes}
use Rattle.decoder_model.specs.Readings.{Content}
use Rattle.decoder_model.specs.Taken.{taken_of, taken_region, last_region}
use Rattle.decoder_model.specs.declared.set_fault.SetFault.{SetFault}
use Rattle.decoder_model.specs.declared.set_fault.SetFault.TheVariants.{RegionChanged, PixelFull}
use Rattle.page_core.specs.Composition.{Composition, KeptRegion, region_in}
use Rattle.page_core.specs.Memory.{head_of}
use Rattle.page_core.specs.Private.Seen.{defines}

-- ---- tests over contents one behind another

-- the first fault of contents by a test, each behind the earlier ones
abbrev pub first_in : (List Content → Content → Option SetFault) → List Content → List Content
    → Option SetFault
first_in test older set =
    first_given (λ (placed : Content × List Content). test placed.1 placed.0) (with_earlier older set)

-- a test finds nothing in contents of a kind
abbrev pub IsQuiet : (List Content → Content → Option SetFault) → (Content → Bool) → Type 0
IsQuiet test kind =
    (before : List Content) (content : Content) → kind content ≡ true → test before content ≡ None

-- the segments before the regions of a set, the latest first
abbrev pub before_regions : List Content → List Content → List Content
before_regions older set =
    reverse (filter (λ content. is_some (page_of content)) set)
    ++ (reverse (filter (λ content. is_some (display_of content)) set) ++ older)

-- no region of the same id is among earlier ones of the set
abbrev pub IsApart : List Content → Content → Type 0
IsApart before content =
    (region : Region) → region_of content ≡ Some region → defines region.head.region before ≡ false

-- no region among contents of a set has the id of one that stands before it, in these or in earlier ones of the set
abbrev pub AreApart : List Content → List Content → Type 0
AreApart before [] = Unit {0}
AreApart before (content ∷ contents) = IsApart before content × AreApart (content ∷ before) contents

-- ---- by what is kept of a region

-- a composition has the heads of the regions of an epoch
abbrev pub HasHeads : List Content → Composition → Type 0
HasHeads segments composition = (id : ℕ) →
    option_map (λ (kept : KeptRegion). kept.head) (region_in composition id)
    ≡ option_map head_of (taken_region id (taken_of segments))

-- the head of the region of that id, where the epoch has one
abbrev pub head_in : Composition → ℕ → Option RegionHead
head_in composition id = option_map (λ (kept : KeptRegion). kept.head) (region_in composition id)

-- what is known of a region is as it was before the set
pub record IsAsBefore (older earlier : List Content) (id : ℕ) : Type 0 where
  pub last : last_region id earlier ≡ last_region id older
  pub taken : taken_region id (taken_of earlier) ≡ taken_region id (taken_of older)

-- no head is known, or one of another version
abbrev pub is_new : RegionHead → Option RegionHead → Bool
is_new head None = true
is_new head (Some last) = not (last.version == head.version)

-- a head cannot take the place of a known one
abbrev pub fault_behind_head : RegionHead → Option RegionHead → Option SetFault
fault_behind_head head None = None
fault_behind_head head (Some last) = if has_same_shape head last then None else Some (RegionChanged head.region)

-- the fault of a head of another version than the known one: it has another size or depth
abbrev pub fault_of_head : RegionHead → Option RegionHead → Option SetFault
fault_of_head head last = if is_new head last then fault_behind_head head last else None

-- a region that is not known has no room in so many bytes
abbrev pub room_fault : RegionHead → Option RegionHead → ℕ → Option SetFault
room_fault head known free =
    if is_none known && nat_lt free (region_bytes head) then Some (PixelFull (region_bytes head) free) else None

-- the bytes that it leaves
abbrev pub room_left : RegionHead → Option RegionHead → ℕ → ℕ
room_left head known free = if is_none known then free - region_bytes head else free
