-- The regions that a set sends, their versions, and the cues that they list.
-- The instants of the epoch up to that of the set are given, the latest first.
use Rattle.std.specs.Prelude.{◌≡◌, ℕ, ◌%◌, nat_lt, Bool, true, false, not, ◌&&◌, if◌then◌else◌, List, [], ◌∷◌, length, map, filter, drop, count_by, find}
use Rattle.std.specs.List.{flat_map, zip, starts_with}
use Rattle.std.specs.List.Sorted.{IsPermutation, IsNonDecreasingBy}
use Rattle.std.specs.Option.{option_map_or}
use Rattle.std.specs.Prelude.{nat_eq}
use Rattle.cue_list.specs.declared.epoch.Cue.{Cue}
use Rattle.cue_records.specs.declared.region.Region.{Region}
use Rattle.page_epoch.specs.declared.planned_set.SentRegion.{SentRegion}
use Rattle.page_epoch.specs.Live.{are_same_places, live_places}
use Rattle.sub_base.specs.Lists.{has_some}

-- a region's live cues differ from those of the instant before, and it has some
abbrev pub is_redrawn : List ℕ → List ℕ → Bool
is_redrawn old new = not (are_same_places old new) && has_some new

-- the same at an instant and the one before it
abbrev pub rises : List Cue → ℕ → ℕ × ℕ → Bool
rises cues region (tick, before) = is_redrawn (live_places cues region before) (live_places cues region tick)

-- the version of a region: at how many instants of the epoch it changed and was not left empty, modulo 16
abbrev pub region_version : List Cue → ℕ → List ℕ → ℕ
region_version cues region seen = count_by (rises cues region) (zip seen (drop 1 seen)) % 16

-- the cues that were live at the instant before, none where an epoch begins
abbrev pub live_before : List Cue → ℕ → List ℕ → List ℕ
live_before cues region [] = []
live_before cues region (before ∷ earlier) = live_places cues region before

-- the number of live cues at the latest instant at which there were some
abbrev pub drawn_count : List Cue → ℕ → List ℕ → ℕ
drawn_count cues region seen = option_map_or length (find has_some (map (live_places cues region) seen)) 0

-- new cues were put behind old ones that stay
abbrev pub is_extended : List ℕ → List ℕ → Bool
is_extended old new = has_some old && nat_lt (length old) (length new) && starts_with nat_eq new old

-- a region with all its live cues, drawn anew
abbrev pub filled : ℕ → ℕ → List ℕ → SentRegion
filled id version new = record { id = id; version = version; fill = true; cues = new }

-- a region that keeps what it shows, and lists the new cues alone
abbrev pub extended : ℕ → ℕ → List ℕ → List ℕ → SentRegion
extended id version old new = record { id = id; version = version; fill = false; cues = drop (length old) new }

-- how a set sends a region, from the cues that were live at the instant before and those that are live now: a set that
-- is not normal draws each region anew, a normal set sends those that changed and have live cues
abbrev pub region_from : ℕ → ℕ → Bool → List ℕ → List ℕ → List SentRegion
region_from id version whole old new =
    if whole then filled id version new ∷ []
    else if not (is_redrawn old new) then []
    else if is_extended old new then extended id version old new ∷ []
    else filled id version new ∷ []

-- the region of that number as the set of the latest instant sends it, if it does
abbrev pub sent_region : List Cue → Bool → List ℕ → ℕ → List SentRegion
sent_region cues whole [] id = []
sent_region cues whole (tick ∷ earlier) id =
    region_from id (region_version cues id (tick ∷ earlier)) whole (live_before cues id earlier)
    (live_places cues id tick)

-- these are the same, in rising order of a number that each has
pub record AreOrdered {X : Type 0} (number : X → ℕ) (items ordered : List X) : Type 0 where
  pub same : IsPermutation items ordered
  pub rise : IsNonDecreasingBy number ordered

-- the regions that are sent, by their numbers
pub record AreSentRegions (cues : List Cue) (regions : List Region) (whole : Bool) (seen : List ℕ)
    (sent : List SentRegion) : Type 0 where
  pub by_id : List Region
  pub ordered : AreOrdered (λ region. region.id) regions by_id
  pub is : sent ≡ flat_map (λ region. sent_region cues whole seen region.id) by_id

-- the cues that regions list
abbrev pub listed_cues : List SentRegion → List ℕ
listed_cues regions = flat_map (λ region. region.cues) regions

-- the regions that have a live cue, from the top of the display
pub record AreShown (cues : List Cue) (regions : List Region) (tick : ℕ) (shown : List ℕ) : Type 0 where
  pub by_y : List Region
  pub ordered : AreOrdered (λ region. region.y) regions by_y
  pub is : shown ≡ map (λ region. region.id) (filter (λ region. has_some (live_places cues region.id tick)) by_y)
