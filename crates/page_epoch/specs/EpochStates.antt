-- What is kept of an epoch from instant to instant. The instants so far are given, the latest first.
use Rattle.std.specs.Prelude.{ℕ, ◌+◌, ◌-◌, ◌%◌, ◌==◌, ◌<◌, ◌≤◌, All, Bool, true, false, not, ◌&&◌, if◌then◌else◌, List, [], ◌∷◌, length, map, count_by, Option, Some, None, ⊤}
use Rattle.cue_records.specs.declared.limits.TheConstants.{MOST_CUES}
use Rattle.cue_list.specs.declared.epoch.Cue.{Cue}
use Rattle.cue_records.specs.declared.row_values.ColourRow.{ColourRow}
use Rattle.page_epoch.specs.declared.region_state.RegionCues.{RegionCues}
use Rattle.page_epoch.specs.declared.region_state.RegionState.{RegionState}
use Rattle.page_epoch.specs.declared.clut_changes.ClutChanges.{ClutChanges}
use Rattle.std.specs.List.{flat_map}
use Rattle.std.specs.Option.{IfSome}
use Rattle.page_epoch.specs.declared.planned_set.SentClut.{SentClut}
use Rattle.page_epoch.specs.Live.{started_by, AreStarts}
use Rattle.page_epoch.specs.SentRegions.{is_redrawn, region_version, live_before, drawn_count}
use Rattle.page_epoch.specs.SentCluts.{is_changed, sent_clut}
use Rattle.sub_base.specs.Lists.{has_some}

-- how many cues of a region had started at the instant before
abbrev pub started_before : List Cue → ℕ → List ℕ → ℕ
started_before cues region [] = 0
started_before cues region (before ∷ earlier) = started_by cues region before

-- the latest of these instants is not after a tick
abbrev pub IsReachedBy : List ℕ → ℕ → Type 0
IsReachedBy [] tick = ⊤
IsReachedBy (before ∷ earlier) tick = before ≤ tick

-- a region before the first instant
abbrev pub first_region_state : RegionState
first_region_state = record { live = []; started = 0; version = 0; drawn_count = 0 }

-- the region after these instants
abbrev pub region_state : List Cue → List ℕ → ℕ → RegionState
region_state cues seen region = record {
  live = live_before cues region seen;
  started = started_before cues region seen;
  version = region_version cues region seen;
  drawn_count = drawn_count cues region seen;
}

-- the regions after these instants
abbrev pub region_states : List Cue → List ℕ → List RegionCues → List RegionState
region_states cues seen regions = map (λ region. region_state cues seen region.id) regions

-- these are regions with their cues
abbrev pub AreOwn : List Cue → List RegionCues → Type 0
AreOwn cues regions = All (λ region. AreStarts cues region.id region.starts) regions

-- the numbers of a region at an instant are small
pub record IsSmallRegionState (current : RegionState) : Type 0 where
  pub version : current.version < 16
  pub drawn_count : current.drawn_count ≤ MOST_CUES
  pub started : current.started ≤ MOST_CUES
  pub live : length current.live ≤ current.started

-- no instant was before
abbrev pub is_first : List ℕ → Bool
is_first [] = true
is_first (tick ∷ earlier) = false

-- the version of a region one instant on: it goes up where the region is drawn anew
abbrev pub version_after : Bool → List ℕ → List ℕ → ℕ → ℕ
version_after first old new version = if not first && is_redrawn old new then (version + 1) % 16 else version

-- the number of cues with which a region was drawn last, one instant on
abbrev pub drawn_count_after : List ℕ → ℕ → ℕ
drawn_count_after new before = if has_some new then length new else before

-- the region one instant on, with the number of cues that have started, and those that are live
abbrev pub region_after : Bool → RegionState → ℕ → List ℕ → RegionState
region_after first current started new = record {
  live = new;
  started = started;
  version = version_after first current.live new current.version;
  drawn_count = drawn_count_after new current.drawn_count;
}

-- the version of a CLUT that changed so often
abbrev pub version_of_count : ℕ → Option ℕ
version_of_count count = if count == 0 then None else Some ((count - 1) % 16)

-- the version of the CLUT after these instants, where it changed by then
abbrev pub changed_version : List ColourRow → List ℕ → ℕ → Option ℕ
changed_version colours seen clut = version_of_count (count_by (is_changed colours clut) seen)

-- the version of a CLUT that changes once more
abbrev pub next_version : Option ℕ → Option ℕ
next_version None = Some 0
next_version (Some version) = Some ((version + 1) % 16)

-- the version of a CLUT one instant on
abbrev pub clut_after : Bool → Option ℕ → Option ℕ
clut_after changed current = if changed then next_version current else current

-- the versions of CLUTs after these instants
abbrev pub changed_versions : List ColourRow → List ℕ → List ClutChanges → List (Option ℕ)
changed_versions colours seen cluts = map (λ clut. changed_version colours seen clut.clut) cluts

-- a version is small, where there is one
abbrev pub IsSmallVersion : Option ℕ → Type 0
IsSmallVersion version = IfSome version (λ version. version < 16)

-- the CLUTs as a set sends them
abbrev pub sent_of : List ColourRow → Bool → List ℕ → List ClutChanges → List SentClut
sent_of colours whole seen cluts = flat_map (λ clut. sent_clut colours whole seen clut.clut) cluts

-- the nodes of a CLUT with these rows
abbrev pub row_nodes : List ℕ → ℕ
row_nodes [] = 0
row_nodes (row ∷ rows) = 1 + length (row ∷ rows)
