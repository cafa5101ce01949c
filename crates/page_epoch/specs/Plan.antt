-- The plan of a script: one display set for each instant, which the script and the sets before it determine.
use Rattle.std.specs.Prelude.{◌≡◌, ℕ, ◌==◌, ◌<◌, ◌≤◌, Bool, true, false, List, [], ◌∷◌, length, map, take, reverse, Some, slice_get}
use Rattle.std.specs.List.{flat_map}
use Rattle.std.specs.List.Sorted.{IsPermutation, IsNonDecreasing}
use Rattle.sub_base.specs.declared.profile.Profile.{Profile}
use Rattle.cue_list.specs.declared.epoch.Epoch.{Epoch}
use Rattle.cue_list.specs.declared.script.Script.{Script}
use Rattle.page_epoch.specs.declared.planned_set.PlannedSet.{PlannedSet}
use Rattle.page_epoch.specs.Instants.{is_named, AreInstants}
use Rattle.page_epoch.specs.Rows.{events_of, IsLeastRow}
use Rattle.page_epoch.specs.States.{last_entry, is_due, state_of, seen_of, instants_of, page_version}
use Rattle.page_epoch.specs.SentRegions.{AreSentRegions, AreShown}
use Rattle.page_epoch.specs.SentCluts.{sent_cluts}
use Rattle.page_epoch.specs.SentRegions.{listed_cues}
use Rattle.page_epoch.specs.Needs.{pixel_need, node_need}
use Rattle.stream_syntax.specs.Segments.{is_entry_state}

-- an epoch is the last one that has started by a tick
pub record IsEpochAt (epochs : List Epoch) (tick place : ℕ) (epoch : Epoch) : Type 0 where
  pub found : slice_get epochs place ≡ Some epoch
  pub started : epoch.start ≤ tick
  pub last : (later : ℕ) (other : Epoch) → place < later → slice_get epochs later ≡ Some other
      → tick < other.start

-- the record of the set before
abbrev pub IsRowBefore : List PlannedSet → ℕ → Type 0
IsRowBefore [] row = ⊥
IsRowBefore (before ∷ earlier) row = row ≡ before.row

-- the record that brings a set: the least that names its tick, and for a refresh that of the set before
pub record IsBringingRecord (epochs : List Epoch) (past : List PlannedSet) (tick row : ℕ) : Type 0 where
  pub of_named : is_named epochs tick ≡ true → IsLeastRow (flat_map events_of epochs) tick row
  pub of_refresh : is_named epochs tick ≡ false → IsRowBefore past row

-- what a set carries of its epoch: the instants of the epoch up to it are given, the latest first
pub record IsCarried (epoch : Epoch) (whole : Bool) (seen : List ℕ) (set : PlannedSet) : Type 0 where
  pub shown : AreShown epoch.cues epoch.regions set.pts set.shown
  pub regions : AreSentRegions epoch.cues epoch.regions whole seen set.regions
  pub cluts : set.cluts ≡ sent_cluts epoch.colours whole seen
  pub cues : IsPermutation (listed_cues set.regions) set.cues
  pub in_order : IsNonDecreasing set.cues

-- the next set: the sets before it are given, the latest first
pub record IsNextSet (epochs : List Epoch) (refresh : ℕ) (past : List PlannedSet) (set : PlannedSet) : Type 0 where
  pub epoch : Epoch
  pub place : IsEpochAt epochs set.pts set.epoch epoch
  pub row : IsBringingRecord epochs past set.pts set.row
  pub state : set.state
      ≡ state_of (epoch.start == set.pts) (is_named epochs set.pts) (is_due refresh set.pts (last_entry past))
  pub version : set.page_version ≡ page_version epochs (instants_of past set.pts)
  pub carried : IsCarried epoch (is_entry_state set.state) (seen_of epoch.start past set.pts) set

-- what a set needs of a receiver: the bytes of its epoch's pixels, and its nodes
pub record Needs (epochs : List Epoch) (past : List PlannedSet) (set : PlannedSet) (pixels nodes : ℕ) : Type 0 where
  pub epoch : Epoch
  pub found : slice_get epochs set.epoch ≡ Some epoch
  pub pixels_are : pixels ≡ pixel_need epoch.regions
  pub nodes_are : nodes ≡ node_need epoch (seen_of epoch.start past set.pts) (length set.shown)

-- a receiver has what the set needs
pub record Fits (epochs : List Epoch) (profile : Profile) (past : List PlannedSet) (set : PlannedSet) : Type 0 where
  pub pixels : ℕ
  pub nodes : ℕ
  pub needs : Needs epochs past set pixels nodes
  pub has_pixels : pixels ≤ profile.pixels
  pub has_nodes : nodes ≤ profile.nodes

-- the display is not larger than the profile's
pub record HasDisplay (width height : ℕ) (profile : Profile) : Type 0 where
  pub across : width ≤ profile.width
  pub down : height ≤ profile.height

-- a set as it stands in a list, after those before it
abbrev pub AllBehind : (List PlannedSet → PlannedSet → Type 0) → List PlannedSet → Type 0
AllBehind P sets = (n : ℕ) (set : PlannedSet) → slice_get sets n ≡ Some set → P (reverse (take n sets)) set

-- the sets of the first instants, each of which a receiver can hold
pub record AreFirstSets (epochs : List Epoch) (refresh : ℕ) (profile : Profile) (instants : List ℕ)
    (sets : List PlannedSet) : Type 0 where
  pub times : map (λ set. set.pts) sets ≡ take (length sets) instants
  pub few : length sets ≤ length instants
  pub each : AllBehind (IsNextSet epochs refresh) sets
  pub fit : AllBehind (Fits epochs profile) sets

-- the sets of all instants, each of which a receiver can hold
pub record ArePlanned (epochs : List Epoch) (refresh : ℕ) (profile : Profile) (sets : List PlannedSet) : Type 0 where
  pub instants : List ℕ
  pub are_instants : AreInstants epochs refresh instants
  pub first : AreFirstSets epochs refresh profile instants sets
  pub all : length sets ≡ length instants

-- the plan of a script for a receiver
pub record IsPlan (script : Script) (profile : Profile) (sets : List PlannedSet) : Type 0 where
  pub display : HasDisplay script.width script.height profile
  pub planned : ArePlanned script.epochs script.refresh profile sets
