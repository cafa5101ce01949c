-- Where the walk over the instants stands in an epoch. The instants of the epoch so far are given, the latest first.
use Rattle.std.specs.Prelude.{◌≡◌, ◌≢◌, ℕ, ◌+◌, ◌%◌, ◌^◌, ◌<◌, ◌≤◌, Bool, true, false, ◌⊎◌, if◌then◌else◌, List, [], ◌∷◌, length, All, Some, slice_get}
use Rattle.stream_syntax.specs.declared.page.State.{State}
use Rattle.cue_records.specs.declared.limits.TheConstants.{MOST_COLOURS, MOST_CUES, MOST_EPOCHS, MOST_REGIONS}
use Rattle.cue_list.specs.declared.epoch.Epoch.{Epoch}
use Rattle.cue_records.specs.declared.region.Region.{Region}
use Rattle.page_epoch.specs.declared.planned_set.PlannedSet.{PlannedSet}
use Rattle.page_epoch.specs.declared.layout.Layout.{Layout}
use Rattle.page_epoch.specs.declared.epoch_state.EpochState.{EpochState}
use Rattle.page_epoch.specs.declared.epoch_state.EpochWalk.{EpochWalk}
use Rattle.page_epoch.specs.declared.epoch_state.EpochStep.{EpochStep}
use Rattle.page_epoch.specs.declared.epoch_state.SetHead.{SetHead}
use Rattle.std.specs.List.{AllPairs}
use Rattle.page_epoch.specs.Instants.{named_ticks}
use Rattle.page_epoch.specs.EpochStates.{region_states, changed_versions, is_first, IsReachedBy, IsSmallRegionState, IsSmallVersion}
use Rattle.page_epoch.specs.Private.Layouts.{IsLayout}
use Rattle.page_epoch.specs.Needs.{node_need}
use Rattle.page_epoch.specs.Private.Showing.{AreLasting}
use Rattle.page_epoch.specs.Plan.{IsCarried}
use Rattle.stream_syntax.specs.Segments.{is_entry_state}

-- an epoch is within the limits
pub record IsSmallEpoch (epoch : Epoch) : Type 0 where
  pub regions : length epoch.regions ≤ MOST_REGIONS
  pub colours : length epoch.colours ≤ MOST_COLOURS
  pub cues : length epoch.cues ≤ MOST_CUES

-- what is kept is that of these instants
pub record IsEpochState (epoch : Epoch) (layout : Layout) (seen : List ℕ) (current : EpochState) : Type 0 where
  pub regions : current.regions ≡ region_states epoch.cues seen layout.by_id
  pub versions : current.versions ≡ changed_versions epoch.colours seen layout.cluts
  pub first : current.first ≡ is_first seen

-- its numbers are small
pub record IsSafe (layout : Layout) (current : EpochState) : Type 0 where
  pub regions : length current.regions ≡ length layout.by_id
  pub small_regions : All IsSmallRegionState current.regions
  pub versions : length current.versions ≡ length layout.cluts
  pub small_versions : All IsSmallVersion current.versions

-- a tick follows these instants in an epoch that starts then
pub record IsTimely (start : ℕ) (seen : List ℕ) (tick : ℕ) : Type 0 where
  pub at_start : is_first seen ≡ true → tick ≡ start
  pub later : is_first seen ≡ false → start < tick
  pub after : IsReachedBy seen tick

-- a set with that head
pub record IsSetOf (head : SetHead) (set : PlannedSet) : Type 0 where
  pub pts : set.pts ≡ head.instant.tick
  pub state_is : set.state ≡ head.state
  pub row : set.row ≡ head.instant.row
  pub epoch : set.epoch ≡ head.place
  pub page_version : set.page_version ≡ head.page_version

-- the version of the page, from the sets before and whether a record names the instant: 0 for the first set of all;
-- from then on it is that of the set before, and rises by one modulo 16 where a record does
abbrev pub version_behind : List PlannedSet → Bool → ℕ
version_behind [] named = 0
version_behind (before ∷ earlier) named =
    if named then (before.page_version + 1) % 16 else before.page_version

-- the epoch one instant on, with the set of that instant and its nodes
pub record IsAdvanced (epoch : Epoch) (layout : Layout) (seen : List ℕ) (tick : ℕ) (state : State)
    (step : EpochStep) : Type 0 where
  pub current : IsEpochState epoch layout (tick ∷ seen) step.current
  pub carried : IsCarried epoch (is_entry_state state) (tick ∷ seen) step.set
  pub nodes : step.nodes ≡ node_need epoch (tick ∷ seen) (length step.set.shown)

-- the walk stands in an epoch
pub record IsEpochWalk (epochs : List Epoch) (seen : List ℕ) (walk : EpochWalk) : Type 0 where
  pub epoch : Epoch
  pub found : slice_get epochs walk.place ≡ Some epoch
  pub layout : IsLayout epoch walk.layout
  pub current : IsEpochState epoch walk.layout seen walk.current
  pub safe : IsSafe walk.layout walk.current

-- the regions of an epoch have different numbers, each a byte
pub record IsNumbered (epoch : Epoch) : Type 0 where
  pub bytes : All (λ (region : Region). region.id ≤ 255) epoch.regions
  pub apart : AllPairs (λ (first second : Region). first.id ≢ second.id) epoch.regions

-- what the walk relies on: epochs within the limits, in order of their starts, whose ticks are below 2^34 and begin
-- with the start of the first one, and cues that end after their starts
pub record IsPlain (epochs : List Epoch) (refresh : ℕ) : Type 0 where
  pub some : 1 ≤ length epochs
  pub few : length epochs ≤ MOST_EPOCHS
  pub often : 1 ≤ refresh
  pub rare : refresh < 2 ^ 40
  pub small : All IsSmallEpoch epochs
  pub numbered : All IsNumbered epochs
  pub rise : AllPairs (λ (earlier later : Epoch). earlier.start < later.start) epochs
  pub early : All (λ tick. tick < 2 ^ 34) (named_ticks epochs)
  pub lasting : AreLasting epochs
  pub begin : (first : Epoch) → slice_get epochs 0 ≡ Some first
      → All (λ tick. first.start ≤ tick) (named_ticks epochs)

-- the walk goes on to the next epoch, which begins by a tick
pub record Enters (epochs : List Epoch) (tick : ℕ) (old new : EpochWalk) : Type 0 where
  pub next : Epoch
  pub there : slice_get epochs (old.place + 1) ≡ Some next
  pub started : next.start ≤ tick
  pub place : new.place ≡ old.place + 1
  pub stands : IsEpochWalk epochs [] new

-- the walk stays in its epoch, where none begins by a tick after it
pub record Stays (epochs : List Epoch) (tick : ℕ) (old new : EpochWalk) : Type 0 where
  pub same : new ≡ old
  pub later : (next : Epoch) → slice_get epochs (old.place + 1) ≡ Some next → tick < next.start

-- by a tick the walk is in the next epoch if that has begun, and else where it was
abbrev pub WalkGoesOn : List Epoch → ℕ → EpochWalk → EpochWalk → Type 0
WalkGoesOn epochs tick old new = Enters epochs tick old new ⊎ Stays epochs tick old new
