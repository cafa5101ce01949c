-- What is true of the plan of a generated script: its sets are far apart, and each carries little.
use Rattle.std.specs.Prelude.{◌≡◌, ℕ, ◌+◌, ◌<◌, ◌≤◌, ◌⊎◌, List, [], length, sum_by, All, Some, slice_get}
use Rattle.cue_list.specs.declared.epoch.Epoch.{Epoch}
use Rattle.page_epoch.specs.declared.planned_set.PlannedSet.{PlannedSet}
use Rattle.page_epoch.specs.declared.planned_set.SentRegion.{SentRegion}

-- the first set is shown two seconds after the origin, and each further one at least 27,000 ticks after the one before
pub record AreFarApart (sets : List PlannedSet) : Type 0 where
  pub first : (set : PlannedSet) → slice_get sets 0 ≡ Some set → set.pts ≡ 180000
  pub next : (i : ℕ) (before set : PlannedSet) → slice_get sets i ≡ Some before
      → slice_get sets (i + 1) ≡ Some set
      → before.pts + 27000 ≤ set.pts

-- a set of an epoch shows and sends at most two regions, of the two that the epoch has, lists at most three cues in
-- them, sends the objects of at most three cues of the epoch, and sends no CLUT
pub record ListsFew (epoch : Epoch) (set : PlannedSet) : Type 0 where
  pub shown : length set.shown ≤ 2
  pub regions : length set.regions ≤ 2
  pub ids : All (λ (sent : SentRegion). (sent.id ≡ 0) ⊎ (sent.id ≡ 1)) set.regions
  pub listings : sum_by (λ (sent : SentRegion). length sent.cues) set.regions ≤ 3
  pub cluts : set.cluts ≡ []
  pub cues : length set.cues ≤ 3
  pub there : All (λ place. place < length epoch.cues) set.cues
