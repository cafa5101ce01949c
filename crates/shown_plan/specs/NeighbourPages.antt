-- The pages of two sets of a plan of which one follows the other, and their versions (EN 300 743, page composition
-- segment, page_version_number).
use Rattle.std.specs.Prelude.{◌≡◌, ℕ, ◌+◌, ◌%◌, true, false, List, map, Some, slice_get}
use Rattle.cue_list.specs.declared.epoch.Epoch.{Epoch}
use Rattle.cue_list.specs.declared.script.Script.{Script}
use Rattle.page_epoch.specs.Instants.{is_named}
use Rattle.page_epoch.specs.declared.planned_set.PlannedSet.{PlannedSet}
use Rattle.set_coder.specs.SetSegments.{page_entry_of}

-- two sets of a list, with none between them
pub record AreNeighbourSets (sets : List PlannedSet) (first second : PlannedSet) : Type 0 where
  pub place : ℕ
  pub has_first : slice_get sets place ≡ Some first
  pub has_second : slice_get sets (place + 1) ≡ Some second

-- the pages of two sets list the same regions at the same places; the time-out is that of the script in each page
pub record HaveSamePage (script : Script) (first second : PlannedSet) : Type 0 where
  pub epoch : Epoch
  pub of_first : slice_get script.epochs first.epoch ≡ Some epoch
  pub of_second : slice_get script.epochs second.epoch ≡ Some epoch
  pub entries : map (page_entry_of epoch) first.shown ≡ map (page_entry_of epoch) second.shown

-- the version of the page rises by one modulo 16 at each set but a refresh; that has the page of the set before, and
-- its version
pub record IsPageAfter (script : Script) (first second : PlannedSet) : Type 0 where
  pub rises : is_named script.epochs second.pts ≡ true → second.page_version ≡ (first.page_version + 1) % 16
  pub stays : is_named script.epochs second.pts ≡ false → second.page_version ≡ first.page_version
  pub same : is_named script.epochs second.pts ≡ false → HaveSamePage script first second
