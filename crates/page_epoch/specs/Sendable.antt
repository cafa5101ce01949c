-- Sets whose numbers name what a script has, and fit the fields of their segments.
use Rattle.std.specs.Prelude.{◌≡◌, ℕ, ◌<◌, ◌≤◌, ◌^◌, length, All, Some, IsSome, slice_get}
use Rattle.cue_records.specs.declared.limits.TheConstants.{MOST_COLOURS, MOST_CUES, MOST_REGIONS}
use Rattle.cue_list.specs.declared.epoch.Epoch.{Epoch}
use Rattle.cue_list.specs.declared.script.Script.{Script}
use Rattle.cue_list.specs.Past.{region_with}
use Rattle.page_epoch.specs.declared.planned_set.PlannedSet.{PlannedSet}
use Rattle.page_epoch.specs.declared.planned_set.SentClut.{SentClut}
use Rattle.page_epoch.specs.declared.planned_set.SentRegion.{SentRegion}

-- the epoch has a region of that number
abbrev pub HasRegion : Epoch → ℕ → Type 0
HasRegion epoch id = IsSome (region_with id epoch.regions)

-- the epoch has a cue at that place
abbrev pub HasCue : Epoch → ℕ → Type 0
HasCue epoch place = place < length epoch.cues

-- the epoch has a colour row at that place
abbrev pub HasColour : Epoch → ℕ → Type 0
HasColour epoch place = place < length epoch.colours

-- a region that is sent is one of the epoch, and lists cues of it
pub record IsSendableRegion (epoch : Epoch) (sent : SentRegion) : Type 0 where
  pub region : HasRegion epoch sent.id
  pub number : sent.id ≤ 255
  pub version : sent.version < 16
  pub few : length sent.cues ≤ MOST_CUES
  pub cues : All (HasCue epoch) sent.cues

-- a CLUT that is sent has rows of the epoch
pub record IsSendableClut (epoch : Epoch) (sent : SentClut) : Type 0 where
  pub number : sent.clut ≤ 255
  pub version : sent.version < 16
  pub few : length sent.rows ≤ MOST_COLOURS
  pub rows : All (HasColour epoch) sent.rows

-- what a set carries is of this epoch
pub record IsSendableIn (epoch : Epoch) (set : PlannedSet) : Type 0 where
  pub time : set.pts < 2 ^ 34
  pub page_version : set.page_version < 16
  pub few_shown : length set.shown ≤ MOST_REGIONS
  pub shown : All (HasRegion epoch) set.shown
  pub few_regions : length set.regions ≤ MOST_REGIONS
  pub regions : All (IsSendableRegion epoch) set.regions
  pub few_cluts : length set.cluts ≤ 256
  pub cluts : All (IsSendableClut epoch) set.cluts
  pub few_cues : length set.cues ≤ MOST_CUES
  pub cues : All (HasCue epoch) set.cues

-- what a set carries is of its epoch in the script
pub record IsOfItsEpoch (script : Script) (set : PlannedSet) : Type 0 where
  pub epoch : Epoch
  pub found : slice_get script.epochs set.epoch ≡ Some epoch
  pub carried : IsSendableIn epoch set
