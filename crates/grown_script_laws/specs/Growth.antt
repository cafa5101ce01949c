-- Scripts that go on: records are added behind those that are there, and every tick that these name lies above a
-- horizon.
use Rattle.std.specs.Prelude.{◌≡◌, ℕ, ◌+◌, ◌<◌, ◌≤◌, ◌⊎◌, List, [], ◌∷◌, ◌++◌, length, map, All}
use Rattle.std.specs.List.{flat_map}
use Rattle.sub_base.specs.Picture.{Picture}
use Rattle.cue_records.specs.declared.row_values.ColourRow.{ColourRow}
use Rattle.cue_list.specs.declared.epoch.Cue.{Cue}
use Rattle.cue_list.specs.declared.epoch.Epoch.{Epoch}
use Rattle.cue_list.specs.declared.script.Script.{Script}
use Rattle.cue_list.specs.Sound.{ticks_of, ticks_of_cue}
use Rattle.page_epoch.specs.declared.instants.TheConstants.{REFRESH_ROOM}
use Rattle.page_epoch.specs.declared.planned_set.PlannedSet.{PlannedSet}

-- all of these ticks lie above the horizon
abbrev pub AreAbove : ℕ → List ℕ → Type 0
AreAbove horizon ticks = All (λ tick. horizon < tick) ticks

-- an epoch goes on: cues and colours are added above the horizon, and regions where it starts above it
pub record EpochGrows (horizon : ℕ) (old new : Epoch) : Type 0 where
  pub start : new.start ≡ old.start
  pub row : new.row ≡ old.row
  pub regions : (new.regions ≡ old.regions) ⊎ (horizon < old.start)
  pub more_cues : List Cue
  pub cues : new.cues ≡ old.cues ++ more_cues
  pub cues_above : AreAbove horizon (flat_map ticks_of_cue more_cues)
  pub more_colours : List ColourRow
  pub colours : new.colours ≡ old.colours ++ more_colours
  pub colours_above : AreAbove horizon (map (λ row. row.tick) more_colours)

-- the epochs go on one by one, and further ones, all above the horizon, stand behind them
abbrev pub EpochsGrow : ℕ → List Epoch → List Epoch → Type 0
EpochsGrow horizon [] later = AreAbove horizon (flat_map ticks_of later)
EpochsGrow horizon (old ∷ olds) [] = ⊥
EpochsGrow horizon (old ∷ olds) (new ∷ news) = EpochGrows horizon old new × EpochsGrow horizon olds news

-- a script goes on: its first records stay, pictures are added, and its epochs go on above the horizon
pub record Grows (horizon : ℕ) (old new : Script) : Type 0 where
  pub origin : new.origin ≡ old.origin
  pub width : new.width ≡ old.width
  pub height : new.height ≡ old.height
  pub refresh : new.refresh ≡ old.refresh
  pub more_pictures : List Picture
  pub pictures : new.pictures ≡ old.pictures ++ more_pictures
  pub epochs : EpochsGrow horizon old.epochs new.epochs

-- two plans begin with the same sets, and these are those that lie the room of a refresh below the horizon, or more;
-- where the first plan has further sets, so has the second
pub record BeginAlike (horizon : ℕ) (before now : List PlannedSet) : Type 0 where
  pub front : List PlannedSet
  pub rest : List PlannedSet
  pub others : List PlannedSet
  pub was : before ≡ front ++ rest
  pub is : now ≡ front ++ others
  pub low : All (λ set. set.pts + REFRESH_ROOM ≤ horizon) front
  pub high : All (λ set. horizon < set.pts + REFRESH_ROOM) rest
  pub higher : All (λ set. horizon < set.pts + REFRESH_ROOM) others
  pub goes_on : 1 ≤ length rest → 1 ≤ length others
