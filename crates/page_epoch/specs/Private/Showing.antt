-- The ticks at which cues start and end.
use Rattle.std.specs.Prelude.{ℕ, ◌<◌, List, map, All}
use Rattle.std.specs.List.{flat_map}
use Rattle.std.specs.List.Sorted.{IsPermutation, IsNonDecreasing}
use Rattle.cue_list.specs.declared.epoch.Epoch.{Epoch}
use Rattle.cue_list.specs.declared.epoch.Cue.{Cue}
use Rattle.page_epoch.specs.declared.cue_ticks.CueTicks.{CueTicks}

-- the ticks at which the cues of epochs start
abbrev pub starts_of : List Epoch → List ℕ
starts_of epochs = flat_map (λ epoch. map (λ cue. cue.start) epoch.cues) epochs

-- the ticks at which they end
abbrev pub ends_of : List Epoch → List ℕ
ends_of epochs = flat_map (λ epoch. map (λ cue. cue.end) epoch.cues) epochs

-- each cue ends after its start
abbrev pub AreLasting : List Epoch → Type 0
AreLasting epochs = All (λ epoch. All (λ (cue : Cue). cue.start < cue.end) epoch.cues) epochs

-- the ticks of all cues, in order
pub record AreCueTicks (epochs : List Epoch) (ticks : CueTicks) : Type 0 where
  pub starts : IsPermutation (starts_of epochs) ticks.starts
  pub starts_rise : IsNonDecreasing ticks.starts
  pub ends : IsPermutation (ends_of epochs) ticks.ends
  pub ends_rise : IsNonDecreasing ticks.ends
