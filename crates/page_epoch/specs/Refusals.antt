-- Why a script has no plan for a receiver.
use Rattle.std.specs.Prelude.{◌≡◌, ℕ, ◌<◌, ◌≤◌, ◌⊎◌, List, length, reverse, slice_get, Some, Result, MatchResult, ⊤}
use Rattle.sub_base.specs.declared.profile.Profile.{Profile}
use Rattle.cue_list.specs.declared.epoch.Epoch.{Epoch}
use Rattle.cue_list.specs.declared.script.Script.{Script}
use Rattle.page_epoch.specs.declared.fault.PlanFault.{PlanFault}
use Rattle.page_epoch.specs.declared.fault.PlanFault.TheVariants.{Memory, DisplayTooLarge, PixelFull, CompositionFull}
use Rattle.page_epoch.specs.declared.planned_set.PlannedSet.{PlannedSet}
use Rattle.page_epoch.specs.Instants.{AreInstants}
use Rattle.page_epoch.specs.Plan.{HasDisplay, AreFirstSets, IsNextSet, Needs}

-- the first set that a receiver cannot hold: it can hold all sets before
pub record IsFirstUnheld (epochs : List Epoch) (refresh : ℕ) (profile : Profile)
    (row pixels nodes : ℕ) : Type 0 where
  pub instants : List ℕ
  pub are_instants : AreInstants epochs refresh instants
  pub before : List PlannedSet
  pub first : AreFirstSets epochs refresh profile instants before
  pub set : PlannedSet
  pub time : slice_get instants (length before) ≡ Some set.pts
  pub next : IsNextSet epochs refresh (reverse before) set
  pub is_row : row ≡ set.row
  pub needs : Needs epochs (reverse before) set pixels nodes

-- the set's epoch needs more bytes of pixels than the profile has
pub record IsPixelFull (epochs : List Epoch) (refresh : ℕ) (profile : Profile) (row need : ℕ) : Type 0 where
  pub nodes : ℕ
  pub unheld : IsFirstUnheld epochs refresh profile row need nodes
  pub full : profile.pixels < need

-- the set needs more nodes than the profile has, and its epoch no more pixels
pub record IsCompositionFull (epochs : List Epoch) (refresh : ℕ) (profile : Profile) (row need : ℕ) : Type 0 where
  pub pixels : ℕ
  pub unheld : IsFirstUnheld epochs refresh profile row pixels need
  pub held : pixels ≤ profile.pixels
  pub full : profile.nodes < need

-- a side of the display is larger than the profile's; the display stands in the script's second record
pub record IsDisplayTooLarge (script : Script) (profile : Profile) (row : ℕ) : Type 0 where
  pub second : row ≡ 2
  pub large : (profile.width < script.width) ⊎ (profile.height < script.height)

-- why the sets of a script have no plan; want of memory has no cause
abbrev pub IsSetCause : List Epoch → ℕ → Profile → PlanFault → Type 0
IsSetCause epochs refresh profile Memory = ⊤
IsSetCause epochs refresh profile (DisplayTooLarge row) = ⊥
IsSetCause epochs refresh profile (PixelFull row need) = IsPixelFull epochs refresh profile row need
IsSetCause epochs refresh profile (CompositionFull row need) = IsCompositionFull epochs refresh profile row need

-- the cause of a refusal: the display, or where it is not too large a set; want of memory has none
abbrev pub IsPlanCause : Script → Profile → PlanFault → Type 0
IsPlanCause script profile Memory = ⊤
IsPlanCause script profile (DisplayTooLarge row) = IsDisplayTooLarge script profile row
IsPlanCause script profile (PixelFull row need) =
    HasDisplay script.width script.height profile × IsPixelFull script.epochs script.refresh profile row need
IsPlanCause script profile (CompositionFull row need) =
    HasDisplay script.width script.height profile × IsCompositionFull script.epochs script.refresh profile row need

-- this fault is answered, or want of memory
abbrev pub AnswersPlanFault : {T : Type 0} → PlanFault → Result T PlanFault → Type 0
AnswersPlanFault fault result = MatchResult result (λ _. ⊥) (λ told. (told ≡ Memory) ⊎ (told ≡ fault))

-- a need that a profile has not, pixels before nodes
abbrev pub IsNeedFault : Profile → ℕ → ℕ → ℕ → PlanFault → Type 0
IsNeedFault profile pixels nodes row Memory = ⊥
IsNeedFault profile pixels nodes row (DisplayTooLarge other) = ⊥
IsNeedFault profile pixels nodes row (PixelFull other need) =
    (other ≡ row) × (need ≡ pixels) × (profile.pixels < need)
IsNeedFault profile pixels nodes row (CompositionFull other need) =
    (other ≡ row) × (need ≡ nodes) × (pixels ≤ profile.pixels) × (profile.nodes < need)
