-- Small display sets: few cues are listed, so that one PES packet of few bytes has room for them, and painting takes
-- few ticks.
use Rattle.std.specs.Prelude.{◌≡◌, ℕ, ◌≤◌, [], ◌∷◌, Some, slice_get}
use Rattle.sub_base.specs.declared.load.WriteLoad.{WriteLoad}
use Rattle.cue_list.specs.declared.epoch.Epoch.{Epoch}
use Rattle.cue_list.specs.declared.script.Script.{Script}
use Rattle.page_epoch.specs.declared.planned_set.PlannedSet.{PlannedSet}
use Rattle.generated_script_laws.specs.Listed.{ListsFew}

-- the set lists few cues of its epoch
abbrev pub IsSmallSet : Script → PlannedSet → Type 0
IsSmallSet script set = (epoch : Epoch) → slice_get script.epochs set.epoch ≡ Some epoch → ListsFew epoch set

-- a set that is sent in one PES packet of at most 1,970 bytes, has no longer segment, and is painted within 144 ticks
pub record IsSmallLoad (load : WriteLoad) : Type 0 where
  pub unit : ℕ
  pub one : load.units ≡ unit ∷ []
  pub short : unit ≤ 1970
  pub whole : load.load.size ≡ unit
  pub longest : load.longest ≤ 1953
  pub painted : load.load.painted ≤ 144
