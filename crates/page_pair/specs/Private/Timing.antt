-- What is found of the timing of two scripts.
use Rattle.std.specs.Prelude.{ℕ, List, Option, Some, None}
use Rattle.std.specs.List.{AllZip}
use Rattle.cue_list.specs.declared.script.Script.{Script}
use Rattle.page_epoch.specs.declared.planned_set.PlannedSet.{PlannedSet}
use Rattle.page_pair.specs.PairStream.{HaveEqualHeads, IsEven, IsOtherHead, IsUneven}

-- the heads are the same, or this record of them is the first that differs
abbrev pub AreHeads : Script → Script → Option ℕ → Type 0
AreHeads first second None = HaveEqualHeads first second
AreHeads first second (Some row) = IsOtherHead first second row

-- the plans are even, or this place is the first at which they are not
abbrev pub ArePlansEven : List PlannedSet → List PlannedSet → Option ℕ → Type 0
ArePlansEven one two None = AllZip IsEven one two
ArePlansEven one two (Some place) = IsUneven one two place
