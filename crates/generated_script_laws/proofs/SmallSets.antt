-- A display set of a generated script is sent in one PES packet.
use Rattle.std.proofs.Common.{◌≡◌, ◌∙◌, inr, ℕ, ◌≤◌, List, [], ◌∷◌, length, map, sum_by, sum, ap, arith, append-nil}
use Rattle.std.proofs.lemmas.List.Sums.{sum_by-cons}
use Rattle.sub_base.specs.declared.load.TheConstants.{UNIT_ROOM}
use Rattle.sub_base.specs.declared.load.WriteLoad.{WriteLoad}
use Rattle.pes_packets.specs.Units.{IsSharedOut, unit_length}
use Rattle.pes_packets.proofs.Filling.{own}
use Rattle.pes_packets.proofs.OneSharing.{units_same}
use Rattle.cue_list.specs.declared.script.Script.{Script}
use Rattle.page_epoch.specs.declared.planned_set.PlannedSet.{PlannedSet}
use Rattle.set_coder.specs.SetSizes.{AreSegmentSizes, IsPaintedIn, IsSetLoad}
use Rattle.generated_script.specs.Generated.{IsGenerated}
use Rattle.generated_script_laws.specs.SmallLoads.{IsSmallSet, IsSmallLoad}
use Rattle.generated_script_laws.proofs.ScriptParts.{epoch_found}
use Rattle.generated_script_laws.proofs.SegmentBytes.{segments_short, segments_some, one_within, painted_short}

-- segments that have room in one unit are shared out to one
one_unit : (sizes : List ℕ) (units : List (List ℕ)) → 1 ≤ length sizes → sum_by own sizes ≤ UNIT_ROOM
    → IsSharedOut own sizes units → units ≡ sizes ∷ []
one_unit sizes units some few shared =
    units_same own sizes units (sizes ∷ []) shared
    (record { whole = append-nil sizes; each = ((some, inr few), tt, tt) })

-- the segments of a small set have few bytes together
sizes_short : (number : ℕ) (script : Script) (set : PlannedSet) (sizes : List ℕ) → IsGenerated number script
    → IsSmallSet script set → AreSegmentSizes script set sizes → sum_by own sizes ≤ 1953
sizes_short number script set sizes made few are =
    segments_short number script set sizes made are (epoch_found number set.epoch script are.epoch made are.found)
    (few are.epoch are.found)

-- a small set is painted within few ticks
set_painted : (number : ℕ) (script : Script) (set : PlannedSet) (painted : ℕ) → IsGenerated number script
    → IsSmallSet script set → IsPaintedIn script set painted → painted ≤ 144
set_painted number script set painted made few is =
    let own_epoch = epoch_found number set.epoch script is.epoch made is.found in
    omega (arith, is.sum, painted_short number set.epoch is.epoch set own_epoch (few is.epoch is.found))

-- its load is small
pub set_small : (number : ℕ) (script : Script) (set : PlannedSet) (load : WriteLoad) → IsGenerated number script
    → IsSmallSet script set → IsSetLoad script set load → IsSmallLoad load
set_small number script set load made few is =
    let units = is.units in
    let all = sizes_short number script set units.sizes made few units.segments in
    let some = segments_some script set units.sizes units.segments in
    let one = one_unit units.sizes units.units some (omega (arith, all)) units.shared in
    let are : load.units ≡ unit_length own units.sizes ∷ [] = units.are ∙ ap (map (unit_length own)) one in
    let longest = is.longest in
    let others = sizes_short number script set longest.sizes made few longest.segments in
    record {
      unit = unit_length own units.sizes;
      one = are;
      short = omega (arith, all);
      whole = is.size ∙ ap sum are ∙ omega (arith, sum_by-cons own (unit_length own units.sizes) []);
      longest = omega (arith, one_within longest.sizes load.longest longest.one, others);
      painted = set_painted number script set load.load.painted made few is.painted;
    }
