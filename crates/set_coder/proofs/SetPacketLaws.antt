-- The segments of a set are shared out to the units that are measured, and their packets are those of the set.
use Rattle.std.proofs.Common.{◌≡◌, ℕ, ◌%◌, ◌≤◌, List, [], ◌∷◌, ◌++◌, length, map, Some, sym, ap, subst, ◌∙◌, arith}
use Rattle.std.specs.Prelude.{All, slice_get}
use Rattle.std.specs.List.{concat, flat_map}
use Rattle.std.proofs.lemmas.List.Elements.{All-weaker}
use Rattle.sub_base.specs.declared.load.TheConstants.{UNIT_ROOM}
use Rattle.stream_syntax.specs.Segments.{SegmentValue, spelled}
use Rattle.stream_syntax.specs.declared.wire.TheConstants.{TIME_ROUND}
use Rattle.pes_packets.specs.Units.{IsSharedOut, unit_length}
use Rattle.pes_packets.proofs.SharingLaws.{shared_back, same_lengths}
use Rattle.cue_list.specs.declared.epoch.Epoch.{Epoch}
use Rattle.cue_list.specs.declared.script.Script.{Script}
use Rattle.page_epoch.specs.declared.planned_set.PlannedSet.{PlannedSet}
use Rattle.set_coder.specs.SetSegments.{segment_bytes, AreSetSegments, AreSetPackets}
use Rattle.set_coder.specs.SetSizes.{leading_sizes, AreObjectSizes, AreSegmentSizes, AreUnitSizes, FitsPackets}
use Rattle.set_coder.specs.Private.UnitParts.{AreUnitParts, part_packet}
use Rattle.set_coder.proofs.SetSizeLaws.{one_epoch, one_segment_sizes}
use Rattle.set_coder.proofs.UnitPartLaws.{parts_are, packets_are, packets_sized}
use Rattle.set_coder.proofs.WrittenSizes.{All_front, All_back, All_of_map, segments_sized}

-- there is room for each segment of the set
each_fits : (script : Script) (set : PlannedSet) (sizes : List ℕ) → FitsPackets script set
    → AreSegmentSizes script set sizes → All (λ size. size ≤ UNIT_ROOM) sizes
each_fits script set sizes f are =
    let same = one_segment_sizes script set f.is_longest.sizes sizes f.is_longest.segments are in
    subst (All (λ size. size ≤ UNIT_ROOM)) same
    (All-weaker (λ size. size ≤ f.longest) (λ size. size ≤ UNIT_ROOM) (λ size h. omega (arith, h, f.few))
    f.is_longest.sizes f.is_longest.greatest)

-- and for each of its objects
pub objects_fit : (script : Script) (set : PlannedSet) (epoch : Epoch) (cues : List ℕ) → FitsPackets script set
    → slice_get script.epochs set.epoch ≡ Some epoch → cues ≡ set.cues
    → (sizes : List ℕ) × AreObjectSizes script.pictures epoch cues sizes × All (λ size. size ≤ UNIT_ROOM) sizes
objects_fit script set epoch cues f found same =
    let all = f.is_longest.segments in
    let here = one_epoch all.epoch epoch (sym all.found ∙ found) in
    let each = subst (All (λ size. size ≤ UNIT_ROOM)) all.whole (each_fits script set f.is_longest.sizes f all) in (
      all.objects,
      subst (λ (places : List ℕ). AreObjectSizes script.pictures epoch places all.objects) (sym same)
          (subst (λ (e : Epoch). AreObjectSizes script.pictures e set.cues all.objects) here all.coded),
      All_front (λ size. size ≤ UNIT_ROOM) all.objects (6 ∷ [])
          (All_back (λ size. size ≤ UNIT_ROOM) (leading_sizes set) (all.objects ++ 6 ∷ []) each),
    )

-- the units of the segments of a set
pub record AreUnitsOf (page : ℕ) (segments : List SegmentValue) (lengths : List ℕ) : Type 0 where
  pub units : List (List SegmentValue)
  pub shared : IsSharedOut (segment_bytes page) segments units
  pub parts : AreUnitParts (flat_map (spelled page) segments) lengths (map (flat_map (spelled page)) units)

pub units_of : (script : Script) (page : ℕ) (set : PlannedSet) (segments : List SegmentValue) (lengths : List ℕ)
    → AreSetSegments script page set segments → AreUnitSizes script set lengths → FitsPackets script set
    → AreUnitsOf page segments lengths
units_of script page set segments lengths s u f =
    let bytes = segment_bytes page in
    let sized = segments_sized script page set segments s in
    let same = one_segment_sizes script set u.sizes (map bytes segments) u.segments sized in
    let back =
    shared_back bytes segments u.units
    (subst (λ (sizes : List ℕ). IsSharedOut (λ n. n) sizes u.units) same u.shared) in
    let are = u.are ∙ ap (map (unit_length (λ n. n))) (sym back.2) ∙ same_lengths bytes back.0 in
    record {
      units = back.0;
      shared = back.1;
      parts =
          parts_are page segments back.0 lengths back.1
          (All_of_map (λ size. size ≤ UNIT_ROOM) bytes segments (each_fits script set (map bytes segments) f sized))
          are;
    }

-- what is put out, where it is the packets of the parts
pub set_packets : (script : Script) (page : ℕ) (set : PlannedSet) (segments : List SegmentValue)
    (lengths old new : List ℕ) → AreSetSegments script page set segments → AreUnitSizes script set lengths
    → (u : AreUnitsOf page segments lengths)
    → new ≡ old ++ concat (map (part_packet (set.pts % TIME_ROUND)) (map (flat_map (spelled page)) u.units))
    → (packets : List (List ℕ)) × (new ≡ old ++ concat packets) × AreSetPackets script page set packets
    × AreUnitSizes script set (map length packets)
set_packets script page set segments lengths old new s sized u put =
    let parts = map (flat_map (spelled page)) u.units in (
      map (part_packet (set.pts % TIME_ROUND)) parts,
      put,
      (record {
        segments = segments;
        carried = s;
        units = u.units;
        shared = u.shared;
        are = packets_are page set.pts
            u.units;
      }),
      subst (AreUnitSizes script set) (sym (packets_sized (set.pts % TIME_ROUND) parts ∙ u.parts.each)) sized,
    )
