-- The PES packets of the display sets of a plan carry the sets: each unit with its set's time, and together the set's
-- segments.
use Rattle.std.proofs.Common.{◌≡◌, ◌∙◌, ℕ, ◌%◌, ◌≤◌, List, [], ◌∷◌, ◌++◌, length, map, refl, sym, ap, subst, All, append_assoc}
use Rattle.std.specs.Prelude.{sum}
use Rattle.std.specs.List.{AllByRecursion, AllZip}
use Rattle.std.proofs.lemmas.List.Elements.{recursion_from_All}
use Rattle.sub_base.specs.Picture.{Picture}
use Rattle.stream_syntax.specs.Cutting.{IsUnit}
use Rattle.stream_syntax.specs.Segments.{SegmentValue, end_of_set, spelled, IsWritable}
use Rattle.stream_syntax.specs.declared.page.State.{State}
use Rattle.stream_syntax.specs.declared.page.State.TheVariants.{Normal, Acquisition, ModeChange}
use Rattle.stream_syntax.specs.declared.wire.TheConstants.{TIME_ROUND}
use Rattle.pes_packets.specs.Units.{AreUnits as AreShared, IsSharedOut}
use Rattle.cue_list.specs.declared.epoch.Epoch.{Epoch}
use Rattle.cue_list.specs.declared.script.Script.{Script}
use Rattle.page_epoch.specs.declared.planned_set.PlannedSet.{PlannedSet}
use Rattle.page_epoch.specs.declared.planned_set.SentClut.{SentClut}
use Rattle.page_epoch.specs.declared.planned_set.SentRegion.{SentRegion}
use Rattle.decoder_model.specs.Frames.{only}
use Rattle.decoder_model.proofs.Lists.{all-append}
use Rattle.set_coder.specs.SetSegments.{display_segments, region_segment_of, clut_segment_of, leading_segments, AreObjectsOf, segment_bytes, unit_packet, AreSetSegments, AreSetPackets}
use Rattle.shown_stream.specs.Compiled.{AreUnitsOfSets, all_units}
use Rattle.shown_stream.proofs.Sent.WrittenSets.{IsInner, AreInner, unit_with, set_with, joined_units, segments_with, size_with, HaveSegments, AreKnown, mapped_units, packets_mapped, whole_set, packets_are, all_known}
use Rattle.sent_sets.proofs.RawUnits.{both_zip, packets_are_units, AreShort}
use Rattle.sent_sets.proofs.Units.{TimedSet, timed, timed_units, size_of_units, all_segments, IsTimedSet, IsUnitOf, AreUnitsOf}

-- ---- the segments of a set

objects_inner : (pictures : List Picture) (epoch : Epoch) (places : List ℕ) (segments : List SegmentValue)
    → AreObjectsOf pictures epoch places segments → AllByRecursion IsInner segments
objects_inner pictures epoch [] [] h = tt
objects_inner pictures epoch [] (segment ∷ segments) h = absurd h
objects_inner pictures epoch (place ∷ places) [] h = absurd h
objects_inner pictures epoch (place ∷ places) (segment ∷ segments) h =
    (subst IsInner (sym h.0.value) tt, objects_inner pictures epoch places segments h.1)

regions_inner : (epoch : Epoch) (sent : List SentRegion) → AllByRecursion IsInner (map (region_segment_of epoch) sent)
regions_inner epoch [] = tt
regions_inner epoch (one ∷ sent) = (tt, regions_inner epoch sent)

cluts_inner : (epoch : Epoch) (sent : List SentClut) → AllByRecursion IsInner (map (clut_segment_of epoch) sent)
cluts_inner epoch [] = tt
cluts_inner epoch (one ∷ sent) = (tt, cluts_inner epoch sent)

display_inner : (script : Script) (state : State) → AllByRecursion IsInner (display_segments script state)
display_inner script Normal = tt
display_inner script Acquisition = (tt, tt)
display_inner script ModeChange = (tt, tt)

leading_inner : (script : Script) (epoch : Epoch) (set : PlannedSet)
    → AllByRecursion IsInner (leading_segments script epoch set)
leading_inner script epoch set =
    all-append IsInner (display_segments script set.state) _ (display_inner script set.state) (
      tt,
      all-append IsInner (map (region_segment_of epoch) set.regions) (map (clut_segment_of epoch) set.cluts)
          (regions_inner epoch set.regions) (cluts_inner epoch set.cluts),
    )

-- all but the last are no end of a set, and all can be written
pub record EndsInner (page : ℕ) (segments : List SegmentValue) : Type 0 where
  pub inner : List SegmentValue
  pub are : segments ≡ inner ++ end_of_set ∷ []
  pub fit : AreInner page inner
  pub end : IsWritable page end_of_set

ends_inner : (page : ℕ) (inner : List SegmentValue)
    → AllByRecursion (IsWritable page) (inner ++ end_of_set ∷ []) → AllByRecursion IsInner inner
    → AreInner page inner × IsWritable page end_of_set
ends_inner page [] fit all = (tt, fit.0)
ends_inner page (value ∷ inner) fit all =
    let more = ends_inner page inner fit.1 all.1 in (((fit.0, all.0), more.0), more.1)

pub its_segments : (script : Script) (page : ℕ) (set : PlannedSet) (segments : List SegmentValue)
    → AreSetSegments script page set segments → EndsInner page segments
its_segments script page set segments h =
    let inner = leading_segments script h.epoch set ++ h.objects in
    let are : segments ≡ inner ++ end_of_set ∷ [] =
    h.whole ∙ sym (append_assoc (leading_segments script h.epoch set) h.objects (end_of_set ∷ [])) in
    let both =
    ends_inner page inner
    (recursion_from_All (IsWritable page) (inner ++ end_of_set ∷ []) (subst (All (IsWritable page)) are h.fit))
    (all-append IsInner (leading_segments script h.epoch set) h.objects (leading_inner script h.epoch set)
    (objects_inner script.pictures h.epoch set.cues h.objects h.drawn)) in
    record { inner = inner; are = are; fit = both.0; end = both.1 }

-- ---- the units of a set

-- a set of a plan in a receiver: its segments, the units that they are shared out to, each with the set's time modulo 2
-- to the 33 and as many bytes as its PES packet; together they are the set's segments, and its size is that of its PES
-- packets
pub record IsSentAs (script : Script) (page : ℕ) (set : PlannedSet) (packets : List (List ℕ))
    (sent : TimedSet) : Type 0 where
  pub segments : List SegmentValue
  pub carried : AreSetSegments script page set segments
  pub units : List (List SegmentValue)
  pub shared : IsSharedOut (segment_bytes page) segments units
  pub written : packets ≡ map (unit_packet page set.pts) units
  pub time : sent.time ≡ set.pts % TIME_ROUND
  pub each : sent.units ≡ map (unit_with page set.pts) units
  pub are : all_segments sent ≡ map (spelled page) segments
  pub size : size_of_units sent.units ≡ sum (map length packets)

have_segments : (page : ℕ) (units : List (List SegmentValue)) → AreShared (segment_bytes page) units
    → HaveSegments units
have_segments page [] h = tt
have_segments page (unit ∷ units) h = (h.0.0, have_segments page units h.2)

-- what is known of the PES packets of a set
record ArePacketsOf (coded : ℕ) (script : Script) (page : ℕ) (set : PlannedSet) (packets : List (List ℕ))
    (sent : TimedSet) : Type 0 where
  is : IsSentAs script page set packets sent
  whole : IsTimedSet coded (only page) sent
  each : AllZip (IsUnitOf (only page)) packets (map (timed sent.time) sent.units)
  units : AllByRecursion (IsUnit coded) packets

packets_of_set : (coded : ℕ) (script : Script) (page : ℕ) (set : PlannedSet) (packets : List (List ℕ))
    → (h : AreSetPackets script page set packets) → sum (map length packets) ≤ coded → AreShort packets
    → ArePacketsOf coded script page set packets (set_with page set.pts h.units)
packets_of_set coded script page set packets h room short =
    let ends = its_segments script page set h.segments h.carried in
    let some = have_segments page h.units h.shared.each in
    let joined : joined_units h.units ≡ ends.inner ++ end_of_set ∷ [] = h.shared.whole ∙ ends.are in
    let written = map (unit_packet page set.pts) h.units in
    let room_too : sum (map length written) ≤ coded =
    subst (λ (all : List (List ℕ)). sum (map length all) ≤ coded) h.are room in
    let short_too : AreShort written = subst AreShort h.are short in
    let same = h.are ∙ packets_mapped page set.pts h.units in
    record {
      is = record {
        segments = h.segments;
        carried = h.carried;
        units = h.units;
        shared = h.shared;
        written = h.are;
        time = refl;
        each = refl;
        are = segments_with page set.pts h.units ∙ ap (map (spelled page)) h.shared.whole;
        size = size_with page set.pts h.units ∙ ap (λ all. sum (map length all)) (sym h.are);
      };
      whole = whole_set coded page set.pts h.units ends.inner some joined ends.fit ends.end room_too;
      each =
          subst (λ (all : List (List ℕ)). AllZip (IsUnitOf (only page)) all
          (map (timed (set.pts % TIME_ROUND)) (set_with page set.pts h.units).units)) (sym h.are)
          (packets_are page set.pts h.units some
          (subst (AreKnown page) (sym joined) (all_known page ends.inner ends.fit ends.end)) short_too);
      units =
          subst (AllByRecursion (IsUnit coded)) (sym same)
          (packets_are_units coded set.pts (mapped_units page h.units)
          (subst (λ (all : List (List ℕ)). sum (map length all) ≤ coded) same room)
          (subst AreShort same short));
    }

-- ---- all sets

-- the sets as they are sent
abbrev pub sent_of : (script : Script) (page : ℕ) (sets : List PlannedSet) (units : List (List (List ℕ)))
    → AreUnitsOfSets script page sets units → List TimedSet
sent_of script page [] [] carried = []
sent_of script page [] (packets ∷ units) carried = []
sent_of script page (set ∷ sets) [] carried = []
sent_of script page (set ∷ sets) (packets ∷ units) carried =
    set_with page set.pts carried.0.units ∷ sent_of script page sets units carried.1

-- sets of a plan in a receiver, one for each
abbrev pub AreSentAs : Script → ℕ → List PlannedSet → List (List (List ℕ)) → List TimedSet → Type 0
AreSentAs script page [] [] [] = Unit {0}
AreSentAs script page [] [] (one ∷ sent) = ⊥
AreSentAs script page [] (packets ∷ units) sent = ⊥
AreSentAs script page (set ∷ sets) [] sent = ⊥
AreSentAs script page (set ∷ sets) (packets ∷ units) [] = ⊥
AreSentAs script page (set ∷ sets) (packets ∷ units) (one ∷ sent) =
    IsSentAs script page set packets one × AreSentAs script page sets units sent

-- what is known of all PES packets
pub record AreAllPackets (coded : ℕ) (script : Script) (page : ℕ) (sets : List PlannedSet)
    (units : List (List (List ℕ))) (sent : List TimedSet) : Type 0 where
  pub are : AreSentAs script page sets units sent
  pub carry : AreUnitsOf coded (only page) (all_units units) sent
  pub units_are : AllByRecursion (IsUnit coded) (all_units units)

pub all_packets : (coded : ℕ) (script : Script) (page : ℕ) (sets : List PlannedSet)
    (units : List (List (List ℕ))) → (carried : AreUnitsOfSets script page sets units)
    → AllByRecursion (λ (packets : List (List ℕ)). sum (map length packets) ≤ coded) units
    → AllByRecursion AreShort units
    → AreAllPackets coded script page sets units (sent_of script page sets units carried)
all_packets coded script page [] [] carried room short =
    record { are = tt; carry = record { each = tt; whole = tt }; units_are = tt }
all_packets coded script page [] (packets ∷ units) carried room short = absurd carried
all_packets coded script page (set ∷ sets) [] carried room short = absurd carried
all_packets coded script page (set ∷ sets) (packets ∷ units) carried room short =
    let first = packets_of_set coded script page set packets carried.0 room.0 short.0 in
    let more = all_packets coded script page sets units carried.1 room.1 short.1 in
    let one = set_with page set.pts carried.0.units in
    record {
      are = (first.is, more.are);
      carry = record {
        each =
            both_zip (IsUnitOf (only page)) packets (all_units units) (map (timed one.time) one.units)
            (timed_units (sent_of script page sets units carried.1)) first.each more.carry.each;
        whole = (first.whole, more.carry.whole);
      };
      units_are = all-append (IsUnit coded) packets (all_units units) first.units more.units_are;
    }
