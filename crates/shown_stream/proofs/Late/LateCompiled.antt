-- The sets of a compiled stream as sets that are sent: their segments count for its page, end with an end segment, and
-- have the page in the first unit. Entered late, all come whole whose packets all come.
use Rattle.std.proofs.Common.{◌≡◌, ◌∙◌, ℕ, suc, ◌≤◌, inl, inr, ◌⊎◌, true, false, List, [], ◌∷◌, length, map, drop, Some, refl, sym, ap, subst, arith}
use Rattle.std.specs.Prelude.{slice_get}
use Rattle.std.specs.List.{AllByRecursion, AllZip, flat_map, sum_by}
use Rattle.std.proofs.lemmas.List.{length-map}
use Rattle.std.proofs.lemmas.List.Elements.{recursion_from_All, All-from_recursion}
use Rattle.std.proofs.lemmas.List.Sums.{sum_by-cons}
use Rattle.sub_base.specs.Pace.{pace_of}
use Rattle.sub_base.specs.Profile.{profile_of}
use Rattle.sub_base.specs.declared.load.TheConstants.{UNIT_ROOM}
use Rattle.stream_syntax.specs.Segments.{SegmentValue, spelled, IsWritable}
use Rattle.pes_packets.specs.Units.{IsOneUnit, IsClosed, AreUnits, IsSharedOut}
use Rattle.pes_packets.proofs.OneSharing.{units_same}
use Rattle.cue_list.specs.declared.script.Script.{Script}
use Rattle.page_epoch.specs.declared.planned_set.PlannedSet.{PlannedSet}
use Rattle.decoder_model.proofs.Lists.{all-append}
use Rattle.decoder_model.specs.Frames.{is_of_page, only}
use Rattle.decoder_model.specs.Received.{IsFramed}
use Rattle.slot_stream.proofs.SentPieces.{IsFree}
use Rattle.set_coder.specs.SetSegments.{segment_bytes}
use Rattle.sent_sets.specs.RawSets.{RawSet, raw_packet, AreRawPackets, IsSendable, counted_in, EndsLast}
use Rattle.sent_sets.proofs.FieldFrames.{IsHead, heads_of, framed_by_head}
use Rattle.sent_sets.proofs.RawUnits.{parts_of_all, raw_size, AreShort, IsRawSent, counted_unit}
use Rattle.sent_sets.proofs.SentLate.{sent_sets_of}
use Rattle.sent_sets.proofs.SetEnds.{ended_set, none_behind_end}
use Rattle.sent_sets.proofs.SetsCome.{all_ended, all_count}
use Rattle.sent_sets.proofs.Units.{TimedSet, all_segments, IsTimedSet, counted_set, counted_sets}
use Rattle.sent_sets.proofs.Units as counting
use Rattle.shown_stream.specs.Compiled.{IsCompiledTo, Compiling}
use Rattle.shown_plan.proofs.Segments.ByPlace.{set_is_named}
use Rattle.shown_stream.specs.SentPlan.{IsWrittenAs, CarriesSet, AreWithoutPage, HasPageFirst}
use Rattle.shown_stream.proofs.Late.LatePlaces.{have_as_many}
use Rattle.shown_stream.proofs.Late.LatePlan as plan
use Rattle.shown_stream.proofs.Late.LatePlan.{IsPlannedUnits, planned_units, IsPlanSent, plan_sent, all_counted}
use Rattle.shown_stream.proofs.Late.LateRest.{IsPlannedWell, all_written, later_no_page}
use Rattle.shown_stream.proofs.Late.LateSegments.{IsLater, later_are}
use Rattle.shown_stream.proofs.Sent.CompiledPackets.{packets_in, ArePackets}
use Rattle.shown_stream.proofs.Sent.CompiledSets.{its_segments, IsSentAs, AreSentAs}
use Rattle.shown_stream.proofs.Sent.WrittenSets.{IsKnown, AreKnown, all_known, all_headed, unit_with, same_packet, joined_units, mapped_units, joined_mapped, packets_mapped}
use Rattle.shown_stream.proofs.Shown.ComingSets.{IsTimedAs}
use Rattle.shown_stream.proofs.Shown.PlannedRegions.{planned_well}

-- ---- units of segments, and of their bytes

one_mapped : (page : ℕ) (unit : List SegmentValue)
    → sum_by length (map (spelled page) unit) ≡ sum_by (segment_bytes page) unit
one_mapped page [] = refl
one_mapped page (value ∷ unit) =
    omega (
      arith,
      one_mapped page unit,
      sum_by-cons (λ (bytes : List ℕ). length bytes) (spelled page value) (map (spelled page) unit),
      sum_by-cons (segment_bytes page) value unit,
    )

is_one_unit : (page : ℕ) (unit : List SegmentValue) → IsOneUnit (segment_bytes page) unit
    → IsOneUnit length (map (spelled page) unit)
is_one_unit page unit h = (omega (arith, h.0, length-map unit (spelled page)), by h.1)
  where
    by : (length unit ≡ 1) ⊎ (sum_by (segment_bytes page) unit ≤ UNIT_ROOM)
        → (length (map (spelled page) unit) ≡ 1) ⊎ (sum_by length (map (spelled page) unit) ≤ UNIT_ROOM)
    by (inl single) = inl (length-map unit (spelled page) ∙ single)
    by (inr small) = inr (omega (arith, small, one_mapped page unit))

is_closed : (page : ℕ) (unit : List SegmentValue) (units : List (List SegmentValue))
    → IsClosed (segment_bytes page) unit units → IsClosed length (map (spelled page) unit) (mapped_units page units)
is_closed page unit [] h = tt
is_closed page unit ([] ∷ units) h = tt
is_closed page unit ((next ∷ others) ∷ units) h = omega (arith, h, one_mapped page unit)

are_units : (page : ℕ) (units : List (List SegmentValue)) → AreUnits (segment_bytes page) units
    → AreUnits length (mapped_units page units)
are_units page [] h = tt
are_units page (unit ∷ units) h = (is_one_unit page unit h.0, is_closed page unit units h.1, are_units page units h.2)

shared_mapped : (page : ℕ) (segments : List SegmentValue) (units : List (List SegmentValue))
    → IsSharedOut (segment_bytes page) segments units
    → IsSharedOut length (map (spelled page) segments) (mapped_units page units)
shared_mapped page segments units h = record {
  whole = joined_mapped page units ∙ ap (map (spelled page)) h.whole;
  each = are_units page units h.each;
}

-- ---- a set

-- the set as it is sent
abbrev pub raw_as : ℕ → PlannedSet → List SegmentValue → RawSet
raw_as page set values = record { time = set.pts; segments = map (spelled page) values }

-- all of its segments count
known_segments : (script : Script) (page : ℕ) (set : PlannedSet) (packets : List (List ℕ)) (one : TimedSet)
    → (is : IsSentAs script page set packets one) → AreKnown page is.segments
known_segments script page set packets one is =
    let ends = its_segments script page set is.segments is.carried in
    subst (AreKnown page) (sym ends.are) (all_known page ends.inner ends.fit ends.end)

all_counted_as : (script : Script) (page : ℕ) (set : PlannedSet) (packets : List (List ℕ)) (one : TimedSet)
    → (is : IsSentAs script page set packets one)
    → map (spelled page) is.segments ≡ counted_in (only page) (raw_as page set is.segments)
all_counted_as script page set packets one is =
    counting.all_count (only page) (map (spelled page) is.segments)
    (all_headed page is.segments (known_segments script page set packets one is))

-- each of its units is what is counted of it
same_units : (page time : ℕ) (values : List (List SegmentValue)) → AreKnown page (joined_units values)
    → map (unit_with page time) values ≡ map (counted_unit (only page) time) (mapped_units page values)
same_units page time [] known = refl
same_units page time (unit ∷ values) known =
    let parts = parts_of_all (λ value. IsWritable page value × IsKnown value) unit (joined_units values) known in
    ap (λ size. record { size = size; segments = map (spelled page) unit } ∷ map (unit_with page time) values)
    (ap length (same_packet page time unit))
    ∙ ap (λ segments. record { size = length (raw_packet time (map (spelled page) unit)); segments = segments }
    ∷ map (unit_with page time) values)
    (counting.all_count (only page) (map (spelled page) unit) (all_headed page unit parts.0))
    ∙ ap (λ rest. counted_unit (only page) time (map (spelled page) unit) ∷ rest)
    (same_units page time values parts.1)

sent_raw : (script : Script) (page : ℕ) (set : PlannedSet) (packets : List (List ℕ)) (one : TimedSet)
    → (is : IsSentAs script page set packets one)
    → IsRawSent (only page) (raw_as page set is.segments) packets one
sent_raw script page set packets one is = record {
  units = mapped_units page is.units;
  shared = shared_mapped page is.segments is.units is.shared;
  written = is.written ∙ packets_mapped page set.pts is.units;
  time = is.time;
  each =
      is.each
      ∙ same_units page set.pts is.units
      (subst (AreKnown page) (sym is.shared.whole) (known_segments script page set packets one is));
}

-- it carries the set of the plan
carries_as : (script : Script) (page : ℕ) (set : PlannedSet) (packets : List (List ℕ)) (one : TimedSet)
    → (is : IsSentAs script page set packets one) → CarriesSet script (only page) set (raw_as page set is.segments)
carries_as script page set packets one is = record {
  time = refl;
  values = is.segments;
  planned = set_is_named script page set is.segments is.carried;
  written =
      subst (AllZip IsWrittenAs is.segments) (all_counted_as script page set packets one is)
      (all_written page is.segments (recursion_from_All (IsWritable page) is.segments is.carried.fit));
}

-- and comes as that
pub timed_as : (script : Script) (page : ℕ) (sets : List PlannedSet) (groups : List (List (List ℕ)))
    (sent : List TimedSet) → AreSentAs script page sets groups sent → AllZip (IsTimedAs script) sets sent
timed_as script page [] [] [] are = tt
timed_as script page [] [] (one ∷ sent) are = absurd are
timed_as script page [] (packets ∷ groups) sent are = absurd are
timed_as script page (set ∷ sets) [] sent are = absurd are
timed_as script page (set ∷ sets) (packets ∷ groups) [] are = absurd are
timed_as script page (set ∷ sets) (packets ∷ groups) (one ∷ sent) are =
    let is = are.0 in (
      record {
        time = is.time;
        values = is.segments;
        planned = set_is_named script page set is.segments is.carried;
        written = subst (AllZip IsWrittenAs is.segments) (sym is.are)
            (all_written page is.segments (recursion_from_All (IsWritable page) is.segments is.carried.fit));
      },
      timed_as script page sets groups sent are.1,
    )

-- its later units have no page
later_without : (page : ℕ) (values : List SegmentValue)
    → AllByRecursion (λ value. IsWritable page value × IsLater value) values
    → AllByRecursion (λ bytes. is_of_page (0x10 ∷ []) page bytes ≡ false) (map (spelled page) values)
later_without page [] h = tt
later_without page (value ∷ values) h =
    (plan.no_page_head page value h.0.0 (later_no_page value h.0.1), later_without page values h.1)

units_without : (page : ℕ) (values : List (List SegmentValue))
    → AllByRecursion (λ value. IsWritable page value × IsLater value) (joined_units values)
    → AllByRecursion (AreWithoutPage (only page))
    (mapped_units page values)
units_without page [] h = tt
units_without page (unit ∷ values) h =
    let parts = parts_of_all (λ value. IsWritable page value × IsLater value) unit (joined_units values) h in (
      All-from_recursion (λ bytes. is_of_page (0x10 ∷ []) page bytes ≡ false) (map (spelled page) unit)
          (later_without page unit parts.0),
      units_without page values parts.1,
    )

page_first_as : (script : Script) (page : ℕ) (set : PlannedSet) (packets : List (List ℕ)) (one : TimedSet)
    → (is : IsSentAs script page set packets one) → IsPlannedWell set
    → HasPageFirst (only page) (raw_as page set is.segments)
page_first_as script page set packets one is well = record {
  later_without = λ first more shared.
      let same = units_same length (map (spelled page) is.segments) (mapped_units page is.units) (first ∷ more)
      (shared_mapped page is.segments is.units is.shared) shared in
      All-from_recursion (AreWithoutPage (only page)) more
      (subst (AllByRecursion (AreWithoutPage (only page)))
      (ap (drop 1) same)
      (behind_first (later_are script page set packets one is well.few 0)));
}
  where
    behind_first : AllByRecursion (λ value. IsWritable page value × IsLater value) (joined_units (drop 1 is.units))
        → AllByRecursion (AreWithoutPage (only page))
        (drop 1 (mapped_units page is.units))
    behind_first later = by is.units later
      where
        by : (values : List (List SegmentValue))
            → AllByRecursion (λ value. IsWritable page value × IsLater value) (joined_units (drop 1 values))
            → AllByRecursion (AreWithoutPage (only page))
            (drop 1 (mapped_units page values))
        by [] later = tt
        by (unit ∷ values) later = units_without page values later

-- it can be sent
all_room : (time : ℕ) (values : List (List (List ℕ))) → AreShort (map (raw_packet time) values)
    → AllByRecursion (λ bytes. length bytes ≤ UNIT_ROOM) (flat_map (λ unit. unit) values)
all_room time [] short = tt
all_room time (unit ∷ values) short =
    all-append (λ bytes. length bytes ≤ UNIT_ROOM) unit (flat_map (λ unit. unit) values)
    (each unit (omega (arith, short.0, raw_size time unit))) (all_room time values short.1)
  where
    each : (unit : List (List ℕ)) → sum_by length unit ≤ UNIT_ROOM
        → AllByRecursion (λ bytes. length bytes ≤ UNIT_ROOM) unit
    each [] few = tt
    each (bytes ∷ unit) few =
        let all = sum_by-cons (λ (one : List ℕ). length one) bytes unit in
        (omega (arith, all, few), each unit (omega (arith, all, few)))

all_framed : (segments : List (List ℕ)) → AllByRecursion IsHead segments → AllByRecursion IsFramed segments
all_framed [] h = tt
all_framed (bytes ∷ segments) h = (framed_by_head bytes h.0, all_framed segments h.1)

sendable_as : (script : Script) (page : ℕ) (set : PlannedSet) (packets : List (List ℕ)) (one : TimedSet)
    → (is : IsSentAs script page set packets one) → AreShort packets → IsSendable (raw_as page set is.segments)
sendable_as script page set packets one is short =
    let segments = map (spelled page) is.segments in
    let shared = shared_mapped page is.segments is.units is.shared in
    record {
      framed = All-from_recursion IsFramed segments
          (all_framed segments (heads_of (only page) segments
          (all_headed page is.segments (known_segments script page set packets one is))));
      room = All-from_recursion (λ bytes. length bytes ≤ UNIT_ROOM) segments
          (subst (AllByRecursion (λ bytes. length bytes ≤ UNIT_ROOM)) shared.whole
          (all_room set.pts (mapped_units page is.units)
          (subst AreShort (is.written ∙ packets_mapped page set.pts is.units) short)));
    }

-- and its last segment ends it
ends_as : (coded : ℕ) (script : Script) (page : ℕ) (set : PlannedSet) (packets : List (List ℕ)) (one : TimedSet)
    → (is : IsSentAs script page set packets one) → IsTimedSet coded (only page) one
    → EndsLast (only page) (raw_as page set is.segments)
ends_as coded script page set packets one is whole before after bytes e end =
    none_behind_end (all_segments one) before after bytes (ended_set coded (only page) true one whole).ends
    (is.are ∙ all_counted_as script page set packets one is ∙ e) end

-- ---- all sets

-- the sets as they are sent
abbrev pub raw_sets : (script : Script) (page : ℕ) (sets : List PlannedSet) (groups : List (List (List ℕ)))
    (sent : List TimedSet) → AreSentAs script page sets groups sent → List RawSet
raw_sets script page [] [] [] are = []
raw_sets script page [] [] (one ∷ sent) are = absurd are
raw_sets script page [] (packets ∷ groups) sent are = absurd are
raw_sets script page (set ∷ sets) [] sent are = absurd are
raw_sets script page (set ∷ sets) (packets ∷ groups) [] are = absurd are
raw_sets script page (set ∷ sets) (packets ∷ groups) (one ∷ sent) are =
    raw_as page set are.0.segments ∷ raw_sets script page sets groups sent are.1

-- what is known of them
pub record AreRawOf (script : Script) (page : ℕ) (sets : List PlannedSet) (groups : List (List (List ℕ)))
    (raw : List RawSet) : Type 0 where
  pub carried : AllZip AreRawPackets raw groups
  pub carries : AllZip (CarriesSet script (only page)) sets raw
  pub sendable : AllByRecursion IsSendable raw
  pub ends : AllByRecursion (EndsLast (only page)) raw
  pub page_first : AllByRecursion (HasPageFirst (only page)) raw
  pub times : map (λ (set : PlannedSet). set.pts) sets ≡ map (λ (set : RawSet). set.time) raw

pub raw_of : (coded : ℕ) (script : Script) (page : ℕ) (sets : List PlannedSet) (groups : List (List (List ℕ)))
    (sent : List TimedSet) → (are : AreSentAs script page sets groups sent)
    → AllByRecursion (IsTimedSet coded (only page)) sent → AllByRecursion AreShort groups
    → AllByRecursion IsPlannedWell sets
    → AreRawOf script page sets groups (raw_sets script page sets groups sent are)
raw_of coded script page [] [] [] are whole short well =
    record { carried = tt; carries = tt; sendable = tt; ends = tt; page_first = tt; times = refl }
raw_of coded script page [] [] (one ∷ sent) are whole short well = absurd are
raw_of coded script page [] (packets ∷ groups) sent are whole short well = absurd are
raw_of coded script page (set ∷ sets) [] sent are whole short well = absurd are
raw_of coded script page (set ∷ sets) (packets ∷ groups) [] are whole short well = absurd are
raw_of coded script page (set ∷ sets) (packets ∷ groups) (one ∷ sent) are whole short well =
    let is = are.0 in
    let raw = sent_raw script page set packets one is in
    let more = raw_of coded script page sets groups sent are.1 whole.1 short.1 well.1 in
    record {
      carried = (record { units = raw.units; shared = raw.shared; are = raw.written }, more.carried);
      carries = (carries_as script page set packets one is, more.carries);
      sendable = (sendable_as script page set packets one is short.0, more.sendable);
      ends = (ends_as coded script page set packets one is whole.0, more.ends);
      page_first = (page_first_as script page set packets one is well.0, more.page_first);
      times = ap (λ rest. set.pts ∷ rest) more.times;
    }

-- ---- the stream

units_of_all : (script : Script) (page : ℕ) (sets : List PlannedSet) (groups : List (List (List ℕ)))
    (sent : List TimedSet) → AreSentAs script page sets groups sent → AllByRecursion IsPlannedWell sets
    → AllZip (IsPlannedUnits script) sets sent
units_of_all script page [] [] [] are well = tt
units_of_all script page [] [] (one ∷ sent) are well = absurd are
units_of_all script page [] (packets ∷ groups) sent are well = absurd are
units_of_all script page (set ∷ sets) [] sent are well = absurd are
units_of_all script page (set ∷ sets) (packets ∷ groups) [] are well = absurd are
units_of_all script page (set ∷ sets) (packets ∷ groups) (one ∷ sent) are well =
    let is = are.0 in (
      planned_units script (only page) set (raw_as page set is.segments) packets one
          (carries_as script page set packets one is) (page_first_as script page set packets one is well.0)
          (sent_raw script page set packets one is),
      units_of_all script page sets groups sent are.1 well.1,
    )

pub all_well : (left : List PlannedSet)
    → ((number : ℕ) (set : PlannedSet) → slice_get left number ≡ Some set → IsPlannedWell set)
    → AllByRecursion IsPlannedWell left
all_well [] well = tt
all_well (set ∷ left) well = (well 0 set refl, all_well left (λ number other found. well (suc number) other found))

-- the sets of a compiled stream are sent for a receiver of its page
pub compiled_plan : (compiling : Compiling) (bytes : List ℕ) → IsFree compiling.pid
    → (compiled : IsCompiledTo compiling bytes)
    → (known : ArePackets compiling bytes compiled)
    → IsPlanSent (profile_of compiling.profile).coded compiling.pid (only compiling.page) (profile_of compiling.profile)
    compiling.script compiled.table compiled.sets
    (packets_in compiling bytes compiled) known.sent
compiled_plan compiling bytes free compiled known =
    let coded = (profile_of compiling.profile).coded in
    let pace = pace_of compiling.script.origin (profile_of compiling.profile) in
    let sent = known.sent in
    let well =
    all_well compiled.sets
    (λ number set found. planned_well compiling.script (profile_of compiling.profile) compiled.sets number set
    compiled.planned.plan
    found) in
    let are = units_of_all compiling.script compiling.page compiled.sets compiled.units sent known.are.are well in
    let sets =
    sent_sets_of coded (only compiling.page) compiled.loads compiled.units pace compiled.table sent compiled.each
    compiled.sized compiled.schedule known.units known.are.carry known.apart
    (have_as_many compiling.script compiling.page compiled.sets compiled.units sent known.are.are) in
    let same : map counted_set sent ≡ sent =
    sym (all_counted compiling.script compiled.sets sent are)
    ∙ all_count coded true sent (all_ended coded (only compiling.page) true sent known.are.carry.whole) in
    subst (IsPlanSent coded compiling.pid (only compiling.page) (profile_of compiling.profile) compiling.script
    compiled.table compiled.sets
    (packets_in compiling bytes compiled)) same
    (plan_sent coded compiling.pid (only compiling.page) (profile_of compiling.profile) compiling.script compiled.loads
    compiled.units pace compiled.table
    compiled.sets sent free known.stream sets compiled.planned.plan are)

-- what a receiver gets of a compiled stream that it enters behind so many packets
abbrev pub IsEnteredLate : (compiling : Compiling) (bytes : List ℕ)
    → IsCompiledTo compiling bytes → List TimedSet → ℕ → Type 0
IsEnteredLate compiling bytes compiled sent missed =
    plan.IsEnteredLate (profile_of compiling.profile).coded compiling.pid (only compiling.page) compiling.script
    compiled.table compiled.sets
    (packets_in compiling bytes compiled) sent missed

pub compiled_late : (compiling : Compiling) (bytes : List ℕ) → IsFree compiling.pid
    → (compiled : IsCompiledTo compiling bytes)
    → (known : ArePackets compiling bytes compiled)
    → (missed : ℕ) → IsEnteredLate compiling bytes compiled known.sent missed
compiled_late compiling bytes free compiled known missed =
    (compiled_plan compiling bytes free compiled known).late missed
