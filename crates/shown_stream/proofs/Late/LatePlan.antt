-- The sets of a plan that are sent for some pages, in a stream that is entered late: all come whose packets all come;
-- before them at most later units of a set, which have no page.
use Rattle.std.proofs.Common.{◌≡◌, ◌∙◌, ℕ, zero, suc, ◌%◌, ◌<◌, ◌≤◌, Bool, true, false, ◌&&◌, ◌||◌, cond, eqb, List, [], ◌∷◌, ◌++◌, length, map, drop, filter, Some, None, refl, sym, ap, subst, arith, length-append}
use Rattle.std.specs.Prelude.{nat_le, slice_get}
use Rattle.std.specs.Bool.{if◌then◌else◌}
use Rattle.std.specs.List.{AllByRecursion, AllZip, list_any}
use Rattle.std.proofs.lemmas.List.{drop-map, length-map}
use Rattle.std.proofs.lemmas.List.Elements.{recursion_from_All}
use Rattle.std.proofs.lemmas.Option.{slice_get_within}
use Rattle.sub_base.specs.Lists.{all_of, has_some}
use Rattle.sub_base.specs.declared.load.WriteLoad.{WriteLoad}
use Rattle.sub_base.specs.declared.pace.Pace.{Pace}
use Rattle.sub_base.specs.declared.profile.Profile.{Profile}
use Rattle.stream_syntax.specs.Segments.{SegmentValue, of_page, of_region, of_clut, of_object, of_display, end_of_set, passed_over, spelled, segment_kind, IsWritable, set_kinds}
use Rattle.stream_syntax.specs.Tests.{byte_at, word_at}
use Rattle.stream_syntax.specs.declared.wire.TheConstants.{PAGE_COMPOSITION, TIME_ROUND}
use Rattle.segments.proofs.Spellings.{spelled_head}
use Rattle.cue_list.specs.declared.script.Script.{Script}
use Rattle.page_epoch.specs.Plan.{IsPlan}
use Rattle.page_epoch.specs.declared.planned_set.PlannedSet.{PlannedSet}
use Rattle.schedule.specs.Slots.{Timetable, slots_of}
use Rattle.pes_packets.specs.Units.{IsSharedOut}
use Rattle.decoder_model.proofs.Lists.{all-append}
use Rattle.decoder_model.specs.Contents.{page_in_set}
use Rattle.decoder_model.specs.Faults.{contents_in}
use Rattle.decoder_model.specs.Frames.{is_of_page, is_of_pages, shared_kinds}
use Rattle.decoder_model.specs.Readings.{Reading, AreReadings}
use Rattle.decoder_model.specs.Sets.{sets_of}
use Rattle.decoder_model.specs.Streams.{entered_at, is_from}
use Rattle.decoder_model.specs.declared.pages.Pages.{Pages}
use Rattle.slot_stream.proofs.SentPieces.{IsFree}
use Rattle.sent_sets.specs.RawSets.{RawSet, counted_in}
use Rattle.sent_sets.proofs.LateSets.{rest_of_set, rest_segments, IsRest, none_left, some_left, zip_behind}
use Rattle.sent_sets.proofs.PacketCounts.{as_many}
use Rattle.sent_sets.proofs.RawUnits.{IsRawSent, counted_segments, counted_unit, counted_of_units}
use Rattle.sent_sets.proofs.SentLate.{count_sent, AreSentSets, ComeLate, come_late}
use Rattle.sent_sets.proofs.SentLists.{counted-append, same_segments, same_some}
use Rattle.sent_sets.proofs.SentPackets.{stream_packets, AreSentPackets}
use Rattle.sent_sets.proofs.SetEnds.{delivered}
use Rattle.sent_sets.proofs.SlotPlaces.{has_place, some_bytes}
use Rattle.sent_sets.proofs.Units.{SetUnit, TimedSet, segments_of_units, all_segments, has_segments, counted_set, counted_sets}
use Rattle.shown_plan.proofs.Segments.ByPlace.{some_segments}
use Rattle.shown_stream.specs.SentPlan.{IsWrittenAs, CarriesSet, AreWithoutPage, HasPageFirst}
use Rattle.shown_stream.specs.SentSets.{sent_set}
use Rattle.shown_stream.proofs.Late.LateRest.{IsNoPage, no_page_read}
use Rattle.shown_stream.proofs.Shown.ComingSets.{IsTimedAs}

-- ---- segments that are no page

-- a segment that counts, and is no page composition of the composition page, is no page
no_page_kind : (own shared : Bool) → (own && (true || false)) ≡ false
    → ((own && true) || (shared && false)) ≡ true → ⊥
no_page_kind true shared h k = absurd (cc)
no_page_kind false true h k = absurd (cc)
no_page_kind false false h k = absurd (cc)

no_page_value : (pages : Pages) (value : SegmentValue) (bytes : List ℕ) → IsWrittenAs value bytes
    → is_of_pages pages bytes ≡ true → is_of_page (PAGE_COMPOSITION ∷ []) pages.composition bytes ≡ false
    → IsNoPage value
no_page_value pages (of_page value) bytes written counts no_page =
    let kind : byte_at 1 bytes ≡ 0x10 =
    ap (byte_at 1) written.2 ∙ (spelled_head written.0 (of_page value) written.1).kind_is in
    let own : Bool = eqb (word_at 2 bytes) pages.composition in
    let shared : Bool = eqb (word_at 2 bytes) pages.ancillary in
    absurd (no_page_kind own shared
    (subst (λ (found : ℕ). (own && (eqb found 0x10 || false)) ≡ false) kind no_page)
    (subst (λ (found : ℕ). ((own && list_any (λ kind. eqb found kind) set_kinds)
    || (shared && list_any (λ kind. eqb found kind) shared_kinds)) ≡ true) kind counts))
no_page_value pages (of_region value) bytes written counts no_page = refl
no_page_value pages (of_clut value) bytes written counts no_page = refl
no_page_value pages (of_object value) bytes written counts no_page = refl
no_page_value pages (of_display value) bytes written counts no_page = refl
no_page_value pages end_of_set bytes written counts no_page = refl
no_page_value pages passed_over bytes written counts no_page = refl

never_so : (b : Bool) → (b && false) ≡ false
never_so true = refl
never_so false = refl

other_head : (page : ℕ) (value : SegmentValue) → IsWritable page value → eqb (segment_kind value) 0x10 ≡ false
    → is_of_page (PAGE_COMPOSITION ∷ []) page (spelled page value) ≡ false
other_head page value writable other =
    let own : Bool = eqb (word_at 2 (spelled page value)) page in
    ap (λ kind. own && (eqb kind 0x10 || false)) (spelled_head page value writable).kind_is
    ∙ ap (λ b. own && (b || false)) other ∙ never_so own

pub no_page_head : (page : ℕ) (value : SegmentValue) → IsWritable page value → IsNoPage value
    → is_of_page (PAGE_COMPOSITION ∷ []) page (spelled page value) ≡ false
no_page_head page (of_page value) writable none = absurd (cc)
no_page_head page (of_region value) writable none = other_head page (of_region value) writable refl
no_page_head page (of_clut value) writable none = other_head page (of_clut value) writable refl
no_page_head page (of_object value) writable none = other_head page (of_object value) writable refl
no_page_head page (of_display value) writable none = other_head page (of_display value) writable refl
no_page_head page end_of_set writable none = other_head page end_of_set writable refl
no_page_head page passed_over writable none = other_head page passed_over writable refl

-- bytes of which none is a page composition of the composition page
abbrev AreWithout : Pages → List (List ℕ) → Type 0
AreWithout pages segments =
    AllByRecursion (λ bytes. is_of_page (PAGE_COMPOSITION ∷ []) pages.composition bytes ≡ false) segments

no_page_values : (pages : Pages) (values : List SegmentValue) (segments : List (List ℕ))
    → AllZip IsWrittenAs values segments → AllByRecursion (λ bytes. is_of_pages pages bytes ≡ true) segments
    → AreWithout pages segments → AllByRecursion IsNoPage values
no_page_values pages [] [] written counts none = tt
no_page_values pages [] (bytes ∷ segments) written counts none = absurd written
no_page_values pages (value ∷ values) [] written counts none = absurd written
no_page_values pages (value ∷ values) (bytes ∷ segments) written counts none = (
  no_page_value pages value bytes written.0 counts.0 none.0,
  no_page_values pages values segments written.1 counts.1 none.1,
)

-- ---- lists

each_passes : (test : List ℕ → Bool) (segments : List (List ℕ))
    → AllByRecursion (λ bytes. test bytes ≡ true) (filter test segments)
each_passes test [] = tt
each_passes test (bytes ∷ segments) = by (test bytes) refl (each_passes test segments)
  where
    by : (b : Bool) → test bytes ≡ b → AllByRecursion (λ bytes. test bytes ≡ true) (filter test segments)
        → AllByRecursion (λ bytes. test bytes ≡ true)
        (cond b (bytes ∷ filter test segments) (filter test segments))
    by true is rest = (is, rest)
    by false is rest = rest

some_pass : (P : List ℕ → Type 0) (test : List ℕ → Bool) (segments : List (List ℕ))
    → AllByRecursion P segments
    → AllByRecursion P (filter test segments)
some_pass P test [] h = tt
some_pass P test (bytes ∷ segments) h = by (test bytes) (some_pass P test segments h.1)
  where
    by : (b : Bool) → AllByRecursion P (filter test segments)
        → AllByRecursion P (cond b (bytes ∷ filter test segments) (filter test segments))
    by true rest = (h.0, rest)
    by false rest = rest

all_units_without : (pages : Pages) (units : List (List (List ℕ)))
    → AllByRecursion
    (AreWithoutPage pages)
    units
    → AreWithout pages (all_of units)
all_units_without pages [] h = tt
all_units_without pages (unit ∷ units) h =
    all-append (λ bytes. is_of_page (PAGE_COMPOSITION ∷ []) pages.composition bytes ≡ false) unit (all_of units)
    (recursion_from_All (λ bytes. is_of_page (PAGE_COMPOSITION ∷ []) pages.composition bytes ≡ false) unit h.0)
    (all_units_without pages units h.1)

drop_by : {X : Type 0} (P : X → Type 0) (n : ℕ) (xs : List X) → AllByRecursion P xs
    → AllByRecursion P (drop n xs)
drop_by P zero xs h = h
drop_by P (suc n) [] h = tt
drop_by P (suc n) (x ∷ xs) h = drop_by P n xs h.1

-- what goes with the end of a list
behind_front : {A B : Type 0} (R : A → B → Type 0) (xs : List A) (front back : List B)
    → AllZip R xs (front ++ back)
    → (ends : List A) × AllZip R ends back
behind_front R xs [] back h = (xs, h)
behind_front R [] (y ∷ front) back h = absurd h
behind_front R (x ∷ xs) (y ∷ front) back h = behind_front R xs front back h.1

pub zip_some : {A B : Type 0} (R : A → B → Type 0) (xs : List A) (ys : List B) → AllZip R xs ys
    → 1 ≤ length xs
    → has_some ys ≡ true
zip_some R [] ys h some = absurd (omega arith)
zip_some R (x ∷ xs) [] h some = absurd h
zip_some R (x ∷ xs) (y ∷ ys) h some = refl

-- ---- the units of a set

-- the segments of later units: the last of the set's, and as they are read none of them is a page
pub record IsLaterPart (whole part : TimedSet) : Type 0 where
  pub time : part.time ≡ whole.time
  pub front : List (List ℕ)
  pub ends : all_segments whole ≡ front ++ all_segments part
  pub none : (readings : List Reading) → AreReadings (all_segments part) readings
      → page_in_set (contents_in readings) ≡ None

-- a set of a plan as it comes in its units, in a receiver of some pages
pub record IsPlannedUnits (script : Script) (set : PlannedSet) (one : TimedSet) : Type 0 where
  pub counts : has_some (filter has_segments one.units) ≡ true
  pub timed : IsTimedAs script set (counted_set one)
  pub later : (k : ℕ) → 1 ≤ k → k < length one.units
      → IsLaterPart (counted_set one) (counted_set (rest_of_set k one))

pub planned_units : (script : Script) (pages : Pages) (set : PlannedSet) (raw : RawSet) (packets : List (List ℕ))
    (one : TimedSet) → CarriesSet script pages set raw → HasPageFirst pages raw → IsRawSent pages raw packets one
    → IsPlannedUnits script set one
planned_units script pages set raw packets one carries first is = record {
  counts = same_some one.units ∙ ap has_some segments ∙ zip_some IsWrittenAs carries.values (counted_in pages raw)
      carries.written (some_segments carries.planned);
  timed = record {
    time = is.time ∙ ap (λ time. time % TIME_ROUND) carries.time;
    values = carries.values;
    planned = carries.planned;
    written = written;
  };
  later = later;
}
  where
    segments : all_segments one ≡ counted_in pages raw
    segments = counted_segments pages raw packets one is

    written : AllZip IsWrittenAs carries.values (all_segments (counted_set one))
    written = subst (AllZip IsWrittenAs carries.values) (sym (same_segments one.units ∙ segments)) carries.written

    part : (k : ℕ) → all_segments (counted_set (rest_of_set k one))
        ≡ filter (is_of_pages pages) (all_of (drop k is.units))
    part k =
        same_segments (drop k one.units)
        ∙ ap (λ (all : List SetUnit). segments_of_units (drop k all)) is.each
        ∙ ap segments_of_units (drop-map (counted_unit pages raw.time) k is.units)
        ∙ counted_of_units pages raw.time (drop k is.units)

    without : (k : ℕ) → 1 ≤ k → k < length one.units → AreWithout pages (all_of (drop k is.units))
    without k some few =
        by is.units is.shared k some
        (omega (arith, few, ap length is.each, length-map is.units (counted_unit pages raw.time)))
      where
        by : (units : List (List (List ℕ))) → IsSharedOut length raw.segments units → (k : ℕ) → 1 ≤ k
            → k < length units → AreWithout pages (all_of (drop k units))
        by [] shared k some few = absurd (omega arith)
        by (unit ∷ units) shared zero some few = absurd (omega arith)
        by (unit ∷ units) shared (suc k) some few =
            all_units_without pages (drop k units)
            (drop_by (AreWithoutPage pages)
            k units
            (recursion_from_All
            (AreWithoutPage pages)
            units
            (first.later_without unit units shared)))

    later : (k : ℕ) → 1 ≤ k → k < length one.units
        → IsLaterPart (counted_set one) (counted_set (rest_of_set k one))
    later k some few =
        let split = rest_segments k one.units in
        let ends : all_segments (counted_set one) ≡ split.0 ++ all_segments (counted_set (rest_of_set k one)) =
        same_segments one.units ∙ split.1
        ∙ ap (λ rest. split.0 ++ rest) (sym (same_segments (drop k one.units))) in
        let values =
        behind_front IsWrittenAs carries.values split.0 (all_segments (counted_set (rest_of_set k one)))
        (subst (AllZip IsWrittenAs carries.values) ends written) in
        let counted : AllByRecursion (λ bytes. is_of_pages pages bytes ≡ true)
        (all_segments (counted_set (rest_of_set k one))) =
        subst (AllByRecursion (λ bytes. is_of_pages pages bytes ≡ true)) (sym (part k))
        (each_passes (is_of_pages pages) (all_of (drop k is.units))) in
        let none : AreWithout pages (all_segments (counted_set (rest_of_set k one))) =
        subst (AreWithout pages) (sym (part k))
        (some_pass (λ bytes. is_of_page (PAGE_COMPOSITION ∷ []) pages.composition bytes ≡ false)
        (is_of_pages pages) (all_of (drop k is.units)) (without k some few)) in
        record {
          time = refl;
          front = split.0;
          ends = ends;
          none = λ readings are. no_page_read values.0 (all_segments (counted_set (rest_of_set k one))) readings
              (no_page_values pages values.0 (all_segments (counted_set (rest_of_set k one))) values.1 counted none)
              values.1 are;
        }

-- ---- what comes

-- what comes of a set of which the first packets do not: later units of it
pub record IsCutSet (script : Script) (table : Timetable) (sets : List PlannedSet) (missed first : ℕ)
    (part : TimedSet) : Type 0 where
  pub number : ℕ
  pub next : first ≡ suc number
  pub set : PlannedSet
  pub found : slice_get sets number ≡ Some set
  pub whole : TimedSet
  pub timed : IsTimedAs script set whole
  pub later : IsLaterPart whole part
  pub come : list_any (λ at. nat_le missed at) (slots_of table number) ≡ true

-- what a receiver gets of the sets that enters behind so many packets: all sets whose packets all come, and before them
-- at most the rest of one
pub record IsEnteredLate (coded pid : ℕ) (pages : Pages) (script : Script) (table : Timetable)
    (sets : List PlannedSet) (packets : List (List ℕ)) (sent : List TimedSet) (missed : ℕ) : Type 0 where
  pub first : ℕ
  pub few : first ≤ length sent
  pub rest : List TimedSet
  pub one : length rest ≤ 1
  pub most : length rest ≤ first
  pub come : sets_of coded pid pages true (entered_at missed packets) ≡ map delivered (rest ++ drop first sent)
  pub whole : (i : ℕ) (set : PlannedSet) → i < length sets
      → (i < first → is_from missed (sent_set table i set) ≡ false)
      × (first ≤ i → is_from missed (sent_set table i set) ≡ true)
  pub cut : AllByRecursion (IsCutSet script table sets missed first) rest

-- the set of a number
record AtNumber (script : Script) (number : ℕ) (sets : List PlannedSet) (one : TimedSet) : Type 0 where
  set : PlannedSet
  found : slice_get sets number ≡ Some set
  is : IsPlannedUnits script set one

at_number : (script : Script) (number : ℕ) (sets : List PlannedSet) (sent : List TimedSet) (one : TimedSet)
    → AllZip (IsPlannedUnits script) sets sent → slice_get sent number ≡ Some one
    → AtNumber script number sets one
at_number script number sets [] one are found = absurd (cc)
at_number script number [] (first ∷ sent) one are found = absurd are
at_number script zero (set ∷ sets) (first ∷ sent) one are found =
    let same : first ≡ one = cc in
    record { set = set; found = refl; is = subst (IsPlannedUnits script set) same are.0 }
at_number script (suc number) (set ∷ sets) (first ∷ sent) one are found =
    let there = at_number script number sets sent one are.1 found in
    record { set = there.set; found = there.found; is = there.is }

-- each set counts
pub all_counted : (script : Script) (sets : List PlannedSet) (sent : List TimedSet)
    → AllZip (IsPlannedUnits script) sets sent → counted_sets sent ≡ map counted_set sent
all_counted script [] [] are = refl
all_counted script [] (one ∷ sent) are = absurd are
all_counted script (set ∷ sets) [] are = absurd are
all_counted script (set ∷ sets) (one ∷ sent) are =
    ap (λ (b : Bool). if b then counted_set one ∷ counted_sets sent else counted_sets sent) are.0.counts
    ∙ ap (λ rest. counted_set one ∷ rest) (all_counted script sets sent are.1)

all_timed : (script : Script) (sets : List PlannedSet) (sent : List TimedSet)
    → AllZip (IsPlannedUnits script) sets sent → AllZip (IsTimedAs script) sets (map counted_set sent)
all_timed script [] [] are = tt
all_timed script [] (one ∷ sent) are = absurd are
all_timed script (set ∷ sets) [] are = absurd are
all_timed script (set ∷ sets) (one ∷ sent) are = (are.0.timed, all_timed script sets sent are.1)

same_length : {A B : Type 0} (R : A → B → Type 0) (xs : List A) (ys : List B) → AllZip R xs ys
    → length xs ≡ length ys
same_length R [] [] h = refl
same_length R [] (y ∷ ys) h = absurd h
same_length R (x ∷ xs) [] h = absurd h
same_length R (x ∷ xs) (y ∷ ys) h = ap suc (same_length R xs ys h.1)

-- the sets of a plan that are sent for a receiver of some pages
pub record IsPlanSent (coded pid : ℕ) (pages : Pages) (profile : Profile) (script : Script) (table : Timetable)
    (sets : List PlannedSet) (packets : List (List ℕ)) (sent : List TimedSet) : Type 0 where
  pub plan : IsPlan script profile sets
  pub timed : AllZip (IsTimedAs script) sets sent
  pub places : (number : ℕ) (set : PlannedSet) → slice_get sets number ≡ Some set
      → 1 ≤ length (slots_of table number)
  pub late : (missed : ℕ) → IsEnteredLate coded pid pages script table sets packets sent missed

pub plan_sent : (coded pid : ℕ) (pages : Pages) (profile : Profile) (script : Script) (loads : List WriteLoad)
    (units : List (List (List ℕ))) (pace : Pace) (table : Timetable) (sets : List PlannedSet) (sent : List TimedSet)
    → IsFree pid → AreSentPackets coded pid units table → AreSentSets coded pages loads units pace table sent
    → IsPlan script profile sets → AllZip (IsPlannedUnits script) sets sent
    → IsPlanSent coded pid pages profile script table sets (stream_packets pid units table) (map counted_set sent)
plan_sent coded pid pages profile script loads units pace table sets sent free stream known plan are = record {
  plan = plan;
  timed = all_timed script sets sent are;
  places = λ number set found.
      let inside = slice_get_within sets number set found in
      has_place loads (length loads) pace table known.schedule number (omega (arith, all, inside))
      (some_bytes coded loads units known.sized known.some known.units_are number (omega (arith, all, inside)));
  late = λ missed. entered missed (come_late coded pid pages loads units pace table sent free stream known missed);
}
  where
    many : length sets ≡ length sent
    many = same_length (IsPlannedUnits script) sets sent are

    all : length loads ≡ length sets
    all = as_many loads units known.sized ∙ sym (count_sent units sent known.many) ∙ sym many

    entered : (missed : ℕ) → ComeLate coded pid pages units table sent missed
        → IsEnteredLate coded pid pages script table sets (stream_packets pid units table) (map counted_set sent)
        missed
    entered missed late = record {
      first = late.first;
      few = omega (arith, late.few, length-map sent counted_set);
      rest = counted_sets late.rest;
      one = one_at_most late.first late.rest late.is_rest;
      most = at_most late.first late.rest late.is_rest;
      come =
          late.come
          ∙ ap (map delivered)
          (counted-append late.rest (drop late.first sent)
          ∙ ap (λ rest. counted_sets late.rest ++ rest)
          (all_counted script (drop late.first sets) (drop late.first sent)
          (zip_behind (IsPlannedUnits script) late.first sets sent are)
          ∙ sym (drop-map counted_set late.first sent)));
      whole = λ i set inside. late.whole i (omega (arith, many, inside));
      cut = cut_by late.first late.rest late.is_rest late.reached;
    }
      where
        one_at_most : (first : ℕ) (rest : List TimedSet) → IsRest sent first rest
            → length (counted_sets rest) ≤ 1
        one_at_most first rest (none_left) = omega arith
        one_at_most first rest (some_left {set = one} {k = k} found some few) =
            by (has_some (filter has_segments (drop k one.units)))
          where
            by : (b : Bool) → length (if b then counted_set (rest_of_set k one) ∷ [] else []) ≤ 1
            by true = omega arith
            by false = omega arith

        at_most : (first : ℕ) (rest : List TimedSet) → IsRest sent first rest
            → length (counted_sets rest) ≤ first
        at_most first rest (none_left) = omega arith
        at_most first rest (some_left {n = number} {set = one} {k = k} found some few) =
            by (has_some (filter has_segments (drop k one.units)))
          where
            by : (b : Bool) → length (if b then counted_set (rest_of_set k one) ∷ [] else []) ≤ suc number
            by true = omega arith
            by false = omega arith

        cut_by : (first : ℕ) (rest : List TimedSet) → IsRest sent first rest
            → ((number : ℕ) → first ≡ suc number → 1 ≤ length rest
            → list_any (λ at. nat_le missed at) (slots_of table number) ≡ true)
            → AllByRecursion (IsCutSet script table sets missed first) (counted_sets rest)
        cut_by first rest (none_left) reached = tt
        cut_by first rest (some_left {n = number} {set = one} {k = k} found some few) reached =
            by (has_some (filter has_segments (drop k one.units)))
          where
            at : AtNumber script number sets one
            at = at_number script number sets sent one are found

            by : (b : Bool) → AllByRecursion (IsCutSet script table sets missed (suc number))
                (if b then counted_set (rest_of_set k one) ∷ [] else [])
            by false = tt
            by true = (
              record {
                number = number;
                next = refl;
                set = at.set;
                found = at.found;
                whole = counted_set one;
                timed = at.is.timed;
                later = at.is.later k some few;
                come = reached number refl (omega arith);
              },
              tt,
            )
