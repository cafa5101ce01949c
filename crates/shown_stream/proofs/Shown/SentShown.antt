-- A receiver that enters behind any number of packets, where the sets of a plan are sent for its pages, shows nothing
-- before the time of the first set that it gets whole and that is not normal, and from then on what the script authors.
use Rattle.std.proofs.Common.{◌≡◌, ◌∙◌, ◌⊎◌, inl, inr, ℕ, zero, suc, ◌%◌, ◌<◌, ◌≤◌, false, true, List, [], ◌∷◌, ◌++◌, length, map, take, drop, reverse, Option, Some, None, refl, sym, ap, subst, arith, append-nil, length-drop}
use Rattle.std.specs.Prelude.{slice_get, unwrap_or}
use Rattle.std.specs.List.{AllByRecursion, AllZip}
use Rattle.std.specs.List.Sorted.{IsStrictlyIncreasing}
use Rattle.std.specs.Option.{option_or}
use Rattle.std.proofs.Math.Logic.{∥∥₁_elim}
use Rattle.std.proofs.Props.{props}
use Rattle.std.proofs.lemmas.Bool.{cases_lt}
use Rattle.std.proofs.lemmas.List.{map-append, take-append-drop, reverse-reverse}
use Rattle.std.proofs.lemmas.Option.{slice_get_within}
use Rattle.sub_base.specs.Profile.{profile_of}
use Rattle.sub_base.specs.declared.profile.Profile.{Profile}
use Rattle.cue_list.specs.Sound.{IsSoundScript, IsTick}
use Rattle.cue_records.specs.declared.limits.TheConstants.{LATEST_ORIGIN}
use Rattle.cue_list.specs.declared.script.Script.{Script}
use Rattle.page_epoch.specs.Plan.{IsPlan}
use Rattle.page_epoch.specs.declared.planned_set.PlannedSet.{PlannedSet}
use Rattle.stream_syntax.specs.declared.wire.TheConstants.{TIME_ROUND}
use Rattle.schedule.specs.Slots.{Timetable, slots_of}
use Rattle.decoder_model.specs.Kept.{last_time, lifted_behind, lifted_time, epoch_of}
use Rattle.decoder_model.specs.Painting.{painting_by}
use Rattle.decoder_model.specs.Readings.{Reading, AreReadings, IsDeliveryRead, AreDeliveriesRead}
use Rattle.decoder_model.specs.Received.{HasReceived, sets_received}
use Rattle.decoder_model.specs.Sets.{Delivery, whole}
use Rattle.decoder_model.specs.Shown.{IsClear, view_at}
use Rattle.decoder_model.specs.Streams.{SentSet, is_from, entry_set, entered_at, IsShownFrom}
use Rattle.decoder_model.specs.Verdict.{verdict_of, sets_since}
use Rattle.decoder_model.specs.declared.set_end.SetEnd.{SetEnd}
use Rattle.decoder_model.specs.declared.set_end.SetEnd.TheVariants.{Broken}
use Rattle.shown_plan.proofs.Steps.Fair.{fair}
use Rattle.shown_plan.proofs.Segments.PlannedSets.{in_epoch}
use Rattle.shown_stream.specs.Entered.{IsEnteredRightly}
use Rattle.shown_stream.specs.KeptSets.{IsFromEntry, IsKept}
use Rattle.shown_stream.specs.SentSets.{sent_set, sent_from, sent_sets, first_times_from}
use Rattle.shown_stream.specs.Shows.{authored_view, IsAnchorOf}
use Rattle.received_level_laws.specs.StreamCalls.{call_by, set_call}
use Rattle.shown_stream.proofs.Shown.ComingSets.{SetComes, set_comes, all_come}
use Rattle.shown_stream.proofs.Shown.EnteredRuns.{none_with, turned, turned_is, IsReceivedSo, AreFrom, wait_for}
use Rattle.shown_stream.proofs.Shown.FirstTimes.{first_suits}
use Rattle.shown_stream.proofs.Shown.EnteredTimes.{one_of_all, near_all, near_first, drop_within, drop_rises, drop_found, found_drop, entry_behind, are_from}
use Rattle.shown_stream.proofs.Shown.HeldSets.{HoldsEach, holds_none, holds_next}
use Rattle.reading_laws.proofs.OneReading.{same_past}
use Rattle.shown_stream.proofs.Shown.PlannedRegions.{planned_well}
use Rattle.shown_stream.proofs.Sent.PlannedTimes.{pts_of, times_in_span, pts_rise}
use Rattle.shown_stream.proofs.Shown.SetPaintings.{painting_in, calls_behind}
use Rattle.shown_stream.proofs.Shown.ShownSets.{AreAheadOf, IsIdle, lifted_at}
use Rattle.sent_sets.proofs.SetEnds.{delivered}
use Rattle.sent_sets.proofs.Units.{SetUnit, TimedSet, segments_of_units, size_of_units, all_segments}
use Rattle.sent_sets.proofs.LateSets.{zip_behind}
use Rattle.decoder_model.specs.declared.pages.Pages.{Pages}
use Rattle.decoder_model.specs.declared.set_fault.SetFault.{SetFault}
use Rattle.shown_stream.proofs.Late.LateRest.{IsBrokenFirst, comes_broken}
use Rattle.shown_stream.proofs.Late.LatePlan.{IsCutSet, IsEnteredLate, IsPlanSent}
use Rattle.shown_stream.specs.SentPlan.{SentPlan, received_with}

-- ---- what comes before the sets that come whole

-- a part of segments that are read is read
pub part_read : (xs ys : List (List ℕ)) (readings : List Reading) → AreReadings (xs ++ ys) readings
    → (more : List Reading) × AreReadings ys more
part_read [] ys readings are = (readings, are)
part_read (x ∷ xs) ys [] are = absurd are
part_read (x ∷ xs) ys (reading ∷ readings) are = part_read xs ys readings are.1

pub rest_read : (k : ℕ) (units : List SetUnit) (readings : List Reading)
    → AreReadings (segments_of_units units) readings → (more : List Reading)
    × AreReadings (segments_of_units (drop k units)) more
rest_read zero units readings are = (readings, are)
rest_read (suc k) [] readings are = (readings, are)
rest_read (suc k) (one ∷ units) readings are =
    let part = part_read one.segments (segments_of_units units) readings are in rest_read k units part.0 part.1

nothing_known : epoch_of [] ≡ None
unfolding epoch_of
nothing_known = refl

-- a receiver that has got nothing knows no epoch and shows nothing
pub new_receiver : (profile : Profile) (anchor : ℕ) → IsIdle profile anchor []
unfolding sets_since view_at
new_receiver profile anchor = record { unknown = nothing_known; clear = λ tick. tt }

pub no_time : (anchor : ℕ) → last_time {S = Reading} anchor [] ≡ None
unfolding last_time
no_time anchor = refl

one_time : (anchor lifted : ℕ) (first : Delivery Reading) → lifted_time anchor [] first ≡ Some lifted
    → last_time anchor (first ∷ []) ≡ Some lifted
unfolding last_time
one_time anchor lifted first is = ap (λ found. option_or found None) is

-- nor does one that has got later units of a set
behind_rest : (profile : Profile) (anchor : ℕ) (first : Delivery Reading) → IsBrokenFirst profile anchor first
    → IsIdle profile anchor (first ∷ [])
behind_rest profile anchor first broken =
    record {
      unknown = ap epoch_of broken.counts
          ∙ nothing_known;
      clear = λ tick. subst IsClear (sym (broken.clear tick)) tt;
    }

-- what a receiver has got before the sets that come whole
pub record IsBegun (script : Script) (profile : Profile) (anchor : ℕ) (sets : List PlannedSet) (rest : List TimedSet)
    (left : List PlannedSet) : Type 0 where
  pub past : List (Delivery Reading)
  pub read : AreDeliveriesRead (turned (map delivered rest) []) past
  pub idle : IsIdle profile anchor past
  pub last : Option ℕ
  pub is_last : last_time anchor past ≡ last
  pub ahead : AreAheadOf anchor last left
  pub holds : HoldsEach script profile anchor sets past
  pub painted : AllZip (λ (one : TimedSet) calls. painting_in calls ≡ 0) rest
      (calls_behind profile anchor [] (reverse past))

low_prop : (origin : ℕ) → IsProp (origin ≤ LATEST_ORIGIN)
low_prop origin = hlevel props

pub low_origin : (script : Script) → script.origin ≤ LATEST_ORIGIN
low_origin script =
    ∥∥₁_elim script.sound (low_prop script.origin)
    (λ (sound : IsSoundScript script.origin script.width script.height script.refresh script.epochs
    script.pictures). sound.early)

-- the sets of a plan, and where a receiver enters it
record IsEntry (script : Script) (profile : Profile) (table : Timetable) (sets : List PlannedSet)
    (missed anchor : ℕ) : Type 0 where
  plan : IsPlan script profile sets
  places : (number : ℕ) (set : PlannedSet) → slice_get sets number ≡ Some set
      → 1 ≤ length (slots_of table number)
  anchor_suits : IsAnchorOf (first_times_from missed (sent_sets table sets)) anchor

-- of each of the sets before that number a packet is missed
abbrev AreCutBefore : Timetable → List PlannedSet → ℕ → ℕ → Type 0
AreCutBefore table sets missed first =
    (number : ℕ) (set : PlannedSet) → number < first → slice_get sets number ≡ Some set
    → is_from missed (sent_set table number set) ≡ false

first_ahead : (script : Script) (profile : Profile) (table : Timetable) (sets : List PlannedSet)
    (missed anchor first : ℕ) → IsEntry script profile table sets missed anchor
    → AreCutBefore table sets missed first
    → ((set : PlannedSet) → slice_get sets first ≡ Some set
    → is_from missed (sent_set table first set) ≡ true) → AreAheadOf anchor None (drop first sets)
first_ahead script profile table sets missed anchor first entry cut_before from =
    let low = low_origin script in
    near_first anchor script.origin (drop first sets) (omega arith)
    (drop_within (IsTick script.origin) first sets (times_in_span script profile sets entry.plan))
    (drop_rises first sets (pts_rise script profile sets entry.plan))
    (λ set found. let there = found_drop first sets set found in first_suits anchor missed first table sets set
    entry.anchor_suits there
    (one_of_all missed (slots_of table first) (entry.places first set there) (from set there)) cut_before)

none_begun : (script : Script) (profile : Profile) (table : Timetable) (sets : List PlannedSet)
    (missed anchor first : ℕ) → IsEntry script profile table sets missed anchor
    → AreCutBefore table sets missed first
    → ((set : PlannedSet) → slice_get sets first ≡ Some set
    → is_from missed (sent_set table first set) ≡ true)
    → IsBegun script profile anchor sets [] (drop first sets)
none_begun script profile table sets missed anchor first entry cut_before from = record {
  past = [];
  read = tt;
  idle = new_receiver profile anchor;
  last = None;
  is_last = no_time anchor;
  ahead = first_ahead script profile table sets missed anchor first entry cut_before from;
  holds = holds_none script profile anchor sets (λ number set. Unit {0});
  painted = tt;
}

-- later units of a set are read
record IsRestRead (one : TimedSet) (pts : ℕ) : Type 0 where
  readings : List Reading
  are : AreReadings (all_segments one) readings
  time : one.time ≡ pts % TIME_ROUND

rest_is_read : (script : Script) (profile : Profile) (table : Timetable) (sets : List PlannedSet)
    (missed first : ℕ) (one : TimedSet) → IsPlan script profile sets
    → (cut : IsCutSet script table sets missed first one) → IsRestRead one cut.set.pts
rest_is_read script profile table sets missed first one plan cut =
    let parts : sets ≡ take cut.number sets ++ (cut.set ∷ drop (suc cut.number) sets) =
    sym (take-append-drop cut.number sets)
    ∙ ap (λ back. take cut.number sets ++ back) (drop_found cut.number sets cut.set cut.found) in
    let place =
    in_epoch script profile sets (take cut.number sets) (drop (suc cut.number) sets) cut.set (fair script) plan
    parts in
    let comes =
    set_comes script profile (reverse (take cut.number sets)) cut.set cut.whole place
    (planned_well script profile sets cut.number cut.set plan cut.found) cut.timed in
    let rest =
    part_read cut.later.front (all_segments one) comes.readings
    (subst (λ (segments : List (List ℕ)). AreReadings segments comes.readings) cut.later.ends comes.are) in
    record { readings = rest.0; are = rest.1; time = cut.later.time ∙ comes.time }

-- a broken set is not painted
unpainted : (lifted : Option ℕ) (readings : List Reading) (verdict : Option SetEnd) (fault : SetFault)
    (time size : ℕ)
    → verdict ≡ Some (Broken fault)
    → painting_in
    (call_by lifted (Some (record { pts = time; size = size; painted = painting_by readings verdict }))) ≡ 0
unpainted None readings verdict fault time size is = refl
unpainted (Some at) readings verdict fault time size is = ap (painting_by readings) is

broken_unpainted : (profile : Profile) (anchor time size : ℕ) (readings : List Reading)
    → IsBrokenFirst profile anchor (whole time size readings)
    → painting_in (set_call profile anchor [] (whole time size readings)) ≡ 0
broken_unpainted profile anchor time size readings broken =
    unpainted (lifted_time anchor [] (whole time size readings)) readings
    (verdict_of profile anchor [] (whole time size readings)) broken.fault
    (unwrap_or (lifted_time anchor [] (whole time size readings)) time) size broken.verdict

rest_begun : (script : Script) (profile : Profile) (table : Timetable) (sets : List PlannedSet)
    (missed anchor first : ℕ) (one : TimedSet) → IsEntry script profile table sets missed anchor
    → AreCutBefore table sets missed first → IsCutSet script table sets missed first one
    → IsBegun script profile anchor sets (one ∷ []) (drop first sets)
rest_begun script profile table sets missed anchor first one entry cut_before cut =
    let rest = rest_is_read script profile table sets missed first one entry.plan cut in
    let delivery : Delivery Reading = whole one.time (size_of_units one.units) rest.readings in
    let is : IsDeliveryRead (delivered one) delivery = (rest.readings, rest.are, refl) in
    let low = low_origin script in
    let within = drop_within (IsTick script.origin) cut.number sets (times_in_span script profile sets entry.plan) in
    let rise = drop_rises cut.number sets (pts_rise script profile sets entry.plan) in
    let behind : drop cut.number sets ≡ cut.set ∷ drop first sets =
    drop_found cut.number sets cut.set cut.found ∙ ap (λ n. cut.set ∷ drop n sets) (sym cut.next) in
    let its = subst (λ (left : List PlannedSet). AllByRecursion (IsTick script.origin) (pts_of left)) behind within in
    let early = its.0.early in
    let suits =
    first_suits anchor missed cut.number table sets cut.set entry.anchor_suits cut.found cut.come
    (λ number set below found. cut_before number set (omega (arith, below, cut.next)) found) in
    let idle = behind_rest profile anchor delivery (comes_broken profile anchor one cut.later.none delivery is) in
    let plan = reverse (take cut.number sets) in
    let parts : sets ≡ reverse plan ++ (cut.set ∷ drop (suc cut.number) sets) =
    sym (ap (λ front. front ++ drop cut.number sets) (reverse-reverse (take cut.number sets))
    ∙ take-append-drop cut.number sets)
    ∙ ap (λ back. reverse plan ++ back) (drop_found cut.number sets cut.set cut.found) in
    let kept : lifted_time anchor [] delivery ≡ Some cut.set.pts =
    ap (λ last. lifted_behind anchor last one.time) (no_time anchor) ∙ ap (lifted_behind anchor None) rest.time
    ∙ lifted_at anchor None cut.set.pts suits (omega arith) in
    record {
      past = delivery ∷ [];
      read = (is, tt);
      idle = idle;
      last = Some cut.set.pts;
      is_last = one_time anchor cut.set.pts delivery kept;
      ahead =
          near_all anchor script.origin cut.set.pts (drop first sets) (omega arith) its.0 its.1
          (subst (λ (left : List PlannedSet). IsStrictlyIncreasing (pts_of left)) behind rise);
      holds =
          holds_next script profile anchor sets (λ number set. Unit {0}) [] plan (drop (suc cut.number) sets) cut.set
          delivery entry.plan parts kept (λ come known found. absurd (none_with idle known found))
          (holds_none script profile anchor sets (λ number set. Unit {0}));
      painted = (
        broken_unpainted profile anchor one.time (size_of_units one.units) rest.readings
            (comes_broken profile anchor one cut.later.none delivery is),
        tt,
      );
    }

-- ---- the theorem

turned-append : {X : Type 0} (xs ys there : List X) → turned (xs ++ ys) there ≡ turned ys (turned xs there)
turned-append [] ys there = refl
turned-append (x ∷ xs) ys there = turned-append xs ys (x ∷ there)

-- what comes stands in one list, the latest first
pub all_turned : (rest sent : List TimedSet)
    → turned (map delivered sent) (turned (map delivered rest) []) ≡ reverse (map delivered (rest ++ sent))
all_turned rest sent =
    sym (turned-append (map delivered rest) (map delivered sent) [])
    ∙ ap (λ all. turned all []) (sym (map-append delivered rest sent))
    ∙ turned_is (map delivered (rest ++ sent)) [] ∙ append-nil (reverse (map delivered (rest ++ sent)))

-- what a receiver has got of the sets of a plan that it enters behind so many packets, what is shown of it, and what it
-- holds
pub record IsReceivedLate (sending : SentPlan) (packets : List (List ℕ)) (missed anchor : ℕ) : Type 0 where
  pub past : List (Delivery Reading)
  pub received : HasReceived (received_with sending anchor) true (entered_at missed packets) past
  pub shows : (tick : ℕ) → IsShownFrom (entry_set missed (sent_sets sending.table sending.sets)) tick
      (view_at (profile_of sending.profile) anchor tick past) (authored_view sending.script tick)
  pub holds : HoldsEach sending.script (profile_of sending.profile) anchor sending.sets past
  pub kept : (number : ℕ) (set : PlannedSet) → slice_get sending.sets number ≡ Some set
      → is_from missed (sent_set sending.table number set) ≡ true
      → IsKept (profile_of sending.profile) anchor
      (IsFromEntry (entry_set missed (sent_sets sending.table sending.sets))) past set

-- the sets behind the first so many of a plan
found_behind : (P : PlannedSet → Type 0) (first number : ℕ) (sets : List PlannedSet) (set : PlannedSet)
    → AllByRecursion P (drop first sets) → slice_get sets number ≡ Some set → first ≤ number → P set
found_behind P zero zero [] set all found least = absurd (let no : None ≡ Some set = found in cc)
found_behind P zero zero (one ∷ sets) set all found least = let same : one ≡ set = cc in subst P same all.0
found_behind P zero (suc number) [] set all found least = absurd (let no : None ≡ Some set = found in cc)
found_behind P zero (suc number) (one ∷ sets) set all found least =
    found_behind P zero number sets set all.1 found (omega arith)
found_behind P (suc first) zero sets set all found least = absurd (omega (arith, least))
found_behind P (suc first) (suc number) [] set all found least = absurd (let no : None ≡ Some set = found in cc)
found_behind P (suc first) (suc number) (one ∷ sets) set all found least =
    found_behind P first number sets set all found (omega (arith, least))

-- what came before the sets that come whole, and these
pub record ComesInParts (profile : Profile) (script : Script) (table : Timetable) (sets : List PlannedSet)
    (sent rest : List TimedSet) (first missed anchor : ℕ) : Type 0 where
  pub begun : IsBegun script profile anchor sets rest (drop first sets)
  pub come : IsReceivedSo script profile anchor sets begun.past (drop first sets)
      (turned (map delivered (drop first sent)) (turned (map delivered rest) []))
      (entry_set missed (sent_from table first (drop first sets)))

pub comes_in_parts : (profile : Profile) (pid : ℕ) (pages : Pages) (script : Script) (table : Timetable)
    (sets : List PlannedSet) (packets : List (List ℕ)) (sent : List TimedSet)
    → IsPlanSent profile.coded pid pages profile script table sets packets sent → (missed anchor : ℕ)
    → IsAnchorOf (first_times_from missed (sent_sets table sets)) anchor
    → (late : IsEnteredLate profile.coded pid pages script table sets packets sent missed)
    → ComesInParts profile script table sets sent late.rest late.first missed anchor
comes_in_parts profile pid pages script table sets packets sent known missed anchor suits late =
    record { begun = begun; come = received }
  where
    entry : IsEntry script profile table sets missed anchor
    entry = record { plan = known.plan; places = known.places; anchor_suits = suits }

    cut_before : AreCutBefore table sets missed late.first
    cut_before number set below found = (late.whole number set (slice_get_within sets number set found)).0 below

    begun : IsBegun script profile anchor sets late.rest (drop late.first sets)
    begun =
        by late.rest late.one late.cut
        (λ set found. (late.whole late.first set (slice_get_within sets late.first set found)).1 (omega arith))
      where
        by : (rest : List TimedSet) → length rest ≤ 1
            → AllByRecursion (IsCutSet script table sets missed late.first) rest
            → ((set : PlannedSet) → slice_get sets late.first ≡ Some set
            → is_from missed (sent_set table late.first set) ≡ true)
            → IsBegun script profile anchor sets rest (drop late.first sets)
        by [] few cut from = none_begun script profile table sets missed anchor late.first entry cut_before from
        by (one ∷ []) few cut from =
            rest_begun script profile table sets missed anchor late.first one entry cut_before cut.0
        by (one ∷ next ∷ rest) few cut from = absurd (omega arith)

    come : AllZip (SetComes script) (drop late.first sets) (drop late.first sent)
    come =
        zip_behind (SetComes script) late.first sets sent
        (all_come script profile sets sent known.plan
        (λ number set found. planned_well script profile sets number set known.plan found) known.timed)

    parts : sets ≡ reverse (reverse (take late.first sets)) ++ drop late.first sets
    parts =
        sym (ap (λ front. front ++ drop late.first sets) (reverse-reverse (take late.first sets))
        ∙ take-append-drop late.first sets)

    from : AreFrom missed table late.first (drop late.first sets)
    from =
        are_from missed table late.first late.first (drop late.first sets) (omega arith)
        (λ i set inside later. (late.whole i set (omega (arith, inside, later, length-drop late.first sets))).1 later)

    received : IsReceivedSo script profile anchor sets begun.past (drop late.first sets)
        (turned (map delivered (drop late.first sent)) (turned (map delivered late.rest) []))
        (entry_set missed (sent_from table late.first (drop late.first sets)))
    received =
        wait_for
        (record { script = script; profile = profile; anchor = anchor; sets = sets; is_plan = known.plan }) missed
        table late.first
        (record { taken = turned (map delivered late.rest) []; past = begun.past; read = begun.read }) begun.last
        (reverse (take late.first sets)) (drop late.first sets) (drop late.first sent) begun.is_last
        (record { parts = parts; ahead = begun.ahead; come = come }) from
        (record { idle = begun.idle; holds = begun.holds })

pub received_late : (sending : SentPlan) (packets : List (List ℕ)) (sent : List TimedSet)
    → IsPlanSent (profile_of sending.profile).coded sending.pid sending.pages (profile_of sending.profile)
    sending.script sending.table sending.sets packets sent
    → (missed anchor : ℕ) → IsAnchorOf (first_times_from missed (sent_sets sending.table sending.sets)) anchor
    → IsReceivedLate sending packets missed anchor
received_late sending packets sent known missed anchor suits = record {
  past = received.past;
  received =
      subst (λ (all : List (Delivery (List ℕ))). AreDeliveriesRead all received.past)
      (all_turned late.rest (drop late.first sent) ∙ ap reverse (sym late.come)) received.read;
  shows = λ tick. subst
      (λ (found : Option SentSet). IsShownFrom found tick (view_at profile anchor tick received.past)
      (authored_view sending.script tick)) (sym behind) (received.shows tick);
  holds = received.holds;
  kept = λ number set found from. subst
      (λ (entry : Option SentSet). IsKept profile anchor (IsFromEntry entry) received.past set) (sym behind)
      (found_behind
      (IsKept profile anchor
      (IsFromEntry (entry_set missed (sent_from sending.table late.first (drop late.first sending.sets))))
      received.past)
      late.first number sending.sets set received.kept found
      (among number set found from (cases_lt number late.first)));
}
  where
    profile : Profile
    profile = profile_of sending.profile

    late : IsEnteredLate profile.coded sending.pid sending.pages sending.script sending.table sending.sets packets sent
        missed
    late = known.late missed

    both : ComesInParts profile sending.script sending.table sending.sets sent late.rest late.first missed anchor
    both =
        comes_in_parts profile sending.pid sending.pages sending.script sending.table sending.sets packets sent known
        missed anchor suits late

    received : IsReceivedSo sending.script profile anchor sending.sets both.begun.past (drop late.first sending.sets)
        (turned (map delivered (drop late.first sent)) (turned (map delivered late.rest) []))
        (entry_set missed (sent_from sending.table late.first (drop late.first sending.sets)))
    received = both.come

    among : (number : ℕ) (set : PlannedSet) → slice_get sending.sets number ≡ Some set
        → is_from missed (sent_set sending.table number set) ≡ true → (number < late.first) ⊎ (late.first ≤ number)
        → late.first ≤ number
    among number set found from (inl before) =
        absurd
        (let no : false ≡ true = sym ((late.whole number set (slice_get_within sending.sets number set found)).0 before)
        ∙ from
        in cc)
    among number set found from (inr behind) = behind

    behind : entry_set missed (sent_sets sending.table sending.sets)
        ≡ entry_set missed (sent_from sending.table late.first (drop late.first sending.sets))
    behind =
        entry_behind missed sending.table late.first 0 sending.sets
        (λ i set inside found. ap (λ n. is_from missed (sent_set sending.table n set)) (omega arith)
        ∙ (late.whole i set (slice_get_within sending.sets i set found)).0 inside)
        ∙ ap (λ n. entry_set missed (sent_from sending.table n (drop late.first sending.sets))) (omega arith)

-- so sets of a plan that are sent for a receiver of some pages are entered rightly, behind any number of packets:
-- nothing is shown before the time of the entry set, and from then on what the script authors; each set that comes
-- whole is kept, and behind it the page memory holds the script
pub entered_rightly : (sending : SentPlan) (packets : List (List ℕ)) (sent : List TimedSet)
    → IsPlanSent (profile_of sending.profile).coded sending.pid sending.pages (profile_of sending.profile)
    sending.script sending.table sending.sets packets sent
    → (missed : ℕ) → IsEnteredRightly sending packets missed
entered_rightly sending packets sent known missed = record {
  shown = λ anchor suits tick.
      let late = received_late sending packets sent known missed anchor suits in
      record {
        shown = view_at profile anchor tick late.past;
        is_shown = record { past = late.past; received = late.received; is_view = refl };
        from_entry = late.shows tick;
      };
  kept = λ anchor suits past received number set found from.
      let late = received_late sending packets sent known missed anchor suits in
      subst (λ (all : List (Delivery Reading)). IsKept profile anchor
      (IsFromEntry (entry_set missed (sent_sets sending.table sending.sets))) all set)
      (same anchor suits past received) (late.kept number set found from);
  held = λ anchor suits past received.
      λ later before delivery placed front back set parts come lifted known_epoch is.
      let late = received_late sending packets sent known missed anchor suits in
      late.holds later before delivery (same anchor suits past received ∙ placed) front back set parts tt lifted
      known_epoch is;
}
  where
    profile : Profile
    profile = profile_of sending.profile

    same : (anchor : ℕ) (suits : IsAnchorOf (first_times_from missed (sent_sets sending.table sending.sets)) anchor)
        → (past : List (Delivery Reading))
        → HasReceived (received_with sending anchor) true (entered_at missed packets) past
        → (received_late sending packets sent known missed anchor suits).past ≡ past
    same anchor suits past received =
        let late = received_late sending packets sent known missed anchor suits in
        same_past (reverse (sets_received (received_with sending anchor) true (entered_at missed packets))) late.past
        past
        late.received received
