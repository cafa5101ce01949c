-- Sets of a plan that are sent for a receiver of some pages, whoever sends them, are entered rightly, behind any number
-- of packets.
use Rattle.std.proofs.Common.{◌≡◌, ◌∙◌, ℕ, ◌%◌, ◌<◌, Bool, true, cond, List, [], ◌∷◌, ◌++◌, length, map, filter, refl, sym, ap, subst, arith, All, length-append}
use Rattle.std.specs.List.{AllByRecursion, AllZip, concat}
use Rattle.std.specs.List.Sorted.{IsStrictlyIncreasing}
use Rattle.std.proofs.lemmas.List.{map-append}
use Rattle.std.proofs.lemmas.List.Elements.{recursion_from_All}
use Rattle.sub_base.specs.Pace.{pace_of}
use Rattle.sub_base.specs.Profile.{profile_of}
use Rattle.sub_base.specs.declared.pace.Pace.{Pace}
use Rattle.stream_syntax.specs.declared.wire.TheConstants.{NULL_PID, TIME_ROUND}
use Rattle.cue_list.specs.Sound.{IsTick}
use Rattle.cue_list.specs.declared.script.Script.{Script}
use Rattle.page_epoch.specs.declared.planned_set.PlannedSet.{PlannedSet}
use Rattle.decoder_model.specs.declared.pages.Pages.{Pages}
use Rattle.sent_sets.specs.RawSets.{RawSet, counted_in, has_counted, HaveTimesApart}
use Rattle.sent_sets.specs.SentStream.{AreSentFor}
use Rattle.sent_sets.proofs.SentLaws.{is_free, IsKnownStream, known_stream}
use Rattle.sent_sets.proofs.SentLists.{AreRawSent}
use Rattle.sent_sets.proofs.Units.{TimedSet, counted_set}
use Rattle.shown_stream.specs.Entered.{IsEnteredRightly}
use Rattle.shown_plan.proofs.Segments.ByPlace.{some_segments}
use Rattle.shown_stream.specs.SentPlan.{IsWrittenAs, CarriesSet, HasPageFirst, IsSentPlan, SentPlan}
use Rattle.shown_stream.proofs.Late.LatePlan.{IsPlannedUnits, planned_units, zip_some, IsPlanSent, plan_sent}
use Rattle.shown_stream.proofs.Sent.PlannedOrder.{rest_rises}
use Rattle.shown_stream.proofs.Sent.PlannedTimes.{pts_of, times_in_span, pts_rise, differ}
use Rattle.shown_stream.proofs.Shown.SentShown.{entered_rightly}

-- ---- times

abbrev times_of : List RawSet → List ℕ
times_of raw = map (λ (set : RawSet). set.time) raw

-- times that rise within a script's span, told modulo 2 to the 33, differ where they are neighbours
near_apart : (origin : ℕ) (front back : List ℕ) (one next : ℕ)
    → IsStrictlyIncreasing (front ++ one ∷ next ∷ back)
    → AllByRecursion (IsTick origin) (front ++ one ∷ next ∷ back) → one % TIME_ROUND ≡ next % TIME_ROUND
    → ⊥
near_apart origin [] back one next rise span same =
    let first : one < next = rise 0 (omega arith) in
    let late = span.0.late in
    let early = span.1.0.early in
    differ one next first (omega arith) same
near_apart origin (time ∷ front) back one next rise span same =
    near_apart origin front back one next (rest_rises time (front ++ one ∷ next ∷ back) rise) span.1 same

times_apart : (origin : ℕ) (raw : List RawSet) → IsStrictlyIncreasing (times_of raw)
    → AllByRecursion (IsTick origin) (times_of raw) → HaveTimesApart raw
times_apart origin raw rise span before after one next e same =
    let are : times_of raw ≡ times_of before ++ one.time ∷ next.time ∷ times_of after =
    ap times_of e ∙ map-append (λ (set : RawSet). set.time) before (one ∷ next ∷ after) in
    near_apart origin (times_of before) (times_of after) one.time next.time (subst IsStrictlyIncreasing are rise)
    (subst (AllByRecursion (IsTick origin)) are span) same

same_times : (script : Script) (pages : Pages) (sets : List PlannedSet) (raw : List RawSet)
    → AllZip (CarriesSet script pages) sets raw → pts_of sets ≡ times_of raw
same_times script pages [] [] h = refl
same_times script pages [] (set ∷ raw) h = absurd h
same_times script pages (planned ∷ sets) [] h = absurd h
same_times script pages (planned ∷ sets) (set ∷ raw) h =
    ap (λ time. time ∷ pts_of sets) (sym h.0.time)
    ∙ ap (λ rest. set.time ∷ rest) (same_times script pages sets raw h.1)

-- ---- all sets count

all_counted : (script : Script) (pages : Pages) (sets : List PlannedSet) (raw : List RawSet)
    → AllZip (CarriesSet script pages) sets raw → filter (has_counted pages) raw ≡ raw
all_counted script pages [] [] h = refl
all_counted script pages [] (set ∷ raw) h = absurd h
all_counted script pages (planned ∷ sets) [] h = absurd h
all_counted script pages (planned ∷ sets) (set ∷ raw) h =
    ap (λ (b : Bool). cond b (set ∷ filter (has_counted pages) raw) (filter (has_counted pages) raw)) counts
    ∙ ap (λ rest. set ∷ rest) (all_counted script pages sets raw h.1)
  where
    counts : has_counted pages set ≡ true
    counts = zip_some IsWrittenAs h.0.values (counted_in pages set) h.0.written
        (some_segments h.0.planned)

all_planned : (script : Script) (pages : Pages) (sets : List PlannedSet) (raw : List RawSet)
    (units : List (List (List ℕ))) (sent : List TimedSet) → AllZip (CarriesSet script pages) sets raw
    → AllByRecursion (HasPageFirst pages) raw → AreRawSent pages raw units sent
    → AllZip (IsPlannedUnits script) sets sent
all_planned script pages [] [] [] [] carries first are = tt
all_planned script pages [] [] [] (one ∷ sent) carries first are = absurd are
all_planned script pages [] [] (packets ∷ units) sent carries first are = absurd are
all_planned script pages [] (set ∷ raw) units sent carries first are = absurd carries
all_planned script pages (planned ∷ sets) [] units sent carries first are = absurd carries
all_planned script pages (planned ∷ sets) (set ∷ raw) [] sent carries first are = absurd are
all_planned script pages (planned ∷ sets) (set ∷ raw) (packets ∷ units) [] carries first are = absurd are
all_planned script pages (planned ∷ sets) (set ∷ raw) (packets ∷ units) (one ∷ sent) carries first are = (
  planned_units script pages planned set packets one carries.0 first.0 are.0,
  all_planned script pages sets raw units sent carries.1 first.1 are.1,
)

-- ---- entered

pub sent_entered : (sending : SentPlan) (packets : List (List ℕ)) (missed : ℕ) → sending.pid < NULL_PID
    → All (λ packet. length packet ≡ 188) packets → IsSentPlan sending (concat packets)
    → IsEnteredRightly sending packets missed
sent_entered sending packets missed less whole h =
    entered_rightly sending packets (map counted_set stream.timed) known missed
  where
    pace : Pace
    pace = pace_of sending.script.origin (profile_of sending.profile)

    times : pts_of sending.sets ≡ times_of h.raw
    times = same_times sending.script sending.pages sending.sets h.raw h.carries

    sent_for : AreSentFor sending.pages pace sending.pid h.raw h.loads sending.table packets
    sent_for = record {
      free = less;
      sendable = h.sendable;
      ends = h.ends;
      apart = subst HaveTimesApart (sym (all_counted sending.script sending.pages sending.sets h.raw h.carries))
          (times_apart sending.script.origin h.raw
          (subst IsStrictlyIncreasing times (pts_rise sending.script (profile_of sending.profile) sending.sets h.plan))
          (subst (AllByRecursion (IsTick sending.script.origin)) times
          (times_in_span sending.script (profile_of sending.profile) sending.sets h.plan)));
      sent = h.sent;
      whole = whole;
    }

    stream : IsKnownStream sending.pages pace sending.pid h.raw h.loads sending.table packets h.sent.units
    stream = known_stream sending.pages pace sending.pid h.raw h.loads sending.table packets sent_for

    known : IsPlanSent (profile_of sending.profile).coded sending.pid sending.pages (profile_of sending.profile)
        sending.script sending.table sending.sets packets
        (map counted_set stream.timed)
    known =
        subst (λ (all : List (List ℕ)). IsPlanSent (profile_of sending.profile).coded sending.pid sending.pages
        (profile_of sending.profile) sending.script
        sending.table
        sending.sets all (map counted_set stream.timed)) (sym stream.are)
        (plan_sent (profile_of sending.profile).coded sending.pid sending.pages (profile_of sending.profile)
        sending.script h.loads h.sent.units pace sending.table sending.sets
        stream.timed (is_free sending.pid less) stream.stream stream.sent h.plan
        (all_planned sending.script sending.pages sending.sets h.raw h.sent.units stream.timed h.carries
        (recursion_from_All (HasPageFirst sending.pages) h.raw h.page_first) stream.known.are))
