-- Units that are the PES packets of display sets, with different times in neighbouring sets, are received as these
-- sets: none is refused, joined to another or left over.
use Rattle.std.proofs.Common.{◌≡◌, ◌∙◌, ℕ, suc, ◌≤◌, Bool, true, false, cond, List, [], ◌∷◌, length, map, take, filter, refl, sym, ap, subst, arith, ◌+◌, ◌&&◌, inr}
use Rattle.std.specs.Prelude.{find, flat_map}
use Rattle.std.specs.Bool.{if◌then◌else◌}
use Rattle.std.specs.List.{AllByRecursion, AllZip, list_any}
use Rattle.std.proofs.lemmas.List.{map-append}
use Rattle.stream_syntax.specs.Units.{each_after}
use Rattle.decoder_model.proofs.SentUnits.{ComeWhole}
use Rattle.decoder_model.specs.declared.pages.Pages.{Pages}
use Rattle.decoder_model.specs.Arrivals.{PesUnit, Arrival, arrivals_at, arrivals_of}
use Rattle.stream_syntax.specs.DataField.{segment}
use Rattle.decoder_model.specs.Frames.{is_end}
use Rattle.sub_base.specs.Lists.{prefixes}
use Rattle.decoder_model.specs.Sets.{Stretch, sets_of, has_ended, runs_of, is_ended, frames_in, set_of, sets_in}
use Rattle.std.specs.List.{list_all, take_while, prefix_len}
use Rattle.std.specs.Option.{is_none}
use Rattle.stream_syntax.specs.TransportPackets.{packet_fault}
use Rattle.sub_base.specs.Lists.{has_some}
use Rattle.sent_sets.proofs.Units.{IsArrivalOf, SetUnit, TimedSet, timed_units, IsTimedSet, CarriesUnit, AreUnitsOf, all_carried, all_arrive, has_segments, counted_sets, of_counted_sets}
use Rattle.sent_sets.proofs.Runs.{HaveDifferentTimes, IsPlaced, AreOwnRuns, own_runs, counted_arrivals}
use Rattle.sent_sets.proofs.SetEnds.{IsHandable, ended_set, handable_units, delivered, handed_on, all_handed_on, end_in, set_ends}

-- ---- sets that end with an end segment

pub all_ended : (coded : ℕ) (pages : Pages) (over : Bool) (sets : List TimedSet)
    → AllByRecursion (IsTimedSet coded pages) sets → AllByRecursion (IsHandable coded over) sets
all_ended coded pages over [] h = tt
all_ended coded pages over (set ∷ sets) h =
    (ended_set coded pages over set h.0, all_ended coded pages over sets h.1)

-- the set of a run is handed on whole, whatever follows it
pub handed_whole : (coded : ℕ) (pages : Pages) (set : TimedSet) (first : PesUnit) (more : List PesUnit)
    (followed : Bool) → IsTimedSet coded pages set → AllZip (IsPlaced set.time) (first ∷ more) set.units
    → set_of coded first.time (first ∷ more) followed
    (find (is_ended coded) (prefixes (frames_in (first ∷ more)))) ≡ delivered set ∷ []
handed_whole coded pages set first more followed h are =
    let ends = set_ends pages set.units h.units in
    handed_on coded false set first more followed (ended_set coded pages false set h) are
    (inr (ap (λ segments. list_any is_end (map segment segments)) ends.are
    ∙ ap (list_any is_end) (map-append segment ends.front (ends.end ∷ []))
    ∙ end_in ends.front ends.end ends.is_end))

-- the sets of these runs are all of them, whole, in order
pub all_handed : (coded : ℕ) (pages : Pages) (ended : Bool) (stretches : List Stretch) (sets : List TimedSet)
    → AllByRecursion (IsTimedSet coded pages) sets → AreOwnRuns stretches sets
    → sets_in coded ended stretches ≡ map delivered sets
all_handed coded pages ended stretches sets h runs =
    all_handed_on coded ended stretches sets (all_ended coded pages ended sets h) runs

pub have_units : (coded : ℕ) (pages : Pages) (sets : List TimedSet) → AllByRecursion (IsTimedSet coded pages) sets
    → AllByRecursion (λ (set : TimedSet). 1 ≤ length set.units) sets
have_units coded pages sets h = handable_units coded false sets (all_ended coded pages false sets h)

-- all of their units count
each_counts : (units : List SetUnit) → AllByRecursion (λ (one : SetUnit). 1 ≤ length one.segments) units
    → filter has_segments units ≡ units
each_counts [] h = refl
each_counts (one ∷ units) h =
    ap (λ counts. cond counts (one ∷ filter has_segments units) (filter has_segments units)) (some one.segments h.0)
    ∙ ap (λ rest. one ∷ rest) (each_counts units h.1)
  where
    some : (segments : List (List ℕ)) → 1 ≤ length segments → has_some segments ≡ true
    some [] h = absurd (omega arith)
    some (bytes ∷ segments) h = refl

pub all_count : (coded : ℕ) (over : Bool) (sets : List TimedSet) → AllByRecursion (IsHandable coded over) sets
    → counted_sets sets ≡ sets
all_count coded over [] h = refl
all_count coded over (set ∷ sets) h =
    ap (λ (units : List SetUnit). if has_some units
    then record { time = set.time; units = units } ∷ counted_sets sets
    else counted_sets sets) (each_counts set.units h.0.units)
    ∙ some set.units h.0.some
    ∙ ap (λ rest. set ∷ rest) (all_count coded over sets h.1)
  where
    some : (units : List SetUnit) → 1 ≤ length units
        → (if has_some units then record { time = set.time; units = units } ∷ counted_sets sets
        else counted_sets sets)
        ≡ record { time = set.time; units = units } ∷ counted_sets sets
    some [] h = absurd (omega arith)
    some (one ∷ units) h = refl

-- ---- the end of a stream

all_pass : {X : Type 0} (test : X → Bool) (xs : List X) → take_while test xs ≡ xs → list_all test xs ≡ true
all_pass test [] e = refl
all_pass {X} test (x ∷ xs) e = by (test x) refl e (λ rest. all_pass test xs rest)
  where
    by : (b : Bool) → test x ≡ b → take (cond b (1 + prefix_len test xs) 0) (x ∷ xs) ≡ x ∷ xs
        → (take_while test xs ≡ xs → list_all test xs ≡ true) → list_all test (x ∷ xs) ≡ true
    by true is e behind =
        let one_more : suc (prefix_len test xs) ≡ 1 + prefix_len test xs = omega arith in
        let same : x ∷ take (prefix_len test xs) xs ≡ x ∷ xs = ap (λ n. take n (x ∷ xs)) one_more ∙ e in
        let rest : take_while test xs ≡ xs = cc in
        ap (λ b. b && list_all test xs) is ∙ behind rest
    by false is e behind = absurd (omega (arith, ap length e))

-- where all packets are taken, the stream is over with them
pub is_over : (pid size : ℕ) (packets units : List (List ℕ)) → ComeWhole pid size packets units
    → has_ended true pid packets ≡ true
unfolding has_ended
is_over pid size packets units come = all_pass (λ packet. is_none (packet_fault pid packet)) packets come.taken

-- ---- packets

-- the sets of the packets are those of the units that have segments that count
pub sets_come : (coded pid : ℕ) (pages : Pages) (ended : Bool) (packets units : List (List ℕ))
    (sets : List TimedSet) → ComeWhole pid coded packets units
    → AllZip (CarriesUnit pages) units (timed_units sets)
    → AllByRecursion (IsHandable coded (has_ended ended pid packets)) (counted_sets sets)
    → HaveDifferentTimes (counted_sets sets)
    → sets_of coded pid pages ended packets ≡ map delivered (counted_sets sets)
unfolding sets_of arrivals_of
sets_come coded pid pages ended packets units sets come carry handable apart =
    let own =
    subst (λ (found : List (List ℕ)). AllZip (CarriesUnit pages) found (timed_units sets)) (sym come.units_are)
    carry in
    let over = has_ended ended pid packets in
    let arrivals =
    flat_map (λ (arrivals : List Arrival). arrivals) (each_after (arrivals_at coded pid pages) [] packets) in
    let counted =
    counted_arrivals arrivals (timed_units sets)
    (all_arrive pid coded pages [] packets come.no_loss (timed_units sets) own) in
    ap (λ taken. sets_in coded over
    (runs_of (flat_map (λ (arrivals : List Arrival). arrivals)
    (each_after (arrivals_at coded pid pages) [] taken)))) come.taken
    ∙ ap (sets_in coded over) counted.same
    ∙ all_handed_on coded over (runs_of counted.found) (counted_sets sets) handable
    (own_runs counted.found (counted_sets sets)
    (subst (AllZip IsArrivalOf counted.found) (of_counted_sets sets) counted.are)
    (handable_units coded over (counted_sets sets) handable) apart)

-- where each set ends with an end segment and all of their segments count, these are the sets, whether the stream ends
-- or not
pub sets_come_whole : (coded pid : ℕ) (pages : Pages) (ended : Bool) (packets units : List (List ℕ))
    (sets : List TimedSet) → ComeWhole pid coded packets units → AreUnitsOf coded pages units sets
    → HaveDifferentTimes sets
    → sets_of coded pid pages ended packets ≡ map delivered sets
sets_come_whole coded pid pages ended packets units sets come are apart =
    let over = has_ended ended pid packets in
    let handable = all_ended coded pages over sets are.whole in
    let all = all_count coded over sets handable in
    sets_come coded pid pages ended packets units sets come (all_carried pages units (timed_units sets) are.each)
    (subst (AllByRecursion (IsHandable coded over)) (sym all) handable) (subst HaveDifferentTimes (sym all) apart)
    ∙ ap (map delivered) all
