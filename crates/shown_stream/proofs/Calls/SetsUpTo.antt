-- Of a stream of sets in slots, entered behind any number of packets, which sets are whole up to any packet, and at
-- which times.
use Rattle.std.proofs.Common.{◌≡◌, ◌∙◌, ◌⊎◌, inl, inr, ℕ, zero, suc, ◌-◌, ◌%◌, ◌<◌, ◌≤◌, Bool, true, false, ltb, cond, List, [], ◌∷◌, ◌++◌, length, map, take, drop, None, sym, ap, subst, arith}
use Rattle.std.specs.List.{AllByRecursion, AllZip, take-map}
use Rattle.std.proofs.Math.Seq.{take-append_seam}
use Rattle.std.proofs.lemmas.Bool.{cases_lt}
use Rattle.std.proofs.lemmas.Bool.Decides.{nat_tests}
use Rattle.std.proofs.lemmas.List.{take-append-drop}
use Rattle.page_epoch.specs.declared.planned_set.PlannedSet.{PlannedSet}
use Rattle.stream_syntax.specs.Cutting.{IsUnit}
use Rattle.stream_syntax.specs.TransportPackets.{packet_fault}
use Rattle.stream_syntax.specs.declared.wire.TheConstants.{TIME_ROUND}
use Rattle.decoder_model.specs.declared.pages.Pages.{Pages}
use Rattle.decoder_model.specs.Sets.{Delivery, sets_of}
use Rattle.decoder_model.proofs.Growth.{packets_add}
use Rattle.decoder_model.proofs.SentUnits.{all_taken}
use Rattle.slot_stream.specs.SlotStream.{all_pieces}
use Rattle.shown_stream.proofs.Calls.CompiledCalls.{all_drop, all_take}
use Rattle.shown_stream.proofs.Calls.KeptCalls.{AreTimed}
use Rattle.slot_stream.proofs.LaidPackets.{laid, IsAhead}
use Rattle.shown_stream.proofs.Calls.LateCalls.{entry_behind, units_missed}
use Rattle.slot_stream.proofs.SentPieces.{IsFree, none_refused}
use Rattle.slot_stream.proofs.SentStream.{pieces_are}
use Rattle.sent_sets.proofs.LateSets.{rest_of_set, sets_behind, units_behind, apart_behind}
use Rattle.sent_sets.proofs.LateStream.{entered_late}
use Rattle.sent_sets.proofs.Runs.{HaveDifferentTimes}
use Rattle.sent_sets.proofs.SetEnds.{delivered}
use Rattle.sent_sets.proofs.SetsCome.{sets_come_whole}
use Rattle.sent_sets.proofs.Units.{TimedSet, AreUnitsOf}

-- ---- which sets

front_of : (all : List TimedSet) (some more : List (Delivery (List ℕ))) → map delivered all ≡ some ++ more
    → some ≡ map delivered (take (length some) all)
front_of all some more e =
    sym (take-append_seam some more) ∙ ap (take (length some)) (sym e) ∙ take-map delivered (length some) all

-- up to a packet those are whole that come first
pub sets_up_to : (coded pid : ℕ) (pages : Pages) (missed m : ℕ) (units : List (List ℕ)) (sets : List TimedSet)
    (slots : List ℕ) → IsFree pid → (whole : AllByRecursion (IsUnit coded) units)
    → AreUnitsOf coded pages units sets → HaveDifferentTimes sets
    → length (all_pieces units) ≡ length slots → IsAhead 0 slots
    → (count : ℕ)
    × (sets_of coded pid pages false (take m (drop missed (laid pid 0 0 (all_pieces units) slots)))
    ≡ map delivered (take count (sets_behind (units_missed coded missed units slots whole) sets)))
sets_up_to coded pid pages missed m units sets slots free whole are apart same ahead =
    let packets = drop missed (laid pid 0 0 (all_pieces units) slots) in
    let n = units_missed coded missed units slots whole in
    let sound =
    all_drop (λ packet. packet_fault pid packet ≡ None) missed (laid pid 0 0 (all_pieces units) slots)
    (none_refused pid 0 0 (all_pieces units) slots free (pieces_are coded units whole)) in
    let parts : take m packets ++ drop m packets ≡ packets = take-append-drop m packets in
    let some = sets_of coded pid pages false (take m packets) in
    let added =
    packets_add coded pid pages (take m packets) (drop m packets)
    (all_taken pid (take m packets) (all_take (λ packet. packet_fault pid packet ≡ None) m packets sound))
    (all_taken pid (take m packets ++ drop m packets)
    (subst (AllByRecursion (λ packet. packet_fault pid packet ≡ None)) (sym parts) sound)) in
    let all =
    sets_come_whole coded pid pages false packets (drop n units) (sets_behind n sets)
    (entered_late pid coded missed units slots free whole same ahead) (units_behind coded pages n units sets are)
    (apart_behind n sets apart) in (
      length some,
      front_of (sets_behind n sets) some added.0
          (sym all ∙ ap (sets_of coded pid pages false) (sym parts) ∙ added.1),
    )

-- ---- their times

-- the time of a planned set on the wire
abbrev pub IsTimeOf : PlannedSet → TimedSet → Type 0
IsTimeOf set one = one.time ≡ set.pts % TIME_ROUND

all_timed : (planned : List PlannedSet) (sets : List TimedSet) → AllZip IsTimeOf planned sets
    → AreTimed planned sets
all_timed [] [] h = tt
all_timed [] (one ∷ sets) h = absurd h
all_timed (set ∷ planned) [] h = absurd h
all_timed (set ∷ planned) (one ∷ sets) h = (h.0, all_timed planned sets h.1)

pub first_timed : (count : ℕ) (planned : List PlannedSet) (sets : List TimedSet) → AreTimed planned sets
    → AreTimed planned (take count sets)
first_timed zero planned sets h = tt
first_timed (suc count) planned [] h = tt
first_timed (suc count) [] (one ∷ sets) h = absurd h
first_timed (suc count) (set ∷ planned) (one ∷ sets) h = (h.0, first_timed count planned sets h.1)

-- the entry lies in one of these sets or behind them
pub entry_after : (n i : ℕ) (groups : List (List (List ℕ))) → i ≤ (entry_behind n i groups).set
entry_after n i [] = omega arith
entry_after n i (group ∷ groups) = by (ltb n (length group)) (entry_after (n - length group) (suc i) groups)
  where
    by : (b : Bool) → suc i ≤ (entry_behind (n - length group) (suc i) groups).set
        → i ≤ (cond b (record { set = i; packet = length (all_pieces (take n group)) })
        (entry_behind (n - length group) (suc i) groups)).set
    by true later = omega arith
    by false later = omega arith

-- each set has as many units as PES packets
abbrev pub HaveUnits : List (List (List ℕ)) → List TimedSet → Type 0
HaveUnits groups sets =
    AllZip (λ (group : List (List ℕ)) (one : TimedSet). length group ≡ length one.units) groups sets

-- the sets that come have the times of the planned ones from the entry's on
pub timed_from : (n i : ℕ) (groups : List (List (List ℕ))) (planned : List PlannedSet) (sets : List TimedSet)
    → HaveUnits groups sets → AllZip IsTimeOf planned sets
    → AreTimed (drop ((entry_behind n i groups).set - i) planned) (sets_behind n sets)
timed_from n i groups planned [] many times = tt
timed_from n i [] planned (one ∷ sets) many times = absurd many
timed_from n i (group ∷ groups) [] (one ∷ sets) many times = absurd times
timed_from n i (group ∷ groups) (set ∷ planned) (one ∷ sets) many times =
    by (cases_lt n (length group)) (timed_from (n - length group) (suc i) groups planned sets many.1 times.1)
  where
    later : suc i ≤ (entry_behind (n - length group) (suc i) groups).set
    later = entry_after (n - length group) (suc i) groups

    Goal : Bool → Bool → Type 0
    Goal a b =
        AreTimed (drop
        ((cond a (record { set = i; packet = length (all_pieces (take n group)) })
        (entry_behind (n - length group) (suc i) groups)).set - i) (set ∷ planned))
        (cond b (rest_of_set n one ∷ sets) (sets_behind (n - length one.units) sets))

    here : AreTimed (drop (i - i) (set ∷ planned)) (rest_of_set n one ∷ sets)
    here =
        let none : 0
        ≡ i - i = omega arith in subst
        (λ (k : ℕ). AreTimed (drop k (set ∷ planned)) (rest_of_set n one ∷ sets)) none
        (times.0, all_timed planned sets times.1)

    by : (n < length group) ⊎ (length group ≤ n)
        → AreTimed (drop ((entry_behind (n - length group) (suc i) groups).set - suc i) planned)
        (sets_behind (n - length group) sets) → Goal (ltb n (length group)) (ltb n (length one.units))
    by (inl within) rest =
        let same = many.0 in
        let first : true ≡ ltb n (length group) = grind (arith, nat_tests) in
        let second : true ≡ ltb n (length one.units) = grind (arith, nat_tests) in
        subst (λ (b : Bool). Goal (ltb n (length group)) b) second (subst (λ (a : Bool). Goal a true) first here)
    by (inr past) rest =
        let same = many.0 in
        let first : false ≡ ltb n (length group) = grind (arith, nat_tests) in
        let second : false ≡ ltb n (length one.units) = grind (arith, nat_tests) in
        let count : suc ((entry_behind (n - length group) (suc i) groups).set - suc i)
        ≡ (entry_behind (n - length group) (suc i) groups).set - i = omega (arith, later) in
        let left : n - length group ≡ n - length one.units = omega arith in
        subst (λ (b : Bool). Goal (ltb n (length group)) b) second (subst (λ (a : Bool). Goal a false) first
        (subst (λ (k : ℕ). AreTimed (drop k (set ∷ planned)) (sets_behind (n - length one.units) sets)) count
        (subst (λ (k : ℕ). AreTimed (drop ((entry_behind (n - length group) (suc i) groups).set - suc i) planned)
        (sets_behind k sets)) left rest)))
