-- A stream of sets in slots, entered behind any number of packets: up to any further packet it gives the calls of the
-- scheduled sets, from the first unit on that comes whole.
use Rattle.std.proofs.Common.{◌≡◌, ◌∙◌, ◌⊎◌, inl, inr, ℕ, zero, suc, ◌+◌, ◌-◌, ◌<◌, ◌≤◌, Bool, true, false, ltb, cond, List, [], ◌∷◌, ◌++◌, length, map, take, drop, reverse, refl, sym, ap, subst, arith, append-nil, length-append, length-drop}
use Rattle.std.specs.List.{AllByRecursion, AllZip}
use Rattle.std.proofs.Math.Seq.{drop-nil, drop-append-add}
use Rattle.std.proofs.lemmas.Bool.{cases_lt}
use Rattle.std.proofs.lemmas.Bool.Decides.{nat_tests}
use Rattle.std.proofs.lemmas.Grind.{flat_map-append}
use Rattle.std.proofs.lemmas.List.{length-map, map-append, drop-append-le, drop-map}
use Rattle.sub_base.specs.declared.load.WriteLoad.{WriteLoad}
use Rattle.buffer_model.specs.Calls.{Call}
use Rattle.schedule.specs.Packets.{units_of, packets_of, first_packet, payloads_of}
use Rattle.schedule.proofs.SumLaws.{sum_below-suc, sum_below-zero}
use Rattle.stream_syntax.specs.Cutting.{IsUnit}
use Rattle.decoder_model.specs.declared.pages.Pages.{Pages}
use Rattle.decoder_model.proofs.SentUnits.{no_hand}
use Rattle.scheduled_level_laws.specs.EnteredCalls.{Entry, entered_calls}
use Rattle.scheduled_level_laws.proofs.EnteredSums.{AreSlots, within_slots}
use Rattle.slot_stream.specs.SlotStream.{Piece, all_pieces, pieces_of}
use Rattle.received_level_laws.specs.StreamCalls.{itself, calls_from}
use Rattle.shown_stream.proofs.Calls.CallsOfPieces.{Hearing, place_at, AreUsedUp, IsSentSet, AreSentSets, units_in, AreLeft, unit_has_bytes}
use Rattle.shown_stream.proofs.Calls.EarlyPackets.{Begins, Behind, nothing_behind, begins, Early, early_walk}
use Rattle.shown_stream.proofs.Calls.EnteredSlots.{IsNotBegun, nothing_yet}
use Rattle.slot_stream.proofs.LaidPackets.{laid, IsAhead}
use Rattle.slot_stream.proofs.SentPieces.{IsFree}
use Rattle.slot_stream.proofs.SentStream.{its_pieces}
use Rattle.shown_stream.proofs.Sent.SetPackets.{bytes_in}
use Rattle.shown_stream.proofs.Calls.SetsInHand.{none_came}
use Rattle.sent_sets.proofs.LateSets.{rest_of_set, rest_is_set, zip_behind}
use Rattle.sent_sets.proofs.LateStream.{no_counter, passed, passed_is, drop-laid, drop_units, pieces_left}
use Rattle.sent_sets.proofs.Runs.{HaveDifferentTimes}
use Rattle.sent_sets.proofs.Units.{TimedSet, timed, IsUnitOf}

-- ---- the entry

-- where the first unit stands that comes behind n units: in which set, from the one of that number on, and at which of
-- its packets
abbrev pub entry_behind : ℕ → ℕ → List (List (List ℕ)) → Entry
entry_behind n i [] = record { set = i; packet = 0 }
entry_behind n i (group ∷ groups) =
    cond (ltb n (length group)) (record { set = i; packet = length (all_pieces (take n group)) })
    (entry_behind (n - length group) (suc i) groups)

taken_and_dropped : {X : Type 0} (n : ℕ) (xs : List X) → take n xs ++ drop n xs ≡ xs
taken_and_dropped zero xs = refl
taken_and_dropped (suc n) [] = refl
taken_and_dropped {X} (suc n) (x ∷ xs) = ap {B = List X} (λ rest. x ∷ rest) (taken_and_dropped n xs)

take_front : {X : Type 0} (n : ℕ) (xs ys : List X) → n ≤ length xs → take n (xs ++ ys) ≡ take n xs
take_front zero xs ys within = refl
take_front (suc n) [] ys within = absurd (omega arith)
take_front {X} (suc n) (x ∷ xs) ys within = ap {B = List X} (λ rest. x ∷ rest) (take_front n xs ys (omega arith))

take_past : {X : Type 0} (xs ys : List X) (n : ℕ) → take (length xs + n) (xs ++ ys) ≡ xs ++ take n ys
take_past [] ys n = let same : 0 + n ≡ n = omega arith in ap (λ k. take k ys) same
take_past {X} (x ∷ xs) ys n =
    let next : suc (length xs) + n
    ≡ suc (length xs + n) = omega arith in ap {B = List X} (λ k. take k (x ∷ (xs ++ ys))) next
    ∙ ap {B = List X} (λ rest. x ∷ rest) (take_past xs ys n)

pub same_lengths : {A B : Type 0} (R : A → B → Type 0) (xs : List A) (ys : List B) → AllZip R xs ys
    → length xs ≡ length ys
same_lengths R [] [] h = refl
same_lengths R [] (y ∷ ys) h = absurd h
same_lengths R (x ∷ xs) [] h = absurd h
same_lengths R (x ∷ xs) (y ∷ ys) h = ap suc (same_lengths R xs ys h.1)

-- the pieces of the first units of a set, and those of the others
pieces_split : (n : ℕ) (group : List (List ℕ))
    → all_pieces group ≡ all_pieces (take n group) ++ all_pieces (drop n group)
pieces_split n group =
    ap all_pieces (sym (taken_and_dropped n group)) ∙ flat_map-append pieces_of (take n group) (drop n group)

-- a set's bytes behind its first units
bytes_behind : (n : ℕ) (group : List (List ℕ)) (payloads : List ℕ)
    → payloads ≡ map bytes_in (all_pieces group)
    → drop (length (all_pieces (take n group))) payloads ≡ map bytes_in (all_pieces (drop n group))
bytes_behind n group payloads are =
    let front = map bytes_in (all_pieces (take n group)) in
    let rest = map bytes_in (all_pieces (drop n group)) in
    let parts : payloads ≡ front ++ rest =
    are ∙ ap (map bytes_in) (pieces_split n group)
    ∙ map-append bytes_in (all_pieces (take n group)) (all_pieces (drop n group)) in
    let count : length (all_pieces (take n group)) ≡ length front + 0 =
    omega (arith, length-map (all_pieces (take n group)) bytes_in) in
    ap (drop (length (all_pieces (take n group)))) parts ∙ ap (λ k. drop k (front ++ rest)) count
    ∙ drop-append-add front rest 0

-- a unit that is not the first of its set
begins_inside : (coded : ℕ) (pages : Pages) (loads : List WriteLoad) (n i first : ℕ) (group : List (List ℕ))
    (groups : List (List (List ℕ))) (set : TimedSet) (later : List TimedSet)
    → IsSentSet coded pages loads i group set → AreSentSets coded pages loads (suc i) groups later
    → HaveDifferentTimes (set ∷ later) → n < length group
    → first ≡ first_packet loads i + length (all_pieces (take n group))
    → (unit : List ℕ) (units : List (List ℕ)) → drop n group ≡ unit ∷ units
    → Begins coded pages loads (record { set = i; packet = length (all_pieces (take n group)) }) first
    (all_pieces (drop n (units_in (group ∷ groups))))
begins_inside coded pages loads n i first group groups set later sent more apart within numbered unit units rest =
    let many : length group ≡ length set.units =
    same_lengths (IsUnitOf pages) group (map (timed set.time) set.units) sent.units
    ∙ length-map set.units (timed set.time) in
    record {
      inside = sent.inside;
      numbered = numbered;
      set = rest_of_set n set;
      unit = unit;
      units = units;
      groups = groups;
      later = later;
      is = rest_is_set coded pages n set sent.is (omega arith);
      units_are =
          subst (λ (found : List (List ℕ)). AllZip (IsUnitOf pages) found (map (timed set.time) (drop n set.units)))
          rest
          (subst (AllZip (IsUnitOf pages) (drop n group)) (drop-map (timed set.time) n set.units)
          (zip_behind (IsUnitOf pages) n group (map (timed set.time) set.units) sent.units));
      whole = subst (AllByRecursion (IsUnit coded)) rest (drop_units coded n group sent.whole);
      own =
          bytes_behind n group (payloads_of (units_of loads i)) sent.bytes
          ∙ ap (λ found. map bytes_in (all_pieces found)) rest;
      sent = more;
      apart = (apart.0, apart.1);
      behind_is =
          ap all_pieces (drop-append-le n group (units_in groups) (omega arith))
          ∙ flat_map-append pieces_of (drop n group) (units_in groups)
          ∙ ap (λ found. all_pieces found ++ all_pieces (units_in groups)) rest;
    }

-- behind the pieces of n units there are those of the sets from the entry on
pub behind_units : (coded : ℕ) (pages : Pages) (loads : List WriteLoad) (n i first : ℕ)
    (groups : List (List (List ℕ))) (sets : List TimedSet) → AreSentSets coded pages loads i groups sets
    → HaveDifferentTimes sets → length loads ≡ i + length groups
    → first ≡ first_packet loads i + length (all_pieces (take n (units_in groups)))
    → Behind coded pages loads (entry_behind n i groups) first (all_pieces (drop n (units_in groups)))
behind_units coded pages loads n i first [] [] sent apart many numbered =
    subst (λ (found : List (List ℕ)). Behind coded pages loads (entry_behind n i []) first (all_pieces found))
    (sym (drop-nil n)) (nothing_behind (omega arith))
behind_units coded pages loads n i first [] (set ∷ later) sent apart many numbered = absurd sent
behind_units coded pages loads n i first (group ∷ groups) [] sent apart many numbered = absurd sent
behind_units coded pages loads n i first (group ∷ groups) (set ∷ later) sent apart many numbered =
    by (cases_lt n (length group))
    (λ split rest_numbered. subst
    (λ (found : List (List ℕ)). Behind coded pages loads (entry_behind (n - length group) (suc i) groups) first
    (all_pieces found)) (dropped_past split)
    (behind_units coded pages loads (n - length group) (suc i) first groups later sent.1 apart.1 (omega (arith, many))
    rest_numbered))
  where
    Left : Bool → Type 0
    Left b =
        Behind coded pages loads
        (cond b (record { set = i; packet = length (all_pieces (take n group)) })
        (entry_behind (n - length group) (suc i) groups)) first (all_pieces (drop n (units_in (group ∷ groups))))

    dropped_past : n ≡ length group + (n - length group)
        → drop (n - length group) (units_in groups) ≡ drop n (units_in (group ∷ groups))
    dropped_past split =
        sym (ap (λ k. drop k (group ++ units_in groups)) split
        ∙ drop-append-add group (units_in groups) (n - length group))

    within_group : n < length group → (rest : List (List ℕ)) → drop n group ≡ rest → Left true
    within_group within [] e = absurd (omega (arith, within, ap length e, length-drop n group))
    within_group within (unit ∷ units) e =
        begins (begins_inside coded pages loads n i first group groups set later sent.0 sent.1 apart within
        (numbered
        ∙ ap (λ found. first_packet loads i + length (all_pieces found))
        (take_front n group (units_in groups) (omega (arith, within)))) unit units e)

    by : (n < length group) ⊎ (length group ≤ n)
        → (n ≡ length group + (n - length group)
        → first ≡ first_packet loads (suc i) + length (all_pieces (take (n - length group) (units_in groups)))
        → Behind coded pages loads (entry_behind (n - length group) (suc i) groups) first
        (all_pieces (drop n (units_in (group ∷ groups)))))
        → Left (ltb n (length group))
    by (inl within) onward =
        let test : ltb n (length group)
        ≡ true = grind (arith, nat_tests) in subst Left (sym test) (within_group within (drop n group) refl)
    by (inr past) onward =
        let test : ltb n (length group) ≡ false = grind (arith, nat_tests) in
        let split : n ≡ length group + (n - length group) = omega arith in
        let front : take n (group ++ units_in groups) ≡ group ++ take (n - length group) (units_in groups) =
        ap (λ k. take k (group ++ units_in groups)) split
        ∙ take_past group (units_in groups) (n - length group) in
        let own : packets_of loads i ≡ length (all_pieces group) =
        ap length sent.0.bytes ∙ length-map (all_pieces group) bytes_in in
        let pieces : all_pieces (group ++ take (n - length group) (units_in groups)) ≡ all_pieces group
        ++ all_pieces (take (n - length group) (units_in groups)) = flat_map-append pieces_of group
        (take (n - length group) (units_in groups)) in
        subst Left (sym test)
        (onward split
        (omega (
          arith,
          numbered,
          own,
          sum_below-suc (packets_of loads) i,
          ap (λ found. length (all_pieces found)) front,
          ap length pieces,
          length-append (all_pieces group) (all_pieces (take (n - length group) (units_in groups))),
        )))

-- ---- slots from a place on

passed_few : (place : ℕ) (slots : List ℕ) → passed place slots ≤ length slots
passed_few place [] = omega arith
passed_few place (slot ∷ slots) = by (ltb slot place) (passed_few place slots)
  where
    by : (b : Bool) → passed place slots ≤ length slots
        → cond b (suc (passed place slots)) 0 ≤ suc (length slots)
    by true h = omega arith
    by false h = omega arith

ahead_from : (place from : ℕ) (slots : List ℕ) → IsAhead from slots
    → IsAhead place (drop (passed place slots) slots)
ahead_from place from [] ahead = tt
ahead_from place from (slot ∷ slots) ahead = by (cases_lt slot place) (ahead_from place (slot + 1) slots ahead.1)
  where
    From : Bool → Type 0
    From b = IsAhead place (drop (cond b (suc (passed place slots)) 0) (slot ∷ slots))

    by : (slot < place) ⊎ (place ≤ slot) → IsAhead place (drop (passed place slots) slots)
        → From (ltb slot place)
    by (inl before) rest = let test : ltb slot place ≡ true = grind (arith, nat_tests) in subst From (sym test) rest
    by (inr late) rest =
        let test : ltb slot place ≡ false = grind (arith, nat_tests) in subst From (sym test) (late, ahead.1)

-- ---- the stream

-- a stream of scheduled sets in slots
pub record IsSentStream (coded : ℕ) (pages : Pages) (loads : List WriteLoad) (slots : List ℕ)
    (groups : List (List (List ℕ))) (sets : List TimedSet) : Type 0 where
  pub are : AreSlots loads slots
  pub ahead : IsAhead 0 slots
  pub sent : AreSentSets coded pages loads 0 groups sets
  pub apart : HaveDifferentTimes sets
  pub many : length loads ≡ length groups
  pub whole : AllByRecursion (IsUnit coded) (units_in groups)
  pub pieces : length (all_pieces (units_in groups)) ≡ length slots

-- how many units do not come whole behind so many packets
abbrev pub units_missed : (coded missed : ℕ) (units : List (List ℕ)) (slots : List ℕ)
    → AllByRecursion (IsUnit coded) units → ℕ
units_missed coded missed units slots whole = (pieces_left coded (passed (0 + missed) slots) units whole).cut

-- where the stream is entered
abbrev pub entry_of : (coded : ℕ) (pages : Pages) (loads : List WriteLoad) (slots : List ℕ)
    (groups : List (List (List ℕ))) (sets : List TimedSet) (missed : ℕ)
    → IsSentStream coded pages loads slots groups sets → Entry
entry_of coded pages loads slots groups sets missed is =
    entry_behind (units_missed coded missed (units_in groups) slots is.whole) 0 groups

-- the entry's packet stands at the place where the stream is entered or behind it
not_yet : (coded : ℕ) (pages : Pages) (loads : List WriteLoad) (slots : List ℕ) (entry : Entry)
    (missed number more : ℕ) (behind : List Piece) → AreSlots loads slots → IsAhead 0 slots
    → number ≡ passed (0 + missed) slots → Behind coded pages loads entry (number + more) behind
    → IsNotBegun loads slots entry missed
not_yet coded pages loads slots entry missed number more behind are ahead is (nothing_behind none) =
    λ inside. absurd (omega arith)
not_yet coded pages loads slots entry missed number more behind are ahead is (begins first) = λ inside.
    let some = unit_has_bytes coded first.unit first.whole.0 in
    let many : length (drop entry.packet (payloads_of (units_of loads entry.set)))
    ≡ length (map bytes_in (all_pieces (first.unit ∷ first.units))) = ap length first.own in
    let pieces : 1 ≤ length (all_pieces (first.unit ∷ first.units)) =
    omega (
      arith,
      length-append (pieces_of first.unit) (all_pieces first.units),
      ap length
          (its_pieces first.unit some),
    ) in
    let within : entry.packet < packets_of loads entry.set =
    omega (
      arith,
      many,
      pieces,
      length-map (all_pieces (first.unit ∷ first.units)) bytes_in,
      length-drop
          entry.packet (payloads_of (units_of loads entry.set)),
    ) in
    let numbered = first.numbered in
    let late =
    (passed_is (0 + missed) 0 (first_packet loads entry.set + entry.packet) slots ahead
    (within_slots loads slots entry.set entry.packet are inside within)).1 (omega arith) in
    (within, omega arith)

-- the number of the first packet of the first unit that comes whole
first_number_is : (coded : ℕ) (pages : Pages) (loads : List WriteLoad) (slots : List ℕ)
    (groups : List (List (List ℕ))) (sets : List TimedSet) (missed : ℕ)
    → (is : IsSentStream coded pages loads slots groups sets)
    → passed (0 + missed) slots
    + length (pieces_left coded (passed (0 + missed) slots) (units_in groups) is.whole).further
    ≡ first_packet loads 0
    + length (all_pieces (take (units_missed coded missed (units_in groups) slots is.whole) (units_in groups)))
first_number_is coded pages loads slots groups sets missed is =
    let units = units_in groups in
    let n = passed (0 + missed) slots in
    let left = pieces_left coded n units is.whole in
    let few = passed_few (0 + missed) slots in
    let pieces = is.pieces in
    let parts = pieces_split left.cut units in
    omega (
      arith,
      few,
      pieces,
      sum_below-zero (packets_of loads),
      ap length parts,
      length-append (all_pieces (take left.cut units)) (all_pieces (drop left.cut units)),
      ap length left.are,
      length-append left.further (all_pieces (drop left.cut units)),
      length-drop n (all_pieces units),
    )

-- the stream is entered at its entry or before it
pub entry_not_begun : (coded : ℕ) (pages : Pages) (loads : List WriteLoad) (slots : List ℕ)
    (groups : List (List (List ℕ))) (sets : List TimedSet) (missed : ℕ)
    → (is : IsSentStream coded pages loads slots groups sets)
    → IsNotBegun loads slots (entry_of coded pages loads slots groups sets missed is) missed
entry_not_begun coded pages loads slots groups sets missed is =
    let units = units_in groups in
    let n = passed (0 + missed) slots in
    let left = pieces_left coded n units is.whole in
    not_yet coded pages loads slots (entry_of coded pages loads slots groups sets missed is) missed n
    (length left.further) (all_pieces (drop left.cut units)) is.are is.ahead refl
    (behind_units coded pages loads left.cut 0 (n + length left.further) groups sets is.sent is.apart
    (let many = is.many in omega arith) (first_number_is coded pages loads slots groups sets missed is))

-- the calls of its packets, up to any of them, are those of the scheduled sets
pub late_calls : (coded pid : ℕ) (pages : Pages) (loads : List WriteLoad) (slots : List ℕ)
    (groups : List (List (List ℕ))) (sets : List TimedSet) (painted : ℕ → ℕ) (missed m : ℕ)
    (calls : List (List Call)) → IsFree pid → (is : IsSentStream coded pages loads slots groups sets)
    → AreLeft loads painted (entry_of coded pages loads slots groups sets missed is)
    (entry_of coded pages loads slots groups sets missed is).set calls
    → m ≤ length (drop missed (laid pid 0 0 (all_pieces (units_in groups)) slots))
    → AreUsedUp coded pid pages [] (take m (drop missed (laid pid 0 0 (all_pieces (units_in groups)) slots)))
    (length calls)
    → reverse
    (calls_from itself coded pid pages missed []
    (take m (drop missed (laid pid 0 0 (all_pieces (units_in groups)) slots))) calls)
    ≡ entered_calls loads slots (missed + m) painted (entry_of coded pages loads slots groups sets missed is)
    (length loads)
late_calls coded pid pages loads slots groups sets painted missed m calls free is is_left many used =
    let units = units_in groups in
    let n = passed (0 + missed) slots in
    let at_place : 0 + missed ≡ missed = omega arith in
    let at_number : 0 + n ≡ n = omega arith in
    let left = pieces_left coded n units is.whole in
    let entry = entry_behind left.cut 0 groups in
    let few = passed_few (0 + missed) slots in
    let pieces = is.pieces in
    let parts = pieces_split left.cut units in
    let numbered : n + length left.further ≡ first_packet loads 0 + length (all_pieces (take left.cut units)) =
    omega (
      arith,
      few,
      pieces,
      sum_below-zero (packets_of loads),
      ap length parts,
      length-append (all_pieces (take left.cut units)) (all_pieces (drop left.cut units)),
      ap length left.are,
      length-append left.further (all_pieces (drop left.cut units)),
      length-drop n (all_pieces units),
    ) in
    let packets : drop missed (laid pid 0 0 (all_pieces units) slots)
    ≡ laid pid missed n (left.further ++ all_pieces (drop left.cut units)) (drop n slots)
    = drop-laid pid missed 0 0 (all_pieces units) slots is.pieces is.ahead
    ∙ ap (λ place. laid pid place (0 + n) (drop n (all_pieces units)) (drop n slots)) at_place
    ∙ ap (λ number. laid pid missed number (drop n (all_pieces units)) (drop n slots)) at_number
    ∙ ap (λ pieces. laid pid missed n pieces (drop n slots)) left.are in
    let behind =
    behind_units coded pages loads left.cut 0 (n + length left.further) groups sets is.sent is.apart
    (let many = is.many in omega arith) numbered in
    let hearing : Hearing =
    record {
      coded = coded;
      pid = pid;
      pages = pages;
      loads = loads;
      slots = slots;
      painted = painted;
      entry = entry;
      free = free;
      are = is.are;
    } in
    let place = place_at missed n entry.set [] in
    let early : Early hearing place left.further (all_pieces (drop left.cut units)) =
    record {
      rest = left.rest;
      hand = no_hand pid coded;
      follows = inl (no_counter pid);
      passed =
          λ q low. (let before = (passed_is (0 + missed) 0 q slots is.ahead (omega (arith, few, low))).0 low in omega
          arith);
      at_entry = refl;
      came = none_came coded pid pages;
      next = behind;
    } in
    subst (λ (found : List (List ℕ)). m ≤ length found
    → AreUsedUp coded pid pages [] (take m found) (length calls)
    → reverse (calls_from itself coded pid pages missed [] (take m found) calls)
    ≡ entered_calls loads slots (missed + m) painted entry (length loads)) (sym packets)
    (λ many used.
    sym (append-nil
    (reverse (calls_from itself coded pid pages missed []
    (take m (laid pid missed n (left.further ++ all_pieces (drop left.cut units)) (drop n slots))) calls)))
    ∙ ap (λ past. reverse
    (calls_from itself coded pid pages missed []
    (take m (laid pid missed n (left.further ++ all_pieces (drop left.cut units)) (drop n slots))) calls) ++ past)
    (sym (nothing_yet loads slots painted entry missed (length loads) is.are (omega arith)
    (not_yet coded pages loads slots entry missed n (length left.further) (all_pieces (drop left.cut units)) is.are
    is.ahead refl behind)))
    ∙ early_walk hearing m place left.further (all_pieces (drop left.cut units)) (drop n slots) calls early
    (record {
      ahead = subst (λ (place : ℕ). IsAhead place (drop n slots)) at_place (ahead_from (0 + missed) 0 slots is.ahead);
      places_are = refl;
      is_left = is_left;
    })
    many used)
    many used
