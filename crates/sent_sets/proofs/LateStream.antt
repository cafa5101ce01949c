-- A stream that is entered late: the units of which the first packet was received come out whole, and nothing is lost.
use Rattle.std.proofs.Common.{get_or, Bool, ◌≡◌, ◌∙◌, ℕ, zero, suc, ◌+◌, ◌-◌, ◌%◌, ◌<◌, ◌≤◌, true, false, cond, ltb, List, [], ◌∷◌, ◌++◌, length, take, drop, replicate, None, ◌⊎◌, inl, inr, refl, sym, ap, subst, arith, length-append, length-drop}
use Rattle.std.specs.Prelude.{filter_map}
use Rattle.std.specs.List.{AllByRecursion}
use Rattle.std.proofs.lemmas.Bool.{cases_lt}
use Rattle.std.proofs.lemmas.Bool.Decides.{nat_tests}
use Rattle.std.proofs.lemmas.List.{drop-append-le, length-take-le, length-replicate}
use Rattle.stream_syntax.specs.Cutting.{IsUnit, units_behind, events_behind}
use Rattle.stream_syntax.specs.TransportPackets.{null_packet}
use Rattle.stream_syntax.specs.Units.{last_counter, unit_at, event_at, is_loss}
use Rattle.decoder_model.proofs.Lists.{all-append}
use Rattle.decoder_model.proofs.SentUnits.{AreSent, each_after-append, given-append, all_taken, no_hand, units_of_sent, none_lost, ComeWhole}
use Rattle.stream_syntax.specs.declared.transport.Event.{Event}
use Rattle.std.proofs.Math.Seq.{drop-nil, drop-append-add}
use Rattle.ts_packets.proofs.AnyCuttingLemmas.{any_cutting, nothing_lost}
use Rattle.slot_stream.specs.SlotStream.{Piece, packet_of, pieces_of, all_pieces, IsPiece}
use Rattle.slot_stream.proofs.LaidPackets.{laid, behind, IsAhead}
use Rattle.sent_sets.proofs.LateEntry.{further_give_nothing}
use Rattle.slot_stream.proofs.SentPieces.{IsFree, AreFurther, FollowsOn, counter_behind, laid-append, none_refused}
use Rattle.slot_stream.proofs.SentStream.{first_piece, further_of, its_pieces, its_further, sent_units, pieces_are, only_pieces}

pub no_counter : (pid : ℕ) → last_counter pid [] ≡ None
unfolding last_counter
no_counter pid = refl

-- the counter behind the rest of a unit
follows_rest : (pid from number : ℕ) (further : List Piece) (slots : List ℕ) → IsFree pid → AreFurther further
    → length further ≡ length slots
    → FollowsOn (last_counter pid (laid pid from number further slots)) (number + length further)
follows_rest pid from number [] slots free are same = inl (no_counter pid)
follows_rest pid from number (piece ∷ further) [] free are same = absurd (omega arith)
follows_rest pid from number (piece ∷ further) (slot ∷ slots) free are same =
    inr (
      (number + length further) % 16,
      counter_behind pid from number [] piece further slot slots free are.0.0
          (only_pieces further are.1) (omega arith),
      omega arith,
    )

-- the rest of a unit and then whole units: the units come whole
pub come_late : (pid size from number : ℕ) (further : List Piece) (units : List (List ℕ)) (slots : List ℕ)
    → IsFree pid → AreFurther further → AllByRecursion (IsUnit size) units
    → length (further ++ all_pieces units) ≡ length slots
    → ComeWhole pid size (laid pid from number (further ++ all_pieces units) slots) units
come_late pid size from number further units slots free are whole same =
    let many : length further + length (all_pieces units) ≡ length slots =
    sym (length-append further (all_pieces units)) ∙ same in
    let taken : length further ≡ length (take (length further) slots) =
    sym (length-take-le (length further) slots (omega arith)) in
    let left : length (all_pieces units) ≡ length (drop (length further) slots) =
    omega (arith, length-drop (length further) slots) in
    let front = laid pid from number further (take (length further) slots) in
    let rest =
    laid pid (behind from (take (length further) slots)) (number + length further) (all_pieces units)
    (drop (length further) slots) in
    let parts : laid pid from number (further ++ all_pieces units) slots ≡ front ++ rest =
    laid-append pid from number further (all_pieces units) slots (omega arith) in
    let nothing =
    further_give_nothing pid size from number [] further (take (length further) slots) free are (no_hand pid size)
    (inl (no_counter pid)) in
    let sent : AreSent pid size front units rest =
    sent_units pid size (behind from (take (length further) slots)) (number + length further) front units
    (drop (length further) slots) free whole left
    (follows_rest pid from number further (take (length further) slots) free are taken) in
    record {
      taken = all_taken pid (laid pid from number (further ++ all_pieces units) slots)
          (none_refused pid from number (further ++ all_pieces units) slots free
          (all-append IsPiece further (all_pieces units) (only_pieces further are) (pieces_are size units whole)));
      no_loss =
          subst (λ (packets : List (List ℕ)). AllByRecursion (λ event. is_loss event ≡ false)
          (events_behind pid size [] packets)) (sym parts)
          (subst (AllByRecursion (λ (event : Event). is_loss event ≡ false))
          (sym (each_after-append (event_at pid size) [] front rest))
          (all-append (λ event. is_loss event ≡ false) (events_behind pid size [] front)
          (events_behind pid size front rest) nothing.no_losses
          (none_lost pid size front units rest (any_cutting pid size) (nothing_lost pid size) nothing.no_hand sent)));
      units_are =
          ap (λ packets. filter_map (λ found. found) (units_behind pid size [] packets)) parts
          ∙ ap (filter_map (λ found. found)) (each_after-append (unit_at pid size) [] front rest)
          ∙ given-append (units_behind pid size [] front) (units_behind pid size front rest)
          ∙ ap (λ first. first ++ filter_map (λ found. found) (units_behind pid size front rest)) nothing.no_units
          ∙ units_of_sent pid size front units rest (any_cutting pid size) sent;
    }

-- ---- the packets from a place on

-- how many slots, of rising ones, lie before one
abbrev pub passed : ℕ → List ℕ → ℕ
passed from [] = 0
passed from (slot ∷ slots) = cond (ltb slot from) (suc (passed from slots)) 0

all_same-drop : {X : Type 0} (x : X) (j count : ℕ) → drop j (replicate count x) ≡ replicate (count - j) x
all_same-drop x zero count = let same : count ≡ count - 0 = omega arith in ap (λ n. replicate n x) same
all_same-drop x (suc j) zero = let same : 0 ≡ 0 - suc j = omega arith in ap (λ n. replicate n x) same
all_same-drop x (suc j) (suc count) =
    let same : count - j ≡ suc count - suc j = omega arith in all_same-drop x j count
    ∙ ap (λ n. replicate n x) same

drop-nulls : (j count : ℕ) (rest : List (List ℕ)) → j ≤ count
    → drop j (replicate count null_packet ++ rest) ≡ replicate (count - j) null_packet ++ rest
drop-nulls j count rest within =
    drop-append-le j (replicate count null_packet) rest
    (omega (arith, length-replicate {A = List ℕ} count null_packet))
    ∙ ap (λ nulls. nulls ++ rest) (all_same-drop null_packet j count)

drop-past : (j count k : ℕ) (packet : List ℕ) (rest : List (List ℕ)) → j ≡ count + suc k
    → drop j (replicate count null_packet ++ packet ∷ rest) ≡ drop k rest
drop-past j count k packet rest e =
    let all : j ≡ length (replicate count null_packet) + suc k =
    omega (arith, length-replicate {A = List ℕ} count null_packet) in
    ap (λ n. drop n (replicate count null_packet ++ packet ∷ rest)) all
    ∙ drop-append-add (replicate count null_packet) (packet ∷ rest) (suc k)

-- behind its first packets a stream is the packets of the pieces whose slots are left
pub drop-laid : (pid j from number : ℕ) (pieces : List Piece) (slots : List ℕ) → length pieces ≡ length slots
    → IsAhead from slots
    → drop j (laid pid from number pieces slots)
    ≡ laid pid (from + j) (number + passed (from + j) slots) (drop (passed (from + j) slots) pieces)
    (drop (passed (from + j) slots) slots)
drop-laid pid j from number [] [] same ahead = drop-nil j
drop-laid pid j from number [] (slot ∷ slots) same ahead = absurd (omega arith)
drop-laid pid j from number (piece ∷ pieces) [] same ahead = absurd (omega arith)
drop-laid pid j from number (piece ∷ pieces) (slot ∷ slots) same ahead =
    by (cases_lt slot (from + j))
    (λ k at. drop-laid pid k (slot + 1) (number + 1) pieces slots (omega arith) ahead.1 ∙ ap (Rest) at)
  where
    Rest : ℕ → List (List ℕ)
    Rest place =
        laid pid place (number + 1 + passed place slots) (drop (passed place slots) pieces)
        (drop (passed place slots) slots)

    Left : ℕ → List (List ℕ)
    Left count = laid pid (from + j) (number + count) (drop count (piece ∷ pieces)) (drop count (slot ∷ slots))

    here : ℕ → ℕ → List (List ℕ)
    here count n = replicate count null_packet ++ packet_of pid n piece ∷ laid pid (slot + 1) (n + 1) pieces slots

    by : (slot < from + j) ⊎ (from + j ≤ slot)
        → ((k : ℕ) → slot + 1 + k ≡ from + j
        → drop k (laid pid (slot + 1) (number + 1) pieces slots) ≡ Rest (from + j))
        → drop j (laid pid from number (piece ∷ pieces) (slot ∷ slots))
        ≡ Left (passed (from + j) (slot ∷ slots))
    by (inl before) onward =
        let least = ahead.0 in
        let k = j - (slot - from) - 1 in
        let at : slot + 1 + k ≡ from + j = omega arith in
        let count : j ≡ (slot - from) + suc k = omega arith in
        let test : ltb slot (from + j) ≡ true = grind (arith, nat_tests) in
        let next : number + 1 + passed (from + j) slots ≡ number + suc (passed (from + j) slots) = omega arith in
        drop-past j (slot - from) k (packet_of pid number piece) (laid pid (slot + 1) (number + 1) pieces slots) count
        ∙ onward k at
        ∙ ap (λ n. laid pid (from + j) n (drop (passed (from + j) slots) pieces)
        (drop (passed (from + j) slots) slots)) next
        ∙ ap (λ b. Left (cond b (suc (passed (from + j) slots)) 0)) (sym test)
    by (inr later) onward =
        let least = ahead.0 in
        let within : j ≤ slot - from = omega arith in
        let count : slot - from - j ≡ slot - (from + j) = omega arith in
        let same_number : number ≡ number + 0 = omega arith in
        let test : ltb slot (from + j) ≡ false = grind (arith, nat_tests) in
        drop-nulls j (slot - from) (packet_of pid number piece ∷ laid pid (slot + 1) (number + 1) pieces slots) within
        ∙ ap (λ n. here n number) count
        ∙ ap (here (slot - (from + j))) same_number
        ∙ ap (λ b. Left (cond b (suc (passed (from + j) slots)) 0)) (sym test)

-- ---- the pieces from a place on

drop_further : (count : ℕ) (pieces : List Piece) → AreFurther pieces → AreFurther (drop count pieces)
drop_further zero pieces h = h
drop_further (suc count) [] h = tt
drop_further (suc count) (piece ∷ pieces) h = drop_further count pieces h.1

-- the number of a unit's first piece, among those of all units
abbrev pub first_number : List (List ℕ) → ℕ → ℕ
first_number units i = length (all_pieces (take i units))

-- behind some pieces of units there are the rest of a unit, and exactly the units whose first piece is not among these
pub record PiecesLeft (units : List (List ℕ)) (count : ℕ) : Type 0 where
  pub cut : ℕ
  pub further : List Piece
  pub rest : AreFurther further
  pub none : count ≡ 0 → cut ≡ 0
  pub some : 1 ≤ count → 1 ≤ length units → 1 ≤ cut
  pub begun : (i : ℕ) → i < length units → (i < cut → first_number units i < count)
      × (cut ≤ i → count ≤ first_number units i)
  pub are : drop count (all_pieces units) ≡ further ++ all_pieces (drop cut units)

pub pieces_left : (size count : ℕ) (units : List (List ℕ)) → AllByRecursion (IsUnit size) units
    → PiecesLeft units count
pieces_left size zero units whole =
    record {
      cut = 0;
      further = [];
      rest = tt;
      none = λ e. refl;
      some = λ passed_some units_some. absurd
          (omega arith);
      begun = λ i inside. (λ h. absurd (omega arith), λ h. omega arith);
      are = refl;
    }
pieces_left size (suc count) [] whole =
    record {
      cut = 0;
      further = [];
      rest = tt;
      none = λ e. refl;
      some = λ passed_some units_some. absurd
          (omega arith);
      begun = λ i inside. absurd (omega arith);
      are = refl;
    }
pieces_left size (suc count) (unit ∷ units) whole =
    by (cases_lt (length (further_of unit)) count) (λ k. pieces_left size k units whole.1)
  where
    has_bytes : 1 ≤ length unit
    has_bytes = let long = whole.0.bounded in omega arith

    all : all_pieces (unit ∷ units) ≡ first_piece unit ∷ (further_of unit ++ all_pieces units)
    all = ap (λ pieces. pieces ++ all_pieces units) (its_pieces unit has_bytes)

    next_number : (i : ℕ)
        → first_number (unit ∷ units) (suc i) ≡ suc (length (further_of unit)) + first_number units i
    next_number i =
        length-append (pieces_of unit) (all_pieces (take i units))
        ∙ ap (λ pieces. length pieces + first_number units i) (its_pieces unit has_bytes)

    later_begun : (left : PiecesLeft units (count - length (further_of unit))) → length (further_of unit) < count
        → (i : ℕ) → i < suc (length units)
        → (i < suc left.cut → first_number (unit ∷ units) i < suc count)
        × (suc left.cut ≤ i → suc count ≤ first_number (unit ∷ units) i)
    later_begun left past zero inside = (λ h. omega arith, λ h. absurd (omega arith))
    later_begun left past (suc i) inside =
        let rest =
        left.begun i (omega arith) in (
          λ h. let less = rest.0 (omega arith) in omega (arith, next_number i),
          λ h. let most = rest.1
              (omega arith) in omega (arith, next_number i),
        )

    first_begun : count ≤ length (further_of unit) → (i : ℕ) → i < suc (length units)
        → (i < 1 → first_number (unit ∷ units) i < suc count)
        × (1 ≤ i → suc count ≤ first_number (unit ∷ units) i)
    first_begun within zero inside = (λ h. omega arith, λ h. absurd (omega arith))
    first_begun within (suc i) inside = (λ h. absurd (omega arith), λ h. omega (arith, next_number i))

    by : (length (further_of unit) < count) ⊎ (count ≤ length (further_of unit))
        → ((k : ℕ) → PiecesLeft units k) → PiecesLeft (unit ∷ units) (suc count)
    by (inl past) onward =
        let left = onward (count - length (further_of unit)) in
        let split : count ≡ length (further_of unit) + (count - length (further_of unit)) = omega arith in
        record {
          cut = suc left.cut;
          further = left.further;
          rest = left.rest;
          none = λ e. absurd (omega arith);
          some = λ passed_some units_some. omega arith;
          begun = later_begun left past;
          are =
              ap (drop (suc count)) all ∙ ap (λ n. drop n (further_of unit ++ all_pieces units)) split
              ∙ drop-append-add (further_of unit) (all_pieces units) (count - length (further_of unit)) ∙ left.are;
        }
    by (inr within) onward = record {
      cut = 1;
      further = drop count (further_of unit);
      rest = drop_further count (further_of unit) (its_further unit has_bytes);
      none = λ e. absurd (omega arith);
      some = λ passed_some units_some. omega arith;
      begun = first_begun within;
      are = ap (drop (suc count)) all ∙ drop-append-le count (further_of unit) (all_pieces units) within;
    }

-- ---- entered late

pub drop_units : (size count : ℕ) (units : List (List ℕ)) → AllByRecursion (IsUnit size) units
    → AllByRecursion (IsUnit size) (drop count units)
drop_units size zero units h = h
drop_units size (suc count) [] h = tt
drop_units size (suc count) (unit ∷ units) h = drop_units size count units h.1

-- entered behind any number of its packets, a stream gives the units whose packets are all left, and no loss
pub entered_late : (pid size j : ℕ) (units : List (List ℕ)) (slots : List ℕ) → IsFree pid
    → (whole : AllByRecursion (IsUnit size) units) → length (all_pieces units) ≡ length slots → IsAhead 0 slots
    → ComeWhole pid size (drop j (laid pid 0 0 (all_pieces units) slots))
    (drop (pieces_left size (passed (0 + j) slots) units whole).cut units)
entered_late pid size j units slots free whole same ahead =
    let m = passed (0 + j) slots in
    let left = pieces_left size m units whole in
    let packets : drop j (laid pid 0 0 (all_pieces units) slots)
    ≡ laid pid (0 + j) (0 + m) (left.further ++ all_pieces (drop left.cut units)) (drop m slots)
    = drop-laid pid j 0 0 (all_pieces units) slots same ahead
    ∙ ap (λ pieces. laid pid (0 + j) (0 + m) pieces (drop m slots)) left.are in
    let count : length (left.further ++ all_pieces (drop left.cut units)) ≡ length (drop m slots) =
    ap length (sym left.are) ∙ length-drop m (all_pieces units) ∙ ap (λ n. n - m) same
    ∙ sym (length-drop m slots) in
    subst (λ (some : List (List ℕ)). ComeWhole pid size some (drop left.cut units)) (sym packets)
    (come_late pid size (0 + j) (0 + m) left.further (drop left.cut units) (drop m slots) free left.rest
    (drop_units size left.cut units whole) count)

pub later_slots : (from : ℕ) (slots : List ℕ) (k : ℕ) → IsAhead from slots → k < length slots
    → from ≤ get_or slots k 0
later_slots from [] k ahead inside = absurd (omega arith)
later_slots from (slot ∷ slots) zero ahead inside = ahead.0
later_slots from (slot ∷ slots) (suc k) ahead inside =
    let least = ahead.0 in let more = later_slots (slot + 1) slots k ahead.1 (omega arith) in omega arith

-- of rising slots, those that are passed lie before a place, and the others do not
pub passed_is : (place from k : ℕ) (slots : List ℕ) → IsAhead from slots → k < length slots
    → (k < passed place slots → get_or slots k 0 < place)
    × (passed place slots ≤ k → place ≤ get_or slots k 0)
passed_is place from k [] ahead inside = absurd (omega arith)
passed_is place from k (slot ∷ slots) ahead inside =
    by (cases_lt slot place) k inside (λ k inside. passed_is place (slot + 1) k slots ahead.1 inside)
  where
    Told : ℕ → ℕ → Type 0
    Told count k = (k < count → get_or (slot ∷ slots) k 0 < place)
        × (count ≤ k → place ≤ get_or (slot ∷ slots) k 0)

    all_later : (k : ℕ) → k < suc (length slots) → place ≤ slot → place ≤ get_or (slot ∷ slots) k 0
    all_later zero within late = late
    all_later (suc k) within late = let more = later_slots (slot + 1) slots k ahead.1 (omega arith) in omega arith

    first : (k : ℕ) → k < suc (length slots) → slot < place
        → ((k : ℕ) → k < length slots → (k < passed place slots → get_or slots k 0 < place)
        × (passed place slots ≤ k → place ≤ get_or slots k 0)) → Told (suc (passed place slots)) k
    first zero within before onward = (λ h. before, λ h. absurd (omega arith))
    first (suc k) within before onward =
        (λ h. (onward k (omega arith)).0 (omega arith), λ h. (onward k (omega arith)).1 (omega arith))

    by : (slot < place) ⊎ (place ≤ slot) → (k : ℕ) → k < suc (length slots)
        → ((k : ℕ) → k < length slots → (k < passed place slots → get_or slots k 0 < place)
        × (passed place slots ≤ k → place ≤ get_or slots k 0)) → Told (passed place (slot ∷ slots)) k
    by (inl before) k within onward =
        let test : ltb slot place ≡ true =
        grind (arith, nat_tests) in subst (λ (b : Bool). Told (cond b (suc (passed place slots)) 0) k) (sym test)
        (first k within before onward)
    by (inr late) k within onward =
        let test : ltb slot place ≡ false =
        grind (arith, nat_tests) in subst (λ (b : Bool). Told (cond b (suc (passed place slots)) 0) k) (sym test)
        (λ h. absurd (omega arith), λ h. all_later k within late)

-- a unit's first piece is one of all
first_is_piece : (size i : ℕ) (units : List (List ℕ)) → AllByRecursion (IsUnit size) units → i < length units
    → first_number units i < length (all_pieces units)
first_is_piece size i [] whole inside = absurd (omega arith)
first_is_piece size zero (unit ∷ units) whole inside =
    let long = whole.0.bounded in
    let has_bytes : 1 ≤ length unit = omega arith in
    omega (arith, length-append (pieces_of unit) (all_pieces units), ap length (its_pieces unit has_bytes))
first_is_piece size (suc i) (unit ∷ units) whole inside =
    omega (
      arith,
      length-append (pieces_of unit) (all_pieces units),
      length-append (pieces_of unit)
          (all_pieces (take i units)),
      first_is_piece size i units whole.1 (omega arith),
    )

-- entered behind so many packets, exactly the units come of which the first packet has that place or a later one
pub units_that_come : (size missed : ℕ) (units : List (List ℕ)) (slots : List ℕ)
    (whole : AllByRecursion (IsUnit size) units) → length (all_pieces units) ≡ length slots → IsAhead 0 slots
    → (i : ℕ) → i < length units
    → (i < (pieces_left size (passed (0 + missed) slots) units whole).cut
    → get_or slots (first_number units i) 0 < missed)
    × ((pieces_left size (passed (0 + missed) slots) units whole).cut ≤ i
    → missed ≤ get_or slots (first_number units i) 0)
units_that_come size missed units slots whole same ahead i inside =
    let within = first_is_piece size i units whole inside in
    let begun = (pieces_left size (passed (0 + missed) slots) units whole).begun i inside in
    let at =
    passed_is (0 + missed) 0 (first_number units i) slots ahead (omega arith) in
    (λ h. let less = at.0 (begun.0 h) in omega arith, λ h. let most = at.1 (begun.1 h) in omega arith)
