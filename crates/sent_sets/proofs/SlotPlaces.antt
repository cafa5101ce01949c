-- The places of the packets of a set: all stand from a place on where the first one does. The first unit of a set
-- begins with the set's first packet, and of a set of which a unit comes a packet does.
use Rattle.std.proofs.Common.{◌≡◌, ◌∙◌, ℕ, zero, suc, ◌+◌, ◌-◌, ◌<◌, ◌≤◌, List, [], ◌∷◌, ◌++◌, length, map, take, drop, refl, sym, ap, subst, arith, get_or, length-drop, true, false, ◌&&◌, length-append, Bool, ◌||◌}
use Rattle.std.specs.Prelude.{nat_le, sum, slice_index}
use Rattle.std.proofs.lemmas.List.{get_or-take, length-take-le, get_or-drop}
use Rattle.sub_base.specs.declared.load.WriteLoad.{WriteLoad}
use Rattle.sub_base.specs.declared.pace.Pace.{Pace}
use Rattle.schedule.specs.Packets.{size_of, packets_of, first_packet}
use Rattle.schedule.specs.Slots.{Timetable, IsSchedule, start_of, slots_of}
use Rattle.schedule.proofs.PacketLaws.{some_packets}
use Rattle.schedule.proofs.SumLaws.{sum_below-zero, sum_below-suc, sum_below-rises}
use Rattle.std.specs.List.{AllByRecursion, list_all, list_any}
use Rattle.std.proofs.lemmas.Bool.Decides.{nat_tests}
use Rattle.slot_stream.proofs.LaidPackets.{IsAhead}
use Rattle.std.proofs.Math.Seq.{take-append-add}
use Rattle.std.proofs.lemmas.List.Sums.{sum_by-cons}
use Rattle.stream_syntax.specs.Cutting.{IsUnit}
use Rattle.slot_stream.specs.SlotStream.{all_pieces, pieces_of}
use Rattle.slot_stream.proofs.SentStream.{its_pieces}
use Rattle.sub_base.specs.Lists.{all_of}
use Rattle.sent_sets.specs.SentStream.{AreSizedAs}
use Rattle.sent_sets.proofs.LateStream.{first_number}
use Rattle.sent_sets.proofs.PacketCounts.{count_before}

-- ---- slots that rise

pub sooner : (least from : ℕ) (xs : List ℕ) → least ≤ from → IsAhead from xs → IsAhead least xs
sooner least from [] le h = tt
sooner least from (x ∷ xs) le h = let first = h.0 in (omega arith, h.1)

pub all_ahead : (least : ℕ) (xs : List ℕ) → IsAhead least xs → AllByRecursion (λ place. least ≤ place) xs
all_ahead least [] h = tt
all_ahead least (x ∷ xs) h =
    let first = h.0 in (first, all_ahead least xs (sooner least (x + 1) xs (omega arith) h.1))

pub from_all : (j : ℕ) (places : List ℕ) → AllByRecursion (λ place. j ≤ place) places
    → list_all (λ at. nat_le j at) places ≡ true
from_all j [] h = refl
from_all j (place ∷ places) h =
    let low : j ≤ place = h.0 in
    let here : nat_le j place ≡ true = grind (arith, nat_tests) in
    rw here (from_all j places h.1)

-- ---- where a set begins

one_on : (k : ℕ) → k + 1 ≡ suc k
one_on k = omega arith

-- the places of a set begin with its first packet
pub start_is : (loads : List WriteLoad) (n : ℕ) (pace : Pace) (table : Timetable) → IsSchedule loads n pace table
    → (k : ℕ) → k ≤ n → start_of table k ≡ first_packet loads k
start_is loads n pace table schedule zero low = sym (sum_below-zero (packets_of loads))
start_is loads n pace table schedule (suc k) low = schedule.ends k (omega arith) ∙ ap (first_packet loads) (one_on k)

-- a set with bytes has a place
pub has_place : (loads : List WriteLoad) (n : ℕ) (pace : Pace) (table : Timetable) → IsSchedule loads n pace table
    → (k : ℕ) → k < n → 1 ≤ size_of loads k → 1 ≤ length (slots_of table k)
has_place loads n pace table schedule k low some =
    let packets = schedule.packets in
    let start = start_is loads n pace table schedule k (omega arith) in
    let end = start_is loads n pace table schedule (suc k) (omega arith) in
    let more = sum_below-suc (packets_of loads) k in
    let rises = sum_below-rises (packets_of loads) (suc k) n (omega arith) in
    let any = some_packets loads k some in
    let rest = length-drop (start_of table k) table.slots in
    let size =
    length-take-le (start_of table (suc k) - start_of table k) (drop (start_of table k) table.slots) (omega arith)
    in
    omega arith

-- ---- the units of a set

take_units : (i : ℕ) (units : List (List (List ℕ)))
    → take (length (all_of (take i units))) (all_of units) ≡ all_of (take i units)
take_units zero units = refl
take_units (suc i) [] = refl
take_units (suc i) (packets ∷ units) =
    ap (λ n. take n (packets ++ all_of units)) (length-append packets (all_of (take i units)))
    ∙ take-append-add packets (all_of units) (length (all_of (take i units)))
    ∙ ap (λ rest. packets ++ rest) (take_units i units)

-- each set has a PES packet
abbrev pub HavePackets : List (List (List ℕ)) → Type 0
HavePackets units = AllByRecursion (λ (packets : List (List ℕ)). 1 ≤ length packets) units

pub unit_inside : (i : ℕ) (units : List (List (List ℕ))) → i < length units → HavePackets units
    → length (all_of (take i units)) < length (all_of units)
unit_inside i [] inside some = absurd (omega arith)
unit_inside zero (packets ∷ units) inside some = omega (arith, some.0, length-append packets (all_of units))
unit_inside (suc i) (packets ∷ units) inside some =
    omega (
      arith,
      unit_inside i units (omega arith) some.1,
      length-append packets (all_of units),
      length-append
          packets (all_of (take i units)),
    )

-- the first unit of a set begins with the set's first packet
pub first_of_set : (i : ℕ) (loads : List WriteLoad) (units : List (List (List ℕ))) → i ≤ length loads
    → AreSizedAs loads units
    → first_number (all_of units) (length (all_of (take i units))) ≡ first_packet loads i
first_of_set i loads units within sized =
    ap (λ front. length (all_pieces front)) (take_units i units) ∙ sym (count_before i loads units within sized)

-- each set has bytes
pub some_bytes : (size : ℕ) (loads : List WriteLoad) (units : List (List (List ℕ))) → AreSizedAs loads units
    → HavePackets units → AllByRecursion (IsUnit size) (all_of units) → (i : ℕ) → i < length loads
    → 1 ≤ size_of loads i
some_bytes size [] units sized some are i inside = absurd (omega arith)
some_bytes size (load ∷ loads) [] sized some are i inside = absurd sized
some_bytes size (load ∷ loads) ([] ∷ units) sized some are i inside = absurd (omega (arith, some.0))
some_bytes size (load ∷ loads) ((packet ∷ packets) ∷ units) sized some are zero inside =
    let long = are.0.bounded in
    let whole : sum (length packet ∷ map length packets) ≡ sum load.units = ap sum sized.0 in
    omega (arith, whole, sum_by-cons (λ (n : ℕ). n) (length packet) (map length packets))
some_bytes size (load ∷ loads) ((packet ∷ packets) ∷ units) sized some are (suc i) inside =
    some_bytes size loads units sized.1 some.1 (behind_first packets are.1) i (omega arith)
  where
    behind_first : (packets : List (List ℕ)) → AllByRecursion (IsUnit size) (packets ++ all_of units)
        → AllByRecursion (IsUnit size) (all_of units)
    behind_first [] h = h
    behind_first (first ∷ packets) h = behind_first packets h.1

-- ---- the places of a set

early_first : (j m : ℕ) (xs : List ℕ) → 1 ≤ length (take m xs) → get_or xs 0 0 < j
    → list_all (λ at. nat_le j at) (take m xs) ≡ false
early_first j zero xs some early = absurd (omega arith)
early_first j (suc m) [] some early = absurd (omega arith)
early_first j (suc m) (x ∷ xs) some early =
    let first : nat_le j x
    ≡ false = grind (arith, nat_tests) in ap (λ b. b && list_all (λ at. nat_le j at) (take m xs)) first

take_from : (j m : ℕ) (xs : List ℕ) → AllByRecursion (λ x. j ≤ x) xs
    → AllByRecursion (λ x. j ≤ x) (take m xs)
take_from j zero xs h = tt
take_from j (suc m) [] h = tt
take_from j (suc m) (x ∷ xs) h = (h.0, take_from j m xs h.1)

drop_from : (j from n : ℕ) (slots : List ℕ) → IsAhead from slots → j ≤ get_or slots n 0
    → AllByRecursion (λ x. j ≤ x) (drop n slots)
drop_from j from zero [] ahead late = tt
drop_from j from (suc n) [] ahead late = tt
drop_from j from zero (slot ∷ slots) ahead late =
    (late, all_ahead j slots (sooner j (slot + 1) slots (omega arith) ahead.1))
drop_from j from (suc n) (slot ∷ slots) ahead late = drop_from j (slot + 1) n slots ahead.1 late

-- all packets of a set stand from a place on, where its first one does, and else not
pub places_from : (loads : List WriteLoad) (n : ℕ) (pace : Pace) (table : Timetable)
    → IsSchedule loads n pace table → IsAhead 0 table.slots → (j i : ℕ) → i < n → 1 ≤ size_of loads i
    → (get_or table.slots (first_packet loads i) 0 < j
    → list_all (λ at. nat_le j at) (slots_of table i) ≡ false)
    × (j ≤ get_or table.slots (first_packet loads i) 0
    → list_all (λ at. nat_le j at) (slots_of table i) ≡ true)
places_from loads n pace table schedule ahead j i inside some =
    let place = has_place loads n pace table schedule i inside some in
    let start = start_of table i in
    let many = slice_index table.ends i - start in
    let begins : first_packet loads i ≡ start = sym (start_is loads n pace table schedule i (omega arith)) in
    let first : get_or (drop start table.slots) 0 0 ≡ get_or table.slots (first_packet loads i) 0 =
    get_or-drop start table.slots 0 0 ∙ ap (λ k. get_or table.slots k 0) (omega (arith, begins)) in (
      λ early. early_first j many (drop start table.slots) place (omega (arith, first, early)),
      λ late. from_all j (slots_of table i)
          (take_from j many (drop start table.slots)
          (drop_from j 0 start table.slots ahead (subst (λ (k : ℕ). j ≤ get_or table.slots k 0) begins late))),
    )

-- ---- pieces

-- later units have later pieces
pub pieces_rise : (a b : ℕ) (units : List (List ℕ)) → a ≤ b → first_number units a ≤ first_number units b
pieces_rise zero b units order = omega arith
pieces_rise (suc a) zero units order = absurd (omega arith)
pieces_rise (suc a) (suc b) [] order = omega arith
pieces_rise (suc a) (suc b) (unit ∷ units) order =
    omega (
      arith,
      pieces_rise a b units (omega arith),
      length-append (pieces_of unit)
          (all_pieces (take a units)),
      length-append (pieces_of unit) (all_pieces (take b units)),
    )

pub next_piece : (size i : ℕ) (units : List (List ℕ)) → AllByRecursion (IsUnit size) units → i < length units
    → first_number units i < first_number units (suc i)
next_piece size i [] whole inside = absurd (omega arith)
next_piece size zero (unit ∷ units) whole inside =
    let long = whole.0.bounded in
    let has_bytes : 1 ≤ length unit = omega arith in
    omega (arith, length-append (pieces_of unit) (all_pieces (take 0 units)), ap length (its_pieces unit has_bytes))
next_piece size (suc i) (unit ∷ units) whole inside =
    omega (
      arith,
      length-append (pieces_of unit) (all_pieces (take i units)),
      length-append (pieces_of unit) (all_pieces (take (suc i) units)),
      next_piece size i units whole.1 (omega arith),
    )

-- ---- places

any_at : (j : ℕ) (xs : List ℕ) (k : ℕ) → k < length xs → j ≤ get_or xs k 0
    → list_any (λ at. nat_le j at) xs ≡ true
any_at j [] k inside late = absurd (omega arith)
any_at j (x ∷ xs) zero inside late =
    let first : nat_le j x ≡ true = grind (arith, nat_tests) in ap (λ b. b || list_any (λ at. nat_le j at) xs) first
any_at j (x ∷ xs) (suc k) inside late =
    ap (λ b. nat_le j x || b) (any_at j xs k (omega arith) late) ∙ either (nat_le j x)
  where
    either : (b : Bool) → (b || true) ≡ true
    either true = refl
    either false = refl

-- one of a set's packets stands from a place on, where the slot of one of its pieces does
pub some_from : (loads : List WriteLoad) (n : ℕ) (pace : Pace) (table : Timetable) → IsSchedule loads n pace table
    → (j i piece : ℕ) → i < n → first_packet loads i ≤ piece → piece < first_packet loads (suc i)
    → j ≤ get_or table.slots piece 0
    → list_any (λ at. nat_le j at) (slots_of table i) ≡ true
some_from loads n pace table schedule j i piece inside first last late =
    let packets = schedule.packets in
    let start = start_is loads n pace table schedule i (omega arith) in
    let end = start_is loads n pace table schedule (suc i) (omega arith) in
    let all = sum_below-rises (packets_of loads) (suc i) n (omega arith) in
    let rest = length-drop (start_of table i) table.slots in
    let many = start_of table (suc i) - start_of table i in
    let size = length-take-le many (drop (start_of table i) table.slots) (omega arith) in
    let within : piece - start_of table i < many = omega arith in
    let whole : start_of table i + (piece - start_of table i) ≡ piece = omega arith in
    let here : get_or (slots_of table i) (piece - start_of table i) 0 ≡ get_or table.slots piece 0 =
    get_or-take many (drop (start_of table i) table.slots) (piece - start_of table i) 0 within
    ∙ get_or-drop (start_of table i) table.slots (piece - start_of table i) 0
    ∙ ap (λ k. get_or table.slots k 0) whole in
    any_at j (slots_of table i) (piece - start_of table i) (omega arith) (omega (arith, here, late))
