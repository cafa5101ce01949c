-- The packets that a stream has at its slots carry its units, one after another.
use Rattle.std.proofs.Common.{◌≡◌, ◌∙◌, ℕ, zero, suc, ◌+◌, ◌-◌, ◌*◌, ◌%◌, ◌<◌, ◌≤◌, true, false, eqb, List, [], ◌∷◌, ◌++◌, length, map, take, drop, Option, inl, inr, refl, sym, ap, subst, arith, length-append, length-drop, take_all}
use Rattle.std.specs.List.{range_with_len, concat, AllByRecursion}
use Rattle.std.proofs.Math.Seq.{take-add}
use Rattle.std.proofs.lemmas.Bool.Decides.{nat_tests}
use Rattle.std.proofs.lemmas.List.{length-take, length-take-le, drop-drop}
use Rattle.stream_syntax.specs.Cutting.{IsUnit, HasCounter}
use Rattle.stream_syntax.specs.Units.{last_counter}
use Rattle.decoder_model.proofs.Lists.{all-append}
use Rattle.decoder_model.proofs.SentUnits.{AreSent}
use Rattle.slot_stream.specs.SlotStream.{Piece, piece_count, piece_of, pieces_of, all_pieces, IsPiece}
use Rattle.slot_stream.proofs.LaidPackets.{laid, behind}
use Rattle.slot_stream.proofs.SentPieces.{IsFree, AreFurther, FollowsOn, cut_of_laid, gapless_laid, counter_behind, laid-append}

-- ---- the pieces of a unit

-- a piece that begins within the unit
is_piece : (unit : List ℕ) (k : ℕ) → 184 * k < length unit → IsPiece (piece_of unit k)
is_piece unit k within =
    let long = length-take 184 (drop (184 * k) unit) in
    let left = length-drop (184 * k) unit in (omega (arith, long, left), omega (arith, long, left))

-- the pieces from one on that is not the first
further_pieces : (unit : List ℕ) (k count : ℕ) → 1 ≤ k → 184 * (k + count) < length unit + 184
    → AreFurther (map (piece_of unit) (range_with_len k count))
further_pieces unit k zero first within = tt
further_pieces unit k (suc count) first within =
    let later : eqb k 0
    ≡ false = grind (arith, nat_tests) in
    ((is_piece unit k (omega arith), later), further_pieces unit (k + 1) count (omega arith) (omega arith))

-- joined they are the unit
joined_pieces : (unit : List ℕ) (k count : ℕ)
    → concat (map (λ (piece : Piece). piece.bytes) (map (piece_of unit) (range_with_len k count)))
    ≡ take (184 * count) (drop (184 * k) unit)
joined_pieces unit k zero = refl
joined_pieces unit k (suc count) =
    let more : 184 * suc count ≡ 184 + 184 * count = omega arith in
    let next : 184 * (k + 1) ≡ 184 * k + 184 = omega arith in
    ap (λ rest. take 184 (drop (184 * k) unit) ++ rest) (joined_pieces unit (k + 1) count
    ∙ ap (λ n. take (184 * count) (drop n unit)) next
    ∙ ap (take (184 * count)) (sym (drop-drop 184 (184 * k) unit)))
    ∙ sym (take-add 184 (184 * count) (drop (184 * k) unit))
    ∙ ap (λ n. take n (drop (184 * k) unit)) (sym more)

-- a unit's first piece, and its further ones
abbrev pub first_piece : List ℕ → Piece
first_piece unit = piece_of unit 0

abbrev pub further_of : List ℕ → List Piece
further_of unit = map (piece_of unit) (range_with_len 1 (piece_count unit - 1))

pub its_pieces : (unit : List ℕ) → 1 ≤ length unit → pieces_of unit ≡ first_piece unit ∷ further_of unit
its_pieces unit some = let count : piece_count unit
    ≡ suc (piece_count unit - 1) = omega arith in ap (λ n. map (piece_of unit) (range_with_len 0 n)) count

-- joined they are the unit
pub its_bytes : (unit : List ℕ) → 1 ≤ length unit
    → unit ≡ concat (map (λ (piece : Piece). piece.bytes) (first_piece unit ∷ further_of unit))
its_bytes unit some =
    let enough : length unit ≤ 184 * piece_count unit = omega arith in
    sym (ap (λ pieces. concat (map (λ (piece : Piece). piece.bytes) pieces)) (sym (its_pieces unit some))
    ∙ joined_pieces unit 0 (piece_count unit) ∙ take_all (184 * piece_count unit) unit enough)

pub its_first : (unit : List ℕ) → 1 ≤ length unit → IsPiece (first_piece unit)
its_first unit some = is_piece unit 0 (omega arith)

pub its_further : (unit : List ℕ) → 1 ≤ length unit → AreFurther (further_of unit)
its_further unit some = further_pieces unit 1 (piece_count unit - 1) (omega arith) (omega arith)

pub only_pieces : (pieces : List Piece) → AreFurther pieces → AllByRecursion IsPiece pieces
only_pieces [] h = tt
only_pieces (piece ∷ pieces) h = (h.0.0, only_pieces pieces h.1)

-- ---- units, one after another

-- all pieces of units have bytes
pub pieces_are : (size : ℕ) (units : List (List ℕ)) → AllByRecursion (IsUnit size) units
    → AllByRecursion IsPiece (all_pieces units)
pieces_are size [] are = tt
pieces_are size (unit ∷ units) are =
    let long = are.0.bounded in
    let some : 1 ≤ length unit = omega arith in
    all-append IsPiece (pieces_of unit) (all_pieces units)
    (subst (AllByRecursion IsPiece) (sym (its_pieces unit some))
    (its_first unit some, only_pieces (further_of unit) (its_further unit some))) (pieces_are size units are.1)

no_double : (last : Option ℕ) (number : ℕ) → FollowsOn last number → HasCounter true last (number % 16)
no_double last number (inl none) = λ e. absurd (cc)
no_double last number (inr some) = λ e. let same : some.0 ≡ number % 16 = cc in let next = some.2 in omega arith

-- the packets of all pieces carry the units
pub sent_units : (pid size from number : ℕ) (before : List (List ℕ)) (units : List (List ℕ)) (slots : List ℕ)
    → IsFree pid → AllByRecursion (IsUnit size) units → length (all_pieces units) ≡ length slots
    → FollowsOn (last_counter pid before) number
    → AreSent pid size before units (laid pid from number (all_pieces units) slots)
sent_units pid size from number before [] slots free are same follows = tt
sent_units pid size from number before (unit ∷ units) [] free are same follows =
    let long = are.0.bounded in
    let some : 1 ≤ length unit = omega arith in
    absurd (omega (arith, ap length (its_pieces unit some), length-append (pieces_of unit) (all_pieces units)))
sent_units pid size from number before (unit ∷ units) (slot ∷ slots) free are same follows =
    let long = are.0.bounded in
    let some : 1 ≤ length unit = omega arith in
    let first = first_piece unit in
    let further = further_of unit in
    let all : all_pieces (unit ∷ units) ≡ (first ∷ further) ++ all_pieces units =
    ap (λ pieces. pieces ++ all_pieces units) (its_pieces unit some) in
    let many : suc (length further) + length (all_pieces units) ≡ suc (length slots) =
    sym (length-append (first ∷ further) (all_pieces units)) ∙ ap length (sym all) ∙ same in
    let taken : length further ≡ length (take (length further) slots) =
    sym (length-take-le (length further) slots (omega arith)) in
    let left : length (all_pieces units) ≡ length (drop (length further) slots) =
    omega (arith, length-drop (length further) slots) in
    let front = laid pid from number (first ∷ further) (slot ∷ take (length further) slots) in
    let counter =
    counter_behind pid from number before first further slot (take (length further) slots) free
    (its_first unit some) (only_pieces further (its_further unit some)) taken in (
      map (λ (piece : Piece). piece.bytes) (first ∷ further),
      front,
      laid pid (behind from (slot ∷ take (length further) slots)) (number + suc (length further)) (all_pieces units)
          (drop (length further) slots),
      are.0,
      its_bytes unit some,
      cut_of_laid pid from number (last_counter pid before) true first further slot (take (length further) slots) free
          (its_first unit some) refl (its_further unit some) taken (no_double (last_counter pid before) number follows),
      gapless_laid pid from number (last_counter pid before) (first ∷ further) (slot ∷ take (length further) slots)
          free (its_first unit some, only_pieces further (its_further unit some)) follows,
      ap (λ pieces. laid pid from number pieces (slot ∷ slots)) all
          ∙ laid-append pid from number (first ∷ further) (all_pieces units) (slot ∷ slots) (omega arith),
      sent_units pid size (behind from (slot ∷ take (length further) slots)) (number + suc (length further)) (before
          ++ front) units (drop (length further) slots) free are.1 left
          (inr ((number + length further) % 16, counter, omega arith)),
    )
