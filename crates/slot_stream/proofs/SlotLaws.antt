-- Which piece a slot is that of.
use Rattle.std.proofs.Common.{◌++◌, ◌-◌, ◌≡◌, ◌≢◌, ℕ, zero, suc, ◌+◌, ◌<◌, ◌≤◌, List, [], ◌∷◌, length, get_or, Some, None, refl, ap, sym, ◌∙◌, ◌⊎◌, inl, inr, arith, add-one}
use Rattle.std.proofs.lemmas.List.Kept.{AllPairs-from_increasing}
use Rattle.std.specs.List.Sorted.{IsStrictlyIncreasing}
use Rattle.std.proofs.lemmas.Grind.{flat_map-append}
use Rattle.std.proofs.lemmas.List.{get_or_default, append-nil}
use Rattle.std.specs.List.{flat_map, range_with_len}
use Rattle.std.proofs.lemmas.Bool.{eq-eqb, ne_eqb}
use Rattle.slot_stream.proofs.LaidPackets.{range-split}
use Rattle.slot_stream.specs.SlotStream.{Piece, place_from, slot_packet, packet_at, packet_of, no_piece}
use Rattle.slot_stream.specs.SlotWalk.{IsNextPlace}

-- a number is below another, the same, or above it
compared : (a b : ℕ) → (a < b) ⊎ ((a ≡ b) ⊎ (b < a))
compared a b = grind arith

-- the first slot of that number
pub place_from-found : (slots : List ℕ) (k i slot : ℕ) → ((j : ℕ) → j < k → get_or slots j 0 ≢ slot)
    → k < length slots
    → get_or slots k 0 ≡ slot → place_from i slot slots ≡ Some (i + k)
place_from-found [] k i slot before within is = absurd (omega arith)
place_from-found (x ∷ slots) zero i slot before within is = rw (eq-eqb x slot is) (ap Some (omega arith))
place_from-found (x ∷ slots) (suc k) i slot before within is =
    let first : x ≢ slot = before 0 (omega arith) in
    rw (ne_eqb x slot first)
    (place_from-found slots k (i + 1) slot (λ j h. before (suc j) (omega arith)) (omega arith) is
    ∙ ap Some (omega arith))

-- no slot of that number
pub place_from-none : (slots : List ℕ) (i slot : ℕ)
    → ((j : ℕ) → j < length slots → get_or slots j 0 ≢ slot)
    → place_from i slot slots ≡ None
place_from-none [] i slot others = refl
place_from-none (x ∷ slots) i slot others =
    let first : x ≢ slot = others 0 (omega arith) in
    rw (ne_eqb x slot first) (place_from-none slots (i + 1) slot (λ j h. others (suc j) (omega arith)))

-- later slots are greater
pub later_slot : (slots : List ℕ) (i j : ℕ) → IsStrictlyIncreasing slots → i < j → j < length slots
    → get_or slots i 0 < get_or slots j 0
later_slot slots i j rising below within = AllPairs-from_increasing slots rising i j 0 below within

-- the slot is that of the next piece
pub place_from-next : (slots : List ℕ) (next slot : ℕ) → IsNextPlace slots next slot → next < length slots
    → get_or slots next 0 ≡ slot → place_from 0 slot slots ≡ Some next
place_from-next slots next slot at within is =
    place_from-found slots next 0 slot (λ j h. let less : get_or slots j 0
    < slot = at.before j h in λ e. omega arith) within is ∙ ap Some (omega arith)

-- the slot is that of no piece
pub place_from-idle : (slots : List ℕ) (next slot : ℕ) → IsStrictlyIncreasing slots → IsNextPlace slots next slot
    → (next < length slots → get_or slots next 0 ≢ slot) → place_from 0 slot slots ≡ None
place_from-idle slots next slot rising at idle = place_from-none slots 0 slot (λ j h e. differs j h e)
  where
    differs : (j : ℕ) → j < length slots → get_or slots j 0 ≡ slot → ⊥
    differs j h e =
        elim (compared j next) [
          | inl below ↦ let less : get_or slots j 0 < slot = at.before j below in omega arith
          | inr (inl same) ↦ idle (omega arith) (ap (λ k. get_or slots k 0) (sym same) ∙ e)
          | inr (inr above) ↦
              let more : get_or slots next 0 < get_or slots j 0 = later_slot slots next j rising above h in
              let least : slot ≤ get_or slots next 0 = at.after next (omega arith) (omega arith) in
              omega arith
        ]

-- after the slot of the next piece
pub IsNext-sent : (slots : List ℕ) (next slot : ℕ) → IsStrictlyIncreasing slots → IsNextPlace slots next slot
    → next < length slots → get_or slots next 0 ≡ slot → IsNextPlace slots (next + 1) (slot + 1)
IsNext-sent slots next slot rising at within is =
    record {
      within = omega arith;
      before = sent;
      after = λ j h k. let more : get_or slots next 0
          < get_or slots j 0 = later_slot slots next j rising (omega arith) k in omega arith;
    }
  where
    sent : (j : ℕ) → j < next + 1 → get_or slots j 0 < slot + 1
    sent j h =
        elim (compared j next) [
          | inl below ↦ let less : get_or slots j 0 < slot = at.before j below in omega arith
          | inr (inl same) ↦ let here : get_or slots j 0 ≡ slot =
              ap (λ k. get_or slots k 0) same ∙ is in omega arith
          | inr (inr above) ↦ absurd (omega arith)
        ]

-- after a slot of no piece
pub IsNext-idle : (slots : List ℕ) (next slot : ℕ) → IsStrictlyIncreasing slots → IsNextPlace slots next slot
    → (next < length slots → get_or slots next 0 ≢ slot) → IsNextPlace slots next (slot + 1)
IsNext-idle slots next slot rising at idle =
    record {
      within = at.within;
      before = λ j h. let less : get_or slots j 0 < slot = at.before j h in omega arith;
      after = left;
    }
  where
    left : (j : ℕ) → next ≤ j → j < length slots → slot + 1 ≤ get_or slots j 0
    left j h k =
        let least : slot ≤ get_or slots next 0 = at.after next (omega arith) (omega arith) in
        let other : get_or slots next 0 ≢ slot = idle (omega arith) in
        elim (compared j next) [
          | inl below ↦ absurd (omega arith)
          | inr (inl same) ↦ let here : get_or slots j 0 ≡ get_or slots next 0 =
              ap (λ k. get_or slots k 0) same in omega arith
          | inr (inr above) ↦ let more : get_or slots next 0 < get_or slots j 0 =
              later_slot slots next j rising above k in omega arith
        ]

-- the packet of the next piece
pub slot_packet-next : (pid : ℕ) (pieces : List Piece) (slots : List ℕ) (next slot : ℕ) (d : Piece)
    → IsNextPlace slots next slot → length slots ≡ length pieces → next < length slots
    → get_or slots next 0 ≡ slot
    → slot_packet pid pieces slots slot ≡ packet_of pid next (get_or pieces next d)
slot_packet-next pid pieces slots next slot d at pairs within is =
    ap (packet_at pid pieces) (place_from-next slots next slot at within is)
    ∙ ap (packet_of pid next) (get_or_default pieces next no_piece d (omega arith))

-- one number more
range-suc : (n a : ℕ) → range_with_len a (suc n) ≡ range_with_len a n ++ (a + n) ∷ []
range-suc zero a = ap (λ k. k ∷ []) (omega arith)
range-suc (suc n) a =
    ap (λ rest. a ∷ rest) (range-suc n (a + 1) ∙ ap (λ k. range_with_len (a + 1) n ++ k ∷ []) (omega arith))

-- the packets of one slot more
pub stream-more : (f : ℕ → List ℕ) (slot : ℕ)
    → flat_map f (range_with_len 0 (slot + 1)) ≡ flat_map f (range_with_len 0 slot) ++ f slot
stream-more f slot =
    ap (λ (slots : List ℕ). flat_map f slots) (ap (range_with_len 0) (add-one slot) ∙ range-suc slot 0)
    ∙ (flat_map-append f (range_with_len 0 slot) ((0 + slot) ∷ [])
    ∙ ap (λ k. flat_map f (range_with_len 0 slot) ++ k) (append-nil (f (0 + slot)) ∙ ap f (omega arith)))

-- the packets of the slots so far, and those of the slots after them
pub stream-rest : (f : ℕ → List ℕ) (slot count : ℕ) → slot ≤ count
    → (rest : List ℕ) × (flat_map f (range_with_len 0 slot) ++ rest ≡ flat_map f (range_with_len 0 count))
stream-rest f slot count within = (
  flat_map f (range_with_len (0 + slot) (count - slot)),
  sym (flat_map-append f (range_with_len 0 slot) (range_with_len (0 + slot) (count - slot)))
      ∙ ap (λ (slots : List ℕ). flat_map f slots) (sym (range-split slot 0 (count - slot))
      ∙ ap (range_with_len 0) (omega arith)),
)
