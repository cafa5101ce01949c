-- Segments are put into units one after the other.
use Rattle.std.proofs.Common.{◌≡◌, ℕ, ◌+◌, ◌<◌, ◌≤◌, inl, inr, List, [], ◌∷◌, ◌++◌, sum_by, refl, ap, sym, ◌∙◌, arith, append_assoc}
use Rattle.std.specs.List.{flat_map}
use Rattle.std.proofs.lemmas.Grind.{flat_map-append}
use Rattle.std.proofs.lemmas.List.{map-append, append-nil}
use Rattle.std.proofs.lemmas.List.Sums.{sum_by_push, sum_by-cons}
use Rattle.pes_packets.specs.Units.{IsClosed, AreUnits, IsOpenAfter, no_segment, some_segments, AreUnitLengths, unit_length}
use Rattle.sub_base.specs.declared.load.TheConstants.{UNIT_ROOM}
use Rattle.pes_packets.specs.declared.units.TheConstants.{OTHER_BYTES}

-- the bytes of a list of lengths
abbrev pub own : ℕ → ℕ
own bytes = bytes

-- the last unit takes one segment more that it has room for
pub AreUnits-grown : (closed : List (List ℕ)) (first : ℕ) (others : List ℕ) (next : ℕ)
    → AreUnits own (closed ++ (first ∷ others) ∷ []) →
    sum_by own (first ∷ others) + next ≤ UNIT_ROOM
    → AreUnits own (closed ++ (first ∷ (others ++ next ∷ [])) ∷ [])
AreUnits-grown [] first others next at room =
    let sum = sum_by_push own (first ∷ others) next in
    ((omega arith, inr (omega (arith, sum, room))), tt, tt)
AreUnits-grown (unit ∷ []) first others next at room = (at.0, at.1, AreUnits-grown [] first others next at.2 room)
AreUnits-grown (unit ∷ [] ∷ more) first others next at room =
    (at.0, at.1, AreUnits-grown ([] ∷ more) first others next at.2 room)
AreUnits-grown (unit ∷ (front ∷ rest) ∷ more) first others next at room =
    (at.0, at.1, AreUnits-grown ((front ∷ rest) ∷ more) first others next at.2 room)

-- the last unit is closed before a segment that it has no room for, which begins one of its own
pub AreUnits-closed : (closed : List (List ℕ)) (unit : List ℕ) (next : ℕ)
    → AreUnits own (closed ++ unit ∷ []) →
    UNIT_ROOM < sum_by own unit + next → AreUnits own ((closed ++ unit ∷ []) ++ (next ∷ []) ∷ [])
AreUnits-closed [] unit next at over = (at.0, over, ((omega arith, inl refl), tt, tt))
AreUnits-closed (one ∷ []) unit next at over =
    (at.0, IsClosed-front one unit at.1, AreUnits-closed [] unit next at.2 over)
  where
    IsClosed-front : (one unit : List ℕ) → IsClosed own one (unit ∷ [])
        → IsClosed own one (unit ∷ (next ∷ []) ∷ [])
    IsClosed-front one [] h = tt
    IsClosed-front one (first ∷ others) h = h
AreUnits-closed (one ∷ [] ∷ more) unit next at over =
    (at.0, at.1, AreUnits-closed ([] ∷ more) unit next at.2 over)
AreUnits-closed (one ∷ (front ∷ rest) ∷ more) unit next at over =
    (at.0, at.1, AreUnits-closed ((front ∷ rest) ∷ more) unit next at.2 over)

joined : (closed : List (List ℕ)) (unit : List ℕ)
    → flat_map (λ unit. unit) (closed ++ unit ∷ []) ≡ flat_map (λ unit. unit) closed ++ unit
joined closed unit =
    flat_map-append (λ unit. unit) closed (unit ∷ [])
    ∙ ap (λ xs. flat_map (λ unit. unit) closed ++ xs) (append-nil unit)

one_more : (closed : List (List ℕ)) (unit segments : List ℕ) (next : ℕ)
    → flat_map (λ unit. unit) (closed ++ unit ∷ []) ≡ segments
    → flat_map (λ unit. unit) (closed ++ (unit ++ next ∷ []) ∷ []) ≡ segments ++ next ∷ []
one_more closed unit segments next whole =
    joined closed (unit ++ next ∷ []) ∙ sym (append_assoc (flat_map (λ unit. unit) closed) unit (next ∷ []))
    ∙ ap (λ xs. xs ++ next ∷ []) (sym (joined closed unit) ∙ whole)

-- a segment that the open unit has room for
pub open_grown : (segments lengths : List ℕ) (bytes next : ℕ) → 1 ≤ next
    → (0 < bytes → bytes + next ≤ UNIT_ROOM) → IsOpenAfter segments lengths bytes →
    IsOpenAfter (segments ++ next ∷ []) (lengths ++ []) (bytes + next)
open_grown segments lengths bytes next some room (no_segment none closed zero_bytes) =
    some_segments [] (next ∷ [])
    (record { whole = ap (λ xs. xs ++ next ∷ []) (sym none); each = ((omega arith, inl refl), tt, tt) })
    (omega (arith, some, sum_by-cons own next [])) (append-nil lengths ∙ closed)
    (omega (arith, zero_bytes, sum_by-cons own next []))
open_grown segments lengths bytes next some room (some_segments closed [] shared any are is) =
    absurd (omega (arith, any))
open_grown segments lengths bytes next some room (some_segments closed (first ∷ others) shared any are is) =
    let sum = sum_by_push own (first ∷ others) next in
    some_segments closed (first ∷ (others ++ next ∷ [])) (record {
      whole = one_more closed (first ∷ others) segments next shared.whole;
      each = AreUnits-grown closed first others next shared.each (omega (arith, is, room (omega (arith, is, any))));
    }) (omega (arith, sum, any)) (append-nil lengths ∙ are) (omega (arith, sum, is))

-- a segment that it has no room for
pub open_closed : (segments lengths : List ℕ) (bytes next : ℕ) → 1 ≤ next → 0 < bytes
    → UNIT_ROOM < bytes + next → IsOpenAfter segments lengths bytes →
    IsOpenAfter (segments ++ next ∷ []) (lengths ++ (OTHER_BYTES + bytes) ∷ []) next
open_closed segments lengths bytes next some any over (no_segment none closed zero_bytes) =
    absurd (omega (arith, any, zero_bytes))
open_closed segments lengths bytes next some any over (some_segments closed last shared begun are is) =
    let front = λ (xs : List ℕ). xs ++ unit_length own last ∷ [] in
    some_segments (closed ++ last ∷ []) (next ∷ []) (record {
      whole = joined (closed ++ last ∷ []) (next ∷ []) ∙ ap (λ xs. xs ++ next ∷ []) shared.whole;
      each = AreUnits-closed closed last next shared.each (omega (arith, is, over));
    }) (omega (arith, some, sum_by-cons own next []))
    (ap (λ (n : ℕ). lengths ++ (OTHER_BYTES + n) ∷ []) is ∙ ap front are
    ∙ sym (map-append (unit_length own) closed (last ∷ [])))
    (omega (arith, sum_by-cons own next []))

-- at the end no segment has been taken, or the open unit is the last one
pub open_ends : (segments lengths : List ℕ) (bytes : ℕ) → bytes ≡ 0 → IsOpenAfter segments lengths bytes
    → AreUnitLengths segments (lengths ++ [])
open_ends segments lengths bytes empty (no_segment none closed zero_bytes) =
    record { units = []; shared = record { whole = sym none; each = tt }; are = append-nil lengths ∙ closed }
open_ends segments lengths bytes empty (some_segments closed last shared any are is) =
    absurd (omega (arith, empty, is, any))

pub open_last : (segments lengths : List ℕ) (bytes : ℕ) → 0 < bytes → IsOpenAfter segments lengths bytes
    → AreUnitLengths segments (lengths ++ (OTHER_BYTES + bytes) ∷ [])
open_last segments lengths bytes any (no_segment none closed zero_bytes) = absurd (omega (arith, any, zero_bytes))
open_last segments lengths bytes any (some_segments closed last shared begun are is) = record {
  units = closed ++ last ∷ [];
  shared = shared;
  are =
      ap (λ (n : ℕ). lengths ++ (OTHER_BYTES + n) ∷ []) is
      ∙ ap (λ (xs : List ℕ). xs ++ unit_length own last ∷ []) are
      ∙ sym (map-append (unit_length own) closed (last ∷ []));
}
