-- What units of segments have together, and the units of their lengths.
use Rattle.std.proofs.Common.{◌≡◌, ℕ, ◌+◌, ◌*◌, inl, inr, List, [], ◌∷◌, ◌++◌, length, map, sum_by, get_or, drop, refl, ap, sym, subst, ◌∙◌, arith}
use Rattle.std.specs.Prelude.{sum}
use Rattle.std.specs.List.{flat_map}
use Rattle.std.proofs.lemmas.List.{length-map, map-append}
use Rattle.std.proofs.lemmas.List.Sums.{sum_by-cons, sum_by-append}
use Rattle.pes_packets.specs.Units.{IsOneUnit, IsClosed, AreUnits, IsSharedOut, unit_length}
use Rattle.pes_packets.specs.declared.units.TheConstants.{OTHER_BYTES}
use Rattle.pes_packets.proofs.Filling.{own}

-- the bytes of segments are the sum of their lengths
sum_lengths : {X : Type 0} (bytes : X → ℕ) (unit : List X) → sum_by own (map bytes unit) ≡ sum_by bytes unit
sum_lengths bytes [] = refl
sum_lengths bytes (x ∷ unit) =
    omega (arith, sum_by-cons own (bytes x) (map bytes unit), sum_by-cons bytes x unit, sum_lengths bytes unit)

one_lengths : {X : Type 0} (bytes : X → ℕ) (unit : List X) → IsOneUnit bytes unit
    → IsOneUnit own (map bytes unit)
one_lengths bytes unit one = (
  omega (arith, length-map unit bytes, one.0),
  elim one.1 [
    | inl single ↦ inl (omega (arith, length-map unit bytes, single))
    | inr fits ↦ inr (omega (arith, sum_lengths bytes unit, fits))
  ],
)

closed_lengths : {X : Type 0} (bytes : X → ℕ) (unit : List X) (units : List (List X))
    → IsClosed bytes unit units → IsClosed own (map bytes unit) (map (map bytes) units)
closed_lengths bytes unit [] closed = tt
closed_lengths bytes unit ([] ∷ units) closed = tt
closed_lengths bytes unit ((next ∷ others) ∷ units) closed = omega (arith, sum_lengths bytes unit, closed)

units_lengths : {X : Type 0} (bytes : X → ℕ) (units : List (List X)) → AreUnits bytes units
    → AreUnits own (map (map bytes) units)
units_lengths bytes [] all = tt
units_lengths bytes (unit ∷ units) all =
    (one_lengths bytes unit all.0, closed_lengths bytes unit units all.1, units_lengths bytes units all.2)

whole_lengths : {X : Type 0} (bytes : X → ℕ) (units : List (List X))
    → flat_map (λ unit. unit) (map (map bytes) units) ≡ map bytes (flat_map (λ unit. unit) units)
whole_lengths bytes [] = refl
whole_lengths bytes (unit ∷ units) =
    ap (λ rest. map bytes unit ++ rest) (whole_lengths bytes units)
    ∙ sym (map-append bytes unit (flat_map (λ unit. unit) units))

-- where segments are shared out to units, their lengths are too
pub shared_lengths : {X : Type 0} (bytes : X → ℕ) (segments : List X) (units : List (List X))
    → IsSharedOut bytes segments units → IsSharedOut own (map bytes segments) (map (map bytes) units)
shared_lengths bytes segments units shared =
    record {
      whole = whole_lengths bytes units ∙ ap (map bytes) shared.whole;
      each = units_lengths bytes units shared.each;
    }

-- the units of lengths are as long as those of the segments
pub same_lengths : {X : Type 0} (bytes : X → ℕ) (units : List (List X))
    → map (unit_length own) (map (map bytes) units) ≡ map (unit_length bytes) units
same_lengths bytes [] = refl
same_lengths bytes (unit ∷ units) =
    ap (λ (n : ℕ). (OTHER_BYTES + n) ∷ map (unit_length own) (map (map bytes) units)) (sum_lengths bytes unit)
    ∙ ap (λ rest. unit_length bytes unit ∷ rest) (same_lengths bytes units)

units_sum : {X : Type 0} (bytes : X → ℕ) (units : List (List X))
    → sum (map (unit_length bytes) units)
    ≡ OTHER_BYTES * length units + sum_by bytes (flat_map (λ unit. unit) units)
units_sum bytes [] = refl
units_sum bytes (unit ∷ units) =
    let first = sum_by-cons (λ (n : ℕ). n) (unit_length bytes unit) (map (unit_length bytes) units) in
    let rest = sum_by-append bytes unit (flat_map (λ unit. unit) units) in
    omega (arith, first, rest, units_sum bytes units)

-- all units together have the bytes of the segments, and 17 more each
pub shared_sum : {X : Type 0} (bytes : X → ℕ) (segments : List X) (units : List (List X))
    → IsSharedOut bytes segments units →
    sum (map (unit_length bytes) units) ≡ OTHER_BYTES * length units + sum_by bytes segments
shared_sum bytes segments units shared = omega (arith, units_sum bytes units, ap (sum_by bytes) shared.whole)

-- ---- what is shared out by its lengths is shared out itself

one_back : {X : Type 0} (bytes : X → ℕ) (unit : List X) → IsOneUnit own (map bytes unit) → IsOneUnit bytes unit
one_back bytes unit one = (
  omega (arith, length-map unit bytes, one.0),
  elim one.1 [
    | inl single ↦ inl (omega (arith, length-map unit bytes, single))
    | inr fits ↦ inr (omega (arith, sum_lengths bytes unit, fits))
  ],
)

closed_back : {X : Type 0} (bytes : X → ℕ) (unit : List X) (units : List (List X))
    → IsClosed own (map bytes unit) (map (map bytes) units) → IsClosed bytes unit units
closed_back bytes unit [] closed = tt
closed_back bytes unit ([] ∷ units) closed = tt
closed_back bytes unit ((next ∷ others) ∷ units) closed = omega (arith, sum_lengths bytes unit, closed)

units_back : {X : Type 0} (bytes : X → ℕ) (units : List (List X)) → AreUnits own (map (map bytes) units)
    → AreUnits bytes units
units_back bytes [] all = tt
units_back bytes (unit ∷ units) all =
    (one_back bytes unit all.0, closed_back bytes unit units all.1, units_back bytes units all.2)

head_length : (n m : ℕ) (ns ms : List ℕ) → n ∷ ns ≡ m ∷ ms → n ≡ m
head_length n m ns ms e = ap (λ xs. get_or xs 0 0) e

tail_lengths : (n m : ℕ) (ns ms : List ℕ) → n ∷ ns ≡ m ∷ ms → ns ≡ ms
tail_lengths n m ns ms e = ap (drop 1) e

no_items : {X : Type 0} (bytes : X → ℕ) (segments : List X) → map bytes segments ≡ [] → segments ≡ []
no_items bytes [] e = refl
no_items bytes (x ∷ segments) e = absurd (let f : bytes x ∷ map bytes segments ≡ [] = e in cc)

cut_front : {X : Type 0} (bytes : X → ℕ) (unit more : List ℕ) (segments : List X)
    → map bytes segments ≡ unit ++ more →
    (front : List X) × (back : List X) × (front ++ back ≡ segments) × (map bytes front ≡ unit)
    × (map bytes back ≡ more)
cut_front bytes [] more segments e = ([], segments, refl, refl, e)
cut_front bytes (n ∷ unit) more [] e = absurd (let f : [] ≡ n ∷ (unit ++ more) = e in cc)
cut_front {X = X} bytes (n ∷ unit) more (x ∷ segments) e =
    joined_on (head_length (bytes x) n (map bytes segments) (unit ++ more) e)
    (cut_front bytes unit more segments (tail_lengths (bytes x) n (map bytes segments) (unit ++ more) e))
  where
    joined_on : bytes x ≡ n → (front : List X) × (back : List X) × (front ++ back ≡ segments)
        × (map bytes front ≡ unit) × (map bytes back ≡ more) →
        (front : List X) × (back : List X) × (front ++ back ≡ x ∷ segments) × (map bytes front ≡ n ∷ unit)
        × (map bytes back ≡ more)
    joined_on same rest = (
      x ∷ rest.0,
      rest.1,
      ap (λ xs. x ∷ xs) rest.2,
      ap (λ (ns : List ℕ). bytes x ∷ ns) rest.3
          ∙ ap (λ (m : ℕ). m ∷ unit) same,
      rest.4,
    )

cut : {X : Type 0} (bytes : X → ℕ) (lengths : List (List ℕ)) (segments : List X)
    → map bytes segments ≡ flat_map (λ unit. unit) lengths →
    (units : List (List X)) × (flat_map (λ unit. unit) units ≡ segments) × (map (map bytes) units ≡ lengths)
cut bytes [] segments e = ([], sym (no_items bytes segments e), refl)
cut {X = X} bytes (unit ∷ lengths) segments e =
    let front = cut_front bytes unit (flat_map (λ unit. unit) lengths) segments e in
    with_first front (cut bytes lengths front.1 front.4)
  where
    with_first : (front : (front : List X) × (back : List X) × (front ++ back ≡ segments)
        × (map bytes front ≡ unit) × (map bytes back ≡ flat_map (λ unit. unit) lengths)) →
        (units : List (List X)) × (flat_map (λ unit. unit) units ≡ front.1)
        × (map (map bytes) units ≡ lengths) →
        (units : List (List X)) × (flat_map (λ unit. unit) units ≡ segments)
        × (map (map bytes) units ≡ unit ∷ lengths)
    with_first front rest = (
      front.0 ∷ rest.0,
      ap (λ xs. front.0 ++ xs) rest.1 ∙ front.2,
      ap (λ (ns : List ℕ). ns ∷ map (map bytes) rest.0) front.3
          ∙ ap (λ (ns : List (List ℕ)). unit ∷ ns) rest.2,
    )

-- where the lengths of segments are shared out to units, the segments are, to units of these lengths
pub shared_back : {X : Type 0} (bytes : X → ℕ) (segments : List X) (lengths : List (List ℕ))
    → IsSharedOut own (map bytes segments) lengths →
    (units : List (List X)) × IsSharedOut bytes segments units × (map (map bytes) units ≡ lengths)
shared_back bytes segments lengths shared =
    let parts = cut bytes lengths segments (sym shared.whole) in (
      parts.0,
      (record {
        whole = parts.1;
        each = units_back bytes parts.0
            (subst (AreUnits own) (sym parts.2) shared.each);
      }),
      parts.2,
    )
