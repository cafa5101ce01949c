-- What is known as the segments of a set are measured, and once all are.
use Rattle.std.proofs.Common.{◌≡◌, ℕ, ◌+◌, ◌≤◌, eqb, max, inl, inr, Bool, true, false, List, [], ◌∷◌, ◌++◌, length, sum, Option, Some, None, refl, sym, ap, subst, ◌∙◌, append_assoc, length-append, arith}
use Rattle.std.specs.Prelude.{All, ◌||◌, option_to_list, unwrap_or}
use Rattle.std.specs.List.{list_any}
use Rattle.std.proofs.Math.Nat.{max-eq_left, max-eq_right}
use Rattle.std.proofs.lemmas.Bool.{cases_lt, eq-eqb}
use Rattle.std.proofs.lemmas.List.{append-nil}
use Rattle.std.proofs.lemmas.List.Elements.{All-cons, All-append, All-map, All-nil, All-weaker}
use Rattle.std.proofs.lemmas.List.Folds.{list_any-append}
use Rattle.std.proofs.lemmas.List.Sums.{sum_by-append}
use Rattle.pes_packets.specs.Units.{AreUnitLengths, unit_length}
use Rattle.pes_packets.proofs.SharingLaws.{shared_sum}
use Rattle.cue_list.specs.declared.script.Script.{Script}
use Rattle.page_epoch.specs.declared.planned_set.PlannedSet.{PlannedSet}
use Rattle.set_coder.specs.Private.Measuring.{IsGreatest}
use Rattle.set_coder.specs.SetSizes.{leading_sizes, AreSegmentSizes, AreUnitSizes, IsSetSize, IsLongestSegment}
use Rattle.set_coder.specs.Private.SizesLeft.{AreSizesLeft, IsNextSize}
use Rattle.set_coder.specs.declared.segment_sizes.SegmentSizes.{SegmentSizes}

-- these have been measured, and with those that are left they are all segments of the set
abbrev pub AreFirstSizes : Script → PlannedSet → SegmentSizes → List ℕ → Type 0
AreFirstSizes script set left past =
    (rest : List ℕ) → AreSizesLeft left rest → AreSegmentSizes script set (past ++ rest)

pub first_more : (script : Script) (set : PlannedSet) (old new : SegmentSizes) (past : List ℕ) (size : ℕ)
    → AreFirstSizes script set old past → IsNextSize old new size
    → AreFirstSizes script set new (past ++ size ∷ [])
first_more script set old new past size before next =
    λ rest left. subst (AreSegmentSizes script set) (sym (append_assoc past (size ∷ []) rest))
    (before (size ∷ rest) (next.first rest left))

pub first_all : (script : Script) (set : PlannedSet) (left : SegmentSizes) (past : List ℕ)
    → AreFirstSizes script set left past → AreSizesLeft left [] → AreSegmentSizes script set past
first_all script set left past before none = subst (AreSegmentSizes script set) (append-nil past) (before [] none)

-- ---- sums of lengths

given_sum : (given : Option ℕ) → sum (option_to_list given) ≡ unwrap_or given 0
given_sum None = refl
given_sum (Some n) = omega arith

pub sum_more : (lengths : List ℕ) (given : Option ℕ)
    → sum (lengths ++ option_to_list given) ≡ sum lengths + unwrap_or given 0
sum_more lengths given =
    sum_by-append (λ (n : ℕ). n) lengths (option_to_list given)
    ∙ ap (λ (n : ℕ). sum lengths + n) (given_sum given)

pub sum_with : (lengths more : List ℕ) → sum (lengths ++ more) ≡ sum lengths + sum more
sum_with lengths more = sum_by-append (λ (n : ℕ). n) lengths more

-- ---- the greatest size

or_true : (a b : Bool) → b ≡ true → a || b ≡ true
or_true true b e = refl
or_true false b e = e

at_end : (sizes : List ℕ) (size : ℕ) → list_any (λ s. eqb s size) (sizes ++ size ∷ []) ≡ true
at_end [] size = ap (λ b. b || false) (eq-eqb size size refl)
at_end (x ∷ sizes) size =
    or_true (eqb x size) (list_any (λ s. eqb s size) (sizes ++ size ∷ [])) (at_end sizes size)

in_front : (sizes more : List ℕ) (one : ℕ) → list_any (λ s. eqb s one) sizes ≡ true
    → list_any (λ s. eqb s one) (sizes ++ more) ≡ true
in_front sizes more one e =
    list_any-append (λ s. eqb s one) sizes more ∙ ap (λ b. b || list_any (λ s. eqb s one) more) e

not_empty : (sizes : List ℕ) (size : ℕ) → sizes ++ size ∷ [] ≡ [] → ⊥
not_empty sizes size e = absurd (omega (arith, ap length e, length-append sizes (size ∷ [])))

pub greatest_none : IsGreatest [] 0
greatest_none = record { one = inl refl; none = λ e. refl; greatest = All-nil (λ size. size ≤ 0) }

pub greatest_more : (sizes : List ℕ) (size longest : ℕ) → 1 ≤ size → IsGreatest sizes longest
    → IsGreatest (sizes ++ size ∷ []) (max longest size)
greatest_more sizes size longest some g = elim (cases_lt longest size) [
  | inl less ↦ subst (IsGreatest (sizes ++ size ∷ [])) (sym (max-eq_right (omega (arith, less)))) (record {
    one = inr (at_end sizes size);
    none = λ e. absurd (not_empty sizes size e);
    greatest =
        All-append (λ s. s ≤ size) sizes (size ∷ [])
        (All-weaker (λ s. s ≤ longest) (λ s. s ≤ size) (λ s h. omega (arith, h, less)) sizes g.greatest)
        (All-cons (λ s. s ≤ size) size [] (omega arith) (All-nil (λ s. s ≤ size)));
  })
  | inr most ↦ subst (IsGreatest (sizes ++ size ∷ [])) (sym (max-eq_left (omega (arith, most)))) (record {
    one = inr (elim g.one [
      | inl empty ↦ absurd (omega (arith, g.none empty, most, some))
      | inr one ↦ in_front sizes (size ∷ []) longest one
    ]);
    none = λ e. absurd (not_empty sizes size e);
    greatest =
        All-append (λ s. s ≤ longest) sizes (size ∷ []) g.greatest
        (All-cons (λ s. s ≤ longest) size [] (omega (arith, most)) (All-nil (λ s. s ≤ longest)));
  })
]

-- ---- all segments of a set

-- the end of the set is one of them
some_bytes : (script : Script) (set : PlannedSet) (sizes : List ℕ) → AreSegmentSizes script set sizes
    → 6 ≤ sum sizes
some_bytes script set sizes all =
    omega (
      arith,
      ap sum all.whole,
      sum_with (leading_sizes set) (all.objects ++ 6 ∷ []),
      sum_with all.objects
          (6 ∷ []),
    )

pub longest_is : (script : Script) (set : PlannedSet) (sizes : List ℕ) (longest : ℕ)
    → AreSegmentSizes script set sizes → IsGreatest sizes longest → IsLongestSegment script set longest
longest_is script set sizes longest all g = record {
  sizes = sizes;
  segments = all;
  one = elim g.one [
    | inl empty ↦ absurd (omega (arith, some_bytes script set sizes all, ap sum empty))
    | inr one ↦ one
  ];
  greatest = g.greatest;
}

pub units_are : (script : Script) (set : PlannedSet) (sizes lengths : List ℕ) → AreSegmentSizes script set sizes
    → AreUnitLengths sizes lengths → AreUnitSizes script set lengths
units_are script set sizes lengths all units =
    record { sizes = sizes; segments = all; units = units.units; shared = units.shared; are = units.are }

-- the PES packets of a set have bytes
pub some_units : (script : Script) (set : PlannedSet) (lengths : List ℕ) → AreUnitSizes script set lengths
    → 1 ≤ sum lengths
some_units script set lengths u =
    omega (
      arith,
      ap sum u.are,
      shared_sum (λ (bytes : ℕ). bytes) u.sizes u.units u.shared,
      some_bytes script set
          u.sizes u.segments,
    )

pub each_unit : (script : Script) (set : PlannedSet) (lengths : List ℕ) → AreUnitSizes script set lengths
    → All (λ unit. 17 ≤ unit) lengths
each_unit script set lengths u =
    subst (All (λ unit. 17 ≤ unit)) (sym u.are)
    (All-map (λ unit. 17 ≤ unit) (unit_length (λ (bytes : ℕ). bytes)) u.units (λ k d h. omega arith))

-- the size of a set whose last unit is closed at the end
pub sized : (script : Script) (set : PlannedSet) (sizes lengths : List ℕ) (last : Option ℕ) (size more : ℕ)
    → AreSegmentSizes script set sizes → AreUnitLengths sizes (lengths ++ option_to_list last)
    → size ≡ sum lengths → more ≡ unwrap_or last 0 → IsSetSize script set (size + more)
sized script set sizes lengths last size more all units so_far end_of = record {
  lengths = lengths ++ option_to_list last;
  sized = units_are script set sizes (lengths ++ option_to_list last) all units;
  whole = omega (arith, sum_more lengths last, so_far, end_of);
}

pub some_size : (script : Script) (set : PlannedSet) (size : ℕ) → IsSetSize script set size → 1 ≤ size
some_size script set size s = omega (arith, s.whole, some_units script set s.lengths s.sized)
