-- Columns of a packed row: those of one byte, of whole bytes, and of parts that adjoin.
use Rattle.std.proofs.Common.{◌≡◌, ◌∙◌, refl, sym, ap, subst, inl, inr, ℕ, ◌+◌, ◌*◌, ◌/◌, ◌%◌, ◌<◌, ◌≤◌, ◌⊎◌, List, length, get_or, set, arith}
use Rattle.std.proofs.lemmas.Bool.{cases_eq, cases_lt}
use Rattle.std.proofs.lemmas.List.{get_or-set_same, get_or-set_other}
use Rattle.sub_base.specs.declared.depth.Depth.{Depth}
use Rattle.sub_base.specs.declared.depth.Depth.TheVariants.{Two, Four, Eight}
use Rattle.sub_base.specs.Depth.{code_count}
use Rattle.string_painting.specs.Codes.{codes_in_byte, code_in}
use Rattle.string_painting.specs.Private.Packing.{ones_of, PaintsByte}
use Rattle.string_painting.specs.Private.Columns.{PaintsColumns}
use Rattle.string_painting.proofs.Bytes.{code_of_all}

-- no column painted
pub PaintsColumns-none : (region : Depth) (at code : ℕ) (xs : List ℕ) → PaintsColumns region at at code xs xs
PaintsColumns-none region at code xs = record {
  covered = λ x after before. absurd (omega (arith, after, before));
  outside = λ x where_it_is. refl;
}

-- columns, then those behind them
pub PaintsColumns-trans : (region : Depth) (a b c code : ℕ) (xs ys zs : List ℕ) → a ≤ b → b ≤ c
    → PaintsColumns region a b code xs ys → PaintsColumns region b c code ys zs
    → PaintsColumns region a c code xs zs
PaintsColumns-trans region a b c code xs ys zs ab bc p q = record {
  covered = λ x after before. elim (cases_lt x b) [
    | inl first ↦ q.outside x (inl first) ∙ p.covered x after first
    | inr second ↦ q.covered x second before
  ];
  outside = λ x where_it_is. elim where_it_is [
    | inl left ↦ q.outside x (inl (omega (arith, left, ab))) ∙ p.outside x (inl left)
    | inr right ↦ q.outside x (inr right) ∙ p.outside x (inr (omega (arith, right, bc)))
  ];
}

-- where a column is that lies among those of a byte
spot : (region : Depth) (x index from to : ℕ) → to ≤ codes_in_byte region
    → index * codes_in_byte region + from ≤ x → x < index * codes_in_byte region + to
    → (x / codes_in_byte region ≡ index) × (from ≤ x % codes_in_byte region) × (x % codes_in_byte region < to)
spot Two x index from to short after before = (omega arith, omega arith, omega arith)
spot Four x index from to short after before = (omega arith, omega arith, omega arith)
spot Eight x index from to short after before = (omega arith, omega arith, omega arith)

over_small : (region : Depth) (x : ℕ) → x % codes_in_byte region < codes_in_byte region
over_small Two x = omega arith
over_small Four x = omega arith
over_small Eight x = omega arith

left_of : (region : Depth) (x index from : ℕ) → x / codes_in_byte region ≡ index
    → x < index * codes_in_byte region + from → x % codes_in_byte region < from
left_of Two x index from e h = omega arith
left_of Four x index from e h = omega arith
left_of Eight x index from e h = omega arith

right_of : (region : Depth) (x index to : ℕ) → x / codes_in_byte region ≡ index
    → index * codes_in_byte region + to ≤ x → to ≤ x % codes_in_byte region
right_of Two x index to e h = omega arith
right_of Four x index to e h = omega arith
right_of Eight x index to e h = omega arith

-- some columns of one byte
pub PaintsColumns-byte : (region : Depth) (index from to code byte : ℕ) (xs : List ℕ) → index < length xs
    → to ≤ codes_in_byte region → PaintsByte region from to code (get_or xs index 0) byte
    → PaintsColumns region (index * codes_in_byte region + from) (index * codes_in_byte region + to) code xs
    (set xs index byte)
PaintsColumns-byte region index from to code byte xs inside short p = record {
  covered = λ x after before.
      let here = spot region x index from to short after before in
      let P : ℕ → Type 0 = λ i. code_in region (x % codes_in_byte region) (get_or (set xs index byte) i 0) ≡ code in
      subst P (sym here.0)
      (ap (code_in region (x % codes_in_byte region)) (get_or-set_same xs index byte 0 inside)
      ∙ p.covered (x % codes_in_byte region) here.1 here.2);
  outside = λ x where_it_is. elim (cases_eq (x / codes_in_byte region) index) [
    | inl e ↦
        let P : ℕ → Type 0 =
        λ i. code_in region (x % codes_in_byte region) (get_or (set xs index byte) i 0)
        ≡ code_in region (x % codes_in_byte region) (get_or xs i 0) in
        subst P (sym e)
        (ap (code_in region (x % codes_in_byte region)) (get_or-set_same xs index byte 0 inside)
        ∙ p.outside (x % codes_in_byte region) (over_small region x) (elim where_it_is [
          | inl l ↦ inl (left_of region x index from e l)
          | inr r ↦ inr (right_of region x index to e r)
        ]))
    | inr ne ↦ ap (code_in region (x % codes_in_byte region))
        (get_or-set_other xs index (x / codes_in_byte region) byte 0 ne)
  ];
}

within : (region : Depth) (x from to : ℕ) → from * codes_in_byte region ≤ x → x < to * codes_in_byte region
    → (from ≤ x / codes_in_byte region) × (x / codes_in_byte region < to)
within Two x from to after before = (omega arith, omega arith)
within Four x from to after before = (omega arith, omega arith)
within Eight x from to after before = (omega arith, omega arith)

before_bytes : (region : Depth) (x from : ℕ) → x < from * codes_in_byte region → x / codes_in_byte region < from
before_bytes Two x from h = omega arith
before_bytes Four x from h = omega arith
before_bytes Eight x from h = omega arith

behind_bytes : (region : Depth) (x to : ℕ) → to * codes_in_byte region ≤ x → to ≤ x / codes_in_byte region
behind_bytes Two x to h = omega arith
behind_bytes Four x to h = omega arith
behind_bytes Eight x to h = omega arith

-- all columns of some bytes
pub PaintsColumns-bytes : (region : Depth) (from to code value : ℕ) (xs ys : List ℕ) → code < code_count region
    → value ≡ code * ones_of region → ((i : ℕ) → from ≤ i → i < to → get_or ys i 0 ≡ value)
    → ((i : ℕ) → (i < from) ⊎ (to ≤ i) → get_or ys i 0 ≡ get_or xs i 0)
    → PaintsColumns region (from * codes_in_byte region) (to * codes_in_byte region) code xs ys
PaintsColumns-bytes region from to code value xs ys small is inside outside = record {
  covered = λ x after before.
      let r = within region x from to after before in
      ap (code_in region (x % codes_in_byte region)) (inside (x / codes_in_byte region) r.0 r.1 ∙ is)
      ∙ code_of_all region (x % codes_in_byte region) code (over_small region x) small;
  outside = λ x where_it_is. ap (code_in region (x % codes_in_byte region))
      (outside (x / codes_in_byte region) (elim where_it_is [
        | inl l ↦ inl (before_bytes region x from l)
        | inr r ↦ inr (behind_bytes region x to r)
      ]));
}

-- one column
pub column_is : (region : Depth) (x : ℕ)
    → (x / codes_in_byte region * codes_in_byte region + x % codes_in_byte region ≡ x)
    × (x / codes_in_byte region * codes_in_byte region + (x % codes_in_byte region + 1) ≡ x + 1)
column_is Two x = (omega arith, omega arith)
column_is Four x = (omega arith, omega arith)
column_is Eight x = (omega arith, omega arith)

-- the same columns by other numbers
pub PaintsColumns-at : (region : Depth) (a b from to code : ℕ) (xs ys : List ℕ) → a ≡ from → b ≡ to
    → PaintsColumns region a b code xs ys → PaintsColumns region from to code xs ys
PaintsColumns-at region a b from to code xs ys e f p =
    subst (λ (n : ℕ). PaintsColumns region from n code xs ys) f
    (subst (λ (n : ℕ). PaintsColumns region n b code xs ys) e p)

-- the rest of a first byte, whole bytes, and the beginning of a last one
pub PaintsColumns-parts : (region : Depth) (from to first last code : ℕ) (xs ys zs ws : List ℕ) → from ≤ to
    → first ≡ from / codes_in_byte region → last ≡ to / codes_in_byte region → (first ≡ last → ⊥)
    → PaintsColumns region (first * codes_in_byte region + from % codes_in_byte region)
    (first * codes_in_byte region + codes_in_byte region) code xs ys
    → PaintsColumns region ((first + 1) * codes_in_byte region) (last * codes_in_byte region) code ys zs
    → PaintsColumns region (last * codes_in_byte region + 0) (last * codes_in_byte region + to % codes_in_byte region)
    code zs ws
    → PaintsColumns region from to code xs ws
PaintsColumns-parts region from to first last code xs ys zs ws order first_is last_is differ p q r =
    let s = spots region from to first last order first_is last_is differ in
    PaintsColumns-trans region from (last * codes_in_byte region) to code xs zs ws s.4 s.5
    (PaintsColumns-trans region from ((first + 1) * codes_in_byte region) (last * codes_in_byte region) code xs ys zs
    s.6 s.7 (PaintsColumns-at region _ _ from ((first + 1) * codes_in_byte region) code xs ys s.0 s.1 p) q)
    (PaintsColumns-at region _ _ (last * codes_in_byte region) to code zs ws s.2 s.3 r)
  where
    spots : (region : Depth) (from to first last : ℕ) → from ≤ to → first ≡ from / codes_in_byte region
        → last ≡ to / codes_in_byte region → (first ≡ last → ⊥)
        → (first * codes_in_byte region + from % codes_in_byte region ≡ from)
        × (first * codes_in_byte region + codes_in_byte region ≡ (first + 1) * codes_in_byte region)
        × (last * codes_in_byte region + 0 ≡ last * codes_in_byte region)
        × (last * codes_in_byte region + to % codes_in_byte region ≡ to)
        × (from ≤ last * codes_in_byte region) × (last * codes_in_byte region ≤ to)
        × (from ≤ (first + 1) * codes_in_byte region)
        × ((first + 1) * codes_in_byte region ≤ last * codes_in_byte region)
    spots Two from to first last order first_is last_is differ =
        (omega arith, omega arith, omega arith, omega arith, omega arith, omega arith, omega arith, omega arith)
    spots Four from to first last order first_is last_is differ =
        (omega arith, omega arith, omega arith, omega arith, omega arith, omega arith, omega arith, omega arith)
    spots Eight from to first last order first_is last_is differ =
        (omega arith, omega arith, omega arith, omega arith, omega arith, omega arith, omega arith, omega arith)

-- a column whose code is one of its byte's
pub PaintsColumns-one : (region : Depth) (x code byte : ℕ) (xs : List ℕ) → x < length xs * codes_in_byte region
    → PaintsByte region (x % codes_in_byte region) (x % codes_in_byte region + 1) code
    (get_or xs (x / codes_in_byte region) 0) byte
    → PaintsColumns region x (x + 1) code xs (set xs (x / codes_in_byte region) byte)
PaintsColumns-one region x code byte xs inside p =
    let s = column_is region x in
    let index = x / codes_in_byte region in
    let over = x % codes_in_byte region in
    PaintsColumns-at region _ _ x (x + 1) code xs (set xs index byte) s.0 s.1
    (PaintsColumns-byte region index over (over + 1) code byte xs (before_bytes region x (length xs) inside)
    (omega (arith, over_small region x)) p)
