use Rattle.std.proofs.Common.{◌≡◌, ◌∙◌, refl, sym, ap, subst, inl, inr, ℕ, ◌+◌, ◌*◌, ◌/◌, ◌%◌, ◌<◌, ◌≤◌, ◌⊎◌, List, length, get_or, set, arith}
use Rattle.std.proofs.lemmas.Bool.{cases_eq, cases_lt}
use Rattle.std.proofs.lemmas.List.{get_or-set_same, get_or-set_other}
use Rattle.sub_base.specs.declared.depth.Depth.{Depth}
use Rattle.sub_base.specs.declared.depth.Depth.TheVariants.{Two, Four, Eight}
use Rattle.sub_base.specs.Depth.{code_count}
use Rattle.string_painting.specs.Codes.{codes_in_byte, code_in}
use Rattle.pixel_store.specs.Private.Painting.{ones_of, code_number, PaintsByte, Paints}
use Rattle.pixel_store.proofs.Bytes.{each_digit}

-- nothing painted
pub Paints-none : (depth : Depth) (at code : ℕ) (xs : List ℕ) → Paints depth at at code xs xs
Paints-none depth at code xs = record {
  covered = λ i j inside within after before. absurd (omega arith);
  outside = λ i j inside within where_it_is. refl;
  untouched = λ i where_it_is. refl;
}

-- one span after another
pub Paints-trans : (depth : Depth) (a b c code : ℕ) (xs ys zs : List ℕ) → length ys ≡ length xs
    → a ≤ b → b ≤ c →
    Paints depth a b code xs ys → Paints depth b c code ys zs → Paints depth a c code xs zs
Paints-trans depth a b c code xs ys zs same ab bc p q = record {
  covered = λ i j inside within after before. elim (cases_lt (code_number depth i j) b) [
    | inl first ↦ q.outside i j (omega (arith, inside, same)) within (inl first)
        ∙ p.covered i j inside within after first
    | inr second ↦ q.covered i j (omega (arith, inside, same)) within second before
  ];
  outside = λ i j inside within where_it_is. elim where_it_is [
    | inl left ↦ q.outside i j (omega (arith, inside, same)) within (inl (omega (arith, left, ab)))
        ∙ p.outside i j inside within (inl left)
    | inr right ↦ q.outside i j (omega (arith, inside, same)) within (inr right)
        ∙ p.outside i j inside within (inr (omega (arith, right, bc)))
  ];
  untouched = λ i where_it_is. elim where_it_is [
    | inl left ↦ q.untouched i (inl (omega (arith, left, ab))) ∙ p.untouched i (inl left)
    | inr right ↦ q.untouched i (inr right) ∙ p.untouched i (inr (omega (arith, right, bc)))
  ];
}

same_byte : (depth : Depth) (i index j from to : ℕ) → to ≤ codes_in_byte depth → j < codes_in_byte depth →
    code_number depth index from ≤ code_number depth i j → code_number depth i j < code_number depth index to
    → (i ≡ index) × (from ≤ j) × (j < to)
same_byte Two i index j from to short within after before = (omega arith, omega arith, omega arith)
same_byte Four i index j from to short within after before = (omega arith, omega arith, omega arith)
same_byte Eight i index j from to short within after before = (omega arith, omega arith, omega arith)

not_this : (depth : Depth) (i index from to : ℕ) → from < to → to ≤ codes_in_byte depth →
    (i * codes_in_byte depth + codes_in_byte depth ≤ code_number depth index from)
    ⊎ (code_number depth index to ≤ i * codes_in_byte depth) → i ≡ index → ⊥
not_this Two i index from to order short w e =
    elim w [ inl l ↦ absurd (omega arith) | inr r ↦ absurd (omega arith) ]
not_this Four i index from to order short w e =
    elim w [ inl l ↦ absurd (omega arith) | inr r ↦ absurd (omega arith) ]
not_this Eight i index from to order short w e =
    elim w [ inl l ↦ absurd (omega arith) | inr r ↦ absurd (omega arith) ]

pub Paints-byte : (depth : Depth) (index from to code b : ℕ) (xs : List ℕ) → index < length xs → from < to
    → to ≤ codes_in_byte depth →
    PaintsByte depth from to code (get_or xs index 0) b
    → Paints depth (code_number depth index from) (code_number depth index to) code xs (set xs index b)
Paints-byte depth index from to code b xs inside order short p = record {
  covered = λ i j i_in within after before.
      let here = same_byte depth i index j from to short within after before in
      let P : ℕ → Type 0 = λ k. code_in depth j (get_or (set xs index b) k 0) ≡ code in
      subst P (sym here.0) (ap (code_in depth j) (get_or-set_same xs index b 0 inside) ∙ p.covered j here.1 here.2);
  outside = λ i j i_in within where_it_is. elim (cases_eq i index) [
    | inl e ↦
        let P : ℕ → Type 0 =
        λ k. code_in depth j (get_or (set xs index b) k 0) ≡ code_in depth j (get_or xs k 0) in
        subst P (sym e)
        (ap (code_in depth j) (get_or-set_same xs index b 0 inside) ∙ p.outside j within (elim where_it_is [
          | inl l ↦ inl (beside_left depth i index j from e l)
          | inr r ↦ inr (beside_right depth i index j to e r)
        ]))
    | inr ne ↦ ap (code_in depth j) (get_or-set_other xs index i b 0 ne)
  ];
  untouched =
      λ i where_it_is. get_or-set_other xs index i b 0 (not_this depth i index from to order short where_it_is);
} where
  beside_left : (depth : Depth) (i index j from : ℕ) → i ≡ index
      → code_number depth i j < code_number depth index from → j < from
  beside_left Two i index j from e l = omega arith
  beside_left Four i index j from e l = omega arith
  beside_left Eight i index j from e l = omega arith

  beside_right : (depth : Depth) (i index j to : ℕ) → i ≡ index
      → code_number depth index to ≤ code_number depth i j → to ≤ j
  beside_right Two i index j to e r = omega arith
  beside_right Four i index j to e r = omega arith
  beside_right Eight i index j to e r = omega arith

byte_range : (depth : Depth) (i j from to : ℕ) → j < codes_in_byte depth
    → code_number depth from 0 ≤ code_number depth i j → code_number depth i j < code_number depth to 0
    → (from ≤ i) × (i < to)
byte_range Two i j from to within after before = (omega arith, omega arith)
byte_range Four i j from to within after before = (omega arith, omega arith)
byte_range Eight i j from to within after before = (omega arith, omega arith)

outside_left : (depth : Depth) (i j from : ℕ) → code_number depth i j < code_number depth from 0 → i < from
outside_left Two i j from l = omega arith
outside_left Four i j from l = omega arith
outside_left Eight i j from l = omega arith

outside_right : (depth : Depth) (i j to : ℕ) → j < codes_in_byte depth
    → code_number depth to 0 ≤ code_number depth i j → to ≤ i
outside_right Two i j to within r = omega arith
outside_right Four i j to within r = omega arith
outside_right Eight i j to within r = omega arith

whole_left : (depth : Depth) (i from : ℕ)
    → i * codes_in_byte depth + codes_in_byte depth ≤ code_number depth from 0 → i < from
whole_left Two i from l = omega arith
whole_left Four i from l = omega arith
whole_left Eight i from l = omega arith

whole_right : (depth : Depth) (i to : ℕ) → code_number depth to 0 ≤ i * codes_in_byte depth → to ≤ i
whole_right Two i to r = omega arith
whole_right Four i to r = omega arith
whole_right Eight i to r = omega arith

pub Paints-fill : (depth : Depth) (from to code value : ℕ) (xs ys : List ℕ) → code < code_count depth
    → value ≡ code * ones_of depth →
    ((i : ℕ) → from ≤ i → i < to → get_or ys i 0 ≡ value)
    → ((i : ℕ) → (i < from) ⊎ (to ≤ i) → get_or ys i 0 ≡ get_or xs i 0) →
    Paints depth (code_number depth from 0) (code_number depth to 0) code xs ys
Paints-fill depth from to code value xs ys small is inside outside = record {
  covered = λ i j i_in within after before.
      let r = byte_range depth i j from to within after before in
      ap (code_in depth j) (inside i r.0 r.1 ∙ is) ∙ each_digit depth j code within small;
  outside = λ i j i_in within where_it_is. ap (code_in depth j) (outside i (elim where_it_is [
    | inl l ↦ inl (outside_left depth i j from l)
    | inr r ↦ inr (outside_right depth i j to within r)
  ]));
  untouched = λ i where_it_is. outside i (elim where_it_is [
    | inl l ↦ inl (whole_left depth i from l)
    | inr r ↦ inr (whole_right depth i to r)
  ]);
}

-- the rest of a first byte, whole bytes, and the beginning of a last one
pub Paints-parts : (depth : Depth) (start from to first last code : ℕ) (xs ys zs ws : List ℕ)
    → length ys ≡ length xs → length zs ≡ length ys → from ≤ to →
    first ≡ start + from / codes_in_byte depth → last ≡ start + to / codes_in_byte depth
    → (first ≡ last → ⊥) →
    Paints depth (code_number depth first (from % codes_in_byte depth)) (code_number depth first (codes_in_byte depth))
    code xs ys →
    Paints depth (code_number depth (first + 1) 0) (code_number depth last 0) code ys zs →
    Paints depth (code_number depth last 0) (code_number depth last (to % codes_in_byte depth)) code zs ws →
    Paints depth (code_number depth start from) (code_number depth start to) code xs ws
Paints-parts depth start from to first last code xs ys zs ws ys_long zs_long order first_is last_is differ p q r =
    let s = spots depth start from to first last order first_is last_is differ in
    let P : ℕ → ℕ → Type 0 = λ a b. Paints depth a b code xs ws in
    let p' =
    subst (λ (b : ℕ). Paints depth (code_number depth first (from % codes_in_byte depth)) b code xs ys) s.1 p in
    let pq = Paints-trans depth _ _ _ code xs ys zs ys_long s.3 s.4 p' q in
    let pqr = Paints-trans depth _ _ _ code xs zs ws (zs_long ∙ ys_long) s.5 s.6 pq r in
    subst (λ (b : ℕ). P (code_number depth start from) b) s.2
    (subst (λ (a : ℕ). P a (code_number depth last (to % codes_in_byte depth))) s.0 pqr) where
      spots : (depth : Depth) (start from to first last : ℕ) → from ≤ to →
          first ≡ start + from / codes_in_byte depth → last ≡ start + to / codes_in_byte depth
          → (first ≡ last → ⊥) →
          (code_number depth first (from % codes_in_byte depth) ≡ code_number depth start from)
          × (code_number depth first (codes_in_byte depth) ≡ code_number depth (first + 1) 0)
          × (code_number depth last (to % codes_in_byte depth) ≡ code_number depth start to)
          × (code_number depth first (from % codes_in_byte depth) ≤ code_number depth (first + 1) 0)
          × (code_number depth (first + 1) 0 ≤ code_number depth last 0)
          × (code_number depth first (from % codes_in_byte depth) ≤ code_number depth last 0)
          × (code_number depth last 0 ≤ code_number depth last (to % codes_in_byte depth))
      spots Two start from to first last order first_is last_is differ =
          (omega arith, omega arith, omega arith, omega arith, omega arith, omega arith, omega arith)
      spots Four start from to first last order first_is last_is differ =
          (omega arith, omega arith, omega arith, omega arith, omega arith, omega arith, omega arith)
      spots Eight start from to first last order first_is last_is differ =
          (omega arith, omega arith, omega arith, omega arith, omega arith, omega arith, omega arith)
