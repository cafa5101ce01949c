-- Pixels laid over a row: none, those of one code, and those behind others.
use Rattle.std.proofs.Common.{◌≡◌, ◌∙◌, refl, sym, ap, inl, inr, ℕ, ◌+◌, ◌-◌, ◌<◌, ◌≤◌, Bool, true, false, eqb, ltb, List, [], ◌++◌, length, get_or, arith}
use Rattle.std.specs.Prelude.{replicate, min, if◌then◌else◌, ◌&&◌, ◌==◌}
use Rattle.std.proofs.lemmas.Bool.{cases_lt, lt-ltb, le-ltb}
use Rattle.std.proofs.lemmas.Bool.Decides.{nat_tests}
use Rattle.std.proofs.lemmas.List.{get_or-replicate, length-replicate, length-append, get_or_append_left, get_or-append_right}
use Rattle.sub_base.specs.declared.depth.Depth.{Depth}
use Rattle.string_painting.specs.Codes.{packed_code}
use Rattle.string_painting.specs.Painting.{code_after, LaysPixels}
use Rattle.string_painting.specs.Private.Columns.{PaintsColumns}

-- a column before the pixels
pub before_start : (over : ℕ → ℕ → ℕ) (start : ℕ) (pixels : List ℕ) (x old : ℕ) → x < start
    → code_after over start pixels x old ≡ old
before_start over start pixels x old h = let t : ltb x start ≡ true = lt-ltb _ _ h in rw t refl

-- a column under a pixel
pub under : (over : ℕ → ℕ → ℕ) (start : ℕ) (pixels : List ℕ) (x old : ℕ) → start ≤ x → x < start + length pixels
    → code_after over start pixels x old ≡ over old (get_or pixels (x - start) 0)
under over start pixels x old h k =
    let t : ltb x start ≡ false = le-ltb _ _ h in
    let u : ltb x (start + length pixels) ≡ true = lt-ltb _ _ k in
    rw (t, u) refl

-- a column behind the pixels
pub behind : (over : ℕ → ℕ → ℕ) (start : ℕ) (pixels : List ℕ) (x old : ℕ) → start + length pixels ≤ x
    → code_after over start pixels x old ≡ old
behind over start pixels x old h =
    let t : ltb x start ≡ false = le-ltb _ _ (omega arith) in
    let u : ltb x (start + length pixels) ≡ false = le-ltb _ _ h in
    rw (t, u) refl

-- pixels, then those behind them
pub code_after-append : (over : ℕ → ℕ → ℕ) (start : ℕ) (a b : List ℕ) (x old : ℕ)
    → code_after over (start + length a) b x (code_after over start a x old) ≡ code_after over start (a ++ b) x old
code_after-append over start a b x old =
    let both : length (a ++ b) ≡ length a + length b = length-append a b in
    elim (cases_lt x start) [
      | inl first ↦ ap (code_after over (start + length a) b x) (before_start over start a x old first)
          ∙ before_start over (start + length a) b x old (omega (arith, first))
          ∙ sym (before_start over start (a ++ b) x old first)
      | inr on ↦ elim (cases_lt x (start + length a)) [
        | inl in_a ↦ before_start over (start + length a) b x (code_after over start a x old) in_a
            ∙ under over start a x old on in_a
            ∙ ap (over old) (sym (get_or_append_left a b 0 (x - start) (omega (arith, on, in_a))))
            ∙ sym (under over start (a ++ b) x old on (omega (arith, in_a, both)))
        | inr past_a ↦ ap (code_after over (start + length a) b x) (behind over start a x old past_a)
            ∙ elim (cases_lt x (start + length a + length b)) [
              | inl in_b ↦ under over (start + length a) b x old past_a in_b
                  ∙ ap (over old) (same_pixel past_a)
                  ∙ sym (under over start (a ++ b) x old on (omega (arith, in_b, both)))
              | inr past_b ↦ behind over (start + length a) b x old past_b
                  ∙ sym (behind over start (a ++ b) x old (omega (arith, past_b, both)))
            ]
      ]
    ]
  where
    same_pixel : start + length a ≤ x → get_or b (x - (start + length a)) 0 ≡ get_or (a ++ b) (x - start) 0
    same_pixel h =
        let e : x - (start + length a) ≡ x - start - length a = omega arith in
        ap (λ (i : ℕ). get_or b i 0) e
        ∙ sym (get_or-append_right a b (length a) (x - start) 0 refl (omega (arith, h)))

pub LaysPixels-append : (region : Depth) (over : ℕ → ℕ → ℕ) (width start next : ℕ) (a b old mid new : List ℕ)
    → next ≡ start + length a → LaysPixels region over width start a old mid
    → LaysPixels region over width next b mid new → LaysPixels region over width start (a ++ b) old new
LaysPixels-append region over width start next a b old mid new e p q = record {
  within = λ x h.
      q.within x h ∙ ap (λ (n : ℕ). code_after over n b x (packed_code region mid x)) e
      ∙ ap (code_after over (start + length a) b x) (p.within x h)
      ∙ code_after-append over start a b x (packed_code region old x);
  beside = λ x h. q.beside x h ∙ p.beside x h;
}

pub LaysPixels-none : (region : Depth) (over : ℕ → ℕ → ℕ) (width start : ℕ) (row : List ℕ)
    → LaysPixels region over width start [] row row
LaysPixels-none region over width start row = record {
  within = λ x h. elim (cases_lt x start) [
    | inl first ↦ sym (before_start over start [] x _ first)
    | inr past ↦ sym (behind over start [] x _ (omega (arith, past)))
  ];
  beside = λ x h. refl;
}

-- pixels that change nothing
pub LaysPixels-unseen : (region : Depth) (over : ℕ → ℕ → ℕ) (width start count read : ℕ) (row : List ℕ)
    → ((old : ℕ) → over old read ≡ old)
    → LaysPixels region over width start (replicate count read) row row
LaysPixels-unseen region over width start count read row same = record {
  within = λ x h.
      let long : length (replicate count read) ≡ count = length-replicate count read in
      elim (cases_lt x start) [
        | inl first ↦ sym (before_start over start (replicate count read) x _ first)
        | inr on ↦ elim (cases_lt x (start + count)) [
          | inl inside ↦ sym (under over start (replicate count read) x _ on (omega (arith, inside, long))
              ∙ ap (over _) (get_or-replicate count (x - start) read 0 (omega (arith, on, inside)))
              ∙ same _)
          | inr past ↦ sym (behind over start (replicate count read) x _ (omega (arith, past, long)))
        ]
      ];
  beside = λ x h. refl;
}

-- the pixels of one code
pub LaysPixels-run : (region : Depth) (over : ℕ → ℕ → ℕ) (width start count read code : ℕ) (row new : List ℕ)
    → ((old : ℕ) → over old read ≡ code)
    → PaintsColumns region (min start width) (min (start + count) width) code row new
    → LaysPixels region over width start (replicate count read) row new
LaysPixels-run region over width start count read code row new same p = record {
  within = λ x h.
      let long : length (replicate count read) ≡ count = length-replicate count read in
      elim (cases_lt x start) [
        | inl first ↦ p.outside x (inl (omega (arith, first, h)))
            ∙ sym (before_start over start (replicate count read) x _ first)
        | inr on ↦ elim (cases_lt x (start + count)) [
          | inl inside ↦ p.covered x (omega (arith, on)) (omega (arith, inside, h))
              ∙ sym (under over start (replicate count read) x _ on (omega (arith, inside, long))
              ∙ ap (over _) (get_or-replicate count (x - start) read 0 (omega (arith, on, inside)))
              ∙ same _)
          | inr past ↦ p.outside x (inr (omega (arith, past)))
              ∙ sym (behind over start (replicate count read) x _ (omega (arith, past, long)))
        ]
      ];
  beside = λ x h. p.outside x (inr (omega (arith, h)));
}

-- a pixel that is not seen through
pub covers_other : (see_through : Bool) (read old new : ℕ) → (read ≡ 1 → ⊥)
    → (if see_through && (read == 1) then old else new) ≡ new
covers_other true read old new differs = let t : eqb read 1 ≡ false = grind (arith, nat_tests) in rw t refl
covers_other false read old new differs = refl

pub covers_all : (see_through : Bool) (read old new : ℕ) → see_through ≡ false
    → (if see_through && (read == 1) then old else new) ≡ new
covers_all see_through read old new e = rw e refl
