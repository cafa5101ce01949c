-- The ends of runs as the set bits of a word.
use Rattle.std.proofs.Common.{◌≡◌, ℕ, zero, suc, ◌+◌, ◌-◌, ◌/◌, ◌%◌, ◌^◌, ◌<◌, ◌≤◌, Bool, true, false, not, ◌==◌, cond, List, map, length, get_or, sym, refl, ap, ap₂, subst, ◌∙◌, inl, inr, w8, w64, arith, mod-lt, zero-lt-suc, pow-suc}
use Rattle.std.specs.Int.{bit_at, trailing_zeros}
use Rattle.std.proofs.lemmas.Bool.{cases_eq, cases_lt}
use Rattle.std.proofs.lemmas.Nat.Bits.{bit_at_lowest, bit_at-suc, bit_at-zero, bit_at_and, bit_at-trailing_zeros}
use Rattle.std.proofs.lemmas.Simd.{tops_compared, mask_l-mod, bit_mask_l, get_or-zip2, get_or-chunk, length-chunk, length-zip2}
use lib.Bits.{bit_and, and_shr}
use lib.Count.{count_trailing_zeros, under}
use lib.Lanes.{chunk, mask_l, top, zip2}
use mir.Val.{bits, hbits}
use Rattle.pixel_codes.specs.Private.Maximal.{ends_at, IsOneRun, GoesOn, HasEnds}

-- ---- the word of a block

abbrev unequal : ℕ → ℕ → Bool
unequal a b = not (a == b)

pub block_bits : (row : List ℕ) (at : ℕ) → at + 65 ≤ length row → (bit : ℕ) → bit < 64
    → bit_at (mask_l (map (top (hbits w8)) (zip2 (λ a b. cond (unequal a b) (2 ^ bits w8 - 1) 0)
    (chunk at 64 row) (chunk (at + 1) 64 row))) % 2 ^ 64) bit
    ≡ cond (ends_at row (at + bit)) 1 0
block_bits row at room bit h =
    let here = chunk at 64 row in
    let next = chunk (at + 1) 64 row in
    let a : length here ≡ 64 = length-chunk at 64 row (omega (arith, room)) in
    let b : length next ≡ 64 = length-chunk (at + 1) 64 row (omega (arith, room)) in
    let long = length-zip2 unequal here next (a ∙ sym b) in
    let on : at + 1 + bit ≡ at + bit + 1 = omega arith in
    ap (λ ms. bit_at (mask_l ms % 2 ^ 64) bit) (tops_compared w8 unequal here next)
    ∙ ap (λ n. bit_at n bit) (mask_l-mod (zip2 unequal here next) 64 (omega (arith, long, a)))
    ∙ bit_mask_l (zip2 unequal here next) bit
    ∙ ap (λ c. cond c 1 0) (get_or-zip2 unequal here next bit 0 0 false (omega (arith, a, h)) (omega (arith, b, h))
    ∙ ap₂ unequal (get_or-chunk at 64 row bit 0 h)
    (get_or-chunk (at + 1) 64 row bit 0 h ∙ ap (λ n. get_or row n 0) on))

-- ---- the bits of a word, the lowest first

-- one bit of `n & (n - 1)`, where the lowest of n is at t
abbrev Cleared : ℕ → ℕ → ℕ → Type 0
Cleared n t i =
    (i ≡ t → bit_at (bit_and n (n - 1)) i ≡ 0)
    × ((i ≡ t → ⊥) → bit_at (bit_and n (n - 1)) i ≡ bit_at n i)

by_lowest : (n t d i : ℕ) → 0 < n → n % 2 ≡ d → ((j : ℕ) → n % 2 ≡ 0 → Cleared (n / 2) t j)
    → Cleared n (under d t) i
by_lowest n t zero zero some e below =
    (λ z. absurd (omega (arith, z)), λ _. omega (arith, bit_at_and n (n - 1) 0, bit_at_lowest n, e))
by_lowest n t zero (suc j) some e below =
    let half : (n - 1) / 2 ≡ n / 2 - 1 = omega (arith, e) in
    let step : bit_at (bit_and n (n - 1)) (suc j) ≡ bit_at (bit_and (n / 2) (n / 2 - 1)) j =
    bit_at-suc (bit_and n (n - 1)) j
    ∙ ap (λ (x : ℕ). bit_at x j) (and_shr n (n - 1) 1 ∙ ap (bit_and (n / 2)) half) in (
      λ z. step ∙ (below j e).0 (omega (arith, z)),
      λ f. step ∙ (below j e).1 (λ z. f (ap suc z)) ∙ sym (bit_at-suc n j),
    )
by_lowest n t (suc d) zero some e below = (
  λ _. omega (arith, bit_at_and n (n - 1) 0, bit_at_lowest (n - 1), e, mod-lt n (zero-lt-suc 1)),
  λ f. absurd (f refl),
)
by_lowest n t (suc d) (suc j) some e below =
    let half : (n - 1) / 2 ≡ n / 2 = omega (arith, e, mod-lt n (zero-lt-suc 1)) in
    let same : bit_at (n - 1) (suc j) ≡ bit_at n (suc j) =
    bit_at-suc (n - 1) j ∙ ap (λ (x : ℕ). bit_at x j) half ∙ sym (bit_at-suc n j) in
    (λ z. absurd (omega (arith, z)), λ _. omega (arith, bit_at_and n (n - 1) (suc j), same))

cleared : (k n i : ℕ) → 0 < n → n < 2 ^ k → Cleared n (count_trailing_zeros k n) i
unfolding count_trailing_zeros
cleared zero n i some fits = absurd (omega (arith, some, fits))
cleared (suc k) n i some fits =
    by_lowest n (count_trailing_zeros k (n / 2)) (n % 2) i some refl
    (λ j e. cleared k (n / 2) j (omega (arith, e, some)) (omega (arith, fits, pow-suc 2 k)))

is_one : (b : Bool) → ◌≡◌ {A = ℕ} (cond b 1 0) 1 → b ≡ true
is_one true e = refl
is_one false e = absurd (omega arith)

is_zero : (b : Bool) → ◌≡◌ {A = ℕ} (cond b 1 0) 0 → b ≡ false
is_zero true e = absurd (omega arith)
is_zero false e = refl

module _ (row : List ℕ) (at from word : ℕ) (ends : HasEnds row at from word) (alike : IsOneRun row from at) where
  -- where the bits up to one are not set, the run goes on up to its pixel
  up_to : (n : ℕ) → n ≤ 64 → ((bit : ℕ) → bit < n → bit_at word bit ≡ 0) → IsOneRun row from (at + n)
  up_to n short none place low high =
      elim (cases_lt place at) [
        | inl before ↦ alike place low before
        | inr behind ↦
            let bit = place - at in
            let back : at + bit ≡ place = omega (arith, behind) in
            subst (λ p. ends_at row p ≡ false) back
            (is_zero _ (sym (ends.behind bit (omega (arith, high, behind, short)) (omega (arith, back, low)))
            ∙ none bit (omega (arith, high, behind))))
      ]

  -- a word with no bits
  pub none_ends : word ≤ 0 → IsOneRun row from (at + 64)
  none_ends e =
      up_to 64 (omega arith) (λ bit h. ap (λ n. bit_at n bit) (omega (arith, e)) ∙ bit_at-zero bit)

  -- the lowest bit of a word is where the first run ends
  pub first_end : 0 < word → word < 2 ^ 64 →
      (trailing_zeros w64 word < 64) × (from ≤ at + trailing_zeros w64 word)
      × IsOneRun row from (at + trailing_zeros w64 word)
      × (ends_at row (at + trailing_zeros w64 word) ≡ true)
  first_end some fits =
      let lowest = bit_at-trailing_zeros w64 word some fits in
      let bit = trailing_zeros w64 word in
      let low : from ≤ at + bit =
      elim (cases_lt (at + bit) from) [
        | inl before ↦ absurd (omega (arith, ends.before bit before, lowest.1))
        | inr behind ↦ omega (arith, behind)
      ] in (
        lowest.0,
        low,
        up_to bit (omega (arith, lowest.0)) lowest.2,
        is_one _ (sym (ends.behind bit lowest.0 low) ∙ lowest.1),
      )

  -- and without it the word has the ends behind
  pub other_ends : 0 < word → word < 2 ^ 64 →
      HasEnds row at (at + trailing_zeros w64 word + 1) (bit_and word (word - 1))
  other_ends some fits =
      let first = first_end some fits in
      let lowest = bit_at-trailing_zeros w64 word some fits in
      let place = trailing_zeros w64 word in
      record {
        before = λ bit h.
            elim (cases_eq bit place) [
              | inl same ↦ (cleared 64 word bit some fits).0 same
              | inr other ↦ (cleared 64 word bit some fits).1 other ∙ lowest.2 bit (omega (arith, h, other))
            ];
        behind = λ bit h low.
            (cleared 64 word bit some fits).1 (λ e. omega (arith, e, low))
            ∙ ends.behind bit h (omega (arith, low, first.1));
      }

-- ---- the loops over a row

pub begins_at : (row : List ℕ) (at : ℕ) → at ≤ length row → GoesOn row at at
begins_at row at h = record {
  ordered = omega arith;
  within = h;
  alike = λ place low high. absurd (omega (arith, low, high));
  ended = λ _. refl;
}

pub block_begins : (row : List ℕ) (at from word : ℕ) → from ≤ at
    → ((bit : ℕ) → bit < 64 → bit_at word bit ≡ cond (ends_at row (at + bit)) 1 0) → HasEnds row at from word
block_begins row at from word low is = record {
  before = λ bit h. absurd (omega (arith, h, low));
  behind = λ bit h _. is bit h;
}

pub block_passed : (row : List ℕ) (at from word : ℕ) → at + 65 ≤ length row → from ≤ at + 64 → word ≤ 0
    → HasEnds row at from word → IsOneRun row from at → GoesOn row from (at + 64)
block_passed row at from word room low none ends alike = record {
  ordered = low;
  within = omega (arith, room);
  alike = none_ends row at from word ends alike none;
  ended = λ h. absurd (omega (arith, h, room));
}
