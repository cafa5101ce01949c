-- The first code that the writer chooses for a run: it is in the grammar, with it the least bits grow by just its
-- bits, and no longer code does so.
use Rattle.std.proofs.Common.{◌≡◌, ℕ, zero, suc, ◌+◌, ◌-◌, ◌*◌, ◌/◌, ◌%◌, ◌<◌, ◌≤◌, min, Bool, true, false, eqb, ltb, refl, sym, inl, inr, arith}
use Rattle.std.proofs.lemmas.Bool.{cases_lt, eqb-true, eqb-false, ltb-true, ltb-false}
use Rattle.std.proofs.lemmas.Bool.Decides.{nat_tests}
use Rattle.sub_base.specs.declared.depth.Depth.{Depth}
use Rattle.sub_base.specs.declared.depth.Depth.TheVariants.{Two, Four, Eight}
use Rattle.stream_syntax.specs.PixelCodes.{Code, pixel, one_zero, two_zeros, zeros, short_run, middle_run, long_run, IsCode, pixel_count, colour_of}
use Rattle.pixel_codes.specs.Private.Least.{two_some, two_none, four_some, four_none, eight_some, eight_none, table_bits, first_code}
use Rattle.code_strings.proofs.Tokens.{width_of}

-- what a first code has to be
pub record IsFirst (depth : Depth) (colour count : ℕ) (first : Code) : Type 0 where
  pub is_code : IsCode depth first
  pub colour_is : colour_of first ≡ colour
  pub some : 1 ≤ pixel_count depth first
  pub within : pixel_count depth first ≤ count
  pub bits : table_bits depth colour count
      ≡ width_of depth first + table_bits depth colour (count - pixel_count depth first)
  pub longer : (code : Code) → IsCode depth code → colour_of code ≡ colour
      → pixel_count depth first < pixel_count depth code → pixel_count depth code ≤ count →
      table_bits depth colour count < width_of depth code + table_bits depth colour (count - pixel_count depth code)

pub cases_ltb : {R : Type 0} (a b : ℕ) → (ltb a b ≡ true → a < b → R)
    → (ltb a b ≡ false → b ≤ a → R)
    → R
cases_ltb {R} a b left right = by (ltb a b) refl
  where
    by : (t : Bool) → ltb a b ≡ t → R
    by true e = left e (ltb-true a b e)
    by false e = right e (ltb-false a b e)

pub cases_eqb : {R : Type 0} (a b : ℕ) → (eqb a b ≡ true → a ≡ b → R)
    → (eqb a b ≡ false → (a ≡ b → ⊥) → R) → R
cases_eqb {R} a b left right = by (eqb a b) refl
  where
    by : (t : Bool) → eqb a b ≡ t → R
    by true e = left e (eqb-true a b e)
    by false e = right e (eqb-false a b e)

-- ---- no code is longer than the longest

few_two : (code : Code) → IsCode Two code → pixel_count Two code ≤ 284
few_two (pixel code) h = omega arith
few_two one_zero h = omega arith
few_two two_zeros h = omega arith
few_two (zeros field) h = absurd h
few_two (short_run field code) h = omega arith
few_two (middle_run field code) h = omega arith
few_two (long_run field code) h = omega arith

pub few_four : (code : Code) → IsCode Four code → pixel_count Four code ≤ 280
few_four (pixel code) h = omega arith
few_four one_zero h = omega arith
few_four two_zeros h = omega arith
few_four (zeros field) h = omega arith
few_four (short_run field code) h = omega arith
few_four (middle_run field code) h = omega arith
few_four (long_run field code) h = omega arith

pub few_eight : (code : Code) → IsCode Eight code → pixel_count Eight code ≤ 127
few_eight (pixel code) h = omega arith
few_eight one_zero h = absurd h
few_eight two_zeros h = absurd h
few_eight (zeros field) h = omega arith
few_eight (short_run field code) h = omega arith
few_eight (middle_run field code) h = absurd h
few_eight (long_run field code) h = absurd h

-- ---- lengths that no code has

two_not_28 : (code : Code) → IsCode Two code → pixel_count Two code ≡ 28 → ⊥
two_not_28 (pixel code) h e = omega arith
two_not_28 one_zero h e = omega arith
two_not_28 two_zeros h e = omega arith
two_not_28 (zeros field) h e = absurd h
two_not_28 (short_run field code) h e = omega arith
two_not_28 (middle_run field code) h e = omega arith
two_not_28 (long_run field code) h e = omega arith

two_not_11 : (code : Code) → IsCode Two code → pixel_count Two code ≡ 11 → ⊥
two_not_11 (pixel code) h e = omega arith
two_not_11 one_zero h e = omega arith
two_not_11 two_zeros h e = omega arith
two_not_11 (zeros field) h e = absurd h
two_not_11 (short_run field code) h e = omega arith
two_not_11 (middle_run field code) h e = omega arith
two_not_11 (long_run field code) h e = omega arith

-- two or three pixels of a code that is not 0 take a code of eight bits at least
two_some_pair : (colour : ℕ) (code : Code) → IsCode Two code → colour_of code ≡ suc colour
    → 1 < pixel_count Two code → pixel_count Two code ≤ 3 → (pixel_count Two code ≡ 3)
    × (width_of Two code ≡ 8)
two_some_pair colour (pixel code) h e l m = absurd (omega arith)
two_some_pair colour one_zero h e l m = absurd (omega arith)
two_some_pair colour two_zeros h e l m = absurd (omega arith)
two_some_pair colour (zeros field) h e l m = absurd h
two_some_pair colour (short_run field code) h e l m = (omega arith, refl)
two_some_pair colour (middle_run field code) h e l m = absurd (omega arith)
two_some_pair colour (long_run field code) h e l m = absurd (omega arith)

pub four_some_none : (colour count : ℕ) (code : Code) → IsCode Four code → colour_of code ≡ suc colour
    → pixel_count Four code ≡ count → ((count ≡ 8 → ⊥) × (count ≡ 2 → ⊥) × (count ≡ 3 → ⊥))
four_some_none colour count (pixel code) h e l = (λ f. omega arith, λ f. omega arith, λ f. omega arith)
four_some_none colour count one_zero h e l = absurd (omega arith)
four_some_none colour count two_zeros h e l = absurd (omega arith)
four_some_none colour count (zeros field) h e l = absurd (omega arith)
four_some_none colour count (short_run field code) h e l = (λ f. omega arith, λ f. omega arith, λ f. omega arith)
four_some_none colour count (middle_run field code) h e l = (λ f. omega arith, λ f. omega arith, λ f. omega arith)
four_some_none colour count (long_run field code) h e l = (λ f. omega arith, λ f. omega arith, λ f. omega arith)

pub eight_some_pair : (colour : ℕ) (code : Code) → IsCode Eight code → colour_of code ≡ suc colour
    → 1 < pixel_count Eight code → width_of Eight code ≡ 24
eight_some_pair colour (pixel code) h e l = absurd (omega arith)
eight_some_pair colour one_zero h e l = absurd h
eight_some_pair colour two_zeros h e l = absurd h
eight_some_pair colour (zeros field) h e l = absurd (omega arith)
eight_some_pair colour (short_run field code) h e l = refl
eight_some_pair colour (middle_run field code) h e l = absurd h
eight_some_pair colour (long_run field code) h e l = absurd h

-- ---- the table at few pixels, and one period on

two_small : (table : ℕ → ℕ) (count : ℕ) → count < 284
    → 16 * (count / 284) + table (count % 284) ≡ table count
two_small table count h =
    let q : count / 284 ≡ 0 = omega arith in let r : count % 284 ≡ count = omega arith in rw (q, r) (omega arith)

two_period : (table : ℕ → ℕ) (count : ℕ) → 284 ≤ count
    → 16 * (count / 284) + table (count % 284) ≡ 16 + (16 * ((count - 284) / 284) + table ((count - 284) % 284))
two_period table count h =
    let q : count / 284 ≡ (count - 284) / 284 + 1 = omega arith in let r : count % 284
    ≡ (count - 284) % 284 = omega arith in rw (q, r) (omega arith)

pub four_small : (table : ℕ → ℕ) (count : ℕ) → count < 280
    → 20 * (count / 280) + table (count % 280) ≡ table count
four_small table count h =
    let q : count / 280 ≡ 0 = omega arith in let r : count % 280 ≡ count = omega arith in rw (q, r) (omega arith)

pub four_period : (table : ℕ → ℕ) (count : ℕ) → 280 ≤ count
    → 20 * (count / 280) + table (count % 280) ≡ 20 + (20 * ((count - 280) / 280) + table ((count - 280) % 280))
four_period table count h =
    let q : count / 280 ≡ (count - 280) / 280 + 1 = omega arith in let r : count % 280
    ≡ (count - 280) % 280 = omega arith in rw (q, r) (omega arith)

pub eight_small : (table : ℕ → ℕ) (top count : ℕ) → count < 127
    → top * (count / 127) + table (count % 127) ≡ table count
eight_small table top count h =
    let q : count / 127 ≡ 0 = omega arith in let r : count % 127 ≡ count = omega arith in rw (q, r) (omega arith)

pub eight_period : (table : ℕ → ℕ) (top count : ℕ) → 127 ≤ count
    → top * (count / 127) + table (count % 127) ≡ top + (top * ((count - 127) / 127) + table ((count - 127) % 127))
eight_period table top count h =
    let q : count / 127 ≡ (count - 127) / 127 + 1 = omega arith in let r : count % 127
    ≡ (count - 127) % 127 = omega arith in let k : top * ((count - 127) / 127 + 1)
    ≡ top * ((count - 127) / 127) + top = omega arith in rw (q, r, k) (omega arith)

-- a code that takes all pixels
pub whole : (depth : Depth) (colour count : ℕ) (first : Code) → IsCode depth first → colour_of first ≡ colour
    → 1 ≤ count → pixel_count depth first ≡ count
    → table_bits depth colour count ≡ width_of depth first + table_bits depth colour 0
    → IsFirst depth colour count first
whole depth colour count first h e s n b = record {
  is_code = h;
  colour_is = e;
  some = omega arith;
  within = omega arith;
  bits = let z : count - pixel_count depth first ≡ 0 = omega arith in rw z b;
  longer = λ code g c l m. absurd (omega arith);
}

-- a code of the most pixels
most : (depth : Depth) (colour count : ℕ) (first : Code) → IsCode depth first → colour_of first ≡ colour
    → 1 ≤ pixel_count depth first → pixel_count depth first ≤ count
    → ((code : Code) → IsCode depth code → pixel_count depth code ≤ pixel_count depth first)
    → table_bits depth colour count
    ≡ width_of depth first + table_bits depth colour (count - pixel_count depth first)
    → IsFirst depth colour count first
most depth colour count first h e s w m b = record {
  is_code = h;
  colour_is = e;
  some = s;
  within = w;
  bits = b;
  longer = λ code g c l k. absurd (omega (arith, m code g));
}

-- the values of the tables
two_some_is : (count : ℕ) → count < 284 → (29 ≤ count → two_some count ≡ 16)
    × (count ≡ 28 → two_some count ≡ 14) × (12 ≤ count → count < 28 → two_some count ≡ 12)
    × (count ≡ 11 → two_some count ≡ 10) × (4 ≤ count → count < 11 → two_some count ≡ 8)
    × (count ≤ 3 → two_some count ≡ 2 * count)
unfolding two_some
two_some_is count h = (
  λ a. grind (arith, nat_tests),
  λ a. grind (arith, nat_tests),
  λ a b. grind (arith, nat_tests),
  λ a. grind
      (arith, nat_tests),
  λ a b. grind (arith, nat_tests),
  λ a. grind (arith, nat_tests),
)

two_none_is : (count : ℕ) → count < 284 → (28 ≤ count → two_none count ≡ 16)
    × (11 ≤ count → count < 28 → two_none count ≡ 12)
    × (3 ≤ count → count < 11 → two_none count ≡ 8) × (count ≡ 2 → two_none count ≡ 6)
    × (count ≡ 1 → two_none count ≡ 4)
unfolding two_none
two_none_is count h = (
  λ a. grind (arith, nat_tests),
  λ a b. grind (arith, nat_tests),
  λ a b. grind (arith, nat_tests),
  λ a. grind
      (arith, nat_tests),
  λ a. grind (arith, nat_tests),
)

pub four_some_is : (count : ℕ) → count < 280 → (25 ≤ count → four_some count ≡ 20)
    × (8 ≤ count → count < 25 → four_some count ≡ 16)
    × (4 ≤ count → count < 8 → four_some count ≡ 12) × (count ≤ 3 → four_some count ≡ 4 * count)
unfolding four_some
four_some_is count h = (
  λ a. grind (arith, nat_tests),
  λ a b. grind (arith, nat_tests),
  λ a b. grind (arith, nat_tests),
  λ a. grind
      (arith, nat_tests),
)

pub four_none_is : (count : ℕ) → count < 280 → (25 ≤ count → four_none count ≡ 20)
    × (10 ≤ count → count < 25 → four_none count ≡ 16)
    × (1 ≤ count → count < 10 → four_none count ≡ 8)
unfolding four_none
four_none_is count h =
    (λ a. grind (arith, nat_tests), λ a b. grind (arith, nat_tests), λ a b. grind (arith, nat_tests))

pub eight_some_is : (count : ℕ) → count < 127 → (3 ≤ count → eight_some count ≡ 24)
    × (count ≤ 2 → eight_some count ≡ 8 * count)
unfolding eight_some
eight_some_is count h = (λ a. grind (arith, nat_tests), λ a. grind (arith, nat_tests))

pub eight_none_is : (count : ℕ) → count < 127 → 1 ≤ count → eight_none count ≡ 16
unfolding eight_none
eight_none_is count h a = grind (arith, nat_tests)

two_some_0 : two_some 0 ≡ 0
unfolding two_some
two_some_0 = refl

two_none_0 : two_none 0 ≡ 0
unfolding two_none
two_none_0 = refl

pub four_some_0 : four_some 0 ≡ 0
unfolding four_some
four_some_0 = refl

pub four_none_0 : four_none 0 ≡ 0
unfolding four_none
four_none_0 = refl

pub eight_some_0 : eight_some 0 ≡ 0
unfolding eight_some
eight_some_0 = refl

pub eight_none_0 : eight_none 0 ≡ 0
unfolding eight_none
eight_none_0 = refl

-- ---- two bits

two_long_bits : (table : ℕ → ℕ) (count : ℕ) → 29 ≤ count → (count < 284 → table count ≡ 16)
    → table 0 ≡ 0 →
    16 * (count / 284) + table (count % 284)
    ≡ 16 + (16 * ((count - (min (count - 29) 255 + 29)) / 284)
    + table ((count - (min (count - 29) 255 + 29)) % 284))
two_long_bits table count h t z =
    elim (cases_lt count 284) [
      | inl l ↦ let p : count - (min (count - 29) 255 + 29) ≡ 0 =
          omega arith in rw p (omega (arith, two_small table count l, t l, z))
      | inr l ↦ let p : count - (min (count - 29) 255 + 29) ≡ count - 284 =
          omega arith in rw p (two_period table count l)
    ]

two_long_first : (colour count : ℕ) → 29 ≤ count → colour < 4 →
    table_bits Two colour count ≡ 16 + table_bits Two colour (count - (min (count - 29) 255 + 29))
    → IsFirst Two colour count (long_run (min (count - 29) 255) colour)
two_long_first colour count h k b = record {
  is_code = (omega arith, k);
  colour_is = refl;
  some = omega arith;
  within = omega arith;
  bits = b;
  longer = λ code g c l m. absurd (omega (arith, few_two code g));
}

-- twenty-eight pixels have no code of their own
two_middle_bits : (table : ℕ → ℕ) (count : ℕ) → 12 ≤ count → count ≤ 28
    → (count < 28 → table count ≡ 12) → (count ≡ 28 → table count ≡ 12 + table 1) → table 0 ≡ 0 →
    16 * (count / 284) + table (count % 284)
    ≡ 12 + (16 * ((count - (min (count - 12) 15 + 12)) / 284)
    + table ((count - (min (count - 12) 15 + 12)) % 284))
two_middle_bits table count h k t u z =
    elim (cases_lt count 28) [
      | inl l ↦ let p : count - (min (count - 12) 15 + 12) ≡ 0 =
          omega arith in rw p (omega (arith, two_small table count (omega arith), t l, z))
      | inr l ↦ let p : count - (min (count - 12) 15 + 12) ≡ 1 =
          omega arith in rw p (omega (arith, two_small table count (omega arith), u (omega arith)))
    ]

two_middle_first : (colour count : ℕ) → 12 ≤ count → count ≤ 28 → colour < 4 →
    table_bits Two colour count ≡ 12 + table_bits Two colour (count - (min (count - 12) 15 + 12))
    → IsFirst Two colour count (middle_run (min (count - 12) 15) colour)
two_middle_first colour count h k j b = record {
  is_code = (omega arith, j);
  colour_is = refl;
  some = omega arith;
  within = omega arith;
  bits = b;
  longer = λ code g c l m. absurd (two_not_28 code g (omega arith));
}

two_short_bits : (table : ℕ → ℕ) (count : ℕ) → 3 ≤ count → count ≤ 11
    → (count < 11 → table count ≡ 8) → (count ≡ 11 → table count ≡ 8 + table 1) → table 0 ≡ 0 →
    16 * (count / 284) + table (count % 284)
    ≡ 8 + (16 * ((count - (min (count - 3) 7 + 3)) / 284) + table ((count - (min (count - 3) 7 + 3)) % 284))
two_short_bits table count h k t u z =
    elim (cases_lt count 11) [
      | inl l ↦ let p : count - (min (count - 3) 7 + 3) ≡ 0 =
          omega arith in rw p (omega (arith, two_small table count (omega arith), t l, z))
      | inr l ↦ let p : count - (min (count - 3) 7 + 3) ≡ 1 =
          omega arith in rw p (omega (arith, two_small table count (omega arith), u (omega arith)))
    ]

two_short_first : (colour count : ℕ) → 3 ≤ count → count ≤ 11 → colour < 4 →
    table_bits Two colour count ≡ 8 + table_bits Two colour (count - (min (count - 3) 7 + 3))
    → IsFirst Two colour count (short_run (min (count - 3) 7) colour)
two_short_first colour count h k j b = record {
  is_code = (omega arith, j);
  colour_is = refl;
  some = omega arith;
  within = omega arith;
  bits = b;
  longer = λ code g c l m. absurd (two_not_11 code g (omega arith));
}

pub two_none_first : (count : ℕ) → 1 ≤ count → IsFirst Two zero count (first_code Two zero count)
two_none_first count h =
    cases_ltb 28 count
    (λ t l. rw t
    (two_long_first 0 count l (omega arith)
    (two_long_bits two_none count l (λ k. (two_none_is count k).0 (omega arith)) two_none_0)))
    (λ t l. cases_ltb 11 count
    (λ u m. rw (t, u)
    (two_middle_first 0 count m l (omega arith)
    (two_middle_bits two_none count m l (λ k. (two_none_is count (omega arith)).1 (omega arith) k)
    (λ k. omega (arith, (two_none_is count (omega arith)).0 (omega arith), (two_none_is 1 (omega arith)).4 refl))
    two_none_0)))
    (λ u m. cases_ltb 2 count
    (λ v n. rw (t, u, v)
    (two_short_first 0 count n m (omega arith)
    (two_short_bits two_none count n m (λ k. (two_none_is count (omega arith)).2 n k)
    (λ k. omega
    (arith, (two_none_is count (omega arith)).1 (omega arith) (omega arith), (two_none_is 1 (omega arith)).4 refl))
    two_none_0)))
    (λ v n. cases_eqb count 2
    (λ w e. rw (t, u, v, w)
    (whole Two 0 count two_zeros tt refl h (sym e)
    (omega (arith, two_small two_none count (omega arith), (two_none_is count (omega arith)).3 e, two_none_0))))
    (λ w e. rw (t, u, v, w)
    (whole Two 0 count one_zero tt refl h (omega arith)
    (omega (
      arith,
      two_small two_none count (omega arith),
      (two_none_is count (omega arith)).4
          (omega arith),
      two_none_0,
    )))))))

two_pixel_first : (colour count : ℕ) → 1 ≤ count → count ≤ 3 → suc colour < 4
    → IsFirst Two (suc colour) count (pixel (suc colour))
two_pixel_first colour count h k j =
    let here = two_small two_some count (omega arith) in
    let value = (two_some_is count (omega arith)).5 k in
    let there = two_small two_some (count - 1) (omega arith) in
    let less = (two_some_is (count - 1) (omega arith)).5 (omega arith) in
    record {
      is_code = (omega arith, j);
      colour_is = refl;
      some = omega arith;
      within = omega arith;
      bits = omega (arith, here, value, there, less);
      longer = λ code g c l m.
          let p = two_some_pair colour code g c l (omega arith) in
          let three : count ≡ 3 = omega (arith, p.0) in
          omega (arith, here, value, p.1);
    }

pub two_some_first : (colour count : ℕ) → 1 ≤ count → suc colour < 4
    → IsFirst Two (suc colour) count (first_code Two (suc colour) count)
two_some_first colour count h j =
    cases_ltb 28 count
    (λ t l. rw t
    (two_long_first (suc colour) count l j
    (two_long_bits two_some count l (λ k. (two_some_is count k).0 l) two_some_0)))
    (λ t l. cases_ltb 11 count
    (λ u m. rw (t, u)
    (two_middle_first (suc colour) count m l j
    (two_middle_bits two_some count m l (λ k. (two_some_is count (omega arith)).2 m k)
    (λ k. omega (arith, (two_some_is count (omega arith)).1 k, (two_some_is 1 (omega arith)).5 (omega arith)))
    two_some_0)))
    (λ u m. cases_ltb 3 count
    (λ v n. rw (t, u, v)
    (two_short_first (suc colour) count (omega arith) m j
    (two_short_bits two_some count (omega arith) m (λ k. (two_some_is count (omega arith)).4 n k)
    (λ k. omega (arith, (two_some_is count (omega arith)).3 k, (two_some_is 1 (omega arith)).5 (omega arith)))
    two_some_0)))
    (λ v n. rw (t, u, v) (two_pixel_first colour count h n j))))
