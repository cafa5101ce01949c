-- The table of least bits at few pixels, and one period on: regions of four and eight bits.
use Rattle.std.proofs.Common.{◌≡◌, ℕ, zero, suc, ◌+◌, ◌-◌, ◌*◌, ◌/◌, ◌%◌, ◌<◌, ◌≤◌, min, refl, sym, inl, inr, arith}
use Rattle.std.proofs.lemmas.Bool.{cases_lt}
use Rattle.sub_base.specs.Depth.{code_count}
use Rattle.sub_base.specs.declared.depth.Depth.{Depth}
use Rattle.sub_base.specs.declared.depth.Depth.TheVariants.{Two, Four, Eight}
use Rattle.stream_syntax.specs.PixelCodes.{pixel, one_zero, two_zeros, zeros, short_run, middle_run, long_run, pixel_count}
use Rattle.pixel_codes.specs.Private.Least.{four_some, four_none, eight_some, eight_none, table_bits, first_code}
use Rattle.pixel_codes.proofs.First.{IsFirst, cases_ltb, cases_eqb, few_four, few_eight, four_some_none, eight_some_pair, four_small, four_period, eight_small, eight_period, whole, four_some_is, four_none_is, eight_some_is, eight_none_is, four_some_0, four_none_0, eight_some_0, eight_none_0, two_none_first, two_some_first}

-- ---- four bits

four_long_bits : (table : ℕ → ℕ) (count : ℕ) → 25 ≤ count → (count < 280 → table count ≡ 20)
    → table 0 ≡ 0 →
    20 * (count / 280) + table (count % 280)
    ≡ 20 + (20 * ((count - (min (count - 25) 255 + 25)) / 280)
    + table ((count - (min (count - 25) 255 + 25)) % 280))
four_long_bits table count h t z =
    elim (cases_lt count 280) [
      | inl l ↦ let p : count - (min (count - 25) 255 + 25) ≡ 0 =
          omega arith in rw p (omega (arith, four_small table count l, t l, z))
      | inr l ↦ let p : count - (min (count - 25) 255 + 25) ≡ count - 280 =
          omega arith in rw p (four_period table count l)
    ]

four_long_first : (colour count : ℕ) → 25 ≤ count → colour < 16 →
    table_bits Four colour count ≡ 20 + table_bits Four colour (count - (min (count - 25) 255 + 25))
    → IsFirst Four colour count (long_run (min (count - 25) 255) colour)
four_long_first colour count h k b = record {
  is_code = (omega arith, k);
  colour_is = refl;
  some = omega arith;
  within = omega arith;
  bits = b;
  longer = λ code g c l m. absurd (omega (arith, few_four code g));
}

four_none_first : (count : ℕ) → 1 ≤ count → IsFirst Four zero count (first_code Four zero count)
four_none_first count h =
    cases_ltb 24 count
    (λ t l. rw t
    (four_long_first 0 count l (omega arith)
    (four_long_bits four_none count l (λ k. (four_none_is count k).0 l) four_none_0)))
    (λ t l. cases_ltb 9 count
    (λ u m. rw (t, u)
    (whole Four 0 count (middle_run (count - 9) 0) (omega arith, omega arith) refl h (omega arith)
    (omega (
      arith,
      four_small four_none count (omega arith),
      (four_none_is count (omega arith)).1 m
          (omega arith),
      four_none_0,
    ))))
    (λ u m. cases_ltb 2 count
    (λ v n. rw (t, u, v)
    (whole Four 0 count (zeros (count - 2)) (omega arith, omega arith) refl h (omega arith)
    (omega (
      arith,
      four_small four_none count (omega arith),
      (four_none_is count (omega arith)).2 h
          (omega arith),
      four_none_0,
    ))))
    (λ v n. cases_eqb count 2
    (λ w e. rw (t, u, v, w)
    (whole Four 0 count two_zeros tt refl h (sym e)
    (omega (
      arith,
      four_small four_none count (omega arith),
      (four_none_is count (omega arith)).2 h
          (omega arith),
      four_none_0,
    ))))
    (λ w e. rw (t, u, v, w)
    (whole Four 0 count one_zero tt refl h (omega arith)
    (omega (
      arith,
      four_small four_none count (omega arith),
      (four_none_is count (omega arith)).2 h
          (omega arith),
      four_none_0,
    )))))))

four_short_first : (colour count : ℕ) → 4 ≤ count → count ≤ 8 → suc colour < 16
    → IsFirst Four (suc colour) count (short_run (min (count - 4) 3) (suc colour))
four_short_first colour count h k j =
    let here = four_small four_some count (omega arith) in
    let there = four_small four_some (count - (min (count - 4) 3 + 4)) (omega arith) in
    let is = four_some_is count (omega arith) in
    let less = (four_some_is (count - (min (count - 4) 3 + 4)) (omega arith)).3 (omega arith) in
    record {
      is_code = (omega arith, j);
      colour_is = refl;
      some = omega arith;
      within = omega arith;
      bits =
          elim (cases_lt count 8) [
            | inl l ↦ omega (arith, here, there, is.2 h l, less)
            | inr l ↦ omega
                (arith, here, there, is.1 l (omega arith), less)
          ];
      longer = λ code g c l m. absurd ((four_some_none colour _ code g c refl).0 (omega arith));
    }

four_pixel_first : (colour count : ℕ) → 1 ≤ count → count ≤ 3 → suc colour < 16
    → IsFirst Four (suc colour) count (pixel (suc colour))
four_pixel_first colour count h k j =
    let here = four_small four_some count (omega arith) in
    let value = (four_some_is count (omega arith)).3 k in
    let there = four_small four_some (count - 1) (omega arith) in
    let less = (four_some_is (count - 1) (omega arith)).3 (omega arith) in
    record {
      is_code = (omega arith, j);
      colour_is = refl;
      some = omega arith;
      within = omega arith;
      bits = omega (arith, here, value, there, less);
      longer = λ code g c l m.
          let p = four_some_none colour _ code g c refl in
          elim (cases_lt (pixel_count Four code) 3)
          [ inl o ↦ absurd (p.1 (omega arith)) | inr o ↦ absurd (p.2 (omega arith)) ];
    }

four_some_first : (colour count : ℕ) → 1 ≤ count → suc colour < 16
    → IsFirst Four (suc colour) count (first_code Four (suc colour) count)
four_some_first colour count h j =
    cases_ltb 24 count
    (λ t l. rw t
    (four_long_first (suc colour) count l j
    (four_long_bits four_some count l (λ k. (four_some_is count k).0 l) four_some_0)))
    (λ t l. cases_ltb 8 count
    (λ u m. rw (t, u)
    (whole Four (suc colour) count (middle_run (count - 9) (suc colour)) (omega arith, j) refl h (omega arith)
    (omega (
      arith,
      four_small four_some count (omega arith),
      (four_some_is count (omega arith)).1 (omega arith)
          (omega arith),
      four_some_0,
    ))))
    (λ u m. cases_ltb 3 count
    (λ v n. rw (t, u, v) (four_short_first colour count n m j))
    (λ v n. rw (t, u, v) (four_pixel_first colour count h n j))))

-- ---- eight bits

eight_bits : (table : ℕ → ℕ) (top count : ℕ) → (count < 127 → table count ≡ top) → table 0 ≡ 0 →
    top * (count / 127) + table (count % 127)
    ≡ top + (top * ((count - min count 127) / 127) + table ((count - min count 127) % 127))
eight_bits table top count t z =
    elim (cases_lt count 127) [
      | inl l ↦ let p : count - min count 127 ≡ 0 =
          omega arith in rw p (omega (arith, eight_small table top count l, t l, z))
      | inr l ↦ let p : count - min count 127 ≡ count - 127 = omega arith in rw p (eight_period table top count l)
    ]

eight_none_first : (count : ℕ) → 1 ≤ count → IsFirst Eight zero count (first_code Eight zero count)
eight_none_first count h = record {
  is_code = (omega arith, omega arith);
  colour_is = refl;
  some = omega arith;
  within = omega arith;
  bits = eight_bits eight_none 16 count (λ l. eight_none_is count l h) eight_none_0;
  longer = λ code g c l m. absurd (omega (arith, few_eight code g));
}

eight_run_first : (colour count : ℕ) → 3 ≤ count → suc colour < 256
    → IsFirst Eight (suc colour) count (short_run (min count 127) (suc colour))
eight_run_first colour count h j = record {
  is_code = (omega arith, j);
  colour_is = refl;
  some = omega arith;
  within = omega arith;
  bits = eight_bits eight_some 24 count (λ l. (eight_some_is count l).0 h) eight_some_0;
  longer = λ code g c l m. absurd (omega (arith, few_eight code g));
}

eight_pixel_first : (colour count : ℕ) → 1 ≤ count → count ≤ 2 → suc colour < 256
    → IsFirst Eight (suc colour) count (pixel (suc colour))
eight_pixel_first colour count h k j =
    let here = eight_small eight_some 24 count (omega arith) in
    let value = (eight_some_is count (omega arith)).1 k in
    let there = eight_small eight_some 24 (count - 1) (omega arith) in
    let less = (eight_some_is (count - 1) (omega arith)).1 (omega arith) in
    record {
      is_code = (omega arith, j);
      colour_is = refl;
      some = omega arith;
      within = omega arith;
      bits = omega (arith, here, value, there, less);
      longer = λ code g c l m. omega (arith, here, value, eight_some_pair colour code g c l);
    }

eight_some_first : (colour count : ℕ) → 1 ≤ count → suc colour < 256
    → IsFirst Eight (suc colour) count (first_code Eight (suc colour) count)
eight_some_first colour count h j =
    cases_ltb 2 count
    (λ t l. rw t (eight_run_first colour count l j))
    (λ t l. rw t (eight_pixel_first colour count h l j))

pub first_is : (depth : Depth) (colour count : ℕ) → 1 ≤ count → colour < code_count depth
    → IsFirst depth colour count (first_code depth colour count)
first_is Two zero count h k = two_none_first count h
first_is Two (suc colour) count h k = two_some_first colour count h k
first_is Four zero count h k = four_none_first count h
first_is Four (suc colour) count h k = four_some_first colour count h k
first_is Eight zero count h k = eight_none_first count h
first_is Eight (suc colour) count h k = eight_some_first colour count h k
