-- The rows of the generated pictures have short strings.
use Rattle.std.proofs.Common.{◌≡◌, ℕ, zero, suc, ◌+◌, ◌*◌, ◌/◌, ◌%◌, ◌<◌, ◌≤◌, arith, List, [], ◌∷◌, length, map, refl, subst}
use Rattle.std.specs.Prelude.{All}
use Rattle.std.specs.List.{range_with_len}
use Rattle.std.proofs.lemmas.List.Elements.{All-head, All-tail, All-map}
use Rattle.sub_base.specs.declared.depth.Depth.TheVariants.{Four}
use Rattle.stream_syntax.specs.PixelCodes.{bits, Code, pixel, zeros, short_run, IsCode, IsLeast, IsLeastSum, IsRowSize, Span, AreApart, AreMaximalRuns, bits_in, spelled, ending}
use Rattle.pixel_codes.proofs.Sizes.{one_runs}
use Rattle.generated_script.specs.Generated.{generated_row}

-- ---- a run of eight pixels

-- a code of the depth is a list of them
one_all : (x : Code) → IsCode Four x → All (IsCode Four) (x ∷ [])
one_all x h zero d k = h
one_all x h (suc n) d k = absurd (omega (arith, k))

-- and so are two
two_all : (x y : Code) → IsCode Four x → IsCode Four y → All (IsCode Four) (x ∷ y ∷ [])
two_all x y h g zero d k = h
two_all x y h g (suc zero) d k = g
two_all x y h g (suc (suc n)) d k = absurd (omega (arith, k))

-- eight pixels of code 0 have a code of eight bits
few_zero : bits_in Four (zeros 6 ∷ []) ≤ 16
unfolding spelled bits
few_zero = omega arith

-- seven pixels of another code have one of twelve bits, and one more pixel has four
few_other : (c : ℕ) → bits_in Four (short_run 3 (suc c) ∷ pixel (suc c) ∷ []) ≤ 16
unfolding spelled bits
few_other c = omega arith

-- the least bits of a run of eight pixels of four bits are at most 16
pub eight_short : (code count : ℕ) → code < 16 → IsLeast Four code 8 count → count ≤ 16
eight_short zero count h p =
    omega (
      arith,
      few_zero,
      p.least (zeros 6 ∷ [])
          (record { each = one_all (zeros 6) (omega arith, omega arith); drawn = refl }),
    )
eight_short (suc c) count h p =
    omega (
      arith,
      few_other c,
      p.least (short_run 3 (suc c) ∷ pixel (suc c) ∷ [])
          (record {
            each = two_all (short_run 3 (suc c)) (pixel (suc c)) (omega arith, h) (omega arith, h);
            drawn = refl;
          }),
    )

-- ---- a row of eight runs of eight pixels

-- a run of eight pixels of four bits
abbrev IsEight : Span → Type 0
IsEight span = (span.count ≡ 8) × (span.code < 16)

-- such runs have at most 16 bits each
eights_short : (spans : List Span) (sum : ℕ) → All IsEight spans → IsLeastSum Four spans sum
    → sum ≤ 16 * length spans
eights_short [] sum all p = omega (arith, p)
eights_short (span ∷ spans) sum all p =
    let here = All-head IsEight span spans all in
    let one = eight_short span.code p.0 here.1 (subst (λ (n : ℕ). IsLeast Four span.code n p.0) here.0 p.2) in
    omega (arith, one, p.4, eights_short spans p.1 (All-tail IsEight span spans all) p.3)

-- the code of a run of a row
abbrev run_code : ℕ → ℕ → ℕ → ℕ
run_code k y run = (run + y / 3 + k) % 16

-- the runs of a row
abbrev row_runs : ℕ → ℕ → List Span
row_runs k y = map (λ run. record { count = 8; code = run_code k y run }) (range_with_len 0 8)

-- each of them has eight pixels of four bits
all_eight : (k y : ℕ) (runs : List ℕ)
    → All IsEight (map (λ run. record { count = 8; code = run_code k y run }) runs)
all_eight k y runs =
    All-map IsEight (λ run. record { count = 8; code = run_code k y run }) runs (λ n d h. (refl, omega arith))

-- such runs are not empty
some_each : (spans : List Span) → All IsEight spans → All (λ (span : Span). 0 < span.count) spans
some_each spans all n d h = omega (arith, (all n d h).0)

-- neighbouring runs have other codes
next_code : (k y run : ℕ) → run_code k y run ≡ run_code k y (run + 1) → ⊥
next_code k y run e = omega (arith, e)

-- so no two neighbours of a row have one code
row_apart : (k y : ℕ) → AreApart (row_runs k y)
row_apart k y =
    let next = next_code k y in
    (next 0, (next 1, (next 2, (next 3, (next 4, (next 5, (next 6, tt)))))))

-- these are the maximal runs of the row
row_maximal : (k y : ℕ) → AreMaximalRuns (row_runs k y) (generated_row k y)
row_maximal k y = record {
  drawn = refl;
  some = some_each (row_runs k y) (all_eight k y (range_with_len 0 8));
  apart = row_apart k y;
}

-- the end of a string of four bits has eight bits
end_short : length (ending Four) ≡ 8
unfolding ending bits
end_short = refl

-- the string of a row has at most 17 bytes
pub row_short : (k y size : ℕ) → IsRowSize Four (generated_row k y) size → size ≤ 17
row_short k y size p =
    let are = one_runs (generated_row k y) p.spans (row_runs k y) p.maximal (row_maximal k y) in
    let sum =
    eights_short (row_runs k y) p.sum (all_eight k y (range_with_len 0 8))
    (subst (λ (spans : List Span). IsLeastSum Four spans p.sum) are p.least) in
    omega (arith, end_short, sum, p.started)
