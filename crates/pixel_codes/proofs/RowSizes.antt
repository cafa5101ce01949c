-- How many bits and bytes the string of a row has, run by run, without its bytes.
use Rattle.std.proofs.Common.{◌≡◌, ℕ, zero, suc, ◌+◌, ◌-◌, ◌*◌, ◌/◌, ◌<◌, ◌≤◌, eqb, List, length, get_or, take, drop, refl, sym, ap, subst, ◌∙◌, arith}
use Rattle.std.specs.Prelude.{take_while, All}
use Rattle.std.proofs.lemmas.List.{drop_more, drop_all, take_rest}
use Rattle.std.proofs.lemmas.Bool.Decides.{nat_tests}
use Rattle.sub_base.specs.Depth.{code_count}
use Rattle.sub_base.specs.declared.depth.Depth.{Depth}
use Rattle.sub_base.specs.declared.depth.Depth.TheVariants.{Two, Four, Eight}
use Rattle.stream_syntax.specs.PixelCodes.{Span, ending, IsLeast, IsLeastSum, IsRowSize}
use Rattle.pixel_codes.specs.Private.Least.{table_bits, two_some, two_none, four_some, four_none, eight_some, eight_none}
use Rattle.pixel_codes.specs.Private.Rows.{runs_of}
use Rattle.pixel_codes.proofs.Chosen.{table_least}
use Rattle.pixel_codes.proofs.Rows.{next_run, taken_front, front}
use Rattle.pixel_codes.proofs.RowStrings.{runs_of-maximal}
use Rattle.pixel_codes.proofs.Sizes.{one_least}

-- a run has at most sixteen bits a pixel
table_bound : (depth : Depth) (code count : ℕ) → 1 ≤ count → table_bits depth code count ≤ 16 * count
unfolding two_some two_none four_some four_none eight_some eight_none
table_bound Two zero count h = grind (arith, nat_tests)
table_bound Two (suc code) count h = grind (arith, nat_tests)
table_bound Four zero count h = grind (arith, nat_tests)
table_bound Four (suc code) count h = grind (arith, nat_tests)
table_bound Eight zero count h = grind (arith, nat_tests)
table_bound Eight (suc code) count h = grind (arith, nat_tests)

run_bound : (depth : Depth) (code count bits : ℕ) → code < code_count depth → 1 ≤ count
    → IsLeast depth code count bits → bits ≤ 16 * count
run_bound depth code count bits k h least =
    omega (
      arith,
      one_least depth code count bits (table_bits depth code count) least
          (table_least depth code count k),
      table_bound depth code count h,
    )

-- the front of the rest of a row
pub cut_front : (row : List ℕ) (place count : ℕ) → place < length row
    → count ≡ length
    (take_while (λ x. eqb x (get_or (take (length row - place) (drop place row)) 0 0))
    (take (length row - place) (drop place row))) → count ≡ front (get_or row place 0) (drop place row)
cut_front row place count h n =
    let cut : take (length row - place) (drop place row) ≡ drop place row = take_rest row place in
    let same : get_or (drop place row) 0 0 ≡ get_or row place 0 =
    ap (λ (s : List ℕ). get_or s 0 0) (drop_more row place 0 h) in
    n ∙ ap (λ (s : List ℕ). length (take_while (λ x. eqb x (get_or s 0 0)) s)) cut
    ∙ ap (λ (y : ℕ). length (take_while (λ x. eqb x y) (drop place row))) same
    ∙ taken_front (get_or row place 0) (drop place row)

-- one run of a row
pub sum_more : (depth : Depth) (row : List ℕ) (place count bits : ℕ) → place < length row
    → count ≡ front (get_or row place 0) (drop place row) → IsLeast depth (get_or row place 0) count bits →
    (1 ≤ count) × (place + count ≤ length row)
    × ((rest : ℕ) → IsLeastSum depth (runs_of (drop (place + count) row)) rest
    → IsLeastSum depth (runs_of (drop place row)) (bits + rest))
sum_more depth row place count bits h n least =
    let r = next_run row place count h n in (
      r.0,
      r.1,
      λ rest sum. subst (λ (spans : List Span). IsLeastSum depth spans (bits + rest)) (sym r.2)
          (bits, rest, least, sum, refl),
    )

-- the runs so far, with one more
pub row_more : (depth : Depth) (row : List ℕ) (place count bits run : ℕ)
    → All (λ code. code < code_count depth) row → place < length row
    → count ≡ length
    (take_while (λ x. eqb x (get_or (take (length row - place) (drop place row)) 0 0))
    (take (length row - place) (drop place row))) → IsLeast depth (get_or row place 0) count run
    → bits ≤ 16 * place
    → ((rest : ℕ) → IsLeastSum depth (runs_of (drop place row)) rest
    → IsLeastSum depth (runs_of row) (bits + rest))
    → (place + count ≤ length row) × (bits + run ≤ 16 * (place + count))
    × ((rest : ℕ) → IsLeastSum depth (runs_of (drop (place + count) row)) rest
    → IsLeastSum depth (runs_of row) (bits + run + rest))
row_more depth row place count bits run each h n least few sum =
    let more = sum_more depth row place count run h (cut_front row place count h n) least in
    let short = run_bound depth (get_or row place 0) count run (each place 0 h) more.0 least in (
      more.1,
      omega (arith, short),
      λ rest s. let e : bits + (run + rest)
          ≡ bits + run
          + rest = omega arith in subst (IsLeastSum depth (runs_of row)) e (sum (run + rest) (more.2 rest s)),
    )

-- all runs of a row
pub row_all : (depth : Depth) (row : List ℕ) (place bits : ℕ) → length row ≤ place
    → ((rest : ℕ) → IsLeastSum depth (runs_of (drop place row)) rest
    → IsLeastSum depth (runs_of row) (bits + rest)) → IsLeastSum depth (runs_of row) bits
unfolding runs_of
row_all depth row place bits h sum =
    let e : bits + 0 ≡ bits = omega arith in
    subst (IsLeastSum depth (runs_of row)) e
    (sum 0 (subst (λ (xs : List ℕ). IsLeastSum depth (runs_of xs) 0) (sym (drop_all place row h)) refl))

-- the size of a row's string
pub row_sized : (depth : Depth) (row : List ℕ) (bits ends : ℕ) → IsLeastSum depth (runs_of row) bits
    → ends ≡ length (ending depth) → IsRowSize depth row ((bits + ends + 7) / 8)
row_sized depth row bits ends least e = record {
  spans = runs_of row;
  maximal = runs_of-maximal row;
  sum = bits;
  least = least;
  started = ap (λ (n : ℕ). (bits + n + 7) / 8) e;
}
