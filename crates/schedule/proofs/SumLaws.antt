-- Sums of a function at the numbers below one.
use Rattle.std.proofs.Common.{◌≡◌, ℕ, zero, suc, ◌+◌, ◌<◌, ◌≤◌, inl, inr, [], ◌∷◌, ◌++◌, map, refl, ap, sym, ◌∙◌, arith, add-one, eq-or-lt_of_le}
use Rattle.std.specs.List.{range_with_len, sum}
use Rattle.std.proofs.lemmas.List.Sums.{sum_by-append}
use Rattle.std.proofs.lemmas.List.FromFn.{map-range_with_len_more}
use Rattle.schedule.specs.Packets.{sum_below}

pub sum_below-zero : (f : ℕ → ℕ) → sum_below f 0 ≡ 0
unfolding sum_below
sum_below-zero f = refl

pub sum_below-more : (f : ℕ → ℕ) (n : ℕ) → sum_below f (n + 1) ≡ sum_below f n + f n
unfolding sum_below
sum_below-more f n =
    let grown : sum (map f (range_with_len 0 n) ++ f n ∷ []) ≡ sum (map f (range_with_len 0 n)) + sum (f n ∷ []) =
    sum_by-append (λ (x : ℕ). x) (map f (range_with_len 0 n)) (f n ∷ []) in
    ap sum (map-range_with_len_more f 0 n n (omega arith)) ∙ grown
    ∙ ap (λ (x : ℕ). sum (map f (range_with_len 0 n)) + x) (omega arith)

pub sum_below-suc : (f : ℕ → ℕ) (n : ℕ) → sum_below f (suc n) ≡ sum_below f n + f n
sum_below-suc f n = ap (sum_below f) (sym (add-one n)) ∙ sum_below-more f n

-- a sum over more numbers is not less
pub sum_below-rises : (f : ℕ → ℕ) (m n : ℕ) → m ≤ n → sum_below f m ≤ sum_below f n
sum_below-rises f m zero h = let e : m ≡ 0 = omega arith in rw e (omega arith)
sum_below-rises f m (suc n) h =
    elim (eq-or-lt_of_le h) [
      | inl same ↦ rw same (omega arith)
      | inr below ↦ omega (arith, sum_below-rises f m n (omega arith), sum_below-suc f n)
    ]

-- sums of functions, the one not above the other
pub sum_below-le : (f g : ℕ → ℕ) (n : ℕ) → ((j : ℕ) → j < n → f j ≤ g j)
    → sum_below f n ≤ sum_below g n
sum_below-le f g zero h = omega (arith, sum_below-zero f, sum_below-zero g)
sum_below-le f g (suc n) h =
    omega (
      arith,
      sum_below-le f g n (λ j below. h j (omega arith)),
      h n (omega arith),
      sum_below-suc f
          n,
      sum_below-suc g n,
    )

-- sums of functions that agree
pub sum_below-same : (f g : ℕ → ℕ) (n : ℕ) → ((j : ℕ) → j < n → f j ≡ g j)
    → sum_below f n ≡ sum_below g n
sum_below-same f g zero h = omega (arith, sum_below-zero f, sum_below-zero g)
sum_below-same f g (suc n) h =
    omega (
      arith,
      sum_below-same f g n (λ j below. h j (omega arith)),
      h n (omega arith),
      sum_below-suc f
          n,
      sum_below-suc g n,
    )

-- from m on the function is 0
pub sum_below-ends : (f : ℕ → ℕ) (m n : ℕ) → m ≤ n → ((j : ℕ) → m ≤ j → j < n → f j ≡ 0)
    → sum_below f n ≡ sum_below f m
sum_below-ends f m zero h none = let e : m ≡ 0 = omega arith in rw e refl
sum_below-ends f m (suc n) h none =
    elim (eq-or-lt_of_le h) [
      | inl same ↦ rw same refl
      | inr below ↦
          let before = sum_below-ends f m n (omega arith) (λ j from to. none j from (omega arith)) in
          let last = none n (omega arith) (omega arith) in
          omega (arith, before, last, sum_below-suc f n)
    ]
