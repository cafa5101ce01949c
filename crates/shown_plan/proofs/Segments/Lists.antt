-- Filters, searches and places of lists.
use Rattle.std.proofs.Common.{◌≡◌, ◌≢◌, ◌∙◌, ℕ, zero, suc, ◌<◌, ◌≤◌, Bool, true, false, ◌||◌, cond, List, [], ◌∷◌, length, map, filter, get_or, sum_by, refl, sym, ap, subst, arith}
use Rattle.std.specs.Prelude.{All}
use Rattle.std.specs.List.{AllPairs, Contains, flat_map, list_any, range_with_len}
use Rattle.sub_base.specs.Lists.{different}
use Rattle.std.proofs.lemmas.List.Elements.{All-head, All-tail, All-cons, All-filter, All-contains_itself, Contains-append_left, Contains-append_right}
use Rattle.std.proofs.lemmas.List.Kept.{AllPairs-cons}
use Rattle.std.proofs.lemmas.List.Sums.{sum_by-cons}
use Rattle.std.proofs.lemmas.List.FromFn.{length-range_with_len, get_or-range_with_len}
use Rattle.page_epoch.proofs.ListLaws.{All-none}

-- ---- what a filter keeps

-- an item that passes is kept
pub kept_contains : {X : Type 0} (p : X → Bool) (xs : List X)
    → All (λ x. p x ≡ true → Contains (filter p xs) x) xs
kept_contains p [] = All-none _
kept_contains {X} p (x ∷ xs) =
    All-cons (λ y. p y ≡ true → Contains (filter p (x ∷ xs)) y) x xs (first (p x) refl)
    (λ k d within is. behind (p x) (get_or xs k d) refl (kept_contains p xs k d within is))
  where
    first : (b : Bool) → p x ≡ b → p x ≡ true → Contains (filter p (x ∷ xs)) x
    first true e is =
        subst (λ (all : List X). Contains all x) (sym (ap (λ b. cond b (x ∷ filter p xs) (filter p xs)) e))
        (0, omega arith, refl)
    first false e is = absurd (let no : false ≡ true = sym e ∙ is in cc)

    behind : (b : Bool) (y : X) → p x ≡ b → Contains (filter p xs) y → Contains (filter p (x ∷ xs)) y
    behind true y e there =
        subst (λ (all : List X). Contains all y) (sym (ap (λ b. cond b (x ∷ filter p xs) (filter p xs)) e))
        (suc there.0, omega (arith, there.1), there.2)
    behind false y e there =
        subst (λ (all : List X). Contains all y) (sym (ap (λ b. cond b (x ∷ filter p xs) (filter p xs)) e)) there

-- all that is kept passes
pub kept_pass : {X : Type 0} (p : X → Bool) (xs : List X) → All (λ x. p x ≡ true) (filter p xs)
kept_pass p [] = All-none _
kept_pass {X} p (x ∷ xs) = by (p x) refl (kept_pass p xs)
  where
    by : (b : Bool) → p x ≡ b → All (λ x. p x ≡ true) (filter p xs)
        → All (λ x. p x ≡ true) (cond b (x ∷ filter p xs) (filter p xs))
    by true e again = All-cons (λ x. p x ≡ true) x (filter p xs) e again
    by false e again = again

-- what holds of all that is kept holds of each item that passes
pub of_all : {X : Type 0} (P : X → Type 0) (p : X → Bool) (xs : List X) → All P (filter p xs)
    → All (λ x. p x ≡ true → P x) xs
of_all P p [] all = All-none _
of_all {X} P p (x ∷ xs) all = by (p x) refl all (of_all P p xs)
  where
    by : (b : Bool) → p x ≡ b → All P (cond b (x ∷ filter p xs) (filter p xs))
        → (All P (filter p xs) → All (λ x. p x ≡ true → P x) xs)
        → All (λ x. p x ≡ true → P x) (x ∷ xs)
    by true e all again =
        All-cons (λ x. p x ≡ true → P x) x xs (λ is. All-head P x (filter p xs) all)
        (again (All-tail P x (filter p xs) all))
    by false e all again =
        All-cons (λ x. p x ≡ true → P x) x xs (λ is. absurd (let no : false ≡ true = sym e ∙ is in cc))
        (again all)

-- what a filter keeps stands in the list
pub filter_inside : {X : Type 0} (p : X → Bool) (xs ys : List X) → filter p xs ≡ ys → (k : ℕ) (d : X)
    → k < length ys → Contains xs (get_or ys k d)
filter_inside {X} p xs ys kept k d within =
    subst (λ (all : List X). (k : ℕ) (d : X) → k < length all → Contains xs (get_or all k d)) kept
    (λ k d within. by xs k d within) k d within
  where
    by : (xs : List X) → All (Contains xs) (filter p xs)
    by xs = All-filter p (Contains xs) xs (All-contains_itself xs)

-- ---- items

-- what holds of all holds of one that is there
pub all_at : {X : Type 0} (P : X → Type 0) (xs : List X) (x : X) → All P xs → Contains xs x → P x
all_at P xs x all there = subst P there.2 (all there.0 x there.1)

-- an item that is there and passes is kept
pub kept_one : {X : Type 0} (p : X → Bool) (xs : List X) (x : X) → Contains xs x → p x ≡ true
    → Contains (filter p xs) x
kept_one {X} p xs x there pass =
    all_at (λ y. p y ≡ true → Contains (filter p xs) y) xs x (kept_contains p xs) there pass

-- where some item passes, one stands at a place
pub any_place : {X : Type 0} (p : X → Bool) (xs : List X) (d : X) → list_any p xs ≡ true → (k : ℕ)
    × (k < length xs) × (p (get_or xs k d) ≡ true)
any_place p [] d e = absurd (let no : false ≡ true = e in cc)
any_place {X} p (x ∷ xs) d e = by (p x) refl e (any_place p xs d)
  where
    by : (b : Bool) → p x ≡ b → (b || list_any p xs) ≡ true
        → (list_any p xs ≡ true → (k : ℕ) × (k < length xs) × (p (get_or xs k d) ≡ true)) → (k : ℕ)
        × (k < length (x ∷ xs)) × (p (get_or (x ∷ xs) k d) ≡ true)
    by true is e again = (0, omega arith, is)
    by false is e again = (let rest = again e in (suc rest.0, omega (arith, rest.1), rest.2))

-- each number below a count is one of the numbers from 0 on
pub place_there : (count place : ℕ) → place < count → Contains (range_with_len 0 count) place
place_there count place within = (
  place,
  omega (arith, within, length-range_with_len 0 count),
  get_or-range_with_len 0 count place place within
      ∙ omega arith,
)

-- what a piece of a list made of pieces has, the list has
pub piece_there : {X Y : Type 0} (f : X → List Y) (xs : List X) (x : X) (y : Y) → Contains xs x
    → Contains (f x) y → Contains (flat_map f xs) y
piece_there f [] x y there own = absurd (omega (arith, there.1))
piece_there f (first ∷ xs) x y (zero, within, is) own =
    Contains-append_left (f first) (flat_map f xs) y (subst (λ one. Contains (f one) y) (sym is) own)
piece_there f (first ∷ xs) x y (suc k, within, is) own =
    Contains-append_right (f first) (flat_map f xs) y (piece_there f xs x y (k, omega (arith, within), is) own)

-- what stands in a list stands in what is made of it
pub mapped_there : {X Y : Type 0} (f : X → Y) (xs : List X) (x : X) → Contains xs x → Contains (map f xs) (f x)
mapped_there f [] x there = absurd (omega (arith, there.1))
mapped_there f (first ∷ xs) x (zero, within, is) = (0, omega arith, ap f is)
mapped_there f (first ∷ xs) x (suc k, within, is) =
    (let rest = mapped_there f xs x (k, omega (arith, within), is) in (suc rest.0, omega (arith, rest.1), rest.2))

-- ---- sums

pub sum_same : {X : Type 0} (f g : X → ℕ) (xs : List X) → All (λ x. f x ≡ g x) xs
    → sum_by f xs ≡ sum_by g xs
sum_same f g [] same = refl
sum_same f g (x ∷ xs) same =
    omega (
      arith,
      sum_by-cons f x xs,
      sum_by-cons g x xs,
      All-head (λ x. f x ≡ g x) x xs same,
      sum_same f g xs
          (All-tail (λ x. f x ≡ g x) x xs same),
    )

pub sum_below : {X : Type 0} (f g : X → ℕ) (xs : List X) → All (λ x. f x ≤ g x) xs
    → sum_by f xs ≤ sum_by g xs
sum_below f g [] low = omega arith
sum_below f g (x ∷ xs) low =
    omega (
      arith,
      sum_by-cons f x xs,
      sum_by-cons g x xs,
      All-head (λ x. f x ≤ g x) x xs low,
      sum_below f g xs
          (All-tail (λ x. f x ≤ g x) x xs low),
    )

pub sum_ones : {X : Type 0} (xs : List X) → sum_by (λ (x : X). 1) xs ≡ length xs
sum_ones [] = refl
sum_ones {X} (x ∷ xs) = omega (arith, sum_by-cons (λ (x : X). 1) x xs, sum_ones xs)

-- ---- different items

-- what holds of all holds of the different ones
pub different_all : {X : Type 0} (same : X → X → Bool) (P : X → Type 0) (xs : List X) → All P xs
    → All P (different same xs)
different_all same P [] all = All-none _
different_all {X} same P (x ∷ xs) all = by (list_any (same x) xs) (different_all same P xs (All-tail P x xs all))
  where
    by : (b : Bool) → All P (different same xs) → All P (cond b (different same xs) (x ∷ different same xs))
    by true again = again
    by false again = All-cons P x (different same xs) (All-head P x xs all) again

-- different items differ
pub different_pairs : {X : Type 0} (same : X → X → Bool) (xs : List X) → ((x : X) → same x x ≡ true)
    → AllPairs (λ (a b : X). a ≢ b) (different same xs)
different_pairs same [] itself = λ i j d before within. absurd (omega arith)
different_pairs {X} same (x ∷ xs) itself = by (list_any (same x) xs) refl (different_pairs same xs itself)
  where
    none_same : (ys : List X) → list_any (same x) ys ≡ false → All (λ y. x ≢ y) ys
    none_same [] e = All-none _
    none_same (y ∷ ys) e = one (same x y) refl e (none_same ys)
      where
        one : (b : Bool) → same x y ≡ b → (b || list_any (same x) ys) ≡ false
            → (list_any (same x) ys ≡ false → All (λ y. x ≢ y) ys) → All (λ y. x ≢ y) (y ∷ ys)
        one true is e again = absurd (cc)
        one false is e again =
            All-cons (λ y. x ≢ y) y ys
            (λ eq. (let yes : same x y ≡ true = ap (same x) (sym eq)
            ∙ itself x in let no : true ≡ false = sym yes ∙ is in absurd (cc))) (again e)

    by : (b : Bool) → list_any (same x) xs ≡ b → AllPairs (λ (a b : X). a ≢ b) (different same xs)
        → AllPairs (λ (a b : X). a ≢ b) (cond b (different same xs) (x ∷ different same xs))
    by true e again = again
    by false e again =
        AllPairs-cons (λ (a b : X). a ≢ b) x (different same xs)
        (different_all same (λ y. x ≢ y) xs (none_same xs e)) again
