-- Items that each have their own number, told by counts: no number comes twice.
use Rattle.std.proofs.Common.{◌≡◌, ◌≢◌, ◌∙◌, ℕ, zero, suc, ◌+◌, ◌==◌, ◌≤◌, Bool, true, false, cond, List, [], ◌∷◌, ◌++◌, length, reverse, get_or, refl, sym, ap, subst, arith}
use Rattle.std.specs.Prelude.{All}
use Rattle.std.specs.List.{AllPairs, Contains, count_by, flat_map}
use Rattle.std.specs.List.Sorted.{IsPermutation}
use Rattle.std.proofs.lemmas.Bool.Decides.{nat_tests}
use Rattle.std.proofs.lemmas.List.{append-nil, reverse-append}
use Rattle.std.proofs.lemmas.List.Elements.{All-head, All-append, Contains-append_right}
use Rattle.std.proofs.lemmas.List.Sorted.{sum_by-IsPermutation, All-permutation, Contains-permutation}
use Rattle.page_epoch.proofs.CountLaws.{count_cons, count_append}
use Rattle.page_epoch.proofs.ListLaws.{All-none}
use Rattle.shown_plan.proofs.Segments.Parts.{HasPart, parted, none_counted, once_counted}

-- each number is that of one item at most
abbrev pub AreSingle : {X : Type 0} → (X → ℕ) → List X → Type 0
AreSingle number xs = (id : ℕ) → count_by (λ x. number x == id) xs ≤ 1

pub single_from_pairs : {X : Type 0} (number : X → ℕ) (xs : List X)
    → AllPairs (λ (a b : X). number a ≢ number b) xs → AreSingle number xs
single_from_pairs number xs apart id =
    once_counted (λ x. number x == id) xs
    (λ i j d before within a b. (let differ = apart i j d before within in absurd (grind (arith, nat_tests))))

pub single_tail : {X : Type 0} (number : X → ℕ) (x : X) (xs : List X) → AreSingle number (x ∷ xs)
    → AreSingle number xs
single_tail number x xs single id = omega (arith, single id, count_cons (λ x. number x == id) x xs)

-- the first of such items has another number than all later ones
pub single_head : {X : Type 0} (number : X → ℕ) (x : X) (xs : List X) → AreSingle number (x ∷ xs)
    → All (λ y. number x ≢ number y) xs
single_head {X} number x xs single =
    let here : cond {A = ℕ} (number x == number x) 1 0 ≡ 1 = ap (λ b. cond {A = ℕ} b 1 0) itself in
    let none =
    none_counted (λ y. number y == number x) xs
    (omega (arith, here, single (number x), count_cons (λ y. number y == number x) x xs)) in
    λ k d within e. differs (get_or xs k d) (none k d within) e
  where
    itself : (number x == number x) ≡ true
    itself = grind (arith, nat_tests)

    differs : (y : X) → (number y == number x) ≡ false → number x ≡ number y → ⊥
    differs y other e = absurd (grind (arith, nat_tests))

pub pairs_from_single : {X : Type 0} (number : X → ℕ) (xs : List X) → AreSingle number xs
    → AllPairs (λ (a b : X). number a ≢ number b) xs
pairs_from_single number [] single = λ i j d before within. absurd (omega arith)
pairs_from_single {X} number (x ∷ xs) single = by (pairs_from_single number xs (single_tail number x xs single))
  where
    by : AllPairs (λ (a b : X). number a ≢ number b) xs → AllPairs (λ (a b : X). number a ≢ number b) (x ∷ xs)
    by again zero zero d before within = absurd (omega arith)
    by again zero (suc j) d before within = single_head number x xs single j d (omega (arith, within))
    by again (suc i) zero d before within = absurd (omega arith)
    by again (suc i) (suc j) d before within = again i j d (omega arith) (omega (arith, within))

-- ---- lists made of others

pub single_permuted : {X : Type 0} (number : X → ℕ) (xs ys : List X) → IsPermutation xs ys
    → AreSingle number xs → AreSingle number ys
single_permuted number xs ys same single id =
    omega (arith, single id, sum_by-IsPermutation (λ x. cond {A = ℕ} (number x == id) 1 0) xs ys same)

-- where the items of a number stand among all, if there are some: in any order of all of them too
pub part_permuted : {X : Type 0} {number : X → ℕ} {id : ℕ} {own xs ys : List X} → length own ≤ 1
    → All (λ one. number one ≡ id) own → IsPermutation xs ys → AreSingle number ys → HasPart number id own xs
    → HasPart number id own ys
part_permuted {X} {number} {id} {own} {xs} {ys} few mine same single part = by own few mine refl
  where
    others : (side : List X) → All (λ one. (number one == id) ≡ false) side
        → All (λ one. number one ≢ id) side
    others side differ = λ k d within e. (let no = differ k d within in absurd (grind (arith, nat_tests)))

    by : (sent : List X) → length sent ≤ 1 → All (λ one. number one ≡ id) sent → own ≡ sent
        → HasPart number id sent ys
    by [] few mine is =
        record {
          front = ys;
          back = [];
          whole = sym (append-nil ys);
          before = All-permutation (λ one. number one ≢ id) xs ys same
              (subst (All (λ one. number one ≢ id))
              (sym (part.whole ∙ ap (λ sent. part.front ++ (sent ++ part.back)) is))
              (All-append (λ one. number one ≢ id) part.front part.back part.before part.behind));
          behind = All-none _;
        }
    by (one ∷ []) few mine is =
        (let here : (number one == id) ≡ true =
        (let e : number one ≡ id = All-head (λ one. number one ≡ id) one [] mine in grind (arith, nat_tests)) in
        let there : Contains xs one =
        subst (λ (all : List X). Contains all one)
        (sym (part.whole ∙ ap (λ sent. part.front ++ (sent ++ part.back)) is))
        (Contains-append_right part.front (one ∷ part.back) one (0, omega arith, refl)) in
        let place = parted (λ item. number item == id) one ys (single id) here
        (Contains-permutation xs ys one same there) in
        record {
          front = place.front;
          back = place.back;
          whole = place.whole;
          before = others place.front place.before;
          behind = others place.back place.behind;
        })
    by (one ∷ other ∷ sent) few mine is = absurd (omega (arith, few))

count_reversed : {X : Type 0} (p : X → Bool) (xs : List X) → count_by p (reverse xs) ≡ count_by p xs
count_reversed p [] = refl
count_reversed p (x ∷ xs) =
    let turned : count_by p (reverse (x ∷ xs)) ≡ count_by p (reverse xs) + count_by p (x ∷ []) =
    ap (count_by p) (reverse-append (x ∷ []) xs) ∙ count_append p (reverse xs) (x ∷ []) in
    omega (arith, turned, count_reversed p xs, count_cons p x xs, count_cons p x [])

pub single_reversed : {X : Type 0} (number : X → ℕ) (xs : List X) → AreSingle number xs
    → AreSingle number (reverse xs)
single_reversed number xs single id = omega (arith, single id, count_reversed (λ x. number x == id) xs)

count_sent : {X Y : Type 0} (number : Y → ℕ) (key : X → ℕ) (send : X → List Y) (id : ℕ) (xs : List X)
    → ((x : X) → All (λ y. number y ≡ key x) (send x)) → ((x : X) → length (send x) ≤ 1)
    → count_by (λ y. number y == id) (flat_map send xs) ≤ count_by (λ x. key x == id) xs
count_sent number key send id [] own few = omega arith
count_sent {X} {Y} number key send id (x ∷ xs) own few =
    omega (
      arith,
      count_append (λ y. number y == id) (send x) (flat_map send xs),
      count_cons (λ x. key x == id) x
          xs,
      one (send x) (own x) (few x),
      count_sent number key send id xs own few,
    )
  where
    one : (ys : List Y) → All (λ y. number y ≡ key x) ys → length ys ≤ 1
        → count_by (λ y. number y == id) ys ≤ cond {A = ℕ} (key x == id) 1 0
    one [] mine short = by (key x == id)
      where
        by : (b : Bool) → 0 ≤ cond {A = ℕ} b 1 0
        by b = omega arith
    one (y ∷ []) mine short =
        let same : cond {A = ℕ} (number y == id) 1 0
        ≡ cond (key x == id) 1 0 = ap (λ (n : ℕ). cond {A = ℕ} (n == id) 1 0)
        (All-head (λ y. number y ≡ key x) y [] mine) in
        omega (arith, count_cons (λ y. number y == id) y [], same)
    one (y ∷ z ∷ ys) mine short = absurd (omega arith)

-- where each of some things sends at most one item, with its own key, items have different numbers where the things
-- have
pub single_sent : {X Y : Type 0} (number : Y → ℕ) (key : X → ℕ) (send : X → List Y) (xs : List X)
    → ((x : X) → All (λ y. number y ≡ key x) (send x)) → ((x : X) → length (send x) ≤ 1)
    → AreSingle key xs → AreSingle number (flat_map send xs)
single_sent number key send xs own few single id = omega (arith, single id, count_sent number key send id xs own few)
