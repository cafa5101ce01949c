-- How many elements of a list pass a test.
use Rattle.std.proofs.Common.{◌≡◌, ◌∙◌, ◌⊎◌, inl, inr, ℕ, zero, suc, ◌+◌, ◌==◌, ◌<◌, ◌≤◌, nat_le, Bool, true, false, not, ◌&&◌, cond, List, [], ◌∷◌, ◌++◌, map, filter, length, get_or, All, refl, sym, ap, subst, arith}
use Rattle.std.specs.List.{count_by, AllWithin}
use Rattle.std.specs.List.Sorted.{IsNonDecreasing, IsNonDecreasingBy, IsPartitionPoint}
use Rattle.std.proofs.lemmas.Bool.Decides.{nat_tests}
use Rattle.std.proofs.lemmas.List.Sums.{sum_by-cons, sum_by-append}
use Rattle.std.proofs.lemmas.List.Elements.{All-head, All-tail}
use Rattle.page_epoch.specs.Live.{times}

pub count_cons : {X : Type 0} (p : X → Bool) (x : X) (xs : List X)
    → count_by p (x ∷ xs) ≡ cond (p x) 1 0 + count_by p xs
count_cons p x xs = sum_by-cons (λ y. cond (p y) 1 0) x xs

pub count_append : {X : Type 0} (p : X → Bool) (xs ys : List X)
    → count_by p (xs ++ ys) ≡ count_by p xs + count_by p ys
count_append p xs ys = sum_by-append (λ y. cond (p y) 1 0) xs ys

kept_one : {X : Type 0} (t : Bool) (q : X → Bool) (x : X) (ys : List X)
    → count_by q (cond t (x ∷ ys) ys) ≡ cond (t && q x) 1 0 + count_by q ys
kept_one true q x ys = count_cons q x ys
kept_one false q x ys = omega arith

pub count_filter : {X : Type 0} (q p : X → Bool) (xs : List X)
    → count_by q (filter p xs) ≡ count_by (λ x. p x && q x) xs
count_filter q p [] = refl
count_filter q p (x ∷ xs) =
    kept_one (p x) q x (filter p xs) ∙ ap (λ (n : ℕ). cond {A = ℕ} (p x && q x) 1 0 + n) (count_filter q p xs)
    ∙ sym (count_cons (λ x. p x && q x) x xs)

pub count_map : {X Y : Type 0} (q : Y → Bool) (f : X → Y) (xs : List X)
    → count_by q (map f xs) ≡ count_by (λ x. q (f x)) xs
count_map q f [] = refl
count_map q f (x ∷ xs) =
    count_cons q (f x) (map f xs) ∙ ap (λ (n : ℕ). cond {A = ℕ} (q (f x)) 1 0 + n) (count_map q f xs)
    ∙ sym (count_cons (λ x. q (f x)) x xs)

pub count_agree : {X : Type 0} (p q : X → Bool) (xs : List X) → All (λ x. p x ≡ q x) xs
    → count_by p xs ≡ count_by q xs
count_agree p q [] same = refl
count_agree p q (x ∷ xs) same =
    count_cons p x xs ∙ ap (λ b. cond {A = ℕ} b 1 0 + count_by p xs) (All-head (λ x. p x ≡ q x) x xs same)
    ∙ ap (λ (n : ℕ). cond {A = ℕ} (q x) 1 0 + n)
    (count_agree p q xs (All-tail (λ x. p x ≡ q x) x xs same)) ∙ sym (count_cons q x xs)

pub count_none : {X : Type 0} (p : X → Bool) (xs : List X) → All (λ x. p x ≡ false) xs → count_by p xs ≡ 0
count_none p [] none = refl
count_none p (x ∷ xs) none =
    count_cons p x xs ∙ ap (λ b. cond {A = ℕ} b 1 0 + count_by p xs) (All-head (λ x. p x ≡ false) x xs none)
    ∙ (let rest = count_none p xs (All-tail (λ x. p x ≡ false) x xs none) in let all : 0 + count_by p xs
    ≡ 0 = omega arith in all)

part_one : (s q : Bool) → cond {A = ℕ} q 1 0 ≡ cond (s && q) 1 0 + cond (not s && q) 1 0
part_one true true = refl
part_one true false = refl
part_one false true = refl
part_one false false = refl

pub count_split : {X : Type 0} (s q : X → Bool) (xs : List X)
    → count_by q xs ≡ count_by (λ x. s x && q x) xs + count_by (λ x. not (s x) && q x) xs
count_split s q [] = refl
count_split s q (x ∷ xs) =
    let whole = count_cons q x xs in
    let first = count_cons (λ x. s x && q x) x xs in
    let second = count_cons (λ x. not (s x) && q x) x xs in
    let rest = count_split s q xs in
    let here = part_one (s x) (q x) in
    omega arith

-- ---- lists in order

order_tail : {X : Type 0} (n : X → ℕ) (x : X) (xs : List X) → IsNonDecreasingBy n (x ∷ xs)
    → IsNonDecreasingBy n xs
order_tail n x xs rise = λ i j d low short. rise (suc i) (suc j) d (omega arith) (omega arith)

front_cons : {X : Type 0} (P : X → Type 0) (x : X) (xs : List X) (m k : ℕ) (d : X) → P x → AllWithin P xs 0 m
    → k < 1 + m → P (get_or (x ∷ xs) k d)
front_cons P x xs m zero d p all h = p
front_cons P x xs m (suc k) d p all h = all k d (omega arith) (omega arith)

back_cons : {X : Type 0} (P : X → Type 0) (x : X) (xs : List X) (m k : ℕ) (d : X) → AllWithin P xs m (length xs)
    → 1 + m ≤ k → k < length (x ∷ xs) → P (get_or (x ∷ xs) k d)
back_cons P x xs m zero d all low h = absurd (omega arith)
back_cons P x xs m (suc k) d all low h = all k d (omega arith) (omega arith)

above : {X : Type 0} (n : X → ℕ) (tick : ℕ) (x : X) (xs : List X) → IsNonDecreasingBy n (x ∷ xs)
    → nat_le (n x) tick ≡ false → (k : ℕ) (d : X) → k < length (x ∷ xs)
    → nat_le (n (get_or (x ∷ xs) k d)) tick ≡ false
above n tick x xs rise t k d h = let more = rise 0 k d (omega arith) h in grind (arith, nat_tests)

abbrev Point : {X : Type 0} → (X → ℕ) → ℕ → List X → ℕ → Type 0
Point n tick xs k = IsPartitionPoint (λ x. nat_le (n x) tick ≡ true) (λ x. nat_le (n x) tick ≡ false) xs k

point_by : {X : Type 0} (n : X → ℕ) (tick : ℕ) (x : X) (xs : List X) (b : Bool)
    → IsNonDecreasingBy n (x ∷ xs) → nat_le (n x) tick ≡ b
    → Point n tick xs (count_by (λ x. nat_le (n x) tick) xs) →
    Point n tick (x ∷ xs) (cond b 1 0 + count_by (λ x. nat_le (n x) tick) xs)
point_by n tick x xs true rise t rest = (
  λ k d low h. front_cons (λ x. nat_le (n x) tick ≡ true) x xs (count_by (λ x. nat_le (n x) tick) xs) k d t rest.0
      h,
  λ k d low h. back_cons (λ x. nat_le (n x) tick ≡ false) x xs (count_by (λ x. nat_le (n x) tick) xs) k d rest.1
      low h,
)
point_by n tick x xs false rise t rest =
    let none = count_none (λ x. nat_le (n x) tick) xs (λ k d h. above n tick x xs rise t (suc k) d (omega arith)) in
    (λ k d low h. absurd (omega arith), λ k d low h. above n tick x xs rise t k d h)

-- the numbers up to a tick stand before the others, and are as many
pub point_of : {X : Type 0} (n : X → ℕ) (tick : ℕ) (xs : List X) → IsNonDecreasingBy n xs
    → IsPartitionPoint (λ x. nat_le (n x) tick ≡ true) (λ x. nat_le (n x) tick ≡ false) xs
    (count_by (λ x. nat_le (n x) tick) xs)
point_of n tick [] rise = (λ k d low high. absurd (omega arith), λ k d low high. absurd (omega arith))
point_of n tick (x ∷ xs) rise =
    subst (Point n tick (x ∷ xs)) (sym (count_cons (λ x. nat_le (n x) tick) x xs))
    (point_by n tick x xs (nat_le (n x) tick) rise refl (point_of n tick xs (order_tail n x xs rise)))

-- a number less than all is not there
below_none : (v x : ℕ) (xs : List ℕ) → IsNonDecreasing (x ∷ xs) → v < x → times v (x ∷ xs) ≡ 0
below_none v x xs rise less =
    count_none (λ other. other == v) (x ∷ xs)
    (λ k d h. let more = rise 0 k d (omega arith) h in grind (arith, nat_tests))

here_some : (v : ℕ) (xs : List ℕ) → 1 ≤ times v (v ∷ xs)
here_some v xs =
    let t : (v == v) ≡ true = grind (arith, nat_tests) in
    let one : cond {A = ℕ} (v == v) 1 0 ≡ 1 = ap (λ b. cond {A = ℕ} b 1 0) t in
    let all = count_cons (λ other. other == v) v xs in
    omega arith

same_head : (x y : ℕ) (xs ys : List ℕ) → IsNonDecreasing (x ∷ xs) → IsNonDecreasing (y ∷ ys)
    → ((v : ℕ) → times v (x ∷ xs) ≡ times v (y ∷ ys)) → (x ≡ y) ⊎ ((x < y) ⊎ (y < x)) → x ≡ y
same_head x y xs ys first second same (inl e) = e
same_head x y xs ys first second same (inr (inl less)) =
    let some = here_some x xs in
    let none = below_none x y ys second less in
    let e = same x in
    absurd (omega arith)
same_head x y xs ys first second same (inr (inr less)) =
    let some = here_some y ys in
    let none = below_none y x xs first less in
    let e = same y in
    absurd (omega arith)

-- two lists in order that have each number equally often are the same
pub same_sorted : (xs ys : List ℕ) → IsNonDecreasing xs → IsNonDecreasing ys
    → ((v : ℕ) → times v xs ≡ times v ys) → xs ≡ ys
same_sorted [] [] first second same = refl
same_sorted [] (y ∷ ys) first second same = absurd (let some = here_some y ys in let e = same y in omega arith)
same_sorted (x ∷ xs) [] first second same = absurd (let some = here_some x xs in let e = same x in omega arith)
same_sorted (x ∷ xs) (y ∷ ys) first second same =
    let head : x ≡ y = same_head x y xs ys first second same (grind arith) in
    let rest : xs ≡ ys =
    same_sorted xs ys (order_tail (λ (v : ℕ). v) x xs first) (order_tail (λ (v : ℕ). v) y ys second) (λ v.
    let a = count_cons (λ other. other == v) x xs in
    let b = count_cons (λ other. other == v) y ys in
    let c : cond {A = ℕ} (x == v) 1 0 ≡ cond (y == v) 1 0 = ap (λ (k : ℕ). cond {A = ℕ} (k == v) 1 0) head in
    let e = same v in
    omega arith) in
    λ i. head i ∷ rest i
