-- What each item of two lists has, each of both has, and a search among what is made of items.
use Rattle.std.proofs.Common.{◌≡◌, Bool, true, false, cond, List, [], ◌∷◌, ◌++◌, map, Some, refl}
use Rattle.std.specs.Prelude.{find}
use Rattle.std.specs.List.{AllByRecursion}
use Rattle.std.specs.Option.{option_map}

pub all-append : {X : Type 0} (P : X → Type 0) (xs ys : List X) → AllByRecursion P xs → AllByRecursion P ys
    → AllByRecursion P (xs ++ ys)
all-append P [] ys a b = b
all-append P (x ∷ xs) ys a b = (a.0, all-append P xs ys a.1 b)

pub find-map : {X Y : Type 0} (test : Y → Bool) (f : X → Y) (xs : List X)
    → find test (map f xs) ≡ option_map f (find (λ x. test (f x)) xs)
find-map test f [] = refl
find-map {X} {Y} test f (x ∷ xs) = by (test (f x)) (find-map test f xs)
  where
    by : (b : Bool) → find test (map f xs) ≡ option_map f (find (λ x. test (f x)) xs)
        → cond b (Some (f x)) (find test (map f xs)) ≡ option_map f (cond b (Some x) (find (λ x. test (f x)) xs))
    by true e = refl
    by false e = e
