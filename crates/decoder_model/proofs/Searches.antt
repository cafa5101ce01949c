-- Searches for the first and the last thing that a list gives.
use Rattle.std.proofs.Common.{◌≡◌, ◌∙◌, List, [], ◌∷◌, ◌++◌, Option, Some, None, refl, sym, ap}
use Rattle.std.specs.Prelude.{All}
use Rattle.std.specs.Option.{option_or}
use Rattle.std.proofs.lemmas.List.Elements.{All-head, All-tail}
use Rattle.sub_base.specs.Lists.{first_given, last_given}

-- nothing after something changes it, and nothing before it
pub option_or-none : {X : Type 0} (found : Option X) → option_or found None ≡ found
option_or-none None = refl
option_or-none (Some x) = refl

pub option_or-assoc : {X : Type 0} (a b c : Option X) → option_or (option_or a b) c ≡ option_or a (option_or b c)
option_or-assoc None b c = refl
option_or-assoc (Some x) b c = refl

-- the last thing that two lists give is that of the second, or else that of the first
pub last_given-append : {X Y : Type 0} (f : X → Option Y) (xs ys : List X)
    → last_given f (xs ++ ys) ≡ option_or (last_given f ys) (last_given f xs)
last_given-append f [] ys = sym (option_or-none (last_given f ys))
last_given-append f (x ∷ xs) ys =
    ap (λ found. option_or found (f x)) (last_given-append f xs ys)
    ∙ option_or-assoc (last_given f ys) (last_given f xs) (f x)

-- where no item gives anything, nothing is found
pub first_given-none : {X Y : Type 0} (f : X → Option Y) → ((x : X) → f x ≡ None) → (xs : List X)
    → first_given f xs ≡ None
first_given-none f h [] = refl
first_given-none f h (x ∷ xs) = ap (λ found. option_or found (first_given f xs)) (h x) ∙ first_given-none f h xs

-- the first thing that two lists give is that of the first, or else that of the second
pub first_given-append : {X Y : Type 0} (f : X → Option Y) (xs ys : List X)
    → first_given f (xs ++ ys) ≡ option_or (first_given f xs) (first_given f ys)
first_given-append f [] ys = refl
first_given-append f (x ∷ xs) ys =
    ap (λ found. option_or (f x) found) (first_given-append f xs ys)
    ∙ sym (option_or-assoc (f x) (first_given f xs) (first_given f ys))

-- where none of some items gives anything, nothing is found among them
pub first_given-all_none : {X Y : Type 0} (f : X → Option Y) (xs : List X) → All (λ x. f x ≡ None) xs
    → first_given f xs ≡ None
first_given-all_none f [] none = refl
first_given-all_none f (x ∷ xs) none =
    ap (λ found. option_or found (first_given f xs)) (All-head (λ x. f x ≡ None) x xs none)
    ∙ first_given-all_none f xs (All-tail (λ x. f x ≡ None) x xs none)
