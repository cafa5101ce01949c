-- Lists that stand beside each other, item by item, in two parts.
use Rattle.std.proofs.Common.{◌≡◌, refl, ap, subst, suc, List, [], ◌∷◌, ◌++◌, length, All, arith, length-append}
use Rattle.std.specs.List.{AllZip}
use Rattle.std.proofs.lemmas.List.{get_or_append_left}
use Rattle.std.proofs.lemmas.List.Elements.{All-cons, All-head, All-tail}
use Rattle.page_epoch.proofs.ListLaws.{All-none}

-- a list beside two others, in two parts
pub record Split {A B : Type 0} (R : A → B → Type 0) (xs ys : List A) (zs : List B) : Type 0 where
  pub front : List B
  pub rest : List B
  pub whole : zs ≡ front ++ rest
  pub first : AllZip R xs front
  pub second : AllZip R ys rest

pub split : {A B : Type 0} (R : A → B → Type 0) (xs ys : List A) (zs : List B) → AllZip R (xs ++ ys) zs
    → Split R xs ys zs
split R [] ys zs are = record { front = []; rest = zs; whole = refl; first = tt; second = are }
split R (x ∷ xs) ys [] are = absurd are
split {A} {B} R (x ∷ xs) ys (z ∷ zs) are =
    let parts = split R xs ys zs are.1 in
    record {
      front = z ∷ parts.front;
      rest = parts.rest;
      whole = ap (λ (rest : List B). z ∷ rest) parts.whole;
      first = (are.0, parts.first);
      second = parts.second;
    }

pub as_long : {A B : Type 0} (R : A → B → Type 0) (xs : List A) (ys : List B) → AllZip R xs ys
    → length xs ≡ length ys
as_long R [] [] are = refl
as_long R [] (y ∷ ys) are = absurd are
as_long R (x ∷ xs) [] are = absurd are
as_long R (x ∷ xs) (y ∷ ys) are = ap suc (as_long R xs ys are.1)

-- the first parts of lists beside each other
pub first_parts : {A B : Type 0} (R : A → B → Type 0) (xs ys : List A) (us more : List B) → length xs ≡ length us
    → AllZip R (xs ++ ys) (us ++ more) → AllZip R xs us
first_parts R [] ys [] more same are = tt
first_parts R [] ys (a ∷ us) more same are = absurd (omega (arith, same))
first_parts R (x ∷ xs) ys [] more same are = absurd (omega (arith, same))
first_parts R (x ∷ xs) ys (a ∷ us) more same are = (are.0, first_parts R xs ys us more (omega (arith, same)) are.1)

-- what follows for the items of one list from those of the other
pub beside_all : {A B : Type 0} (R : A → B → Type 0) (P : A → Type 0) (Q : B → Type 0) (xs : List A) (ys : List B)
    → ((x : A) (y : B) → P x → R x y → Q y) → All P xs → AllZip R xs ys → All Q ys
beside_all R P Q [] [] step each are = All-none Q
beside_all R P Q [] (y ∷ ys) step each are = absurd are
beside_all R P Q (x ∷ xs) [] step each are = absurd are
beside_all R P Q (x ∷ xs) (y ∷ ys) step each are =
    All-cons Q y ys (step x y (All-head P x xs each) are.0)
    (beside_all R P Q xs ys step (All-tail P x xs each) are.1)

-- two lists beside one are the same where each item alone is
pub same_beside : {A B : Type 0} (R S : A → B → Type 0) (P : A → Type 0) (xs : List A) (ys zs : List B)
    → ((x : A) (y z : B) → P x → R x y → S x z → y ≡ z) → All P xs → AllZip R xs ys → AllZip S xs zs → ys ≡ zs
same_beside R S P [] [] [] step each first second = refl
same_beside R S P [] [] (z ∷ zs) step each first second = absurd second
same_beside R S P [] (y ∷ ys) zs step each first second = absurd first
same_beside R S P (x ∷ xs) [] zs step each first second = absurd first
same_beside R S P (x ∷ xs) (y ∷ ys) [] step each first second = absurd second
same_beside R S P (x ∷ xs) (y ∷ ys) (z ∷ zs) step each first second =
    let head : y ≡ z = step x y z (All-head P x xs each) first.0 second.0 in
    let tail : ys ≡ zs = same_beside R S P xs ys zs step (All-tail P x xs each) first.1 second.1 in
    λ i. head i ∷ tail i

-- what holds of all items holds of the first ones
pub all_first : {X : Type 0} (P : X → Type 0) (xs ys : List X) → All P (xs ++ ys) → All P xs
all_first P xs ys each k d within =
    subst P (get_or_append_left xs ys d k within) (each k d (omega (arith, within, length-append xs ys)))
