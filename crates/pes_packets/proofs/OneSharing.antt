-- Segments are shared out in one way.
use Rattle.std.proofs.Common.{◌≡◌, ℕ, inl, inr, List, [], ◌∷◌, ◌++◌, length, sum_by, refl, ap, sym, ◌∙◌, arith, length-append}
use Rattle.std.specs.List.{flat_map}
use Rattle.std.proofs.lemmas.List.Sums.{sum_by-cons, sum_by-append}
use Rattle.pes_packets.specs.Units.{IsOneUnit, IsClosed, AreUnits, IsSharedOut}

-- two lists that begin another: they are the same, or one is longer
pub data AreFronts {X : Type 0} (u v a b : List X) : Type 0 where
  Same : u ≡ v → a ≡ b → AreFronts u v a b
  Second : (next : X) (others : List X) → v ≡ u ++ next ∷ others → a ≡ next ∷ (others ++ b)
      → AreFronts u v a b
  First : (next : X) (others : List X) → u ≡ v ++ next ∷ others → b ≡ next ∷ (others ++ a)
      → AreFronts u v a b

head_same : {X : Type 0} (x y : X) (xs ys : List X) → x ∷ xs ≡ y ∷ ys → x ≡ y
head_same x y xs ys e = ap (head_or x) e
  where
    head_or : {X : Type 0} → X → List X → X
    head_or d [] = d
    head_or d (x ∷ xs) = x

tail_same : {X : Type 0} (x y : X) (xs ys : List X) → x ∷ xs ≡ y ∷ ys → xs ≡ ys
tail_same x y xs ys e = ap tail e
  where
    tail : {X : Type 0} → List X → List X
    tail [] = []
    tail (x ∷ xs) = xs

longer : {X : Type 0} (x y : X) (u v a b : List X) → x ≡ y → AreFronts u v a b
    → AreFronts (x ∷ u) (y ∷ v) a b
longer x y u v a b same (Same e rest) = Same (ap (λ z. z ∷ u) same ∙ ap (λ zs. y ∷ zs) e) rest
longer x y u v a b same (Second next others e rest) =
    Second next others (ap (λ z. z ∷ v) (sym same) ∙ ap (λ zs. x ∷ zs) e) rest
longer x y u v a b same (First next others e rest) =
    First next others (ap (λ z. z ∷ u) same ∙ ap (λ zs. y ∷ zs) e) rest

fronts : {X : Type 0} (u v a b : List X) → u ++ a ≡ v ++ b → AreFronts u v a b
fronts [] [] a b e = Same refl e
fronts [] (y ∷ v) a b e = Second y v refl e
fronts (x ∷ u) [] a b e = First x u refl (sym e)
fronts (x ∷ u) (y ∷ v) a b e =
    longer x y u v a b (head_same x y (u ++ a) (v ++ b) e) (fronts u v a b (tail_same x y (u ++ a) (v ++ b) e))

-- a unit that is closed is no proper front of a unit
not_shorter : {X : Type 0} (bytes : X → ℕ) (u v : List X) (units : List (List X)) (next : X) (others b : List X)
    → IsOneUnit bytes u → IsClosed bytes u units → AreUnits bytes units →
    IsOneUnit bytes v → v ≡ u ++ next ∷ others → flat_map (λ unit. unit) units ≡ next ∷ (others ++ b)
    → ⊥
not_shorter bytes u v [] next others b one closed units other longer_by rest =
    let e : [] ≡ next ∷ (others ++ b) = rest in cc
not_shorter bytes u v ([] ∷ units) next others b one closed all other longer_by rest = absurd (omega (arith, all.0.0))
not_shorter bytes u v ((first ∷ more) ∷ units) next others b one closed all other longer_by rest =
    let same : first ≡ next = head_same first next (more ++ flat_map (λ unit. unit) units) (others ++ b) rest in
    let sum = ap (sum_by bytes) longer_by ∙ sum_by-append bytes u (next ∷ others) in
    let tail = sum_by-cons bytes next others in
    let count = ap length longer_by ∙ length-append u (next ∷ others) in
    elim other.1 [
      | inl single ↦ absurd (omega (arith, single, count, one.0))
      | inr fits ↦ absurd (omega (arith, fits, sum, tail, closed, ap bytes same))
    ]

-- units of the same segments are the same
pub one_sharing : {X : Type 0} (bytes : X → ℕ) (xs ys : List (List X)) → AreUnits bytes xs → AreUnits bytes ys
    → flat_map (λ unit. unit) xs ≡ flat_map (λ unit. unit) ys → xs ≡ ys
one_sharing bytes [] [] left right e = refl
one_sharing bytes [] ([] ∷ ys) left right e = absurd (omega (arith, right.0.0))
one_sharing bytes [] ((y ∷ v) ∷ ys) left right e = let f : [] ≡ y ∷ (v ++ flat_map (λ unit. unit) ys) = e in cc
one_sharing bytes ([] ∷ xs) [] left right e = absurd (omega (arith, left.0.0))
one_sharing bytes ((x ∷ u) ∷ xs) [] left right e = let f : x ∷ (u ++ flat_map (λ unit. unit) xs) ≡ [] = e in cc
one_sharing bytes (u ∷ xs) (v ∷ ys) left right e =
    by_fronts (one_sharing bytes xs ys left.2 right.2)
    (fronts u v (flat_map (λ unit. unit) xs) (flat_map (λ unit. unit) ys) e)
  where
    by_fronts : (flat_map (λ unit. unit) xs ≡ flat_map (λ unit. unit) ys → xs ≡ ys)
        → AreFronts u v (flat_map (λ unit. unit) xs) (flat_map (λ unit. unit) ys) → u ∷ xs ≡ v ∷ ys
    by_fronts rest (Same first after) = ap (λ unit. unit ∷ xs) first ∙ ap (λ units. v ∷ units) (rest after)
    by_fronts rest (Second next others longer_by after) =
        absurd (not_shorter bytes u v xs next others (flat_map (λ unit. unit) ys) left.0 left.1 left.2 right.0
        longer_by after)
    by_fronts rest (First next others longer_by after) =
        absurd (not_shorter bytes v u ys next others (flat_map (λ unit. unit) xs) right.0 right.1 right.2 left.0
        longer_by after)

pub units_same : {X : Type 0} (bytes : X → ℕ) (segments : List X) (xs ys : List (List X))
    → IsSharedOut bytes segments xs → IsSharedOut bytes segments ys → xs ≡ ys
units_same bytes segments xs ys left right =
    one_sharing bytes xs ys left.each right.each (left.whole ∙ sym right.whole)
