-- Laws on lists that several crates cite.
use Rattle.std.proofs.Common.{List, [], ◌∷◌, ◌++◌}
use Rattle.std.specs.List.{AllZip}

-- one pair more at the end of two lists
pub pair_more : {A B : Type 0} (R : A → B → Type 0) (xs : List A) (ys : List B) (x : A) (y : B) → AllZip R xs ys
    → R x y → AllZip R (xs ++ x ∷ []) (ys ++ y ∷ [])
pair_more R [] [] x y all here = (here, tt)
pair_more R [] (b ∷ ys) x y all here = absurd all
pair_more R (a ∷ xs) [] x y all here = absurd all
pair_more R (a ∷ xs) (b ∷ ys) x y all here = (all.0, pair_more R xs ys x y all.1 here)
