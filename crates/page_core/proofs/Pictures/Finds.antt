-- What is found in a list.
use Rattle.std.proofs.Common.{◌≡◌, subst, Bool, true, false, cond, List, [], ◌∷◌, find, All, Some}
use Rattle.std.proofs.lemmas.List.Elements.{All-head, All-tail}

-- what holds of all items holds of one that is found
pub found_all : {X : Type 0} (P : X → Type 0) (test : X → Bool) (xs : List X) (x : X) → All P xs
    → find test xs ≡ Some x → P x
found_all P test [] x all found = absurd (cc)
found_all {X} P test (item ∷ xs) x all found =
    by (λ found. found_all P test xs x (All-tail P item xs all) found) (test item) found
  where
    by : (find test xs ≡ Some x → P x) → (hit : Bool) → cond hit (Some item) (find test xs) ≡ Some x → P x
    by rest true found = let same : item ≡ x = cc in subst P same (All-head P item xs all)
    by rest false found = rest found
