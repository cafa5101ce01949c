use Rattle.std.proofs.Common.{◌≡◌, ℕ, ◌<◌, true, ltb, List, [], ◌∷◌, refl}
use Rattle.std.specs.Prelude.{All}
use Rattle.std.specs.List.{list_all}
use Rattle.std.proofs.lemmas.Bool.{ltb-true}
use Rattle.std.proofs.lemmas.List.Sums.{AllPass-from_list_all}
use Rattle.layout_tests.proofs.run_codes.rows_of_three_depths.Goals as goal

all_below : (limit : ℕ) (xs : List ℕ) → list_all (λ x. ltb x limit) xs ≡ true → All (λ x. x < limit) xs
all_below limit xs e = λ k d h. ltb-true _ limit (AllPass-from_list_all (λ x. ltb x limit) xs e k d h)

pub write_row-requires-2 : goal.write_row-requires-2
write_row-requires-2 g c =
    all_below 16
    (0 ∷ 0 ∷ 0 ∷ 7 ∷ 9 ∷ 9 ∷ 9 ∷ 9 ∷ 9 ∷ 9 ∷ 9 ∷ 9 ∷ 9 ∷ 9 ∷ 9
    ∷ 9 ∷ 9 ∷ 9 ∷ 9 ∷ 9 ∷ 9 ∷ 9 ∷ 9 ∷ 9 ∷ 9 ∷ 9 ∷ 9 ∷ 9 ∷ 9 ∷ []) refl
