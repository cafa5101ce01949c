-- The first prefix of a list that passes a test which, once passed, stays passed.
use Rattle.std.proofs.Common.{◌≡◌, ◌∙◌, Bool, true, false, cond, List, [], ◌∷◌, ◌++◌, map, Option, Some, None, refl, ap}
use Rattle.std.specs.Prelude.{find}
use Rattle.std.specs.Option.{option_map}
use Rattle.sub_base.specs.Lists.{prefixes}
use Rattle.decoder_model.proofs.Growth.{found_passes, found_is_front}
use Rattle.decoder_model.proofs.Lists.{find-map}

-- where a list fails and passes with one item more, it is found with that item
pub first_found : {X : Type 0} (test : List X → Bool)
    → ((some more : List X) → test some ≡ true → test (some ++ more) ≡ true)
    → (xs : List X) (x : X) (ys : List X)
    → test xs ≡ false → test (xs ++ x ∷ []) ≡ true
    → find test (prefixes (xs ++ x ∷ ys)) ≡ Some (xs ++ x ∷ [])
first_found {X} test stays [] x ys fails passes =
    ap (λ b. cond b (Some (x ∷ [])) (find test (map (λ (behind : List X). x ∷ behind) (prefixes ys)))) passes
first_found {X} test stays (y ∷ xs) x ys fails passes =
    by (test (y ∷ [])) refl
    (first_found (λ (behind : List X). test (y ∷ behind)) (λ some more is. stays (y ∷ some) more is) xs x ys
    fails passes)
  where
    by : (b : Bool) → test (y ∷ []) ≡ b
        → find (λ (behind : List X). test (y ∷ behind)) (prefixes (xs ++ x ∷ ys)) ≡ Some (xs ++ x ∷ [])
        → cond b (Some (y ∷ []))
        (find test (map (λ (behind : List X). y ∷ behind) (prefixes (xs ++ x ∷ ys))))
        ≡ Some (y ∷ (xs ++ x ∷ []))
    by true is behind = let both = stays (y ∷ []) xs is in absurd (cc)
    by false is behind =
        find-map test (λ (behind : List X). y ∷ behind) (prefixes (xs ++ x ∷ ys))
        ∙ ap (option_map (λ (behind : List X). y ∷ behind)) behind

-- where the whole list fails, none is found
pub none_found : {X : Type 0} (test : List X → Bool)
    → ((some more : List X) → test some ≡ true → test (some ++ more) ≡ true) → (xs : List X)
    → test xs ≡ false → find test (prefixes xs) ≡ None
none_found {X} test stays xs fails = by (find test (prefixes xs)) refl
  where
    by : (found : Option (List X)) → find test (prefixes xs) ≡ found → found ≡ None
    by None is = refl
    by (Some front) is =
        let there = found_is_front test xs front is in
        let passes = found_passes test (prefixes xs) front is in
        let all : test xs ≡ true = ap test there.1 ∙ stays front there.0 passes in
        absurd (cc)
