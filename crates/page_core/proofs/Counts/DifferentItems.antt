-- How many different items lists have.
use Rattle.std.proofs.Common.{◌≡◌, ◌∙◌, suc, ◌≤◌, ◌||◌, Bool, true, false, cond, not, List, [], ◌∷◌, ◌++◌, filter, length, refl, sym, ap, arith}
use Rattle.std.specs.List.{list_any}
use Rattle.std.proofs.lemmas.List.Folds.{list_any-append}
use Rattle.sub_base.specs.Lists.{different}

either_true : (a b : Bool) → (a || b) ≡ true → a ≡ false → b ≡ true
either_true false b is no_a = is
either_true true b is no_a = absurd (cc)

either_false : (a b : Bool) → (a || b) ≡ false → (a ≡ false) × (b ≡ false)
either_false false b is = (refl, is)
either_false true b is = absurd (cc)

pub left_true : (a b : Bool) → a ≡ true → (a || b) ≡ true
left_true true b is = refl
left_true false b is = absurd (cc)

pub right_true : (a b : Bool) → b ≡ true → (a || b) ≡ true
right_true true b is = refl
right_true false b is = is

module _ {X : Type 0} (same : X → X → Bool) (itself : (x : X) → same x x ≡ true)
    (equal : (x y : X) → same x y ≡ true → x ≡ y) where
  turned : (x y : X) → same x y ≡ false → same y x ≡ false
  turned x y differ = by (same y x) refl
    where
      by : (b : Bool) → same y x ≡ b → b ≡ false
      by false is = refl
      by true is = absurd (let yes : same x y ≡ true = ap (same x) (equal y x is) ∙ itself x in cc)

  -- among different items stands what stands in the list
  pub among_different : (asked : X) (xs : List X)
      → list_any (same asked) (different same xs) ≡ list_any (same asked) xs
  among_different asked [] = refl
  among_different asked (x ∷ xs) = by (among_different asked xs) (list_any (same x) xs) refl
    where
      absorbed : (hit : Bool) → same asked x ≡ hit → list_any (same x) xs ≡ true
          → list_any (same asked) xs ≡ (hit || list_any (same asked) xs)
      absorbed true is there = ap (λ y. list_any (same y) xs) (equal asked x is) ∙ there
      absorbed false is there = refl

      by : list_any (same asked) (different same xs) ≡ list_any (same asked) xs → (again : Bool)
          → list_any (same x) xs ≡ again
          → list_any (same asked) (cond again (different same xs) (x ∷ different same xs))
          ≡ (same asked x || list_any (same asked) xs)
      by rest true there = rest ∙ absorbed (same asked x) refl there
      by rest false there = ap (λ b. same asked x || b) rest

  -- ---- a list without an item

  without_item : X → List X → List X
  without_item x ys = filter (λ y. not (same x y)) ys

  others_stay : (x asked : X) (ys : List X) → same x asked ≡ false
      → list_any (same asked) (without_item x ys) ≡ list_any (same asked) ys
  unfolding without_item
  others_stay x asked [] differ = refl
  others_stay x asked (y ∷ ys) differ = by (others_stay x asked ys differ) (same x y) refl
    where
      by : list_any (same asked) (without_item x ys) ≡ list_any (same asked) ys → (b : Bool) → same x y ≡ b
          → list_any (same asked) (cond (not b) (y ∷ without_item x ys) (without_item x ys))
          ≡ (same asked y || list_any (same asked) ys)
      by rest true is =
          let no : same asked y ≡ false = turned y asked (ap (λ z. same z asked) (sym (equal x y is)) ∙ differ) in
          rest ∙ sym (ap (λ b. b || list_any (same asked) ys) no)
      by rest false is = ap (λ b. same asked y || b) rest

  nothing_gone : (x : X) (ys : List X) → list_any (same x) ys ≡ false → without_item x ys ≡ ys
  unfolding without_item
  nothing_gone x [] none = refl
  nothing_gone x (y ∷ ys) none =
      let parts =
      either_false (same x y) (list_any (same x) ys) none in rw parts.0
      (ap (λ zs. y ∷ zs) (nothing_gone x ys parts.1))

  one_gone : (x : X) (ys : List X) → list_any (same x) ys ≡ true
      → suc (length (different same (without_item x ys))) ≡ length (different same ys)
  unfolding without_item
  one_gone x [] there = absurd (cc)
  one_gone x (y ∷ ys) there = by (same x y) (list_any (same y) ys) refl refl there (one_gone x ys)
    where
      by : (hit again : Bool) → same x y ≡ hit → list_any (same y) ys ≡ again
          → (hit || list_any (same x) ys) ≡ true
          → (list_any (same x) ys ≡ true
          → suc (length (different same (without_item x ys))) ≡ length (different same ys))
          → suc (length (different same (cond (not hit) (y ∷ without_item x ys) (without_item x ys))))
          ≡ length (cond again (different same ys) (y ∷ different same ys))
      by true true is known there rest = rest (ap (λ z. list_any (same z) ys) (equal x y is) ∙ known)
      by true false is known there rest =
          ap (λ zs. suc (length (different same zs)))
          (nothing_gone x ys (ap (λ z. list_any (same z) ys) (equal x y is) ∙ known))
      by false again is known there rest =
          let stays : list_any (same y) (without_item x ys) ≡ again = others_stay x y ys is ∙ known in
          ap (λ b. suc
          (length (cond b (different same (without_item x ys)) (y ∷ different same (without_item x ys))))) stays
          ∙ both again (rest there)
        where
          both : (b : Bool) → suc (length (different same (without_item x ys))) ≡ length (different same ys)
              → suc (length
              (cond b (different same (without_item x ys)) (y ∷ different same (without_item x ys))))
              ≡ length (cond b (different same ys) (y ∷ different same ys))
          both true e = e
          both false e = ap suc e

  -- ---- as many different items

  -- a list of items of another has no more different ones
  pub no_more_different : (xs ys : List X)
      → ((asked : X) → list_any (same asked) xs ≡ true → list_any (same asked) ys ≡ true)
      → length (different same xs) ≤ length (different same ys)
  no_more_different [] ys all = omega arith
  no_more_different (x ∷ xs) ys all =
      by (list_any (same x) xs) refl
      (no_more_different xs ys (λ asked there. all asked (right_true (same asked x) (list_any (same asked) xs) there)))
      (no_more_different xs (without_item x ys))
    where
      by : (again : Bool) → list_any (same x) xs ≡ again
          → length (different same xs) ≤ length (different same ys)
          → (((asked : X) → list_any (same asked) xs ≡ true
          → list_any (same asked) (without_item x ys) ≡ true)
          → length (different same xs) ≤ length (different same (without_item x ys)))
          → length (cond again (different same xs) (x ∷ different same xs)) ≤ length (different same ys)
      by true known rest without = rest
      by false known rest without =
          let fewer = without (λ asked there.
          let other : same x asked ≡ false = apart asked there (same x asked) refl in
          others_stay x asked ys other ∙ all asked (right_true (same asked x) (list_any (same asked) xs) there)) in
          let gone = one_gone x ys (all x (left_true (same x x) (list_any (same x) xs) (itself x))) in
          omega (arith, fewer, gone)
        where
          apart : (asked : X) → list_any (same asked) xs ≡ true → (b : Bool) → same x asked ≡ b
              → b ≡ false
          apart asked there false is = refl
          apart asked there true is =
              absurd (let yes : list_any (same x) xs ≡ true = ap (λ z. list_any (same z) xs) (equal x asked is)
              ∙ there in cc)

  -- lists of the same items have as many
  pub as_many_different : (xs ys : List X) → ((asked : X) → list_any (same asked) xs ≡ list_any (same asked) ys)
      → length (different same xs) ≡ length (different same ys)
  as_many_different xs ys alike =
      let up = no_more_different xs ys (λ asked there. sym (alike asked) ∙ there) in
      let down = no_more_different ys xs (λ asked there. alike asked ∙ there) in
      omega (arith, up, down)

  -- a list has no more different items than items
  pub different_within : (xs : List X) → length (different same xs) ≤ length xs
  different_within [] = omega arith
  different_within (x ∷ xs) = by (list_any (same x) xs) (different_within xs)
    where
      by : (again : Bool) → length (different same xs) ≤ length xs
          → length (cond again (different same xs) (x ∷ different same xs)) ≤ suc (length xs)
      by true rest = omega arith
      by false rest = omega arith

  -- behind a list of which another is a part, no fewer
  pub more_behind : (xs ys : List X) → length (different same ys) ≤ length (different same (xs ++ ys))
  more_behind xs ys =
      no_more_different ys (xs ++ ys)
      (λ asked there. list_any-append (same asked) xs ys
      ∙ right_true (list_any (same asked) xs) (list_any (same asked) ys) there)
