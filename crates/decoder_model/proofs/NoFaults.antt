-- Sets without a fault, and sums over some of the items of a list.
use Rattle.std.proofs.Common.{◌≡◌, ◌≢◌, ◌∙◌, ℕ, zero, suc, ◌+◌, ◌≤◌, List, [], ◌∷◌, ◌++◌, get_or, reverse, sum_by, Option, None, refl, sym, ap, subst, arith}
use Rattle.std.specs.Prelude.{All}
use Rattle.std.specs.List.{AllPairs, Contains}
use Rattle.std.specs.Option.{option_or}
use Rattle.std.proofs.lemmas.List.{append_assoc, reverse-append}
use Rattle.std.proofs.lemmas.List.Elements.{All-head, All-tail}
use Rattle.std.proofs.lemmas.List.Sums.{sum_by-cons, sum_by-append}
use Rattle.sub_base.specs.Lists.{first_given, with_earlier}
use Rattle.decoder_model.specs.Contents.{in_order}
use Rattle.decoder_model.specs.Faults.{first_fault_by}
use Rattle.decoder_model.specs.Readings.{Content}
use Rattle.decoder_model.specs.declared.set_fault.SetFault.{SetFault}

-- a test that no item fails behind those before it and older ones finds nothing
none_found : {X Y : Type 0} (test : List X → X → Option Y) (older xs : List X)
    → ((front back : List X) (x : X) → xs ≡ front ++ x ∷ back → test (reverse front ++ older) x ≡ None)
    → first_given (λ (placed : X × List X). test placed.1 placed.0) (with_earlier older xs) ≡ None
none_found test older [] passes = refl
none_found {X} test older (x ∷ xs) passes =
    let here : test older x ≡ None = passes [] xs x refl in
    let behind : (front back : List X) (y : X) → xs ≡ front ++ y ∷ back
    → test (reverse front ++ (x ∷ older)) y ≡ None =
    (λ front back y is. ap (λ earlier. test earlier y) (sym (reversed front))
    ∙ passes (x ∷ front) back y (ap (λ all. x ∷ all) is)) in
    ap (λ found. option_or found
    (first_given (λ (placed : X × List X). test placed.1 placed.0) (with_earlier (x ∷ older) xs))) here
    ∙ none_found test (x ∷ older) xs behind
  where
    reversed : (front : List X) → reverse (x ∷ front) ++ older ≡ reverse front ++ (x ∷ older)
    reversed front =
        ap (λ all. all ++ older) (reverse-append (x ∷ []) front) ∙ append_assoc (reverse front) (x ∷ []) older

-- a set in which each segment passes a test, behind those before it and the older ones of the epoch, has no fault by
-- the test
pub no_fault_by : (test : List Content → Content → Option SetFault) (older set : List Content)
    → ((front back : List Content) (content : Content) → in_order set ≡ front ++ content ∷ back
    → test (reverse front ++ older) content ≡ None) → first_fault_by test older set ≡ None
no_fault_by test older set passes = none_found test older (in_order set) passes

-- ---- sums

-- where an item stands in a list: what is before it and behind it
pub stands_in : {X : Type 0} (x : X) (xs : List X) → Contains xs x → (front : List X) × (back : List X)
    × (xs ≡ front ++ x ∷ back)
stands_in x [] there = absurd (omega (arith, there.1))
stands_in {X} x (y ∷ ys) (zero, within, is) = ([], ys, ap (λ z. z ∷ ys) is)
stands_in {X} x (y ∷ ys) (suc k, within, is) =
    let rest = stands_in x ys (k, omega (arith, within), is) in
    (y ∷ rest.0, rest.1, ap (λ all. y ∷ all) rest.2)

-- an item that stands in a list but is not the one at a place stands before or behind that place
stands_else : {X : Type 0} (x y : X) (front back : List X) → x ≢ y → Contains (front ++ x ∷ back) y
    → Contains (front ++ back) y
stands_else x y [] back other (zero, within, is) = absurd (other is)
stands_else x y [] back other (suc k, within, is) = (k, omega (arith, within), is)
stands_else x y (z ∷ front) back other (zero, within, is) = (0, omega arith, is)
stands_else x y (z ∷ front) back other (suc k, within, is) =
    let rest = stands_else x y front back other (k, omega (arith, within), is) in
    (suc rest.0, omega (arith, rest.1), rest.2)

-- a list without doubles, of things that all stand in another list, has no greater sum
pub sum_within : {X : Type 0} (f : X → ℕ) (xs ys : List X) → AllPairs (λ (a b : X). a ≢ b) xs
    → All (Contains ys) xs → sum_by f xs ≤ sum_by f ys
sum_within f [] ys differ stand = omega arith
sum_within {X} f (x ∷ xs) ys differ stand =
    let place = stands_in x ys (All-head (Contains ys) x xs stand) in
    let others : All (λ (y : X). x ≢ y) xs = λ k d within. differ 0 (suc k) d (omega arith) (omega arith) in
    let left : All (Contains (place.0 ++ place.1)) xs = λ k d within.
    stands_else x (get_or xs k d) place.0 place.1 (others k d within)
    (subst (λ (all : List X). Contains all (get_or xs k d)) place.2 (All-tail (Contains ys) x xs stand k d within))
    in
    let rest =
    sum_within f xs (place.0 ++ place.1)
    (λ i j d before within. differ (suc i) (suc j) d (omega arith) (omega arith)) left in
    omega (
      arith,
      rest,
      sum_by-cons f x xs,
      ap (sum_by f) place.2,
      sum_by-append f place.0
          (x ∷ place.1),
      sum_by-append f place.0 place.1,
      sum_by-cons f x place.1,
    )
