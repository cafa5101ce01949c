-- Two plans set by set.
use Rattle.std.proofs.Common.{◌≡◌, ◌+◌, ◌<◌, ℕ, suc, List, [], ◌∷◌, length, get_or, min, inl, inr, ◌⊎◌, Option, Some, None, refl, sym, ap, subst, arith}
use Rattle.std.specs.List.{AllZip}
use Rattle.std.proofs.lemmas.Bool.Decides.{nat_tests}
use Rattle.std.proofs.lemmas.Option.{slice_get_read, slice_get_within}
use Rattle.page_epoch.specs.declared.planned_set.PlannedSet.{PlannedSet}
use Rattle.page_pair.specs.PairStream.{AreEvenAt, IsEven, IsUneven}

-- plans that are even at all places of both are even
pub all_even : (one two : List PlannedSet) → length one ≡ length two
    → ((n : ℕ) → n < length one → AreEvenAt one two n) → AllZip IsEven one two
all_even [] [] same each = tt
all_even [] (b ∷ two) same each = absurd (omega (arith, same))
all_even (a ∷ one) [] same each = absurd (omega (arith, same))
all_even (a ∷ one) (b ∷ two) same each =
    let here = each 0 (omega arith) in (
      first_even a b here.first here.second here.has_first here.has_second here.even,
      all_even one two (omega (arith, same)) (λ n inside.
          let there = each (suc n) (omega (arith, inside)) in
          record {
            first = there.first;
            second = there.second;
            has_first = there.has_first;
            has_second = there.has_second;
            even = there.even;
          }),
    )
  where
    item : (x y : PlannedSet) → Some x ≡ Some y → x ≡ y
    item x y same = ap (λ o. unwrap o x) same
      where
        unwrap : Option PlannedSet → PlannedSet → PlannedSet
        unwrap None d = d
        unwrap (Some z) d = z

    first_even : (a b x y : PlannedSet) → Some a ≡ Some x → Some b ≡ Some y → IsEven x y → IsEven a b
    first_even a b x y one_is two_is even =
        subst (λ (p : PlannedSet). IsEven p b) (sym (item a x one_is))
        (subst (IsEven x) (sym (item b y two_is)) even)

-- ---- the first place that is uneven

split_off : (n place : ℕ) → n < place + 1 → (n < place) ⊎ (n ≡ place)
split_off n place inside = grind (arith)

-- two sets more that are even
pub even_more : (one two : List PlannedSet) (place : ℕ) (a b : PlannedSet) → place < length one
    → place < length two → a ≡ get_or one place a → b ≡ get_or two place b → IsEven a b
    → ((n : ℕ) → n < place → AreEvenAt one two n) → (n : ℕ) → n < place + 1 → AreEvenAt one two n
even_more one two place a b first second a_is b_is even before = λ n inside. by n (split_off n place inside)
  where
    here : AreEvenAt one two place
    here = record {
      first = a;
      second = b;
      has_first = slice_get_read one (length one) place a refl first a_is;
      has_second = slice_get_read two (length two) place b refl second b_is;
      even = even;
    }

    by : (n : ℕ) → (n < place) ⊎ (n ≡ place) → AreEvenAt one two n
    by n (inl earlier) = before n earlier
    by n (inr same) = subst (AreEvenAt one two) (sym same) here

-- plans of different lengths are uneven behind the shorter one
pub uneven_end : (one two : List PlannedSet) (place : ℕ) → place ≡ min (length one) (length two)
    → (length one ≡ length two → ⊥) → ((n : ℕ) → n < place → AreEvenAt one two n) → IsUneven one two place
uneven_end one two place is other before = record {
  before = before;
  uneven = λ e.
      never (slice_get_within one place e.first e.has_first) (slice_get_within two place e.second e.has_second);
  some = longer;
}
  where
    never : place < length one → place < length two → ⊥
    never a b = clash place (length one) (length two) is a b
      where
        clash : (p m n : ℕ) → p ≡ min m n → p < m → p < n → ⊥
        clash p m n same below above = grind (arith, nat_tests)

    longer : (place < length one) ⊎ (place < length two)
    longer = by place (length one) (length two) is other
      where
        by : (p m n : ℕ) → p ≡ min m n → (m ≡ n → ⊥) → (p < m) ⊎ (p < n)
        by p m n same apart = grind (arith, nat_tests)
