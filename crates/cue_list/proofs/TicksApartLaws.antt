-- The ticks that valid records name are apart.
use Rattle.std.proofs.Common.{zero, suc, ◌≡◌, ◌∙◌, ◌⊎◌, inl, inr, refl, sym, subst, ℕ, ◌<◌, false, List, [], ◌∷◌, ◌++◌, length, get_or, arith}
use Rattle.std.specs.List.{list_any}
use Rattle.std.proofs.lemmas.Bool.Decides.{nat_tests}
use Rattle.cue_list.specs.Past.{is_close}
use Rattle.cue_list.specs.Sound.{AreTicksApart}
use Rattle.cue_records.proofs.TestLaws.{both-false}

-- x is one of these
abbrev pub Member : {A : Type 0} → A → List A → Type 0
Member x [] = ⊥
Member x (y ∷ ys) = (x ≡ y) ⊎ Member x ys

pub Member-append : {A : Type 0} (x : A) (xs ys : List A) → Member x (xs ++ ys) → Member x xs ⊎ Member x ys
Member-append x [] ys m = inr m
Member-append x (z ∷ xs) ys (inl e) = inl (inl e)
Member-append x (z ∷ xs) ys (inr m) =
    elim (Member-append x xs ys m) [ inl first ↦ inl (inr first) | inr second ↦ inr second ]

pub Member-at : {A : Type 0} (xs : List A) (i : ℕ) (other : A) → i < length xs → Member (get_or xs i other) xs
Member-at [] i other within = absurd (omega arith)
Member-at (x ∷ xs) zero other within = inl refl
Member-at (x ∷ xs) (suc i) other within = inr (Member-at xs i other (omega arith))

apart-sym : (first second : ℕ) → AreTicksApart first second → AreTicksApart second first
apart-sym first second (inl same) = inl (sym same)
apart-sym first second (inr (inl before)) = inr (inr before)
apart-sym first second (inr (inr after)) = inr (inl after)

not-close : (first second : ℕ) → is_close first second ≡ false → AreTicksApart first second
not-close first second h = grind (arith, nat_tests)

-- a tick that is near none is apart from each
far : (tick other : ℕ) (ticks : List ℕ) → list_any (is_close tick) ticks ≡ false → Member other ticks
    → AreTicksApart tick other
far tick other [] none m = absurd m
far tick other (named ∷ ticks) none (inl same) =
    subst (AreTicksApart tick) (sym same)
    (not-close tick named (both-false (is_close tick named) (list_any (is_close tick) ticks) none).0)
far tick other (named ∷ ticks) none (inr m) =
    far tick other ticks (both-false (is_close tick named) (list_any (is_close tick) ticks) none).1 m

-- any two of these are apart
pub record AreApartTicks (ticks : List ℕ) : Type 0 where
  pub each : (first second : ℕ) → Member first ticks → Member second ticks → AreTicksApart first second

pub AreApartTicks-more : (tick : ℕ) (ticks : List ℕ) → list_any (is_close tick) ticks ≡ false
    → AreApartTicks ticks → AreApartTicks (tick ∷ ticks)
AreApartTicks-more tick ticks none apart = record {
  each = λ first second here there. two first second here there;
}
  where
    two : (first second : ℕ) → Member first (tick ∷ ticks) → Member second (tick ∷ ticks)
        → AreTicksApart first second
    two first second (inl e) (inl f) = inl (e ∙ sym f)
    two first second (inl e) (inr m) =
        subst (λ (t : ℕ). AreTicksApart t second) (sym e) (far tick second ticks none m)
    two first second (inr m) (inl f) =
        subst (AreTicksApart first) (sym f) (apart-sym tick first (far tick first ticks none m))
    two first second (inr m) (inr k) = apart.each first second m k
