use Rattle.std.proofs.Common.{◌≡◌, ◌∙◌, refl, sym, ap, ℕ, ◌+◌, ◌-◌, ◌==◌, Bool, true, false, ◌||◌, if◌then◌else◌, Option, Some, None, arith}
use Rattle.std.proofs.lemmas.Bool.Decides.{nat_tests}
use Rattle.cue_list.specs.Past.{is_close}
use Rattle.cue_list.specs.Private.Ticks.{span_of, is_close_to, is_near_by, near_with, AreSpans}

-- one slot, where a tick that is not close replaces one
kept : (e s : Bool) → (e ≡ true → s ≡ true → ⊥) → (if e then false else s) ≡ s
kept true true never = absurd (never refl refl)
kept true false never = refl
kept false s never = refl

-- where the new tick is close, some slot has it
some : (e₁ e₂ e₃ s₁ s₂ s₃ : Bool) → (e₁ || e₂ || e₃) ≡ true
    → ((if e₁ then true else s₁) || (if e₂ then true else s₂) || (if e₃ then true else s₃)) ≡ true
some true e₂ e₃ s₁ s₂ s₃ h = refl
some false true e₃ true s₂ s₃ h = refl
some false true e₃ false s₂ s₃ h = refl
some false false true true s₂ s₃ h = refl
some false false true false true s₃ h = refl
some false false true false false s₃ h = refl
some false false false s₁ s₂ s₃ h = absurd (let never : false ≡ true = h in cc)

slots : (c s₁ s₂ s₃ e₁ e₂ e₃ : Bool)
    → (e₁ ≡ true → s₁ ≡ true → c ≡ true)
    → (e₂ ≡ true → s₂ ≡ true → c ≡ true) → (e₃ ≡ true → s₃ ≡ true → c ≡ true)
    → (c ≡ true → (e₁ || e₂ || e₃) ≡ true)
    → ((if e₁ then c else s₁) || (if e₂ then c else s₂) || (if e₃ then c else s₃))
    ≡ (c || (s₁ || s₂ || s₃))
slots true s₁ s₂ s₃ e₁ e₂ e₃ f₁ f₂ f₃ g = some e₁ e₂ e₃ s₁ s₂ s₃ (g refl)
slots false s₁ s₂ s₃ e₁ e₂ e₃ f₁ f₂ f₃ g =
    let never : false ≡ true → ⊥ = λ (h : false ≡ true). cc in
    let k₁ = kept e₁ s₁ (λ a b. never (f₁ a b)) in
    let k₂ = kept e₂ s₂ (λ a b. never (f₂ a b)) in
    let k₃ = kept e₃ s₃ (λ a b. never (f₃ a b)) in
    rw (k₁, k₂, k₃) refl

-- a tick of the same span that is not close is the same
same_tick : (tick named : ℕ) → span_of named ≡ span_of tick → is_close tick named ≡ false → named ≡ tick
same_tick tick named span apart = grind (arith, nat_tests)

-- close ticks lie in one span or in two beside each other
spans_meet : (other tick : ℕ) → is_close other tick ≡ true
    → ((span_of other - 1 == span_of tick) || (span_of other == span_of tick)
    || (span_of other + 1 == span_of tick)) ≡ true
spans_meet other tick close = grind (arith, nat_tests)

same_span : (span tick : ℕ) → (span == span_of tick) ≡ true → span ≡ span_of tick
same_span span tick h = grind (arith, nat_tests)

middle : (a b c : Bool) → (a || b || c) ≡ false → b ≡ false
middle true b c h = absurd (let never : true ≡ false = h in cc)
middle false true c h = absurd (let never : true ≡ false = h in cc)
middle false false c h = refl

close_in : (tick other : ℕ) (named : Option ℕ) → ((u : ℕ) → named ≡ Some u → span_of u ≡ span_of tick)
    → is_close_to tick named ≡ false → is_close_to other named ≡ true → is_close other tick ≡ true
close_in tick other None spans apart close = absurd (let never : false ≡ true = close in cc)
close_in tick other (Some u) spans apart close =
    let same : u ≡ tick = same_tick tick u (spans u refl) apart in
    ap (λ v. is_close other v) (sym same) ∙ close

slot_of : (old : ℕ → Option ℕ) (tick other span : ℕ) (b : Bool)
    → is_close_to other (if b then Some tick else old span)
    ≡ (if b then is_close other tick else is_close_to other (old span))
slot_of old tick other span true = refl
slot_of old tick other span false = refl

-- with one more tick that is not close to any, a tick is near where it is close to that one, or was near
pub near-with : (old new : ℕ → Option ℕ) (tick other : ℕ) → AreSpans old → is_near_by old tick ≡ false
    → ((span : ℕ) → new span ≡ (if span == span_of tick then Some tick else old span))
    → is_near_by new other ≡ (is_close other tick || is_near_by old other)
near-with old new tick other spans apart updated =
    let b = span_of other in
    let t = span_of tick in
    let here : is_close_to tick (old t) ≡ false =
    middle (is_close_to tick (old (t - 1))) (is_close_to tick (old t)) (is_close_to tick (old (t + 1))) apart in
    let at : (span : ℕ)
    → is_close_to other (new span) ≡ (if span == t then is_close other tick else is_close_to other (old span)) =
    λ span. ap (is_close_to other) (updated span) ∙ slot_of old tick other span (span == t) in
    let fact : (span : ℕ) → (span == t) ≡ true → is_close_to other (old span) ≡ true
    → is_close other tick ≡ true =
    λ span h close.
    let same : span ≡ t = same_span span tick h in
    close_in tick other (old t) (λ u e. spans t u e) here (ap (λ s. is_close_to other (old s)) (sym same) ∙ close)
    in
    let put =
    slots (is_close other tick) (is_close_to other (old (b - 1))) (is_close_to other (old b))
    (is_close_to other (old (b + 1)))
    (b - 1 == t) (b == t) (b + 1 == t) (fact (b - 1)) (fact b) (fact (b + 1)) (spans_meet other tick) in
    (λ i. at (b - 1) i || at b i || at (b + 1) i) ∙ put

-- a tick is not near one more that it is not close to
pub near_with-not : (near more : ℕ → Bool) (tick named : ℕ) → more ≡ near_with named near
    → near tick ≡ false → is_close tick named ≡ false → more tick ≡ false
near_with-not near more tick named is far apart = rw (is, apart, far) refl
