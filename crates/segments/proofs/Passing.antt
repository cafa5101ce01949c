-- What the tests of each kind of segment ask of a body: what passes them has it, and what has it passes them.
use Rattle.std.proofs.Common.{◌≡◌, ◌≢◌, ℕ, ◌+◌, ◌-◌, ◌/◌, ◌%◌, ◌<◌, ◌≤◌, ◌⊎◌, Bool, true, false, cond, List, [], ◌∷◌, length, get_or, drop, Option, Some, None, Ok, refl, sym, ap, ◌∙◌, arith, inl, inr}
use Rattle.std.specs.Prelude.{◌==◌, nat_lt, not, ◌||◌, ◌&&◌}
use Rattle.std.proofs.lemmas.Bool.{le-ltb, ltb-false, eqb-true, eqb-false, eq-eqb, ne_eqb}
use Rattle.std.specs.Result.{result_err}
use Rattle.std.proofs.lemmas.List.{nil_from_length, length-drop, get_or-drop}
use Rattle.stream_syntax.specs.SegmentTests.{page_tests, region_tests, listing_tests, clut_tests, are_whole, object_tests, coding_method, object_size, display_tests, has_window, is_window}
use Rattle.stream_syntax.specs.Tests.{first_fault, byte_at, word_at}
use Rattle.segments.specs.Reading.{tested}
use Rattle.segments.proofs.Checks.{value_of_checked, fault_of_checked}
use Rattle.segments.proofs.Objects.{pad_bytes, Ends}

-- ---- one test after another

pub none_from : {Fault : Type 0} (fails : Bool) (fault : Fault) (more : Option Fault)
    → cond fails (Some fault) more ≡ None → (fails ≡ false) × (more ≡ None)
none_from true fault more e = absurd cc
none_from false fault more e = (refl, e)

pub none_there : {Fault : Type 0} (fails : Bool) (fault : Fault) (more : Option Fault) → fails ≡ false
    → more ≡ None → cond fails (Some fault) more ≡ None
none_there true fault more failed e = absurd cc
none_there false fault more failed e = e

pub or_false : (a b : Bool) → (a || b) ≡ false → (a ≡ false) × (b ≡ false)
or_false true b e = absurd cc
or_false false b e = (refl, e)

pub or_there : (a b : Bool) → a ≡ false → b ≡ false → (a || b) ≡ false
or_there true b e f = absurd cc
or_there false b e f = f

and_false : (a b : Bool) → (a && b) ≡ false → a ≡ true → b ≡ false
and_false true b e f = e
and_false false b e f = absurd cc

and_there : (a b : Bool) → (a ≡ true → b ≡ false) → (a && b) ≡ false
and_there true b h = h refl
and_there false b h = refl

pub and_true : (a b : Bool) → (a && b) ≡ true → (a ≡ true) × (b ≡ true)
and_true true b e = (refl, e)
and_true false b e = absurd cc

pub both_true : (a b : Bool) → a ≡ true → b ≡ true → (a && b) ≡ true
both_true true b e f = f
both_true false b e f = absurd cc

pub not_false : (a : Bool) → not a ≡ false → a ≡ true
not_false true e = refl
not_false false e = absurd cc

pub not_true : (a : Bool) → not a ≡ true → a ≡ false
not_true true e = absurd cc
not_true false e = refl

-- ---- pages

pub page_asks : (body : List ℕ) → first_fault (page_tests body) ≡ None → (length body % 6 ≡ 2)
    × (get_or body 1 0 / 4 % 4 < 3)
page_asks body none =
    let a = none_from _ _ _ none in
    let b = none_from _ _ _ a.1 in
    let state : get_or body 1 0 / 4 % 4 ≢ 3 = eqb-false _ _ b.0 in
    (eqb-true _ _ (not_false _ a.0), omega (arith, state))

pub page_passes : (body : List ℕ) → length body % 6 ≡ 2 → get_or body 1 0 / 4 % 4 < 3
    → first_fault (page_tests body) ≡ None
page_passes body long state =
    none_there _ _ _ (ap not (eq-eqb (length body % 6) 2 long))
    (none_there _ _ _ (ne_eqb (get_or body 1 0 / 4 % 4) 3 (omega arith)) refl)

-- ---- regions

abbrev pub RegionAsks : List ℕ → Type 0
RegionAsks body = (10 ≤ length body) × (1 ≤ word_at 2 body) × (1 ≤ word_at 4 body)
    × (1 ≤ get_or body 6 0 / 4 % 8) × (get_or body 6 0 / 4 % 8 < 4)
    × (tested (listing_tests 16 (drop 10 body)) ≡ Ok tt)

pub region_asks : (body : List ℕ) → first_fault (region_tests body) ≡ None → RegionAsks body
region_asks body none =
    let a = none_from _ _ _ none in
    let b = none_from _ _ _ a.1 in
    let c = none_from _ _ _ b.1 in
    let sides = or_false _ _ b.0 in
    let width : word_at 2 body ≢ 0 = eqb-false _ _ sides.0 in
    let height : word_at 4 body ≢ 0 = eqb-false _ _ sides.1 in
    let depth = or_false _ _ c.0 in
    let some : get_or body 6 0 / 4 % 8 ≢ 0 = eqb-false _ _ depth.0 in
    let most : get_or body 6 0 / 4 % 8 ≤ 3 = ltb-false _ _ depth.1 in (
      ltb-false _ _ a.0,
      omega (arith, width),
      omega (arith, height),
      omega (arith, some),
      omega
          (arith, most),
      value_of_checked (listing_tests 16 (drop 10 body)) tt c.1,
    )

pub region_passes : (body : List ℕ) → RegionAsks body → first_fault (region_tests body) ≡ None
region_passes body (long, width, height, low, high, pass) =
    none_there _ _ _ (le-ltb (length body) 10 long)
    (none_there _ _ _
    (or_there _ _ (ne_eqb (word_at 2 body) 0 (omega arith)) (ne_eqb (word_at 4 body) 0 (omega arith)))
    (none_there _ _ _
    (or_there _ _ (ne_eqb (get_or body 6 0 / 4 % 8) 0 (omega arith))
    (le-ltb 3 (get_or body 6 0 / 4 % 8) (omega arith)))
    (sym (fault_of_checked (listing_tests 16 (drop 10 body)) tt) ∙ ap result_err pass)))

-- ---- CLUTs

pub clut_asks : (body : List ℕ) → first_fault (clut_tests body) ≡ None → (2 ≤ length body)
    × (are_whole (drop 2 body) ≡ true)
clut_asks body none =
    let a = or_false _ _ (none_from _ _ _ none).0 in
    (ltb-false _ _ a.0, not_false _ a.1)

pub clut_passes : (body : List ℕ) → 2 ≤ length body → are_whole (drop 2 body) ≡ true
    → first_fault (clut_tests body) ≡ None
clut_passes body long whole = none_there _ _ _ (or_there _ _ (le-ltb (length body) 2 long) (ap not whole)) refl

-- ---- displays

pub display_asks : (body : List ℕ) → first_fault (display_tests body) ≡ None → (5 ≤ length body)
    × (has_window body ≡ true → 13 ≤ length body) × (has_window body ≡ true → is_window body ≡ true)
display_asks body none =
    let a = none_from _ _ _ none in
    let b = none_from _ _ _ a.1 in
    let size = or_false _ _ a.0 in
    (ltb-false _ _ size.0, λ on. ltb-false _ _ (and_false _ _ size.1 on), λ on. not_false _ (and_false _ _ b.0 on))

pub display_passes : (body : List ℕ) → 5 ≤ length body → (has_window body ≡ true → 13 ≤ length body)
    → (has_window body ≡ true → is_window body ≡ true) → first_fault (display_tests body) ≡ None
display_passes body long longer window =
    none_there _ _ _
    (or_there _ _ (le-ltb (length body) 5 long)
    (and_there (has_window body) (nat_lt (length body) 13) (λ on. le-ltb (length body) 13 (longer on))))
    (none_there _ _ _ (and_there (has_window body) (not (is_window body)) (λ on. ap not (window on))) refl)

-- ---- objects

abbrev pub ObjectAsks : List ℕ → Bool → Type 0
ObjectAsks body padded = (7 ≤ length body) × (coding_method body ≡ 0)
    × (length body ≡ object_size body + length (pad_bytes padded))
    × Ends (drop 7 body) (word_at 3 body) (word_at 5 body) padded

one_item : (xs : List ℕ) → length xs ≡ 1 → xs ≡ get_or xs 0 0 ∷ []
one_item [] e = absurd (omega arith)
one_item (x ∷ []) e = refl
one_item (x ∷ y ∷ xs) e = absurd (omega arith)

last_byte : (body : List ℕ) (top bottom : ℕ)
    → get_or (drop bottom (drop top (drop 7 body))) 0 0 ≡ get_or body (7 + top + bottom) 0
last_byte body top bottom =
    let e : 7 + (top + (bottom + 0)) ≡ 7 + top + bottom = omega arith in
    get_or-drop bottom (drop top (drop 7 body)) 0 0 ∙ get_or-drop top (drop 7 body) (bottom + 0) 0
    ∙ get_or-drop 7 body (top + (bottom + 0)) 0 ∙ ap (λ (i : ℕ). get_or body i 0) e

left_over : (body : List ℕ) (top bottom : ℕ)
    → length (drop bottom (drop top (drop 7 body))) ≡ length body - (7 + top + bottom)
left_over body top bottom =
    omega (arith, length-drop bottom (drop top (drop 7 body)), length-drop top (drop 7 body), length-drop 7 body)

ends_exact : (body : List ℕ) (top bottom : ℕ) → length body ≡ 7 + top + bottom
    → Ends (drop 7 body) top bottom false
ends_exact body top bottom e = nil_from_length _ (omega (arith, left_over body top bottom))

ends_padded : (body : List ℕ) (top bottom : ℕ) → length body ≡ 7 + top + bottom + 1
    → get_or body (7 + top + bottom) 0 ≡ 0 → Ends (drop 7 body) top bottom true
ends_padded body top bottom e zero-is =
    one_item _ (omega (arith, left_over body top bottom))
    ∙ ap (λ (n : ℕ). n ∷ []) (last_byte body top bottom ∙ zero-is)

abbrev SizeAsks : List ℕ → Type 0
SizeAsks body = (length body ≡ object_size body)
    ⊎ ((length body ≡ object_size body + 1) × (byte_at (object_size body) body ≡ 0))

size_cases : (exact longer last : Bool) → (not exact && not (longer && last)) ≡ false → (exact ≡ true)
    ⊎ ((longer ≡ true) × (last ≡ true))
size_cases true longer last e = inl refl
size_cases false true true e = inr (refl, refl)
size_cases false true false e = absurd cc
size_cases false false last e = absurd cc

plus_none : (n : ℕ) → n ≡ n + 0
plus_none n = omega arith

two_bits : (body : List ℕ) → coding_method body < 4
two_bits body = omega arith

below_one : (n : ℕ) → n < 4 → n ≢ 1 → n ≢ 2 → n ≢ 3 → n ≡ 0
below_one n lt one two three = omega (arith, one, two, three)

pub object_asks : (body : List ℕ) → first_fault (object_tests body) ≡ None → (padded : Bool)
    × ObjectAsks body padded
object_asks body none =
    let a = none_from _ _ _ none in
    let b = none_from _ _ _ a.1 in
    let c = none_from _ _ _ b.1 in
    let d = none_from _ _ _ c.1 in
    let e = none_from _ _ _ d.1 in
    let f = none_from _ _ _ e.1 in
    let one : coding_method body ≢ 1 = eqb-false _ _ b.0 in
    let two : coding_method body ≢ 2 = eqb-false _ _ c.0 in
    let three : coding_method body ≢ 3 = eqb-false _ _ d.0 in
    let long : 7 ≤ length body = ltb-false _ _ e.0 in
    let method : coding_method body ≡ 0 = below_one (coding_method body) (two_bits body) one two three in
    elim (size_cases (length body == object_size body) (length body == object_size body + 1)
    (byte_at (object_size body) body == 0) f.0) [
      | inl exact ↦
          let size : length body ≡ object_size body = eqb-true _ _ exact in
          (false, (long, method, size ∙ plus_none _, ends_exact body (word_at 3 body) (word_at 5 body) size))
      | inr more ↦
          let size : length body ≡ object_size body + 1 = eqb-true _ _ more.0 in
          (true, (long, method, size, ends_padded body (word_at 3 body) (word_at 5 body) size (eqb-true _ _ more.1)))
    ]

size_there : (body : List ℕ) (padded : Bool) → length body ≡ object_size body + length (pad_bytes padded)
    → Ends (drop 7 body) (word_at 3 body) (word_at 5 body) padded
    → (not (length body == object_size body)
    && not (length body == object_size body + 1 && byte_at (object_size body) body == 0)) ≡ false
size_there body false size ends =
    let same : (length body == object_size body)
    ≡ true = eq-eqb (length body) (object_size body) (omega arith) in rw same refl
size_there body true size ends =
    let one : (length body == object_size body + 1) ≡ true = eq-eqb (length body) (object_size body + 1) size in
    let last : byte_at (object_size body) body ≡ 0 =
    sym (last_byte body (word_at 3 body) (word_at 5 body)) ∙ ap (λ (xs : List ℕ). get_or xs 0 0) ends in
    let ends-in : (byte_at (object_size body) body == 0) ≡ true = eq-eqb (byte_at (object_size body) body) 0 last in
    and_there (not (length body == object_size body))
    (not (length body == object_size body + 1 && byte_at (object_size body) body == 0))
    (λ longer. rw (one, ends-in) refl)

pub object_passes : (body : List ℕ) (padded : Bool) → ObjectAsks body padded
    → first_fault (object_tests body) ≡ None
object_passes body padded (long, method, size, ends) =
    none_there _ _ _ (le-ltb (length body) 3 (omega arith))
    (none_there _ _ _ (ne_eqb (coding_method body) 1 (omega (arith, method)))
    (none_there _ _ _ (ne_eqb (coding_method body) 2 (omega (arith, method)))
    (none_there _ _ _ (ne_eqb (coding_method body) 3 (omega (arith, method)))
    (none_there _ _ _ (le-ltb (length body) 7 long) (none_there _ _ _ (size_there body padded size ends) refl)))))
