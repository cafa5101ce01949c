-- Tokens of four and of two bits: what is spelled is read, and what is read is spelled so.
use Rattle.std.proofs.Common.{◌≡◌, ℕ, ◌+◌, ◌-◌, ◌*◌, ◌/◌, ◌%◌, ◌<◌, ◌≤◌, eqb, ltb, List, ◌++◌, length, drop, Some, refl, sym, ap, ◌∙◌, append_assoc, arith}
use Rattle.std.proofs.lemmas.Bool.{ltb-false, ltb-true, eqb-true, eqb-false}
use Rattle.sub_base.specs.declared.depth.Depth.{Depth}
use Rattle.sub_base.specs.declared.depth.Depth.TheVariants.{Two, Four, Eight}
use Rattle.stream_syntax.specs.PixelCodes.{bits, Code, pixel, one_zero, two_zeros, zeros, short_run, middle_run, long_run, IsCode, spelled, ending}
use Rattle.code_strings.specs.declared.token.Token.{Token}
use Rattle.code_strings.specs.declared.token.Token.TheVariants.{Pixels, End}
use Rattle.code_strings.specs.Widths.{width_of}
use Rattle.code_strings.specs.Reading.{field_at, two_at, two_long_at, four_at, four_run_at, token_at}
use Rattle.code_strings.proofs.Bits.{bits-join, IsBits, field_reads}
use Rattle.code_strings.proofs.Tokens.{short_two, zero_ahead, StandsAt, cases_option, cases_bool, keep, nothing, leaf, grow, as_spelled, within_to, eight_reads}

-- ---- four bits
four_end_text : bits 4 0 ++ bits 4 0 ≡ ending Four
unfolding ending
four_end_text = refl

four_zeros_text : (second : ℕ) → second < 8 → bits 4 0 ++ bits 4 second ≡ spelled Four (zeros second)
unfolding spelled
four_zeros_text second h = ap (λ (t : List ℕ). bits 4 0 ++ t) (sym (zero_ahead 3 second h))

four_short_text : (form code : ℕ) → form < 4
    → (bits 4 0 ++ bits 4 (8 + form)) ++ bits 4 code ≡ spelled Four (short_run form code)
unfolding spelled
four_short_text form code h =
    ap (λ (t : List ℕ). (bits 4 0 ++ t) ++ bits 4 code) (bits-join 2 2 2 form h) ∙ simp append_assoc

four_middle_text : (field code : ℕ)
    → ((bits 4 0 ++ bits 4 14) ++ bits 4 field) ++ bits 4 code ≡ spelled Four (middle_run field code)
unfolding spelled
four_middle_text field code = simp append_assoc

four_long_text : (field code : ℕ)
    → ((bits 4 0 ++ bits 4 15) ++ bits 8 field) ++ bits 4 code ≡ spelled Four (long_run field code)
unfolding spelled
four_long_text field code = simp append_assoc

four_one_text : bits 4 0 ++ bits 4 12 ≡ spelled Four one_zero
unfolding spelled
four_one_text = refl

four_two_text : bits 4 0 ++ bits 4 13 ≡ spelled Four two_zeros
unfolding spelled
four_two_text = refl

four_run_reads : (xs : List ℕ) (place p form : ℕ) (found : Token × ℕ) → IsBits xs → place + 8 ≡ p
    → p ≤ length xs → form < 8 → drop place xs ≡ (bits 4 0 ++ bits 4 (8 + form)) ++ drop p xs
    → four_run_at xs p form ≡ Some found → StandsAt Four xs place found.0 found.1
unfolding four_run_at
four_run_reads xs place p form found h at within small t e =
    cases_bool (ltb form 4)
    (λ c. keep (rw c at e) λ e1.
    cases_option (field_at xs p 4) (λ f. nothing found (rw f at e1)) λ code f1.
    keep (field_reads xs p 4 code h f1) λ r1.
    keep (ltb-true form 4 c) λ low.
    keep (grow xs _ place p 4 code (p + 4) t r1 refl) λ t1.
    leaf Four xs place (Pixels (form + 4) code) (p + 4) found (rw f1 at e1) (
      short_run form code,
      (low, r1.fits),
      refl,
      refl,
      as_spelled xs _ _ place (p + 4)
          (four_short_text form code low) t1,
      omega arith,
      r1.within,
    ))
    (λ c. keep (rw c at e) λ e1.
    keep (ltb-false form 4 c) λ high.
    cases_bool (eqb form 4)
    (λ d. keep (eqb-true form 4 d) λ is.
    leaf Four xs place (Pixels 1 0) p found (rw d at e1) (
      one_zero,
      tt,
      refl,
      refl,
      as_spelled xs _ _ place p
          (ap (λ (n : ℕ). bits 4 0 ++ bits 4 (8 + n)) is ∙ four_one_text) t,
      omega arith,
      within,
    ))
    (λ d. keep (rw d at e1) λ e2.
    keep (eqb-false form 4 d) λ not4.
    cases_bool (eqb form 5)
    (λ i. keep (eqb-true form 5 i) λ is.
    leaf Four xs place (Pixels 2 0) p found (rw i at e2) (
      two_zeros,
      tt,
      refl,
      refl,
      as_spelled xs _ _ place p
          (ap (λ (n : ℕ). bits 4 0 ++ bits 4 (8 + n)) is ∙ four_two_text) t,
      omega arith,
      within,
    ))
    (λ i. keep (rw i at e2) λ e3.
    keep (eqb-false form 5 i) λ not5.
    cases_bool (eqb form 6)
    (λ j. keep (rw j at e3) λ e4.
    keep (eqb-true form 6 j) λ is.
    keep (as_spelled xs _ _ place p (ap (λ (n : ℕ). bits 4 0 ++ bits 4 (8 + n)) is) t) λ t0.
    cases_option (field_at xs p 4) (λ f. nothing found (rw f at e4)) λ field f1.
    keep (rw f1 at e4) λ e5.
    keep (field_reads xs p 4 field h f1) λ r1.
    keep (grow xs _ place p 4 field (p + 4) t0 r1 refl) λ t1.
    cases_option (field_at xs (p + 4) 4) (λ f. nothing found (rw f at e5)) λ code f2.
    keep (field_reads xs (p + 4) 4 code h f2) λ r2.
    keep (grow xs _ place (p + 4) 4 code (p + 8) t1 r2 (omega arith)) λ t2.
    leaf Four xs place (Pixels (field + 9) code) (p + 8) found (rw f2 at e5) (
      middle_run field code,
      (r1.fits, r2.fits),
      refl,
      refl,
      as_spelled xs _ _ place (p + 8)
          (four_middle_text field code) t2,
      omega arith,
      within_to xs (p + 4) 4 code (p + 8) r2 (omega arith),
    ))
    (λ j. keep (rw j at e3) λ e4.
    keep (eqb-false form 6 j) λ not6.
    keep (omega (arith, not4, not5, not6)) λ (is : form ≡ 7).
    keep (as_spelled xs _ _ place p (ap (λ (n : ℕ). bits 4 0 ++ bits 4 (8 + n)) is) t) λ t0.
    cases_option (field_at xs p 8) (λ f. nothing found (rw f at e4)) λ field f1.
    keep (rw f1 at e4) λ e5.
    keep (field_reads xs p 8 field h f1) λ r1.
    keep (grow xs _ place p 8 field (p + 8) t0 r1 refl) λ t1.
    cases_option (field_at xs (p + 8) 4) (λ f. nothing found (rw f at e5)) λ code f2.
    keep (field_reads xs (p + 8) 4 code h f2) λ r2.
    keep (grow xs _ place (p + 8) 4 code (p + 12) t1 r2 (omega arith)) λ t2.
    leaf Four xs place (Pixels (field + 25) code) (p + 12) found (rw f2 at e5) (
      long_run field code,
      (r1.fits, r2.fits),
      refl,
      refl,
      as_spelled xs _ _ place (p + 12)
          (four_long_text field code) t2,
      omega arith,
      within_to xs (p + 8) 4 code (p + 12) r2 (omega arith),
    )))))

four_reads : (xs : List ℕ) (place : ℕ) (found : Token × ℕ) → IsBits xs → four_at xs place ≡ Some found
    → StandsAt Four xs place found.0 found.1
unfolding four_at spelled
four_reads xs place found h e =
    cases_option (field_at xs place 4) (λ f. nothing found (rw f at e)) λ first f1.
    keep (rw f1 at e) λ e1.
    keep (field_reads xs place 4 first h f1) λ r1.
    cases_bool (eqb first 0)
    (λ t. keep (rw t at e1) λ e2.
    keep (eqb-true first 0 t) λ zero1.
    keep (r1.text ∙ ap (λ (n : ℕ). bits 4 n ++ drop (place + 4) xs) zero1) λ t1.
    cases_option (field_at xs (place + 4) 4) (λ f. nothing found (rw f at e2)) λ second f2.
    keep (rw f2 at e2) λ e3.
    keep (field_reads xs (place + 4) 4 second h f2) λ r2.
    keep (within_to xs (place + 4) 4 second (place + 8) r2 (omega arith)) λ w2.
    keep (grow xs (bits 4 0) place (place + 4) 4 second (place + 8) t1 r2 (omega arith)) λ t2.
    cases_bool (eqb second 0)
    (λ u. leaf Four xs place End (place + 8) found (rw u at e3) (
      as_spelled xs _ _ place (place + 8)
          (ap (λ (n : ℕ). bits 4 0 ++ bits 4 n) (eqb-true second 0 u) ∙ four_end_text) t2,
      refl,
      w2,
    ))
    (λ u. keep (rw u at e3) λ e4.
    cases_bool (ltb second 8)
    (λ v. leaf Four xs place (Pixels (second + 2) 0) (place + 8) found (rw v at e4) (
      zeros second,
      (omega (arith, eqb-false second 0 u), ltb-true second 8 v),
      refl,
      refl,
      as_spelled xs _ _ place
          (place + 8) (four_zeros_text second (ltb-true second 8 v)) t2,
      refl,
      w2,
    ))
    (λ v. keep (ltb-false second 8 v) λ high.
    keep (omega (arith, high)) λ (back : second ≡ 8 + (second - 8)).
    four_run_reads xs place (place + 8) (second - 8) found h refl w2 (omega (arith, r2.fits))
    (as_spelled xs _ _ place (place + 8) (ap (λ (n : ℕ). bits 4 0 ++ bits 4 n) back) t2) (rw v at e4))))
    (λ t. leaf Four xs place (Pixels 1 first) (place + 4) found (rw t at e1)
    (pixel first, (omega (arith, eqb-false first 0 t), r1.fits), refl, refl, r1.text, refl, r1.within))

-- ---- two bits
two_end_text : (bits 2 0 ++ bits 2 0) ++ bits 2 0 ≡ ending Two
unfolding ending
two_end_text = simp append_assoc

two_one_text : bits 2 0 ++ bits 2 1 ≡ spelled Two one_zero
unfolding spelled
two_one_text = refl

two_two_text : (bits 2 0 ++ bits 2 0) ++ bits 2 1 ≡ spelled Two two_zeros
unfolding spelled
two_two_text = simp append_assoc

two_middle_text : (field code : ℕ)
    → (((bits 2 0 ++ bits 2 0) ++ bits 2 2) ++ bits 4 field) ++ bits 2 code ≡ spelled Two (middle_run field code)
unfolding spelled
two_middle_text field code = simp append_assoc

two_long_text : (field code : ℕ)
    → (((bits 2 0 ++ bits 2 0) ++ bits 2 3) ++ bits 8 field) ++ bits 2 code ≡ spelled Two (long_run field code)
unfolding spelled
two_long_text field code = simp append_assoc

two_short_text : (second low code : ℕ) → 2 ≤ second → second < 4 → low < 4
    → ((bits 2 0 ++ bits 2 second) ++ bits 2 low)
    ++ bits 2 code ≡ spelled Two (short_run ((second - 2) * 4 + low) code)
unfolding spelled
two_short_text second low code h k l =
    let field = (second - 2) * 4 + low in
    let high : field / 4 + 2 ≡ second = omega arith in
    let rest : field % 4 ≡ low = omega arith in
    let j : bits 2 second ++ bits 2 low ≡ bits 1 1 ++ bits 3 field =
    ap (λ (n : ℕ). bits 2 n ++ bits 2 low) (sym high)
    ∙ ap (λ (n : ℕ). bits 2 (field / 4 + 2) ++ bits 2 n) (sym rest) ∙ sym (short_two field (omega arith)) in
    simp append_assoc
    (ap (λ (t : List ℕ). bits 2 0 ++ t)
    (sym (append_assoc (bits 2 second) (bits 2 low) (bits 2 code)) ∙ ap (λ (t : List ℕ). t ++ bits 2 code) j
    ∙ append_assoc (bits 1 1) (bits 3 field) (bits 2 code)))

two_long_reads : (xs : List ℕ) (place p : ℕ) (found : Token × ℕ) → IsBits xs → place + 4 ≡ p
    → drop place xs ≡ (bits 2 0 ++ bits 2 0) ++ drop p xs → two_long_at xs p ≡ Some found
    → StandsAt Two xs place found.0 found.1
unfolding two_long_at
two_long_reads xs place p found h at t e =
    cases_option (field_at xs p 2) (λ f. nothing found (rw f at e)) λ form f1.
    keep (rw f1 at e) λ e1.
    keep (field_reads xs p 2 form h f1) λ r1.
    keep (grow xs _ place p 2 form (p + 2) t r1 refl) λ t1.
    cases_bool (eqb form 0)
    (λ c. leaf Two xs place End (p + 2) found (rw c at e1) (
      as_spelled xs _ _ place (p + 2)
          (ap (λ (n : ℕ). (bits 2 0 ++ bits 2 0) ++ bits 2 n) (eqb-true form 0 c) ∙ two_end_text) t1,
      omega
          arith,
      r1.within,
    ))
    (λ c. keep (rw c at e1) λ e2.
    keep (eqb-false form 0 c) λ not0.
    cases_bool (eqb form 1)
    (λ d. leaf Two xs place (Pixels 2 0) (p + 2) found (rw d at e2) (
      two_zeros,
      tt,
      refl,
      refl,
      as_spelled xs _ _ place (p + 2)
          (ap (λ (n : ℕ). (bits 2 0 ++ bits 2 0) ++ bits 2 n) (eqb-true form 1 d) ∙ two_two_text) t1,
      omega
          arith,
      r1.within,
    ))
    (λ d. keep (rw d at e2) λ e3.
    keep (eqb-false form 1 d) λ not1.
    cases_bool (eqb form 2)
    (λ j. keep (rw j at e3) λ e4.
    keep (as_spelled xs _ _ place (p + 2) (ap (λ (n : ℕ). (bits 2 0 ++ bits 2 0) ++ bits 2 n) (eqb-true form 2 j))
    t1) λ t2.
    cases_option (field_at xs (p + 2) 4) (λ f. nothing found (rw f at e4)) λ field f2.
    keep (rw f2 at e4) λ e5.
    keep (field_reads xs (p + 2) 4 field h f2) λ r2.
    keep (grow xs _ place (p + 2) 4 field (p + 6) t2 r2 (omega arith)) λ t3.
    cases_option (field_at xs (p + 6) 2) (λ f. nothing found (rw f at e5)) λ code f3.
    keep (field_reads xs (p + 6) 2 code h f3) λ r3.
    keep (grow xs _ place (p + 6) 2 code (p + 8) t3 r3 (omega arith)) λ t4.
    leaf Two xs place (Pixels (field + 12) code) (p + 8) found (rw f3 at e5) (
      middle_run field code,
      (r2.fits, r3.fits),
      refl,
      refl,
      as_spelled xs _ _ place (p + 8)
          (two_middle_text field code) t4,
      omega arith,
      within_to xs (p + 6) 2 code (p + 8) r3 (omega arith),
    ))
    (λ j. keep (rw j at e3) λ e4.
    keep (eqb-false form 2 j) λ not2.
    keep (omega (arith, not0, not1, not2, r1.fits)) λ (is : form ≡ 3).
    keep (as_spelled xs _ _ place (p + 2) (ap (λ (n : ℕ). (bits 2 0 ++ bits 2 0) ++ bits 2 n) is) t1) λ t2.
    cases_option (field_at xs (p + 2) 8) (λ f. nothing found (rw f at e4)) λ field f2.
    keep (rw f2 at e4) λ e5.
    keep (field_reads xs (p + 2) 8 field h f2) λ r2.
    keep (grow xs _ place (p + 2) 8 field (p + 10) t2 r2 (omega arith)) λ t3.
    cases_option (field_at xs (p + 10) 2) (λ f. nothing found (rw f at e5)) λ code f3.
    keep (field_reads xs (p + 10) 2 code h f3) λ r3.
    keep (grow xs _ place (p + 10) 2 code (p + 12) t3 r3 (omega arith)) λ t4.
    leaf Two xs place (Pixels (field + 29) code) (p + 12) found (rw f3 at e5) (
      long_run field code,
      (r2.fits, r3.fits),
      refl,
      refl,
      as_spelled xs _ _ place (p + 12)
          (two_long_text field code) t4,
      omega arith,
      within_to xs (p + 10) 2 code (p + 12) r3 (omega arith),
    ))))

two_reads : (xs : List ℕ) (place : ℕ) (found : Token × ℕ) → IsBits xs → two_at xs place ≡ Some found
    → StandsAt Two xs place found.0 found.1
unfolding two_at spelled
two_reads xs place found h e =
    cases_option (field_at xs place 2) (λ f. nothing found (rw f at e)) λ first f1.
    keep (rw f1 at e) λ e1.
    keep (field_reads xs place 2 first h f1) λ r1.
    cases_bool (eqb first 0)
    (λ t. keep (rw t at e1) λ e2.
    keep (eqb-true first 0 t) λ zero1.
    keep (r1.text ∙ ap (λ (n : ℕ). bits 2 n ++ drop (place + 2) xs) zero1) λ t1.
    cases_option (field_at xs (place + 2) 2) (λ f. nothing found (rw f at e2)) λ second f2.
    keep (rw f2 at e2) λ e3.
    keep (field_reads xs (place + 2) 2 second h f2) λ r2.
    keep (within_to xs (place + 2) 2 second (place + 4) r2 (omega arith)) λ w2.
    keep (grow xs (bits 2 0) place (place + 2) 2 second (place + 4) t1 r2 (omega arith)) λ t2.
    cases_bool (eqb second 0)
    (λ u. two_long_reads xs place (place + 4) found h refl
    (as_spelled xs _ _ place (place + 4) (ap (λ (n : ℕ). bits 2 0 ++ bits 2 n) (eqb-true second 0 u)) t2)
    (rw u at e3))
    (λ u. keep (rw u at e3) λ e4.
    keep (eqb-false second 0 u) λ not0.
    cases_bool (eqb second 1)
    (λ v. leaf Two xs place (Pixels 1 0) (place + 4) found (rw v at e4) (
      one_zero,
      tt,
      refl,
      refl,
      as_spelled xs _ _ place (place + 4)
          (ap (λ (n : ℕ). bits 2 0 ++ bits 2 n) (eqb-true second 1 v) ∙ two_one_text) t2,
      refl,
      w2,
    ))
    (λ v. keep (rw v at e4) λ e5.
    keep (eqb-false second 1 v) λ not1.
    keep (omega (arith, not0, not1)) λ (high : 2 ≤ second).
    cases_option (field_at xs (place + 4) 2) (λ f. nothing found (rw f at e5)) λ low f3.
    keep (rw f3 at e5) λ e6.
    keep (field_reads xs (place + 4) 2 low h f3) λ r3.
    keep (grow xs _ place (place + 4) 2 low (place + 6) t2 r3 (omega arith)) λ t3.
    cases_option (field_at xs (place + 6) 2) (λ f. nothing found (rw f at e6)) λ code f4.
    keep (field_reads xs (place + 6) 2 code h f4) λ r4.
    keep (grow xs _ place (place + 6) 2 code (place + 8) t3 r4 (omega arith)) λ t4.
    leaf Two xs place (Pixels ((second - 2) * 4 + low + 3) code) (place + 8) found (rw f4 at e6) (
      short_run ((second - 2) * 4 + low) code,
      (omega (arith, r2.fits, r3.fits), r4.fits),
      refl,
      refl,
      as_spelled xs
          _ _ place (place + 8) (two_short_text second low code high r2.fits r3.fits) t4,
      refl,
      within_to xs (place + 6) 2
          code (place + 8) r4 (omega arith),
    ))))
    (λ t. leaf Two xs place (Pixels 1 first) (place + 2) found (rw t at e1)
    (pixel first, (omega (arith, eqb-false first 0 t), r1.fits), refl, refl, r1.text, refl, r1.within))

-- a code that is read stands at its place
pub token_reads : (depth : Depth) (xs : List ℕ) (place : ℕ) (found : Token × ℕ) → IsBits xs
    → token_at depth xs place ≡ Some found → StandsAt depth xs place found.0 found.1
token_reads Two = two_reads
token_reads Four = four_reads
token_reads Eight = eight_reads

pub width_some : (depth : Depth) (code : Code) → IsCode depth code → 2 ≤ width_of depth code
width_some Two (pixel code) h = omega arith
width_some Two one_zero h = omega arith
width_some Two two_zeros h = omega arith
width_some Two (zeros field) h = absurd h
width_some Two (short_run field code) h = omega arith
width_some Two (middle_run field code) h = omega arith
width_some Two (long_run field code) h = omega arith
width_some Four (pixel code) h = omega arith
width_some Four one_zero h = omega arith
width_some Four two_zeros h = omega arith
width_some Four (zeros field) h = omega arith
width_some Four (short_run field code) h = omega arith
width_some Four (middle_run field code) h = omega arith
width_some Four (long_run field code) h = omega arith
width_some Eight (pixel code) h = omega arith
width_some Eight one_zero h = absurd h
width_some Eight two_zeros h = absurd h
width_some Eight (zeros field) h = omega arith
width_some Eight (short_run field code) h = omega arith
width_some Eight (middle_run field code) h = absurd h
width_some Eight (long_run field code) h = absurd h
