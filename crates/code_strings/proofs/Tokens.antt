-- What is spelled is read, and what is read is spelled so.
use Rattle.std.proofs.Common.{◌≡◌, ℕ, ◌+◌, ◌-◌, ◌*◌, ◌/◌, ◌%◌, ◌^◌, ◌<◌, ◌≤◌, Bool, true, false, eqb, ltb, List, [], ◌++◌, length, drop, Option, Some, None, refl, sym, ap, subst, ◌∙◌, append_assoc, arith}
use Rattle.std.proofs.lemmas.Bool.{ltb-false, ltb-true, le-ltb, lt-ltb, eqb-true, eqb-false}
use Rattle.std.proofs.lemmas.Bool.Decides.{nat_tests}
use Rattle.sub_base.specs.declared.depth.Depth.{Depth}
use Rattle.sub_base.specs.declared.depth.Depth.TheVariants.{Two, Four, Eight}
use Rattle.stream_syntax.specs.PixelCodes.{bits, Code, pixel, one_zero, two_zeros, zeros, short_run, middle_run, long_run, IsCode, pixel_count, colour_of, spelled, ending}
use Rattle.code_strings.specs.declared.token.Token.{Token}
use Rattle.code_strings.specs.declared.token.Token.TheVariants.{Pixels, End}
pub use Rattle.code_strings.specs.Widths.{width_of}
use Rattle.code_strings.specs.Reading.{field_at, two_at, two_long_at, four_at, four_run_at, eight_at, token_at}
use Rattle.code_strings.proofs.Bits.{length-bits, bits-add, bits-mod, bits-join, IsBits, field_spelled, field_reads, Reads, drop-next}

abbrev pub end_width : Depth → ℕ
end_width Two = 6
end_width Four = 8
end_width Eight = 16

pub length-spelled : (depth : Depth) (code : Code) → length (spelled depth code) ≡ width_of depth code
unfolding spelled bits
length-spelled Two (pixel code) = refl
length-spelled Two one_zero = refl
length-spelled Two two_zeros = refl
length-spelled Two (zeros field) = refl
length-spelled Two (short_run field code) = refl
length-spelled Two (middle_run field code) = refl
length-spelled Two (long_run field code) = refl
length-spelled Four (pixel code) = refl
length-spelled Four one_zero = refl
length-spelled Four two_zeros = refl
length-spelled Four (zeros field) = refl
length-spelled Four (short_run field code) = refl
length-spelled Four (middle_run field code) = refl
length-spelled Four (long_run field code) = refl
length-spelled Eight (pixel code) = refl
length-spelled Eight one_zero = refl
length-spelled Eight two_zeros = refl
length-spelled Eight (zeros field) = refl
length-spelled Eight (short_run field code) = refl
length-spelled Eight (middle_run field code) = refl
length-spelled Eight (long_run field code) = refl

pub length-ending : (depth : Depth) → length (ending depth) ≡ end_width depth
unfolding ending bits
length-ending Two = refl
length-ending Four = refl
length-ending Eight = refl

-- ---- what is spelled is read

-- one field on
with_field : {R : Type 0} (xs rest : List ℕ) (place width v next : ℕ) → drop place xs ≡ bits width v ++ rest
    → 0 < width → v < 2 ^ width → place + width ≡ next
    → (field_at xs place width ≡ Some v → drop next xs ≡ rest → R) → R
with_field xs rest place width v next e wide fits n k =
    k (field_spelled xs rest place width v wide fits e)
    (ap (λ (i : ℕ). drop i xs) (sym n) ∙ drop-next xs (bits width v) rest place width e (length-bits width v))

-- the bits of a short run of two bits, as they are read
pub short_two : (field : ℕ) → field < 8
    → bits 1 1 ++ bits 3 field ≡ bits 2 (field / 4 + 2) ++ bits 2 (field % 4)
short_two field h =
    let four : (8 + field) / 2 ^ 2 ≡ field / 4 + 2 = omega arith in
    let low : (8 + field) % 2 ^ 2 ≡ field % 4 = omega arith in
    sym (bits-join 1 3 1 field h) ∙ bits-add 2 2 (8 + field)
    ∙ ap (λ (n : ℕ). bits 2 n ++ bits 2 (8 + field)) four
    ∙ ap (λ (t : List ℕ). bits 2 (field / 4 + 2) ++ t) (sym (bits-mod 2 (8 + field)) ∙ ap (bits 2) low)

two_short : (xs rest : List ℕ) (place field code : ℕ) → field < 8 → code < 4
    → drop place xs ≡ spelled Two (short_run field code) ++ rest
    → two_at xs place ≡ Some (Pixels (field + 3) code, place + 8)
unfolding spelled two_at
two_short xs rest place field code h k e =
    let e' : drop place xs ≡ bits 2 0 ++ (bits 2 (field / 4 + 2) ++ (bits 2 (field % 4) ++ (bits 2 code ++ rest))) =
    e ∙ ap (λ (t : List ℕ). (bits 2 0 ++ t) ++ rest)
    (sym (append_assoc (bits 1 1) (bits 3 field) (bits 2 code))
    ∙ ap (λ (t : List ℕ). t ++ bits 2 code) (short_two field h)) ∙ simp append_assoc in
    with_field xs _ place 2 0 (place + 2) e' (omega arith) (omega arith) refl λ f1 e1.
    with_field xs _ (place + 2) 2 (field / 4 + 2) (place + 4) e1 (omega arith) (omega arith) (omega arith) λ f2 e2.
    with_field xs _ (place + 4) 2 (field % 4) (place + 6) e2 (omega arith) (omega arith) (omega arith) λ f3 e3.
    with_field xs _ (place + 6) 2 code (place + 8) e3 (omega arith) k (omega arith) λ f4 e4.
    let t1 : eqb (field / 4 + 2) 0 ≡ false = grind (arith, nat_tests) in
    let t2 : eqb (field / 4 + 2) 1 ≡ false = grind (arith, nat_tests) in
    let n : (field / 4 + 2 - 2) * 4 + field % 4 + 3 ≡ field + 3 = omega arith in
    simp (f1, f2, f3, f4, t1, t2, n)

moved : (count code a b : ℕ) → a ≡ b
    → ◌≡◌ {A = Option (Token × ℕ)} (Some (Pixels count code, a)) (Some (Pixels count code, b))
moved count code a b e = ap (λ (i : ℕ). Some (Pixels count code, i)) e

ended : (a b : ℕ) → a ≡ b → ◌≡◌ {A = Option (Token × ℕ)} (Some (End, a)) (Some (End, b))
ended a b e = ap (λ (i : ℕ). Some (End, i)) e

two_pixel : (xs rest : List ℕ) (place code : ℕ) → 0 < code → code < 4
    → drop place xs ≡ spelled Two (pixel code) ++ rest → two_at xs place ≡ Some (Pixels 1 code, place + 2)
unfolding spelled two_at
two_pixel xs rest place code h k e =
    with_field xs _ place 2 code (place + 2) e (omega arith) k refl λ f1 e1.
    let t1 : eqb code 0 ≡ false = grind (arith, nat_tests) in
    simp (f1, t1)

two_one_zero : (xs rest : List ℕ) (place : ℕ) → drop place xs ≡ spelled Two one_zero ++ rest
    → two_at xs place ≡ Some (Pixels 1 0, place + 4)
unfolding spelled two_at
two_one_zero xs rest place e =
    let e' : drop place xs ≡ bits 2 0 ++ (bits 2 1 ++ rest) = e ∙ simp append_assoc in
    with_field xs _ place 2 0 (place + 2) e' (omega arith) (omega arith) refl λ f1 e1.
    with_field xs _ (place + 2) 2 1 (place + 4) e1 (omega arith) (omega arith) (omega arith) λ f2 e2.
    simp (f1, f2)

-- behind four bits 0
two_far : (xs rest more : List ℕ) (place : ℕ) → drop place xs ≡ (bits 2 0 ++ (bits 2 0 ++ more)) ++ rest
    → (two_at xs place ≡ two_long_at xs (place + 4)) × (drop (place + 4) xs ≡ more ++ rest)
unfolding two_at
two_far xs rest more place e =
    let e' : drop place xs ≡ bits 2 0 ++ (bits 2 0 ++ (more ++ rest)) = e ∙ simp append_assoc in
    with_field xs _ place 2 0 (place + 2) e' (omega arith) (omega arith) refl λ f1 e1.
    with_field xs _ (place + 2) 2 0 (place + 4) e1 (omega arith) (omega arith) (omega arith) λ f2 e2.
    (simp (f1, f2), e2)

two_two_zeros : (xs rest : List ℕ) (place : ℕ) → drop place xs ≡ bits 2 1 ++ rest
    → two_long_at xs place ≡ Some (Pixels 2 0, place + 2)
unfolding two_long_at
two_two_zeros xs rest place e =
    with_field xs _ place 2 1 (place + 2) e (omega arith) (omega arith) refl λ f1 e1. simp f1

two_end : (xs rest : List ℕ) (place : ℕ) → drop place xs ≡ bits 2 0 ++ rest
    → two_long_at xs place ≡ Some (End, place + 2)
unfolding two_long_at
two_end xs rest place e =
    with_field xs _ place 2 0 (place + 2) e (omega arith) (omega arith) refl λ f1 e1. simp f1

two_middle : (xs rest : List ℕ) (place field code : ℕ) → field < 16 → code < 4
    → drop place xs ≡ (bits 2 2 ++ (bits 4 field ++ bits 2 code)) ++ rest
    → two_long_at xs place ≡ Some (Pixels (field + 12) code, place + 8)
unfolding two_long_at
two_middle xs rest place field code h k e =
    let e' : drop place xs ≡ bits 2 2 ++ (bits 4 field ++ (bits 2 code ++ rest)) = e ∙ simp append_assoc in
    with_field xs _ place 2 2 (place + 2) e' (omega arith) (omega arith) refl λ f1 e1.
    with_field xs _ (place + 2) 4 field (place + 6) e1 (omega arith) h (omega arith) λ f2 e2.
    with_field xs _ (place + 6) 2 code (place + 8) e2 (omega arith) k (omega arith) λ f3 e3.
    simp (f1, f2, f3)

two_long : (xs rest : List ℕ) (place field code : ℕ) → field < 256 → code < 4
    → drop place xs ≡ (bits 2 3 ++ (bits 8 field ++ bits 2 code)) ++ rest
    → two_long_at xs place ≡ Some (Pixels (field + 29) code, place + 12)
unfolding two_long_at
two_long xs rest place field code h k e =
    let e' : drop place xs ≡ bits 2 3 ++ (bits 8 field ++ (bits 2 code ++ rest)) = e ∙ simp append_assoc in
    with_field xs _ place 2 3 (place + 2) e' (omega arith) (omega arith) refl λ f1 e1.
    with_field xs _ (place + 2) 8 field (place + 10) e1 (omega arith) h (omega arith) λ f2 e2.
    with_field xs _ (place + 10) 2 code (place + 12) e2 (omega arith) k (omega arith) λ f3 e3.
    simp (f1, f2, f3)

two_spelled : (code : Code) → IsCode Two code → (xs rest : List ℕ) (place : ℕ)
    → drop place xs ≡ spelled Two code ++ rest
    → two_at xs place ≡ Some (Pixels (pixel_count Two code) (colour_of code), place + width_of Two code)
unfolding spelled
two_spelled (pixel code) h xs rest place e = two_pixel xs rest place code h.0 h.1 e
two_spelled one_zero h xs rest place e = two_one_zero xs rest place e
two_spelled two_zeros h xs rest place e =
    let f =
    two_far xs rest (bits 2 1) place e in f.0 ∙ two_two_zeros xs rest (place + 4) f.1
    ∙ moved 2 0 _ _ (omega arith)
two_spelled (zeros field) h xs rest place e = absurd h
two_spelled (short_run field code) h xs rest place e = two_short xs rest place field code h.0 h.1 e
two_spelled (middle_run field code) h xs rest place e =
    let f =
    two_far xs rest (bits 2 2 ++ (bits 4 field ++ bits 2 code)) place e in f.0
    ∙ two_middle xs rest (place + 4) field code h.0 h.1 f.1 ∙ moved (field + 12) code _ _ (omega arith)
two_spelled (long_run field code) h xs rest place e =
    let f =
    two_far xs rest (bits 2 3 ++ (bits 8 field ++ bits 2 code)) place e in f.0
    ∙ two_long xs rest (place + 4) field code h.0 h.1 f.1 ∙ moved (field + 29) code _ _ (omega arith)

two_ending : (xs rest : List ℕ) (place : ℕ) → drop place xs ≡ ending Two ++ rest
    → two_at xs place ≡ Some (End, place + 6)
unfolding ending
two_ending xs rest place e =
    let f = two_far xs rest (bits 2 0) place e in f.0 ∙ two_end xs rest (place + 4) f.1 ∙ ended _ _ (omega arith)

-- four bits
four_pixel : (xs rest : List ℕ) (place code : ℕ) → 0 < code → code < 16
    → drop place xs ≡ bits 4 code ++ rest → four_at xs place ≡ Some (Pixels 1 code, place + 4)
unfolding four_at
four_pixel xs rest place code h k e =
    with_field xs _ place 4 code (place + 4) e (omega arith) k refl λ f1 e1.
    let t1 : eqb code 0 ≡ false = grind (arith, nat_tests) in
    simp (f1, t1)

four_ending : (xs rest : List ℕ) (place : ℕ) → drop place xs ≡ ending Four ++ rest
    → four_at xs place ≡ Some (End, place + 8)
unfolding ending four_at
four_ending xs rest place e =
    let e' : drop place xs ≡ bits 4 0 ++ (bits 4 0 ++ rest) = e ∙ simp append_assoc in
    with_field xs _ place 4 0 (place + 4) e' (omega arith) (omega arith) refl λ f1 e1.
    with_field xs _ (place + 4) 4 0 (place + 8) e1 (omega arith) (omega arith) (omega arith) λ f2 e2.
    simp (f1, f2)

pub zero_ahead : (count field : ℕ) → field < 2 ^ count → bits 1 0 ++ bits count field ≡ bits (1 + count) field
zero_ahead count field h =
    let e : 0 * 2 ^ count + field ≡ field = omega arith in sym (bits-join 1 count 0 field h)
    ∙ ap (bits (1 + count)) e

four_zeros : (xs rest : List ℕ) (place field : ℕ) → 0 < field → field < 8
    → drop place xs ≡ spelled Four (zeros field) ++ rest
    → four_at xs place ≡ Some (Pixels (field + 2) 0, place + 8)
unfolding spelled four_at
four_zeros xs rest place field h k e =
    let e' : drop place xs ≡ bits 4 0 ++ (bits 4 field ++ rest) =
    e ∙ ap (λ (t : List ℕ). (bits 4 0 ++ t) ++ rest) (zero_ahead 3 field k) ∙ simp append_assoc in
    with_field xs _ place 4 0 (place + 4) e' (omega arith) (omega arith) refl λ f1 e1.
    with_field xs _ (place + 4) 4 field (place + 8) e1 (omega arith) (omega arith) (omega arith) λ f2 e2.
    let t1 : eqb field 0 ≡ false = grind (arith, nat_tests) in
    let t2 : ltb field 8 ≡ true = lt-ltb _ _ k in
    simp (f1, f2, t1, t2)

-- behind four bits 0 and four bits that are at least 8
four_far : (xs rest more : List ℕ) (place form : ℕ) → form < 8
    → drop place xs ≡ (bits 4 0 ++ (bits 4 (8 + form) ++ more)) ++ rest
    → (four_at xs place ≡ four_run_at xs (place + 8) form) × (drop (place + 8) xs ≡ more ++ rest)
unfolding four_at
four_far xs rest more place form h e =
    let e' : drop place xs ≡ bits 4 0 ++ (bits 4 (8 + form) ++ (more ++ rest)) = e ∙ simp append_assoc in
    with_field xs _ place 4 0 (place + 4) e' (omega arith) (omega arith) refl λ f1 e1.
    with_field xs _ (place + 4) 4 (8 + form) (place + 8) e1 (omega arith) (omega arith) (omega arith) λ f2 e2.
    let t1 : eqb (8 + form) 0 ≡ false = grind (arith, nat_tests) in
    let t2 : ltb (8 + form) 8 ≡ false = le-ltb _ _ (omega arith) in
    let n : 8 + form - 8 ≡ form = omega arith in
    (simp (f1, f2, t1, t2, n), e2)

four_short : (xs rest : List ℕ) (place field code : ℕ) → field < 4 → code < 16
    → drop place xs ≡ bits 4 code ++ rest
    → four_run_at xs place field ≡ Some (Pixels (field + 4) code, place + 4)
unfolding four_run_at
four_short xs rest place field code h k e =
    with_field xs _ place 4 code (place + 4) e (omega arith) k refl λ f1 e1.
    let t1 : ltb field 4 ≡ true = lt-ltb _ _ h in
    simp (f1, t1)

four_middle : (xs rest : List ℕ) (place field code : ℕ) → field < 16 → code < 16
    → drop place xs ≡ (bits 4 field ++ bits 4 code) ++ rest
    → four_run_at xs place 6 ≡ Some (Pixels (field + 9) code, place + 8)
unfolding four_run_at
four_middle xs rest place field code h k e =
    let e' : drop place xs ≡ bits 4 field ++ (bits 4 code ++ rest) = e ∙ simp append_assoc in
    with_field xs _ place 4 field (place + 4) e' (omega arith) h refl λ f1 e1.
    with_field xs _ (place + 4) 4 code (place + 8) e1 (omega arith) k (omega arith) λ f2 e2.
    simp (f1, f2)

four_long : (xs rest : List ℕ) (place field code : ℕ) → field < 256 → code < 16
    → drop place xs ≡ (bits 8 field ++ bits 4 code) ++ rest
    → four_run_at xs place 7 ≡ Some (Pixels (field + 25) code, place + 12)
unfolding four_run_at
four_long xs rest place field code h k e =
    let e' : drop place xs ≡ bits 8 field ++ (bits 4 code ++ rest) = e ∙ simp append_assoc in
    with_field xs _ place 8 field (place + 8) e' (omega arith) h refl λ f1 e1.
    with_field xs _ (place + 8) 4 code (place + 12) e1 (omega arith) k (omega arith) λ f2 e2.
    simp (f1, f2)

four_one : (xs : List ℕ) (place : ℕ) → four_run_at xs place 4 ≡ Some (Pixels 1 0, place)
unfolding four_run_at
four_one xs place = refl

four_two : (xs : List ℕ) (place : ℕ) → four_run_at xs place 5 ≡ Some (Pixels 2 0, place)
unfolding four_run_at
four_two xs place = refl

four_spelled : (code : Code) → IsCode Four code → (xs rest : List ℕ) (place : ℕ)
    → drop place xs ≡ spelled Four code ++ rest
    → four_at xs place ≡ Some (Pixels (pixel_count Four code) (colour_of code), place + width_of Four code)
unfolding spelled
four_spelled (pixel code) h xs rest place e = four_pixel xs rest place code h.0 h.1 e
four_spelled one_zero h xs rest place e =
    let f = four_far xs rest [] place 4 (omega arith) (e ∙ simp append_assoc) in f.0 ∙ four_one xs (place + 8)
four_spelled two_zeros h xs rest place e =
    let f = four_far xs rest [] place 5 (omega arith) (e ∙ simp append_assoc) in f.0 ∙ four_two xs (place + 8)
four_spelled (zeros field) h xs rest place e = four_zeros xs rest place field h.0 h.1 e
four_spelled (short_run field code) h xs rest place e =
    let small : field < 4 = h.0 in
    let joined : bits 2 2 ++ (bits 2 field ++ bits 4 code) ≡ bits 4 (8 + field) ++ bits 4 code =
    sym (append_assoc (bits 2 2) (bits 2 field) (bits 4 code))
    ∙ ap (λ (t : List ℕ). t ++ bits 4 code) (sym (bits-join 2 2 2 field h.0)) in
    let f =
    four_far xs rest (bits 4 code) place field (omega arith)
    (e ∙ ap (λ (t : List ℕ). (bits 4 0 ++ t) ++ rest) joined) in
    f.0 ∙ four_short xs rest (place + 8) field code h.0 h.1 f.1 ∙ moved (field + 4) code _ _ (omega arith)
four_spelled (middle_run field code) h xs rest place e =
    let f = four_far xs rest (bits 4 field ++ bits 4 code) place 6 (omega arith) e in
    f.0 ∙ four_middle xs rest (place + 8) field code h.0 h.1 f.1 ∙ moved (field + 9) code _ _ (omega arith)
four_spelled (long_run field code) h xs rest place e =
    let f = four_far xs rest (bits 8 field ++ bits 4 code) place 7 (omega arith) e in
    f.0 ∙ four_long xs rest (place + 8) field code h.0 h.1 f.1 ∙ moved (field + 25) code _ _ (omega arith)

-- eight bits
eight_pixel : (xs rest : List ℕ) (place code : ℕ) → 0 < code → code < 256
    → drop place xs ≡ bits 8 code ++ rest → eight_at xs place ≡ Some (Pixels 1 code, place + 8)
unfolding eight_at
eight_pixel xs rest place code h k e =
    with_field xs _ place 8 code (place + 8) e (omega arith) k refl λ f1 e1.
    let t1 : eqb code 0 ≡ false = grind (arith, nat_tests) in
    simp (f1, t1)

eight_ending : (xs rest : List ℕ) (place : ℕ) → drop place xs ≡ ending Eight ++ rest
    → eight_at xs place ≡ Some (End, place + 16)
unfolding ending eight_at
eight_ending xs rest place e =
    let e' : drop place xs ≡ bits 8 0 ++ (bits 8 0 ++ rest) = e ∙ simp append_assoc in
    with_field xs _ place 8 0 (place + 8) e' (omega arith) (omega arith) refl λ f1 e1.
    with_field xs _ (place + 8) 8 0 (place + 16) e1 (omega arith) (omega arith) (omega arith) λ f2 e2.
    simp (f1, f2)

eight_zeros : (xs rest : List ℕ) (place field : ℕ) → 0 < field → field < 128
    → drop place xs ≡ spelled Eight (zeros field) ++ rest
    → eight_at xs place ≡ Some (Pixels field 0, place + 16)
unfolding spelled eight_at
eight_zeros xs rest place field h k e =
    let e' : drop place xs ≡ bits 8 0 ++ (bits 8 field ++ rest) =
    e ∙ ap (λ (t : List ℕ). (bits 8 0 ++ t) ++ rest) (zero_ahead 7 field k) ∙ simp append_assoc in
    with_field xs _ place 8 0 (place + 8) e' (omega arith) (omega arith) refl λ f1 e1.
    with_field xs _ (place + 8) 8 field (place + 16) e1 (omega arith) (omega arith) (omega arith) λ f2 e2.
    let t1 : eqb field 0 ≡ false = grind (arith, nat_tests) in
    let t2 : ltb field 128 ≡ true = lt-ltb _ _ k in
    simp (f1, f2, t1, t2)

eight_run : (xs rest : List ℕ) (place field code : ℕ) → field < 128 → code < 256
    → drop place xs ≡ spelled Eight (short_run field code) ++ rest
    → eight_at xs place ≡ Some (Pixels field code, place + 24)
unfolding spelled eight_at
eight_run xs rest place field code h k e =
    let joined : bits 1 1 ++ (bits 7 field ++ bits 8 code) ≡ bits 8 (128 + field) ++ bits 8 code =
    sym (append_assoc (bits 1 1) (bits 7 field) (bits 8 code))
    ∙ ap (λ (t : List ℕ). t ++ bits 8 code) (sym (bits-join 1 7 1 field h)) in
    let e' : drop place xs ≡ bits 8 0 ++ (bits 8 (128 + field) ++ (bits 8 code ++ rest)) =
    e ∙ ap (λ (t : List ℕ). (bits 8 0 ++ t) ++ rest) joined ∙ simp append_assoc in
    with_field xs _ place 8 0 (place + 8) e' (omega arith) (omega arith) refl λ f1 e1.
    with_field xs _ (place + 8) 8 (128 + field) (place + 16) e1 (omega arith) (omega arith) (omega arith) λ f2 e2.
    with_field xs _ (place + 16) 8 code (place + 24) e2 (omega arith) k (omega arith) λ f3 e3.
    let t1 : eqb (128 + field) 0 ≡ false = grind (arith, nat_tests) in
    let t2 : ltb (128 + field) 128 ≡ false = le-ltb _ _ (omega arith) in
    let n : 128 + field - 128 ≡ field = omega arith in
    simp (f1, f2, f3, t1, t2, n)

eight_spelled : (code : Code) → IsCode Eight code → (xs rest : List ℕ) (place : ℕ)
    → drop place xs ≡ spelled Eight code ++ rest
    → eight_at xs place ≡ Some (Pixels (pixel_count Eight code) (colour_of code), place + width_of Eight code)
unfolding spelled
eight_spelled (pixel code) h xs rest place e = eight_pixel xs rest place code h.0 h.1 e
eight_spelled one_zero h xs rest place e = absurd h
eight_spelled two_zeros h xs rest place e = absurd h
eight_spelled (zeros field) h xs rest place e = eight_zeros xs rest place field h.0 h.1 e
eight_spelled (short_run field code) h xs rest place e = eight_run xs rest place field code h.0 h.1 e
eight_spelled (middle_run field code) h xs rest place e = absurd h
eight_spelled (long_run field code) h xs rest place e = absurd h

-- a code that stands at a place is read there
pub token_spelled : (depth : Depth) (code : Code) → IsCode depth code → (xs rest : List ℕ) (place : ℕ)
    → drop place xs ≡ spelled depth code ++ rest
    → token_at depth xs place ≡ Some (Pixels (pixel_count depth code) (colour_of code), place + width_of depth code)
token_spelled Two = two_spelled
token_spelled Four = four_spelled
token_spelled Eight = eight_spelled

pub token_ending : (depth : Depth) (xs rest : List ℕ) (place : ℕ) → drop place xs ≡ ending depth ++ rest
    → token_at depth xs place ≡ Some (End, place + end_width depth)
token_ending Two = two_ending
token_ending Four = four_ending
token_ending Eight = eight_ending

-- ---- what is read is spelled so

-- what stands between two places of a string
abbrev pub StandsAt : Depth → List ℕ → ℕ → Token → ℕ → Type 0
StandsAt depth xs place (Pixels count colour) next = (code : Code) × IsCode depth code
    × (pixel_count depth code ≡ count) × (colour_of code ≡ colour)
    × (drop place xs ≡ spelled depth code ++ drop next xs) × (next ≡ place + width_of depth code)
    × (next ≤ length xs)
StandsAt depth xs place End next =
    (drop place xs ≡ ending depth ++ drop next xs) × (next ≡ place + end_width depth) × (next ≤ length xs)

pub cases_option : {A R : Type 0} (o : Option A) → (o ≡ None → R) → ((x : A) → o ≡ Some x → R) → R
cases_option None none some = none refl
cases_option (Some x) none some = some x refl

pub cases_bool : {R : Type 0} (b : Bool) → (b ≡ true → R) → (b ≡ false → R) → R
cases_bool true left right = left refl
cases_bool false left right = right refl

pub keep : {P R : Type 0} → P → (P → R) → R
keep p k = k p

pub nothing : {A R : Type 0} (x : A) → None ≡ Some x → R
nothing x e = absurd cc

pub leaf : (depth : Depth) (xs : List ℕ) (place : ℕ) (token : Token) (next : ℕ) (found : Token × ℕ)
    → ◌≡◌ {A = Option (Token × ℕ)} (Some (token, next)) (Some found) → StandsAt depth xs place token next
    → StandsAt depth xs place found.0 found.1
leaf depth xs place token next found e h =
    let f : ◌≡◌ {A = Token × ℕ} (token, next) found = cc in subst
    (λ (p : Token × ℕ). StandsAt depth xs place p.0 p.1) f h

-- the bits so far and one field more
pub grow : (xs bits_so_far : List ℕ) (place p width v q : ℕ) → drop place xs ≡ bits_so_far ++ drop p xs
    → Reads xs p width v → p + width ≡ q → drop place xs ≡ (bits_so_far ++ bits width v) ++ drop q xs
grow xs text place p width v q e r n =
    e ∙ ap (λ (t : List ℕ). text ++ t) (r.text ∙ ap (λ (i : ℕ). bits width v ++ drop i xs) n)
    ∙ sym (append_assoc text (bits width v) (drop q xs))

-- the bits so far, as they are spelled
pub as_spelled : (xs text other : List ℕ) (place q : ℕ) → text ≡ other → drop place xs ≡ text ++ drop q xs
    → drop place xs ≡ other ++ drop q xs
as_spelled xs text other place q e h = h ∙ ap (λ (t : List ℕ). t ++ drop q xs) e

pub within_to : (xs : List ℕ) (p width v q : ℕ) → Reads xs p width v → p + width ≡ q → q ≤ length xs
within_to xs p width v q r e = subst (λ (i : ℕ). i ≤ length xs) e r.within

eight_run_text : (second code : ℕ) → 128 ≤ second → second < 256
    → (bits 8 0 ++ bits 8 second) ++ bits 8 code ≡ spelled Eight (short_run (second - 128) code)
unfolding spelled
eight_run_text second code h k =
    let e : 1 * 2 ^ 7 + (second - 128) ≡ second = omega arith in
    let j : bits 8 second ≡ bits 1 1 ++ bits 7 (second - 128) =
    ap (bits 8) (sym e) ∙ bits-join 1 7 1 (second - 128) (omega arith) in
    ap (λ (t : List ℕ). (bits 8 0 ++ t) ++ bits 8 code) j ∙ simp append_assoc

eight_zeros_text : (second : ℕ) → second < 128 → bits 8 0 ++ bits 8 second ≡ spelled Eight (zeros second)
unfolding spelled
eight_zeros_text second h = ap (λ (t : List ℕ). bits 8 0 ++ t) (sym (zero_ahead 7 second h))

eight_end_text : bits 8 0 ++ bits 8 0 ≡ ending Eight
unfolding ending
eight_end_text = refl

pub eight_reads : (xs : List ℕ) (place : ℕ) (found : Token × ℕ) → IsBits xs
    → eight_at xs place ≡ Some found
    → StandsAt Eight xs place found.0 found.1
unfolding eight_at spelled
eight_reads xs place found h e =
    cases_option (field_at xs place 8) (λ f. nothing found (rw f at e)) λ first f1.
    keep (rw f1 at e) λ e1.
    keep (field_reads xs place 8 first h f1) λ r1.
    cases_bool (eqb first 0)
    (λ t. keep (rw t at e1) λ e2.
    keep (eqb-true first 0 t) λ zero1.
    keep (r1.text ∙ ap (λ (n : ℕ). bits 8 n ++ drop (place + 8) xs) zero1) λ t1.
    cases_option (field_at xs (place + 8) 8) (λ f. nothing found (rw f at e2)) λ second f2.
    keep (rw f2 at e2) λ e3.
    keep (field_reads xs (place + 8) 8 second h f2) λ r2.
    keep (within_to xs (place + 8) 8 second (place + 16) r2 (omega arith)) λ w2.
    keep (grow xs (bits 8 0) place (place + 8) 8 second (place + 16) t1 r2 (omega arith)) λ t2.
    cases_bool (eqb second 0)
    (λ u. leaf Eight xs place End (place + 16) found (rw u at e3) (
      as_spelled xs _ _ place (place + 16)
          (ap (λ (n : ℕ). bits 8 0 ++ bits 8 n) (eqb-true second 0 u) ∙ eight_end_text) t2,
      refl,
      w2,
    ))
    (λ u. keep (rw u at e3) λ e4.
    cases_bool (ltb second 128)
    (λ v. leaf Eight xs place (Pixels second 0) (place + 16) found (rw v at e4) (
      zeros second,
      (omega (arith, eqb-false second 0 u), ltb-true second 128 v),
      refl,
      refl,
      as_spelled xs _ _ place
          (place + 16) (eight_zeros_text second (ltb-true second 128 v)) t2,
      refl,
      w2,
    ))
    (λ v. keep (rw v at e4) λ e5.
    cases_option (field_at xs (place + 16) 8) (λ f. nothing found (rw f at e5)) λ code f3.
    keep (field_reads xs (place + 16) 8 code h f3) λ r3.
    keep (grow xs _ place (place + 16) 8 code (place + 24) t2 r3 (omega arith)) λ t3.
    keep (ltb-false second 128 v) λ high.
    leaf Eight xs place (Pixels (second - 128) code) (place + 24) found (rw f3 at e5) (
      short_run (second - 128) code,
      (omega (arith, r2.fits), r3.fits),
      refl,
      refl,
      as_spelled xs _ _ place
          (place + 24) (eight_run_text second code high r2.fits) t3,
      refl,
      within_to xs (place + 16) 8 code (place + 24)
          r3 (omega arith),
    ))))
    (λ t. leaf Eight xs place (Pixels 1 first) (place + 8) found (rw t at e1)
    (pixel first, (omega (arith, eqb-false first 0 t), r1.fits), refl, refl, r1.text, refl, r1.within))
