-- A code that is spelled at a place is read there, and the end.
use Rattle.std.proofs.Common.{◌≡◌, ◌∙◌, refl, sym, ap, ℕ, ◌+◌, ◌-◌, ◌*◌, ◌/◌, ◌%◌, ◌<◌, true, false, eqb, ltb, List, [], ◌++◌, drop, Option, Some, append_assoc, arith}
use Rattle.std.proofs.lemmas.Bool.{le-ltb, lt-ltb}
use Rattle.std.proofs.lemmas.Bool.Decides.{nat_tests}
use Rattle.sub_base.specs.declared.depth.Depth.{Depth}
use Rattle.sub_base.specs.declared.depth.Depth.TheVariants.{Two, Four, Eight}
use Rattle.sub_base.specs.Depth.{bits_of as code_bits}
use Rattle.stream_syntax.specs.PixelCodes.{bits, bits_of, Code, pixel, one_zero, two_zeros, zeros, short_run, middle_run, long_run, IsCode, pixel_count, colour_of, spelled, ending}
use Rattle.code_strings.proofs.Bits.{bits-add, bits-mod, bits-join}
use Rattle.code_strings.proofs.Tokens.{short_two, zero_ahead}
use Rattle.code_strings.specs.declared.token.Token.{Token}
use Rattle.code_strings.specs.declared.token.Token.TheVariants.{Pixels, End}
use Rattle.string_painting.specs.Private.Reading.{two_at, two_far_at, two_middle_at, two_long_at, four_at, four_far_at, eight_at, token_at}
use Rattle.string_painting.specs.Private.Spelling.{field_count, end_count}
use Rattle.string_painting.proofs.Fields.{with_field}

moved : (count code a b : ℕ) → a ≡ b
    → ◌≡◌ {A = Option (Token × ℕ)} (Some (Pixels count code, a)) (Some (Pixels count code, b))
moved count code a b e = ap (λ (i : ℕ). Some (Pixels count code, i)) e

ended : (a b : ℕ) → a ≡ b → ◌≡◌ {A = Option (Token × ℕ)} (Some (End, a)) (Some (End, b))
ended a b e = ap (λ (i : ℕ). Some (End, i)) e

-- eight bits
eight_pixel : (bytes rest : List ℕ) (place code : ℕ) → 0 < code → code < 256
    → drop (8 * place) (bits_of bytes) ≡ bits 8 code ++ rest → eight_at bytes place ≡ Some (Pixels 1 code, place + 1)
unfolding eight_at
eight_pixel bytes rest place code h k e =
    with_field Eight bytes rest place code (place + 1) e k refl λ f1 e1.
    let t1 : eqb code 0 ≡ false = grind (arith, nat_tests) in
    simp (f1, t1)

eight_ending : (bytes rest : List ℕ) (place : ℕ) → drop (8 * place) (bits_of bytes) ≡ ending Eight ++ rest
    → eight_at bytes place ≡ Some (End, place + 2)
unfolding ending eight_at
eight_ending bytes rest place e =
    let e' : drop (8 * place) (bits_of bytes) ≡ bits 8 0 ++ (bits 8 0 ++ rest) = e ∙ simp append_assoc in
    with_field Eight bytes _ place 0 (place + 1) e' (omega arith) refl λ f1 e1.
    with_field Eight bytes _ (place + 1) 0 (place + 2) e1 (omega arith) (omega arith) λ f2 e2.
    simp (f1, f2)

eight_zeros : (bytes rest : List ℕ) (place field : ℕ) → 0 < field → field < 128
    → drop (8 * place) (bits_of bytes) ≡ spelled Eight (zeros field) ++ rest
    → eight_at bytes place ≡ Some (Pixels field 0, place + 2)
unfolding spelled eight_at
eight_zeros bytes rest place field h k e =
    let e' : drop (8 * place) (bits_of bytes) ≡ bits 8 0 ++ (bits 8 field ++ rest) =
    e ∙ ap (λ (t : List ℕ). (bits 8 0 ++ t) ++ rest) (zero_ahead 7 field k) ∙ simp append_assoc in
    with_field Eight bytes _ place 0 (place + 1) e' (omega arith) refl λ f1 e1.
    with_field Eight bytes _ (place + 1) field (place + 2) e1 (omega arith) (omega arith) λ f2 e2.
    let t1 : eqb field 0 ≡ false = grind (arith, nat_tests) in
    let t2 : ltb field 128 ≡ true = lt-ltb _ _ k in
    simp (f1, f2, t1, t2)

eight_run : (bytes rest : List ℕ) (place field code : ℕ) → field < 128 → code < 256
    → drop (8 * place) (bits_of bytes) ≡ spelled Eight (short_run field code) ++ rest
    → eight_at bytes place ≡ Some (Pixels field code, place + 3)
unfolding spelled eight_at
eight_run bytes rest place field code h k e =
    let joined : bits 1 1 ++ (bits 7 field ++ bits 8 code) ≡ bits 8 (128 + field) ++ bits 8 code =
    sym (append_assoc (bits 1 1) (bits 7 field) (bits 8 code))
    ∙ ap (λ (t : List ℕ). t ++ bits 8 code) (sym (bits-join 1 7 1 field h)) in
    let e' : drop (8 * place) (bits_of bytes) ≡ bits 8 0 ++ (bits 8 (128 + field) ++ (bits 8 code ++ rest)) =
    e ∙ ap (λ (t : List ℕ). (bits 8 0 ++ t) ++ rest) joined ∙ simp append_assoc in
    with_field Eight bytes _ place 0 (place + 1) e' (omega arith) refl λ f1 e1.
    with_field Eight bytes _ (place + 1) (128 + field) (place + 2) e1 (omega arith) (omega arith) λ f2 e2.
    with_field Eight bytes _ (place + 2) code (place + 3) e2 k (omega arith) λ f3 e3.
    let t1 : eqb (128 + field) 0 ≡ false = grind (arith, nat_tests) in
    let t2 : ltb (128 + field) 128 ≡ false = le-ltb _ _ (omega arith) in
    let n : 128 + field - 128 ≡ field = omega arith in
    simp (f1, f2, f3, t1, t2, n)

eight_spelled : (code : Code) → IsCode Eight code → (bytes rest : List ℕ) (place : ℕ)
    → drop (8 * place) (bits_of bytes) ≡ spelled Eight code ++ rest
    → eight_at bytes place
    ≡ Some (Pixels (pixel_count Eight code) (colour_of code), place + field_count Eight code)
unfolding spelled
eight_spelled (pixel code) h bytes rest place e = eight_pixel bytes rest place code h.0 h.1 e
eight_spelled one_zero h bytes rest place e = absurd h
eight_spelled two_zeros h bytes rest place e = absurd h
eight_spelled (zeros field) h bytes rest place e = eight_zeros bytes rest place field h.0 h.1 e
eight_spelled (short_run field code) h bytes rest place e = eight_run bytes rest place field code h.0 h.1 e
eight_spelled (middle_run field code) h bytes rest place e = absurd h
eight_spelled (long_run field code) h bytes rest place e = absurd h

-- four bits
four_pixel : (bytes rest : List ℕ) (place code : ℕ) → 0 < code → code < 16
    → drop (4 * place) (bits_of bytes) ≡ bits 4 code ++ rest → four_at bytes place ≡ Some (Pixels 1 code, place + 1)
unfolding four_at
four_pixel bytes rest place code h k e =
    with_field Four bytes rest place code (place + 1) e k refl λ f1 e1.
    let t1 : eqb code 0 ≡ false = grind (arith, nat_tests) in
    simp (f1, t1)

four_ending : (bytes rest : List ℕ) (place : ℕ) → drop (4 * place) (bits_of bytes) ≡ ending Four ++ rest
    → four_at bytes place ≡ Some (End, place + 2)
unfolding ending four_at
four_ending bytes rest place e =
    let e' : drop (4 * place) (bits_of bytes) ≡ bits 4 0 ++ (bits 4 0 ++ rest) = e ∙ simp append_assoc in
    with_field Four bytes _ place 0 (place + 1) e' (omega arith) refl λ f1 e1.
    with_field Four bytes _ (place + 1) 0 (place + 2) e1 (omega arith) (omega arith) λ f2 e2.
    simp (f1, f2)

four_zeros : (bytes rest : List ℕ) (place field : ℕ) → 0 < field → field < 8
    → drop (4 * place) (bits_of bytes) ≡ spelled Four (zeros field) ++ rest
    → four_at bytes place ≡ Some (Pixels (field + 2) 0, place + 2)
unfolding spelled four_at
four_zeros bytes rest place field h k e =
    let e' : drop (4 * place) (bits_of bytes) ≡ bits 4 0 ++ (bits 4 field ++ rest) =
    e ∙ ap (λ (t : List ℕ). (bits 4 0 ++ t) ++ rest) (zero_ahead 3 field k) ∙ simp append_assoc in
    with_field Four bytes _ place 0 (place + 1) e' (omega arith) refl λ f1 e1.
    with_field Four bytes _ (place + 1) field (place + 2) e1 (omega arith) (omega arith) λ f2 e2.
    let t1 : eqb field 0 ≡ false = grind (arith, nat_tests) in
    let t2 : ltb field 8 ≡ true = lt-ltb _ _ k in
    simp (f1, f2, t1, t2)

-- behind four bits 0 and four bits that are at least 8
four_far : (bytes rest more : List ℕ) (place form : ℕ) → form < 8
    → drop (4 * place) (bits_of bytes) ≡ (bits 4 0 ++ (bits 4 (8 + form) ++ more)) ++ rest
    → (four_at bytes place ≡ four_far_at bytes (place + 2) form)
    × (drop (4 * (place + 2)) (bits_of bytes) ≡ more ++ rest)
unfolding four_at
four_far bytes rest more place form h e =
    let e' : drop (4 * place) (bits_of bytes) ≡ bits 4 0 ++ (bits 4 (8 + form) ++ (more ++ rest)) =
    e ∙ simp append_assoc in
    with_field Four bytes _ place 0 (place + 1) e' (omega arith) refl λ f1 e1.
    with_field Four bytes _ (place + 1) (8 + form) (place + 2) e1 (omega arith) (omega arith) λ f2 e2.
    let t1 : eqb (8 + form) 0 ≡ false = grind (arith, nat_tests) in
    let t2 : ltb (8 + form) 8 ≡ false = le-ltb _ _ (omega arith) in
    let n : 8 + form - 8 ≡ form = omega arith in
    (simp (f1, f2, t1, t2, n), e2)

four_short : (bytes rest : List ℕ) (place field code : ℕ) → field < 4 → code < 16
    → drop (4 * place) (bits_of bytes) ≡ bits 4 code ++ rest
    → four_far_at bytes place field ≡ Some (Pixels (field + 4) code, place + 1)
unfolding four_far_at
four_short bytes rest place field code h k e =
    with_field Four bytes rest place code (place + 1) e k refl λ f1 e1.
    let t1 : ltb field 4 ≡ true = lt-ltb _ _ h in
    simp (f1, t1)

four_middle : (bytes rest : List ℕ) (place field code : ℕ) → field < 16 → code < 16
    → drop (4 * place) (bits_of bytes) ≡ (bits 4 field ++ bits 4 code) ++ rest
    → four_far_at bytes place 6 ≡ Some (Pixels (field + 9) code, place + 2)
unfolding four_far_at
four_middle bytes rest place field code h k e =
    let e' : drop (4 * place) (bits_of bytes) ≡ bits 4 field ++ (bits 4 code ++ rest) = e ∙ simp append_assoc in
    with_field Four bytes _ place field (place + 1) e' h refl λ f1 e1.
    with_field Four bytes _ (place + 1) code (place + 2) e1 k (omega arith) λ f2 e2.
    simp (f1, f2)

-- eight bits as two fields of four
two_fours : (field : ℕ) → bits 8 field ≡ bits 4 (field / 16) ++ bits 4 (field % 16)
two_fours field = bits-add 4 4 field ∙ ap (λ (t : List ℕ). bits 4 (field / 16) ++ t) (sym (bits-mod 4 field))

four_long : (bytes rest : List ℕ) (place field code : ℕ) → field < 256 → code < 16
    → drop (4 * place) (bits_of bytes) ≡ (bits 8 field ++ bits 4 code) ++ rest
    → four_far_at bytes place 7 ≡ Some (Pixels (field + 25) code, place + 3)
unfolding four_far_at
four_long bytes rest place field code h k e =
    let e' : drop (4 * place) (bits_of bytes)
    ≡ bits 4 (field / 16) ++ (bits 4 (field % 16) ++ (bits 4 code ++ rest)) =
    e ∙ ap (λ (t : List ℕ). (t ++ bits 4 code) ++ rest) (two_fours field) ∙ simp append_assoc in
    with_field Four bytes _ place (field / 16) (place + 1) e' (omega arith) refl λ f1 e1.
    with_field Four bytes _ (place + 1) (field % 16) (place + 2) e1 (omega arith) (omega arith) λ f2 e2.
    with_field Four bytes _ (place + 2) code (place + 3) e2 k (omega arith) λ f3 e3.
    let n : field / 16 * 16 + field % 16 + 25 ≡ field + 25 = omega arith in
    simp (f1, f2, f3, n)

four_one : (bytes : List ℕ) (place : ℕ) → four_far_at bytes place 4 ≡ Some (Pixels 1 0, place)
unfolding four_far_at
four_one bytes place = refl

four_two : (bytes : List ℕ) (place : ℕ) → four_far_at bytes place 5 ≡ Some (Pixels 2 0, place)
unfolding four_far_at
four_two bytes place = refl

four_spelled : (code : Code) → IsCode Four code → (bytes rest : List ℕ) (place : ℕ)
    → drop (4 * place) (bits_of bytes) ≡ spelled Four code ++ rest
    → four_at bytes place ≡ Some (Pixels (pixel_count Four code) (colour_of code), place + field_count Four code)
unfolding spelled
four_spelled (pixel code) h bytes rest place e = four_pixel bytes rest place code h.0 h.1 e
four_spelled one_zero h bytes rest place e =
    let f = four_far bytes rest [] place 4 (omega arith) (e ∙ simp append_assoc) in f.0 ∙ four_one bytes (place + 2)
four_spelled two_zeros h bytes rest place e =
    let f = four_far bytes rest [] place 5 (omega arith) (e ∙ simp append_assoc) in f.0 ∙ four_two bytes (place + 2)
four_spelled (zeros field) h bytes rest place e = four_zeros bytes rest place field h.0 h.1 e
four_spelled (short_run field code) h bytes rest place e =
    let small : field < 4 = h.0 in
    let joined : bits 2 2 ++ (bits 2 field ++ bits 4 code) ≡ bits 4 (8 + field) ++ bits 4 code =
    sym (append_assoc (bits 2 2) (bits 2 field) (bits 4 code))
    ∙ ap (λ (t : List ℕ). t ++ bits 4 code) (sym (bits-join 2 2 2 field h.0)) in
    let f =
    four_far bytes rest (bits 4 code) place field (omega arith)
    (e ∙ ap (λ (t : List ℕ). (bits 4 0 ++ t) ++ rest) joined) in
    f.0 ∙ four_short bytes rest (place + 2) field code h.0 h.1 f.1 ∙ moved (field + 4) code _ _ (omega arith)
four_spelled (middle_run field code) h bytes rest place e =
    let f = four_far bytes rest (bits 4 field ++ bits 4 code) place 6 (omega arith) e in
    f.0 ∙ four_middle bytes rest (place + 2) field code h.0 h.1 f.1 ∙ moved (field + 9) code _ _ (omega arith)
four_spelled (long_run field code) h bytes rest place e =
    let f = four_far bytes rest (bits 8 field ++ bits 4 code) place 7 (omega arith) e in
    f.0 ∙ four_long bytes rest (place + 2) field code h.0 h.1 f.1 ∙ moved (field + 25) code _ _ (omega arith)

-- two bits
two_pixel : (bytes rest : List ℕ) (place code : ℕ) → 0 < code → code < 4
    → drop (2 * place) (bits_of bytes) ≡ spelled Two (pixel code) ++ rest
    → two_at bytes place ≡ Some (Pixels 1 code, place + 1)
unfolding spelled two_at
two_pixel bytes rest place code h k e =
    with_field Two bytes rest place code (place + 1) e k refl λ f1 e1.
    let t1 : eqb code 0 ≡ false = grind (arith, nat_tests) in
    simp (f1, t1)

two_one_zero : (bytes rest : List ℕ) (place : ℕ) → drop (2 * place) (bits_of bytes) ≡ spelled Two one_zero ++ rest
    → two_at bytes place ≡ Some (Pixels 1 0, place + 2)
unfolding spelled two_at
two_one_zero bytes rest place e =
    let e' : drop (2 * place) (bits_of bytes) ≡ bits 2 0 ++ (bits 2 1 ++ rest) = e ∙ simp append_assoc in
    with_field Two bytes _ place 0 (place + 1) e' (omega arith) refl λ f1 e1.
    with_field Two bytes _ (place + 1) 1 (place + 2) e1 (omega arith) (omega arith) λ f2 e2.
    simp (f1, f2)

two_short : (bytes rest : List ℕ) (place field code : ℕ) → field < 8 → code < 4
    → drop (2 * place) (bits_of bytes) ≡ spelled Two (short_run field code) ++ rest
    → two_at bytes place ≡ Some (Pixels (field + 3) code, place + 4)
unfolding spelled two_at
two_short bytes rest place field code h k e =
    let e' : drop (2 * place) (bits_of bytes)
    ≡ bits 2 0 ++ (bits 2 (field / 4 + 2) ++ (bits 2 (field % 4) ++ (bits 2 code ++ rest))) =
    e ∙ ap (λ (t : List ℕ). (bits 2 0 ++ t) ++ rest)
    (sym (append_assoc (bits 1 1) (bits 3 field) (bits 2 code))
    ∙ ap (λ (t : List ℕ). t ++ bits 2 code) (short_two field h)) ∙ simp append_assoc in
    with_field Two bytes _ place 0 (place + 1) e' (omega arith) refl λ f1 e1.
    with_field Two bytes _ (place + 1) (field / 4 + 2) (place + 2) e1 (omega arith) (omega arith) λ f2 e2.
    with_field Two bytes _ (place + 2) (field % 4) (place + 3) e2 (omega arith) (omega arith) λ f3 e3.
    with_field Two bytes _ (place + 3) code (place + 4) e3 k (omega arith) λ f4 e4.
    let t1 : eqb (field / 4 + 2) 0 ≡ false = grind (arith, nat_tests) in
    let t2 : eqb (field / 4 + 2) 1 ≡ false = grind (arith, nat_tests) in
    let n : (field / 4 + 2 - 2) * 4 + field % 4 + 3 ≡ field + 3 = omega arith in
    simp (f1, f2, f3, f4, t1, t2, n)

-- behind four bits 0
two_far : (bytes rest more : List ℕ) (place : ℕ)
    → drop (2 * place) (bits_of bytes) ≡ (bits 2 0 ++ (bits 2 0 ++ more)) ++ rest
    → (two_at bytes place ≡ two_far_at bytes (place + 2)) × (drop (2 * (place + 2)) (bits_of bytes) ≡ more ++ rest)
unfolding two_at
two_far bytes rest more place e =
    let e' : drop (2 * place) (bits_of bytes) ≡ bits 2 0 ++ (bits 2 0 ++ (more ++ rest)) = e ∙ simp append_assoc in
    with_field Two bytes _ place 0 (place + 1) e' (omega arith) refl λ f1 e1.
    with_field Two bytes _ (place + 1) 0 (place + 2) e1 (omega arith) (omega arith) λ f2 e2.
    (simp (f1, f2), e2)

two_two_zeros : (bytes rest : List ℕ) (place : ℕ) → drop (2 * place) (bits_of bytes) ≡ bits 2 1 ++ rest
    → two_far_at bytes place ≡ Some (Pixels 2 0, place + 1)
unfolding two_far_at
two_two_zeros bytes rest place e =
    with_field Two bytes rest place 1 (place + 1) e (omega arith) refl λ f1 e1. simp f1

two_end : (bytes rest : List ℕ) (place : ℕ) → drop (2 * place) (bits_of bytes) ≡ bits 2 0 ++ rest
    → two_far_at bytes place ≡ Some (End, place + 1)
unfolding two_far_at
two_end bytes rest place e =
    with_field Two bytes rest place 0 (place + 1) e (omega arith) refl λ f1 e1. simp f1

-- four bits as two fields of two, and eight as four
two_twos : (field : ℕ) → bits 4 field ≡ bits 2 (field / 4) ++ bits 2 (field % 4)
two_twos field = bits-add 2 2 field ∙ ap (λ (t : List ℕ). bits 2 (field / 4) ++ t) (sym (bits-mod 2 field))

four_twos : (field : ℕ)
    → bits 8 field ≡ bits 2 (field / 64) ++ (bits 2 (field / 16 % 4) ++ (bits 2 (field / 4 % 4) ++ bits 2 (field % 4)))
four_twos field =
    let a : field / 16 / 4 ≡ field / 64 = omega arith in
    let b : field % 16 / 4 ≡ field / 4 % 4 = omega arith in
    let d : field % 16 % 4 ≡ field % 4 = omega arith in
    two_fours field
    ∙ ap (λ (t : List ℕ). t ++ bits 4 (field % 16)) (two_twos (field / 16))
    ∙ ap (λ (t : List ℕ). (bits 2 (field / 16 / 4) ++ bits 2 (field / 16 % 4)) ++ t) (two_twos (field % 16))
    ∙ append_assoc (bits 2 (field / 16 / 4)) (bits 2 (field / 16 % 4))
    (bits 2 (field % 16 / 4) ++ bits 2 (field % 16 % 4))
    ∙ ap (λ (n : ℕ). bits 2 n ++ (bits 2 (field / 16 % 4) ++ (bits 2 (field % 16 / 4) ++ bits 2 (field % 16 % 4)))) a
    ∙ ap (λ (n : ℕ). bits 2 (field / 64) ++ (bits 2 (field / 16 % 4) ++ (bits 2 n ++ bits 2 (field % 16 % 4)))) b
    ∙ ap (λ (n : ℕ). bits 2 (field / 64) ++ (bits 2 (field / 16 % 4) ++ (bits 2 (field / 4 % 4) ++ bits 2 n))) d

two_middle : (bytes rest : List ℕ) (place field code : ℕ) → field < 16 → code < 4
    → drop (2 * place) (bits_of bytes) ≡ (bits 2 2 ++ (bits 4 field ++ bits 2 code)) ++ rest
    → two_far_at bytes place ≡ Some (Pixels (field + 12) code, place + 4)
unfolding two_far_at two_middle_at
two_middle bytes rest place field code h k e =
    let e' : drop (2 * place) (bits_of bytes)
    ≡ bits 2 2 ++ (bits 2 (field / 4) ++ (bits 2 (field % 4) ++ (bits 2 code ++ rest))) =
    e ∙ ap (λ (t : List ℕ). (bits 2 2 ++ (t ++ bits 2 code)) ++ rest) (two_twos field) ∙ simp append_assoc in
    with_field Two bytes _ place 2 (place + 1) e' (omega arith) refl λ f1 e1.
    with_field Two bytes _ (place + 1) (field / 4) (place + 1 + 1) e1 (omega arith) refl λ f2 e2.
    with_field Two bytes _ (place + 1 + 1) (field % 4) (place + 1 + 2) e2 (omega arith) (omega arith) λ f3 e3.
    with_field Two bytes _ (place + 1 + 2) code (place + 1 + 3) e3 k (omega arith) λ f4 e4.
    let n : field / 4 * 4 + field % 4 + 12 ≡ field + 12 = omega arith in
    let g : two_far_at bytes place ≡ Some (Pixels (field + 12) code, place + 1 + 3) = simp (f1, f2, f3, f4, n) in
    g ∙ moved (field + 12) code _ _ (omega arith)

two_long : (bytes rest : List ℕ) (place field code : ℕ) → field < 256 → code < 4
    → drop (2 * place) (bits_of bytes) ≡ (bits 2 3 ++ (bits 8 field ++ bits 2 code)) ++ rest
    → two_far_at bytes place ≡ Some (Pixels (field + 29) code, place + 6)
unfolding two_far_at two_long_at
two_long bytes rest place field code h k e =
    let e' : drop (2 * place) (bits_of bytes)
    ≡ bits 2 3 ++ (bits 2 (field / 64) ++ (bits 2 (field / 16 % 4) ++ (bits 2 (field / 4 % 4)
    ++ (bits 2 (field % 4) ++ (bits 2 code ++ rest))))) =
    e ∙ ap (λ (t : List ℕ). (bits 2 3 ++ (t ++ bits 2 code)) ++ rest) (four_twos field) ∙ simp append_assoc in
    with_field Two bytes _ place 3 (place + 1) e' (omega arith) refl λ f1 e1.
    with_field Two bytes _ (place + 1) (field / 64) (place + 1 + 1) e1 (omega arith) refl λ f2 e2.
    with_field Two bytes _ (place + 1 + 1) (field / 16 % 4) (place + 1 + 2) e2 (omega arith) (omega arith) λ f3 e3.
    with_field Two bytes _ (place + 1 + 2) (field / 4 % 4) (place + 1 + 3) e3 (omega arith) (omega arith) λ f4 e4.
    with_field Two bytes _ (place + 1 + 3) (field % 4) (place + 1 + 4) e4 (omega arith) (omega arith) λ f5 e5.
    with_field Two bytes _ (place + 1 + 4) code (place + 1 + 5) e5 k (omega arith) λ f6 e6.
    let n : field / 64 * 64 + field / 16 % 4 * 16 + field / 4 % 4 * 4 + field % 4 + 29 ≡ field + 29 = omega arith in
    let g : two_far_at bytes place ≡ Some (Pixels (field + 29) code, place + 1 + 5) =
    simp (f1, f2, f3, f4, f5, f6, n) in
    g ∙ moved (field + 29) code _ _ (omega arith)

two_spelled : (code : Code) → IsCode Two code → (bytes rest : List ℕ) (place : ℕ)
    → drop (2 * place) (bits_of bytes) ≡ spelled Two code ++ rest
    → two_at bytes place ≡ Some (Pixels (pixel_count Two code) (colour_of code), place + field_count Two code)
unfolding spelled
two_spelled (pixel code) h bytes rest place e = two_pixel bytes rest place code h.0 h.1 e
two_spelled one_zero h bytes rest place e = two_one_zero bytes rest place e
two_spelled two_zeros h bytes rest place e =
    let f = two_far bytes rest (bits 2 1) place e in
    f.0 ∙ two_two_zeros bytes rest (place + 2) f.1 ∙ moved 2 0 _ _ (omega arith)
two_spelled (zeros field) h bytes rest place e = absurd h
two_spelled (short_run field code) h bytes rest place e = two_short bytes rest place field code h.0 h.1 e
two_spelled (middle_run field code) h bytes rest place e =
    let f = two_far bytes rest (bits 2 2 ++ (bits 4 field ++ bits 2 code)) place e in
    f.0 ∙ two_middle bytes rest (place + 2) field code h.0 h.1 f.1 ∙ moved (field + 12) code _ _ (omega arith)
two_spelled (long_run field code) h bytes rest place e =
    let f = two_far bytes rest (bits 2 3 ++ (bits 8 field ++ bits 2 code)) place e in
    f.0 ∙ two_long bytes rest (place + 2) field code h.0 h.1 f.1 ∙ moved (field + 29) code _ _ (omega arith)

two_ending : (bytes rest : List ℕ) (place : ℕ) → drop (2 * place) (bits_of bytes) ≡ ending Two ++ rest
    → two_at bytes place ≡ Some (End, place + 3)
unfolding ending
two_ending bytes rest place e =
    let f = two_far bytes rest (bits 2 0) place e in
    f.0 ∙ two_end bytes rest (place + 2) f.1 ∙ ended _ _ (omega arith)

-- a code that stands at a place is read there
pub code_stands : (depth : Depth) (code : Code) → IsCode depth code → (bytes rest : List ℕ) (place : ℕ)
    → drop (code_bits depth * place) (bits_of bytes) ≡ spelled depth code ++ rest
    → token_at depth bytes place
    ≡ Some (Pixels (pixel_count depth code) (colour_of code), place + field_count depth code)
code_stands Two = two_spelled
code_stands Four = four_spelled
code_stands Eight = eight_spelled

pub end_stands : (depth : Depth) (bytes rest : List ℕ) (place : ℕ)
    → drop (code_bits depth * place) (bits_of bytes) ≡ ending depth ++ rest
    → token_at depth bytes place ≡ Some (End, place + end_count depth)
end_stands Two = two_ending
end_stands Four = four_ending
end_stands Eight = eight_ending
