-- What a byte tells of the codes that begin in it: tables of it, and that the codes are there.
use Rattle.std.proofs.Common.{◌≡◌, ℕ, zero, suc, ◌+◌, ◌-◌, ◌*◌, ◌/◌, ◌%◌, ◌^◌, ◌<◌, ◌≤◌, true, cond, eqb, ltb, List, [], ◌∷◌, length, Some, map, get_or, refl, sym, ap, subst, ◌∙◌, arith}
use Rattle.std.specs.List.{list_all, range_with_len}
use Rattle.std.proofs.lemmas.Bool.{ltb-false, ltb-true, eqb-false}
use Rattle.std.proofs.lemmas.List.FromFn.{get_or-map-range_with_len}
use Rattle.sub_base.specs.declared.depth.Depth.{Depth}
use Rattle.sub_base.specs.declared.depth.Depth.TheVariants.{Two, Four}
use Rattle.stream_syntax.specs.PixelCodes.{bits_of}
use Rattle.code_strings.specs.declared.steps.TheConstants.{TWO_BIT_STEPS, FOUR_BIT_STEPS}
use Rattle.code_strings.specs.declared.token.Token.TheVariants.{Pixels}
use Rattle.code_strings.specs.Reading.{field_at, two_at, two_long_at, four_at, four_run_at, token_at}
use Rattle.code_strings.specs.Reached.{Reached, IsTold}
use Rattle.code_strings.proofs.Bits.{IsBits, IsBits-bits_of, field_within, field_there}
use Rattle.code_strings.proofs.Tokens.{cases_bool, keep}
use Rattle.code_strings.proofs.NarrowTokens.{token_reads}
use Rattle.code_strings.proofs.Strings.{reached_more}

-- ---- one code

-- at this place stands a code that gives pixels, up to the next place
abbrev IsPassed : Depth → List ℕ → ℕ → ℕ → Type 0
IsPassed depth xs place next =
    (count : ℕ) × (colour : ℕ) × (token_at depth xs place ≡ Some (Pixels count colour, next))

-- a walk goes past such a code
pub past_code : (depth : Depth) (bytes : List ℕ) (place count colour next : ℕ) → Reached depth (bits_of bytes) place
    → token_at depth (bits_of bytes) place ≡ Some (Pixels count colour, next) → Reached depth (bits_of bytes) next
past_code depth bytes place count colour next r e =
    reached_more depth (bits_of bytes) place next count colour r
    (token_reads depth (bits_of bytes) place (Pixels count colour, next) (IsBits-bits_of bytes) e)

-- ---- codes of two bits

-- The width of a code whose first bit is one of a byte, by its first, second and third two bits, as far as the byte
-- has them; 0 where an end begins, and where the byte does not tell.
abbrev two_width : ℕ → ℕ → ℕ → ℕ → ℕ
two_width off first second third =
    cond (ltb 6 off) 0 (cond (eqb first 0) (cond (ltb 4 off) 0 (cond (eqb second 0)
    (cond (ltb 2 off) 0 (cond (eqb third 0) 0 (cond (eqb third 1) 6 (cond (eqb third 2) 12 16))))
    (cond (eqb second 1) 4 8))) 2)

abbrev pair_at : ℕ → ℕ → ℕ
pair_at byte off = byte / 2 ^ (6 - off) % 4

two_long_passed : (xs : List ℕ) (p third w : ℕ) → field_at xs p 2 ≡ Some third
    → cond (eqb third 0) 0 (cond (eqb third 1) 6 (cond (eqb third 2) 12 16)) ≡ w → 0 < w → p + w ≤ length xs + 4
    → (count : ℕ) × (colour : ℕ) × (next : ℕ) × (next + 4 ≡ p + w)
    × (two_long_at xs p ≡ Some (Pixels count colour, next))
unfolding two_long_at
two_long_passed xs p third w f is some room =
    cases_bool (eqb third 0) (λ t. absurd (let z = rw t at is in omega (arith, z)))
    (λ t. keep (rw t at is) λ is1.
    cases_bool (eqb third 1)
    (λ u. keep (rw u at is1) λ is2. (2, 0, p + 2, omega (arith, is2), simp (f, t, u)))
    (λ u. keep (rw u at is1) λ is2.
    cases_bool (eqb third 2)
    (λ v. keep (rw v at is2) λ is3.
    field_there xs (p + 2) 4 (omega (arith, is3)) λ field f1.
    field_there xs (p + 6) 2 (omega (arith, is3)) λ code f2.
    (field + 12, code, p + 8, omega (arith, is3), simp (f, t, u, v, f1, f2)))
    (λ v. keep (rw v at is2) λ is3.
    field_there xs (p + 2) 8 (omega (arith, is3)) λ field f1.
    field_there xs (p + 10) 2 (omega (arith, is3)) λ code f2.
    (field + 29, code, p + 12, omega (arith, is3), simp (f, t, u, v, f1, f2)))))

two_passed : (xs : List ℕ) (p off first second third w : ℕ) → (off ≤ 6 → field_at xs p 2 ≡ Some first)
    → (off ≤ 4 → field_at xs (p + 2) 2 ≡ Some second) → (off ≤ 2 → field_at xs (p + 4) 2 ≡ Some third)
    → two_width off first second third ≡ w → 0 < w → p + w ≤ length xs → IsPassed Two xs p (p + w)
unfolding two_at
two_passed xs p off first second third w a b c is some room =
    cases_bool (ltb 6 off) (λ t. absurd (let z = rw t at is in omega (arith, z)))
    (λ t. keep (rw t at is) λ is1.
    keep (a (ltb-false 6 off t)) λ f1.
    cases_bool (eqb first 0)
    (λ t1. keep (rw t1 at is1) λ is2.
    cases_bool (ltb 4 off) (λ u. absurd (let z = rw u at is2 in omega (arith, z)))
    (λ u. keep (rw u at is2) λ is3.
    keep (b (ltb-false 4 off u)) λ f2.
    cases_bool (eqb second 0)
    (λ t2. keep (rw t2 at is3) λ is4.
    cases_bool (ltb 2 off) (λ v. absurd (let z = rw v at is4 in omega (arith, z)))
    (λ v. keep (rw v at is4) λ is5.
    keep (two_long_passed xs (p + 4) third w (c (ltb-false 2 off v)) is5 some (omega arith)) λ l.
    keep (omega (arith, l.3)) λ (n : l.2 ≡ p + w).
    (l.0, l.1, simp (f1, t1, f2, t2) (l.4 ∙ ap (λ (i : ℕ). Some (Pixels l.0 l.1, i)) n))))
    (λ t2. keep (rw t2 at is3) λ is4.
    cases_bool (eqb second 1)
    (λ v. keep (rw v at is4) λ (is5 : 4 ≡ w). (1, 0, simp (f1, t1, f2, t2, v, sym is5)))
    (λ v. keep (rw v at is4) λ (is5 : 8 ≡ w).
    field_there xs (p + 4) 2 (omega (arith, is5)) λ low f3.
    field_there xs (p + 6) 2 (omega (arith, is5)) λ code f4.
    ((second - 2) * 4 + low + 3, code, simp (f1, t1, f2, t2, v, f3, f4, sym is5))))))
    (λ t1. keep (rw t1 at is1) λ (is2 : 2 ≡ w). (1, first, simp (f1, t1, sym is2))))

two_known : (bytes : List ℕ) (place byte off w : ℕ) → field_at (bits_of bytes) place 8 ≡ Some byte
    → two_width off (pair_at byte off) (pair_at byte (off + 2)) (pair_at byte (off + 4)) ≡ w → 0 < w
    → place + off + w ≤ length (bits_of bytes) → Reached Two (bits_of bytes) (place + off)
    → Reached Two (bits_of bytes) (place + off + w)
two_known bytes place byte off w e is some room r =
    let xs = bits_of bytes in
    let ok : IsBits xs = IsBits-bits_of bytes in
    let found =
    two_passed xs (place + off) off (pair_at byte off) (pair_at byte (off + 2)) (pair_at byte (off + 4)) w
    (λ h. field_within xs place (place + off) byte off 2 (6 - off) ok e refl (omega arith) (omega arith))
    (λ h. field_within xs place (place + off + 2) byte (off + 2) 2 (6 - (off + 2)) ok e (omega arith) (omega arith)
    (omega arith))
    (λ h. field_within xs place (place + off + 4) byte (off + 4) 2 (6 - (off + 4)) ok e (omega arith) (omega arith)
    (omega arith)) is some room in
    past_code Two bytes (place + off) found.0 found.1 (place + off + w) r found.2

-- ---- codes of four bits

abbrev four_width : ℕ → ℕ → ℕ → ℕ
four_width off first second =
    cond (ltb 4 off) 0 (cond (eqb first 0) (cond (ltb 0 off) 0 (cond (eqb second 0) 0 (cond (ltb second 8) 8
    (cond (ltb (second - 8) 4) 12 (cond (eqb (second - 8) 4) 8 (cond (eqb (second - 8) 5) 8
    (cond (eqb (second - 8) 6) 16 20))))))) 4)

abbrev half_at : ℕ → ℕ → ℕ
half_at byte off = byte / 2 ^ (4 - off) % 16

four_run_passed : (xs : List ℕ) (p form w : ℕ)
    → cond (ltb form 4) 12 (cond (eqb form 4) 8 (cond (eqb form 5) 8 (cond (eqb form 6) 16 20))) ≡ w
    → p + w ≤ length xs + 8
    → (count : ℕ) × (colour : ℕ) × (next : ℕ) × (next + 8 ≡ p + w)
    × (four_run_at xs p form ≡ Some (Pixels count colour, next))
unfolding four_run_at
four_run_passed xs p form w is room =
    cases_bool (ltb form 4)
    (λ t. keep (rw t at is) λ is1.
    field_there xs p 4 (omega (arith, is1)) λ code f1.
    (form + 4, code, p + 4, omega (arith, is1), simp (t, f1)))
    (λ t. keep (rw t at is) λ is1.
    cases_bool (eqb form 4)
    (λ u. keep (rw u at is1) λ is2. (1, 0, p, omega (arith, is2), simp (t, u)))
    (λ u. keep (rw u at is1) λ is2.
    cases_bool (eqb form 5)
    (λ v. keep (rw v at is2) λ is3. (2, 0, p, omega (arith, is3), simp (t, u, v)))
    (λ v. keep (rw v at is2) λ is3.
    cases_bool (eqb form 6)
    (λ i. keep (rw i at is3) λ is4.
    field_there xs p 4 (omega (arith, is4)) λ field f1.
    field_there xs (p + 4) 4 (omega (arith, is4)) λ code f2.
    (field + 9, code, p + 8, omega (arith, is4), simp (t, u, v, i, f1, f2)))
    (λ i. keep (rw i at is3) λ is4.
    field_there xs p 8 (omega (arith, is4)) λ field f1.
    field_there xs (p + 8) 4 (omega (arith, is4)) λ code f2.
    (field + 25, code, p + 12, omega (arith, is4), simp (t, u, v, i, f1, f2))))))

four_passed : (xs : List ℕ) (p off first second w : ℕ) → (off ≤ 4 → field_at xs p 4 ≡ Some first)
    → (off ≤ 0 → field_at xs (p + 4) 4 ≡ Some second) → four_width off first second ≡ w → 0 < w
    → p + w ≤ length xs → IsPassed Four xs p (p + w)
unfolding four_at
four_passed xs p off first second w a b is some room =
    cases_bool (ltb 4 off) (λ t. absurd (let z = rw t at is in omega (arith, z)))
    (λ t. keep (rw t at is) λ is1.
    keep (a (ltb-false 4 off t)) λ f1.
    cases_bool (eqb first 0)
    (λ t1. keep (rw t1 at is1) λ is2.
    cases_bool (ltb 0 off) (λ u. absurd (let z = rw u at is2 in omega (arith, z)))
    (λ u. keep (rw u at is2) λ is3.
    keep (b (ltb-false 0 off u)) λ f2.
    cases_bool (eqb second 0) (λ v. absurd (let z = rw v at is3 in omega (arith, z)))
    (λ t2. keep (rw t2 at is3) λ is4.
    cases_bool (ltb second 8)
    (λ v. keep (rw v at is4) λ (is5 : 8 ≡ w). (second + 2, 0, simp (f1, t1, f2, t2, v, sym is5)))
    (λ v. keep (rw v at is4) λ is5.
    keep (four_run_passed xs (p + 8) (second - 8) w is5 (omega arith)) λ l.
    keep (omega (arith, l.3)) λ (n : l.2 ≡ p + w).
    (l.0, l.1, simp (f1, t1, f2, t2, v) (l.4 ∙ ap (λ (i : ℕ). Some (Pixels l.0 l.1, i)) n))))))
    (λ t1. keep (rw t1 at is1) λ (is2 : 4 ≡ w). (1, first, simp (f1, t1, sym is2))))

four_known : (bytes : List ℕ) (place byte off w : ℕ) → field_at (bits_of bytes) place 8 ≡ Some byte
    → four_width off (half_at byte off) (half_at byte (off + 4)) ≡ w → 0 < w
    → place + off + w ≤ length (bits_of bytes) → Reached Four (bits_of bytes) (place + off)
    → Reached Four (bits_of bytes) (place + off + w)
four_known bytes place byte off w e is some room r =
    let xs = bits_of bytes in
    let ok : IsBits xs = IsBits-bits_of bytes in
    let found =
    four_passed xs (place + off) off (half_at byte off) (half_at byte (off + 4)) w
    (λ h. field_within xs place (place + off) byte off 4 (4 - off) ok e refl (omega arith) (omega arith))
    (λ h. field_within xs place (place + off + 4) byte (off + 4) 4 (4 - (off + 4)) ok e (omega arith) (omega arith)
    (omega arith)) is some room in
    past_code Four bytes (place + off) found.0 found.1 (place + off + w) r found.2

-- ---- codes one behind another

-- the bits of a byte up to a place and those of the codes, as many as there is fuel, that begin there and are told
abbrev known_from : (ℕ → ℕ) → ℕ → ℕ → ℕ
known_from width off zero = off
known_from width off (suc fuel) = cond (eqb (width off) 0) off (known_from width (off + width off) fuel)

no_less : (width : ℕ → ℕ) (fuel off : ℕ) → off ≤ known_from width off fuel
no_less width zero off = omega arith
no_less width (suc fuel) off =
    keep (no_less width fuel (off + width off)) λ more.
    cases_bool (eqb (width off) 0) (λ t. rw t (omega arith)) (λ t. rw t (omega (arith, more)))

all_known : (depth : Depth) (bytes : List ℕ) (place : ℕ) (width : ℕ → ℕ)
    → ((off w : ℕ) → width off ≡ w → 0 < w → place + off + w ≤ length (bits_of bytes)
    → Reached depth (bits_of bytes) (place + off) → Reached depth (bits_of bytes) (place + off + w))
    → (fuel off : ℕ) → place + known_from width off fuel ≤ length (bits_of bytes)
    → Reached depth (bits_of bytes) (place + off)
    → Reached depth (bits_of bytes) (place + known_from width off fuel)
all_known depth bytes place width one zero off room r = r
all_known depth bytes place width one (suc fuel) off room r =
    cases_bool (eqb (width off) 0) (λ t. rw t r)
    (λ t. keep (rw t at room) λ (room' : place + known_from width (off + width off) fuel ≤ length (bits_of bytes)).
    keep (omega (arith, eqb-false (width off) 0 t)) λ (some : 0 < width off).
    keep (omega arith) λ (next : place + off + width off ≡ place + (off + width off)).
    keep (one off (width off) refl some (omega (arith, room', no_less width fuel (off + width off))) r) λ step.
    rw t (all_known depth bytes place width one fuel (off + width off) room'
    (subst (λ (i : ℕ). Reached depth (bits_of bytes) i) next step)))

-- ---- the tables

abbrev two_steps : ℕ → ℕ
two_steps byte =
    known_from (λ off. two_width off (pair_at byte off) (pair_at byte (off + 2)) (pair_at byte (off + 4))) 0 4

abbrev four_steps : ℕ → ℕ
four_steps byte = known_from (λ off. four_width off (half_at byte off) (half_at byte (off + 4))) 0 2

two_table : TWO_BIT_STEPS ≡ map two_steps (range_with_len 0 256)
two_table = refl

four_table : FOUR_BIT_STEPS ≡ map four_steps (range_with_len 0 256)
four_table = refl

small_at : (xs : List ℕ) (i : ℕ) → list_all (λ n. ltb n 25) xs ≡ true → get_or xs i 0 ≤ 24
small_at [] i e = omega arith
small_at (x ∷ xs) zero e =
    cases_bool (ltb x 25) (λ t. omega (arith, ltb-true x 25 t)) (λ t. absurd (let z = rw t at e in cc))
small_at (x ∷ xs) (suc i) e =
    cases_bool (ltb x 25) (λ t. small_at xs i (rw t at e)) (λ t. absurd (let z = rw t at e in cc))

pub two_few : (byte : ℕ) → get_or TWO_BIT_STEPS byte 0 ≤ 24
two_few byte = small_at TWO_BIT_STEPS byte refl

pub four_few : (byte : ℕ) → get_or FOUR_BIT_STEPS byte 0 ≤ 24
four_few byte = small_at FOUR_BIT_STEPS byte refl

at_start : (depth : Depth) (xs : List ℕ) (place : ℕ) → Reached depth xs place → Reached depth xs (place + 0)
at_start depth xs place r = let e : place ≡ place + 0 = omega arith in subst (λ (i : ℕ). Reached depth xs i) e r

-- of no bits everything is told
pub none_told : (depth : Depth) (byte : ℕ) → IsTold depth byte 0
none_told depth byte bytes place e room r = at_start depth (bits_of bytes) place r

pub two_told : (byte : ℕ) → byte < 256 → IsTold Two byte (get_or TWO_BIT_STEPS byte 0)
two_told byte small bytes place e room r =
    let is : get_or TWO_BIT_STEPS byte 0 ≡ two_steps byte =
    ap (λ (t : List ℕ). get_or t byte 0) two_table
    ∙ get_or-map-range_with_len two_steps 0 256 byte byte 0 small (omega arith) in
    let room' : place + two_steps byte ≤ length (bits_of bytes) = omega (arith, is, room) in
    subst (λ (n : ℕ). Reached Two (bits_of bytes) (place + n)) (sym is)
    (all_known Two bytes place
    (λ off. two_width off (pair_at byte off) (pair_at byte (off + 2)) (pair_at byte (off + 4)))
    (λ off w. two_known bytes place byte off w e) 4 0 room' (at_start Two (bits_of bytes) place r))

pub four_told : (byte : ℕ) → byte < 256 → IsTold Four byte (get_or FOUR_BIT_STEPS byte 0)
four_told byte small bytes place e room r =
    let is : get_or FOUR_BIT_STEPS byte 0 ≡ four_steps byte =
    ap (λ (t : List ℕ). get_or t byte 0) four_table
    ∙ get_or-map-range_with_len four_steps 0 256 byte byte 0 small (omega arith) in
    let room' : place + four_steps byte ≤ length (bits_of bytes) = omega (arith, is, room) in
    subst (λ (n : ℕ). Reached Four (bits_of bytes) (place + n)) (sym is)
    (all_known Four bytes place (λ off. four_width off (half_at byte off) (half_at byte (off + 4)))
    (λ off w. four_known bytes place byte off w e) 2 0 room' (at_start Four (bits_of bytes) place r))
