-- The rows of a table that share a byte, or two bytes: what each says of the byte, and that the byte meets them.
use Rattle.std.proofs.Common.{◌≡◌, ℕ, zero, suc, ◌+◌, ◌*◌, ◌/◌, ◌%◌, ◌^◌, ◌<◌, ◌≤◌, Bool, true, false, List, [], ◌∷◌, ◌++◌, length, get_or, take, drop, refl, sym, ap, subst, ◌∙◌, arith, inl, inr}
use Rattle.std.specs.Prelude.{◌==◌, sum_by}
use Rattle.std.proofs.lemmas.List.{length-append, length-take, get_or-drop, get_or-take, get_or_past, nil_from_length}
use Rattle.std.proofs.lemmas.Bool.{cases_lt}
use Rattle.std.proofs.lemmas.List.Sums.{sum_by-cons}
use Rattle.stream_syntax.specs.Fields.{Field, number, reserved, HasFields, no_row, row_first, IsRowBits}
use Rattle.stream_syntax.specs.PixelCodes.{bits, bits_of}
use Rattle.stream_syntax.specs.Segments.{flag, width_of}
use Rattle.pixel_codes.proofs.Bits.{length-bits}
use Rattle.segments.proofs.Bits.{bits_of-cons, bits_of-two, take_number, put_number, take_reserved, put_reserved, no_bits}

-- each number is a byte
abbrev pub AreBytes : List ℕ → Type 0
AreBytes bytes = (i : ℕ) → get_or bytes i 0 < 256

pub AreBytes-tail : (b : ℕ) (bytes : List ℕ) → AreBytes (b ∷ bytes) → AreBytes bytes
AreBytes-tail b bytes fits i = fits (suc i)

pub AreBytes-drop : (n : ℕ) (bytes : List ℕ) → AreBytes bytes → AreBytes (drop n bytes)
AreBytes-drop n bytes fits i = rw get_or-drop (fits (n + i))

pub AreBytes-take : (n : ℕ) (bytes : List ℕ) → AreBytes bytes → AreBytes (take n bytes)
AreBytes-take n bytes fits i =
    elim (cases_lt i n) [
      | inl lt ↦ rw (get_or-take n bytes i 0 lt) (fits i)
      | inr le ↦ rw (get_or_past (take n bytes) i 0 (omega (arith, length-take n bytes))) (omega arith)
    ]

-- ---- sizes

pub row_length : (field : Field) (row : List ℕ) → IsRowBits field row → length row ≡ width_of field
row_length (number width n) row is = ap length is ∙ length-bits width n
row_length (reserved width) row is = is

-- the bits of a table, row by row
abbrev pub widths : List Field → ℕ
widths [] = 0
widths (field ∷ fields) = width_of field + widths fields

pub widths-sum : (fields : List Field) → sum_by width_of fields ≡ widths fields
widths-sum [] = refl
widths-sum (field ∷ fields) =
    sum_by-cons width_of field fields ∙ ap (λ (n : ℕ). width_of field + n) (widths-sum fields)

pub fields_length : {fields : List Field} {stream : List ℕ} → HasFields fields stream
    → widths fields ≡ length stream
fields_length no_row = refl
fields_length (row_first {field} {fields} {stream} row rest is more e) =
    let a = row_length field row is in
    let b = fields_length more in
    let c = ap length e ∙ length-append row rest in
    omega (arith, a, b, c)

pub length-bits_of : (bytes : List ℕ) → length (bits_of bytes) ≡ 8 * length bytes
unfolding bits_of
length-bits_of [] = refl
length-bits_of (b ∷ bytes) =
    let e = length-append (bits 8 b) (bits_of bytes) in
    omega (arith, e, length-bits 8 b, length-bits_of bytes)

pub fields_bytes : (fields : List Field) (bytes : List ℕ) → HasFields fields (bits_of bytes)
    → widths fields ≡ 8 * length bytes
fields_bytes fields bytes has = fields_length has ∙ length-bits_of bytes

nothing_more : {stream : List ℕ} → HasFields [] stream → stream ≡ []
nothing_more no_row = refl

pub no_bytes : (bytes : List ℕ) → HasFields [] (bits_of bytes) → bytes ≡ []
no_bytes bytes has = nil_from_length bytes (omega (arith, length-bits_of bytes, ap length (nothing_more has)))

pub nothing_left : HasFields [] (bits_of [])
unfolding bits_of
nothing_left = no_row

-- ---- into a byte and out of it

open_byte : (b : ℕ) (fields : List Field) (bytes : List ℕ) → HasFields fields (bits_of (b ∷ bytes))
    → HasFields fields (bits 8 b ++ bits_of bytes)
open_byte b fields bytes has = subst (HasFields fields) (bits_of-cons b bytes) has

close_byte : (b : ℕ) (fields : List Field) (bytes : List ℕ) → HasFields fields (bits 8 b ++ bits_of bytes)
    → HasFields fields (bits_of (b ∷ bytes))
close_byte b fields bytes has = subst (HasFields fields) (sym (bits_of-cons b bytes)) has

open_word : (a b : ℕ) (fields : List Field) (bytes : List ℕ) → b < 256
    → HasFields fields (bits_of (a ∷ b ∷ bytes)) → HasFields fields (bits 16 (a * 256 + b) ++ bits_of bytes)
open_word a b fields bytes lt has = subst (HasFields fields) (bits_of-two a b bytes lt) has

close_word : (a b : ℕ) (fields : List Field) (bytes : List ℕ) → b < 256
    → HasFields fields (bits 16 (a * 256 + b) ++ bits_of bytes) → HasFields fields (bits_of (a ∷ b ∷ bytes))
close_word a b fields bytes lt has = subst (HasFields fields) (sym (bits_of-two a b bytes lt)) has

past : (n : ℕ) (fields : List Field) (rest : List ℕ) → HasFields fields (bits 0 n ++ rest)
    → HasFields fields rest
past n fields rest has = subst (HasFields fields) (no_bits n rest) has

before : (n : ℕ) (fields : List Field) (rest : List ℕ) → HasFields fields rest
    → HasFields fields (bits 0 n ++ rest)
before n fields rest has = subst (HasFields fields) (sym (no_bits n rest)) has

-- ---- a byte of reserved bits

pub take_free : (b : ℕ) (fields : List Field) (bytes : List ℕ)
    → HasFields (reserved 8 ∷ fields) (bits_of (b ∷ bytes)) → HasFields fields (bits_of bytes)
take_free b fields bytes has =
    past b fields (bits_of bytes)
    (take_reserved 8 0 b fields (bits_of bytes) (open_byte b (reserved 8 ∷ fields) bytes has))

pub put_free : (b : ℕ) (fields : List Field) (bytes : List ℕ) → HasFields fields (bits_of bytes)
    → HasFields (reserved 8 ∷ fields) (bits_of (b ∷ bytes))
put_free b fields bytes has =
    close_byte b (reserved 8 ∷ fields) bytes
    (put_reserved 8 0 b fields (bits_of bytes) (before b fields (bits_of bytes) has))

-- ---- four bits, two bits, two reserved

pub take_4_2 : (b v s : ℕ) (fields : List Field) (bytes : List ℕ) → b < 256 → v < 2 ^ 4 → s < 2 ^ 2
    → HasFields (number 4 v ∷ number 2 s ∷ reserved 2 ∷ fields) (bits_of (b ∷ bytes)) → (b / 16 ≡ v)
    × (b / 4 % 4 ≡ s) × HasFields fields (bits_of bytes)
take_4_2 b v s fields bytes lt ltv lts has =
    let first =
    take_number 4 4 b v (number 2 s ∷ reserved 2 ∷ fields) (bits_of bytes) ltv (open_byte b _ bytes has) in
    let second = take_number 2 2 b s (reserved 2 ∷ fields) (bits_of bytes) lts first.1 in (
      omega (arith, first.0),
      second.0,
      past b fields (bits_of bytes)
          (take_reserved 2 0 b fields (bits_of bytes) second.1),
    )

pub put_4_2 : (b : ℕ) (fields : List Field) (bytes : List ℕ) → b < 256
    → HasFields fields (bits_of bytes)
    → HasFields (number 4 (b / 16) ∷ number 2 (b / 4 % 4) ∷ reserved 2 ∷ fields) (bits_of (b ∷ bytes))
put_4_2 b fields bytes lt has =
    let third = put_reserved 2 0 b fields (bits_of bytes) (before b fields (bits_of bytes) has) in
    let second = put_number 2 2 b (b / 4 % 4) (reserved 2 ∷ fields) (bits_of bytes) refl third in
    close_byte b _ bytes
    (put_number 4 4 b (b / 16) (number 2 (b / 4 % 4) ∷ reserved 2 ∷ fields) (bits_of bytes) (omega arith)
    second)

-- ---- four bits, one bit, three reserved

pub take_4_1 : (b v s : ℕ) (fields : List Field) (bytes : List ℕ) → b < 256 → v < 2 ^ 4 → s < 2 ^ 1
    → HasFields (number 4 v ∷ number 1 s ∷ reserved 3 ∷ fields) (bits_of (b ∷ bytes)) → (b / 16 ≡ v)
    × (b / 8 % 2 ≡ s) × HasFields fields (bits_of bytes)
take_4_1 b v s fields bytes lt ltv lts has =
    let first =
    take_number 4 4 b v (number 1 s ∷ reserved 3 ∷ fields) (bits_of bytes) ltv (open_byte b _ bytes has) in
    let second = take_number 1 3 b s (reserved 3 ∷ fields) (bits_of bytes) lts first.1 in (
      omega (arith, first.0),
      second.0,
      past b fields (bits_of bytes)
          (take_reserved 3 0 b fields (bits_of bytes) second.1),
    )

pub put_4_1 : (b : ℕ) (fields : List Field) (bytes : List ℕ) → b < 256
    → HasFields fields (bits_of bytes)
    → HasFields (number 4 (b / 16) ∷ number 1 (b / 8 % 2) ∷ reserved 3 ∷ fields) (bits_of (b ∷ bytes))
put_4_1 b fields bytes lt has =
    let third = put_reserved 3 0 b fields (bits_of bytes) (before b fields (bits_of bytes) has) in
    let second = put_number 1 3 b (b / 8 % 2) (reserved 3 ∷ fields) (bits_of bytes) refl third in
    close_byte b _ bytes
    (put_number 4 4 b (b / 16) (number 1 (b / 8 % 2) ∷ reserved 3 ∷ fields) (bits_of bytes) (omega arith)
    second)

-- ---- three bits, three bits, two reserved

pub take_3_3 : (b v s : ℕ) (fields : List Field) (bytes : List ℕ) → b < 256 → v < 2 ^ 3 → s < 2 ^ 3
    → HasFields (number 3 v ∷ number 3 s ∷ reserved 2 ∷ fields) (bits_of (b ∷ bytes)) → (b / 4 % 8 ≡ s)
    × HasFields fields (bits_of bytes)
take_3_3 b v s fields bytes lt ltv lts has =
    let first =
    take_number 3 5 b v (number 3 s ∷ reserved 2 ∷ fields) (bits_of bytes) ltv (open_byte b _ bytes has) in
    let second = take_number 3 2 b s (reserved 2 ∷ fields) (bits_of bytes) lts first.1 in
    (second.0, past b fields (bits_of bytes) (take_reserved 2 0 b fields (bits_of bytes) second.1))

pub put_3_3 : (b : ℕ) (fields : List Field) (bytes : List ℕ) → b < 256
    → HasFields fields (bits_of bytes)
    → HasFields (number 3 (b / 32) ∷ number 3 (b / 4 % 8) ∷ reserved 2 ∷ fields) (bits_of (b ∷ bytes))
put_3_3 b fields bytes lt has =
    let third = put_reserved 2 0 b fields (bits_of bytes) (before b fields (bits_of bytes) has) in
    let second = put_number 3 2 b (b / 4 % 8) (reserved 2 ∷ fields) (bits_of bytes) refl third in
    close_byte b _ bytes
    (put_number 3 5 b (b / 32) (number 3 (b / 4 % 8) ∷ reserved 2 ∷ fields) (bits_of bytes) (omega arith)
    second)

-- ---- four bits, four reserved

pub take_4 : (b v : ℕ) (fields : List Field) (bytes : List ℕ) → b < 256 → v < 2 ^ 4
    → HasFields (number 4 v ∷ reserved 4 ∷ fields) (bits_of (b ∷ bytes)) → (b / 16 ≡ v)
    × HasFields fields (bits_of bytes)
take_4 b v fields bytes lt ltv has =
    let first = take_number 4 4 b v (reserved 4 ∷ fields) (bits_of bytes) ltv (open_byte b _ bytes has) in
    (omega (arith, first.0), past b fields (bits_of bytes) (take_reserved 4 0 b fields (bits_of bytes) first.1))

pub put_4 : (b : ℕ) (fields : List Field) (bytes : List ℕ) → b < 256
    → HasFields fields (bits_of bytes)
    → HasFields (number 4 (b / 16) ∷ reserved 4 ∷ fields) (bits_of (b ∷ bytes))
put_4 b fields bytes lt has =
    let second = put_reserved 4 0 b fields (bits_of bytes) (before b fields (bits_of bytes) has) in
    close_byte b _ bytes (put_number 4 4 b (b / 16) (reserved 4 ∷ fields) (bits_of bytes) (omega arith) second)

-- ---- two numbers of two bits and one of twelve; four reserved bits and one of twelve

pub take_2_2_12 : (a b x : ℕ) (fields : List Field) (bytes : List ℕ) → a < 256 → b < 256 → x < 2 ^ 12
    → HasFields (number 2 0 ∷ number 2 0 ∷ number 12 x ∷ fields) (bits_of (a ∷ b ∷ bytes))
    → (a / 64 ≡ 0) × (a / 16 % 4 ≡ 0) × ((a * 256 + b) % 4096 ≡ x) × HasFields fields (bits_of bytes)
take_2_2_12 a b x fields bytes lta lt ltx has =
    let n = a * 256 + b in
    let first =
    take_number 2 14 n 0 (number 2 0 ∷ number 12 x ∷ fields) (bits_of bytes) (omega arith)
    (open_word a b _ bytes lt has) in
    let second = take_number 2 12 n 0 (number 12 x ∷ fields) (bits_of bytes) (omega arith) first.1 in
    let third = take_number 12 0 n x fields (bits_of bytes) ltx second.1 in
    (omega (arith, first.0), omega (arith, second.0), omega (arith, third.0), past n fields (bits_of bytes) third.1)

pub put_2_2_12 : (a b : ℕ) (fields : List Field) (bytes : List ℕ) → a < 256 → b < 256 → a / 64 ≡ 0
    → a / 16 % 4 ≡ 0
    → HasFields fields (bits_of bytes)
    → HasFields (number 2 0 ∷ number 2 0 ∷ number 12 ((a * 256 + b) % 4096) ∷ fields)
    (bits_of (a ∷ b ∷ bytes))
put_2_2_12 a b fields bytes lta lt kind provider has =
    let n = a * 256 + b in
    let third =
    put_number 12 0 n ((a * 256 + b) % 4096) fields (bits_of bytes) (omega arith)
    (before n fields (bits_of bytes) has) in
    let second =
    put_number 2 12 n 0 (number 12 ((a * 256 + b) % 4096) ∷ fields) (bits_of bytes) (omega arith) third in
    close_word a b _ bytes lt
    (put_number 2 14 n 0 (number 2 0 ∷ number 12 ((a * 256 + b) % 4096) ∷ fields) (bits_of bytes) (omega arith)
    second)

pub take_r4_12 : (a b y : ℕ) (fields : List Field) (bytes : List ℕ) → a < 256 → b < 256 → y < 2 ^ 12
    → HasFields (reserved 4 ∷ number 12 y ∷ fields) (bits_of (a ∷ b ∷ bytes))
    → ((a * 256 + b) % 4096 ≡ y) × HasFields fields (bits_of bytes)
take_r4_12 a b y fields bytes lta lt lty has =
    let n = a * 256 + b in
    let first = take_reserved 4 12 n (number 12 y ∷ fields) (bits_of bytes) (open_word a b _ bytes lt has) in
    let second = take_number 12 0 n y fields (bits_of bytes) lty first in
    (omega (arith, second.0), past n fields (bits_of bytes) second.1)

pub put_r4_12 : (a b : ℕ) (fields : List Field) (bytes : List ℕ) → a < 256 → b < 256
    → HasFields fields (bits_of bytes)
    → HasFields (reserved 4 ∷ number 12 ((a * 256 + b) % 4096) ∷ fields) (bits_of (a ∷ b ∷ bytes))
put_r4_12 a b fields bytes lta lt has =
    let n = a * 256 + b in
    let second =
    put_number 12 0 n ((a * 256 + b) % 4096) fields (bits_of bytes) (omega arith)
    (before n fields (bits_of bytes) has) in
    close_word a b _ bytes lt (put_reserved 4 12 n (number 12 ((a * 256 + b) % 4096) ∷ fields) (bits_of bytes) second)

-- ---- three flags, four reserved bits and a number of one bit

pub take_flags : (b two four eight range : ℕ) (fields : List Field) (bytes : List ℕ) → b < 256 → two < 2 ^ 1
    → four < 2 ^ 1 → eight < 2 ^ 1 → range < 2 ^ 1
    → HasFields (number 1 two ∷ number 1 four ∷ number 1 eight ∷ reserved 4 ∷ number 1 range ∷ fields)
    (bits_of (b ∷ bytes))
    → (b / 128 % 2 ≡ two) × (b / 64 % 2 ≡ four) × (b / 32 % 2 ≡ eight) × (b % 2 ≡ range)
    × HasFields fields (bits_of bytes)
take_flags b two four eight range fields bytes lt lt2 lt4 lt8 ltr has =
    let first =
    take_number 1 7 b two (number 1 four ∷ number 1 eight ∷ reserved 4 ∷ number 1 range ∷ fields)
    (bits_of bytes) lt2 (open_byte b _ bytes has) in
    let second =
    take_number 1 6 b four (number 1 eight ∷ reserved 4 ∷ number 1 range ∷ fields) (bits_of bytes) lt4 first.1
    in
    let third = take_number 1 5 b eight (reserved 4 ∷ number 1 range ∷ fields) (bits_of bytes) lt8 second.1 in
    let fourth = take_reserved 4 1 b (number 1 range ∷ fields) (bits_of bytes) third.1 in
    let fifth = take_number 1 0 b range fields (bits_of bytes) ltr fourth in
    (first.0, second.0, third.0, omega (arith, fifth.0), past b fields (bits_of bytes) fifth.1)

pub put_flags : (b range : ℕ) (fields : List Field) (bytes : List ℕ) → b < 256 → b % 2 ≡ range
    → HasFields fields (bits_of bytes)
    → HasFields
    (number 1 (b / 128 % 2) ∷ number 1 (b / 64 % 2) ∷ number 1 (b / 32 % 2) ∷ reserved 4 ∷ number 1 range
    ∷ fields) (bits_of (b ∷ bytes))
put_flags b range fields bytes lt is has =
    let fifth = put_number 1 0 b range fields (bits_of bytes) (omega arith) (before b fields (bits_of bytes) has) in
    let fourth = put_reserved 4 1 b (number 1 range ∷ fields) (bits_of bytes) fifth in
    let third = put_number 1 5 b (b / 32 % 2) (reserved 4 ∷ number 1 range ∷ fields) (bits_of bytes) refl fourth in
    let second =
    put_number 1 6 b (b / 64 % 2) (number 1 (b / 32 % 2) ∷ reserved 4 ∷ number 1 range ∷ fields)
    (bits_of bytes) refl third in
    close_byte b _ bytes
    (put_number 1 7 b (b / 128 % 2)
    (number 1 (b / 64 % 2) ∷ number 1 (b / 32 % 2) ∷ reserved 4 ∷ number 1 range ∷ fields) (bits_of bytes)
    refl second)

-- ---- a short colour

pub take_short : (a b y cr cb t : ℕ) (fields : List Field) (bytes : List ℕ) → a < 256 → b < 256 → y < 2 ^ 6
    → cr < 2 ^ 4 → cb < 2 ^ 4 → t < 2 ^ 2
    → HasFields (number 6 y ∷ number 4 cr ∷ number 4 cb ∷ number 2 t ∷ fields) (bits_of (a ∷ b ∷ bytes))
    → ((a * 256 + b) / 1024 ≡ y) × ((a * 256 + b) / 64 % 16 ≡ cr) × ((a * 256 + b) / 4 % 16 ≡ cb)
    × ((a * 256 + b) % 4 ≡ t) × HasFields fields (bits_of bytes)
take_short a b y cr cb t fields bytes lta lt lty ltr ltb ltt has =
    let n = a * 256 + b in
    let first =
    take_number 6 10 n y (number 4 cr ∷ number 4 cb ∷ number 2 t ∷ fields) (bits_of bytes) lty
    (open_word a b _ bytes lt has) in
    let second = take_number 4 6 n cr (number 4 cb ∷ number 2 t ∷ fields) (bits_of bytes) ltr first.1 in
    let third = take_number 4 2 n cb (number 2 t ∷ fields) (bits_of bytes) ltb second.1 in
    let fourth = take_number 2 0 n t fields (bits_of bytes) ltt third.1 in
    (omega (arith, first.0), second.0, third.0, omega (arith, fourth.0), past n fields (bits_of bytes) fourth.1)

pub put_short : (a b : ℕ) (fields : List Field) (bytes : List ℕ) → a < 256 → b < 256
    → HasFields fields (bits_of bytes)
    → HasFields
    (number 6 ((a * 256 + b) / 1024) ∷ number 4 ((a * 256 + b) / 64 % 16) ∷ number 4 ((a * 256 + b) / 4 % 16)
    ∷ number 2 ((a * 256 + b) % 4) ∷ fields) (bits_of (a ∷ b ∷ bytes))
put_short a b fields bytes lta lt has =
    let n = a * 256 + b in
    let fourth = put_number 2 0 n (n % 4) fields (bits_of bytes) (omega arith) (before n fields (bits_of bytes) has) in
    let third = put_number 4 2 n (n / 4 % 16) (number 2 (n % 4) ∷ fields) (bits_of bytes) refl fourth in
    let second =
    put_number 4 6 n (n / 64 % 16) (number 4 (n / 4 % 16) ∷ number 2 (n % 4) ∷ fields) (bits_of bytes) refl
    third in
    close_word a b _ bytes lt
    (put_number 6 10 n (n / 1024) (number 4 (n / 64 % 16) ∷ number 4 (n / 4 % 16) ∷ number 2 (n % 4) ∷ fields)
    (bits_of bytes) (omega arith) second)

-- ---- four bits, two bits, one bit, one reserved

pub take_4_2_1 : (b v m s : ℕ) (fields : List Field) (bytes : List ℕ) → b < 256 → v < 2 ^ 4 → m < 2 ^ 2
    → s < 2 ^ 1
    → HasFields (number 4 v ∷ number 2 m ∷ number 1 s ∷ reserved 1 ∷ fields) (bits_of (b ∷ bytes))
    → (b / 16 ≡ v) × (b / 4 % 4 ≡ m) × (b / 2 % 2 ≡ s) × HasFields fields (bits_of bytes)
take_4_2_1 b v m s fields bytes lt ltv ltm lts has =
    let first =
    take_number 4 4 b v (number 2 m ∷ number 1 s ∷ reserved 1 ∷ fields) (bits_of bytes) ltv
    (open_byte b _ bytes has) in
    let second = take_number 2 2 b m (number 1 s ∷ reserved 1 ∷ fields) (bits_of bytes) ltm first.1 in
    let third = take_number 1 1 b s (reserved 1 ∷ fields) (bits_of bytes) lts second.1 in (
      omega (arith, first.0),
      second.0,
      third.0,
      past b fields (bits_of bytes)
          (take_reserved 1 0 b fields (bits_of bytes) third.1),
    )

pub put_4_2_1 : (b m : ℕ) (fields : List Field) (bytes : List ℕ) → b < 256 → b / 4 % 4 ≡ m
    → HasFields fields (bits_of bytes)
    → HasFields (number 4 (b / 16) ∷ number 2 m ∷ number 1 (b / 2 % 2) ∷ reserved 1 ∷ fields)
    (bits_of (b ∷ bytes))
put_4_2_1 b m fields bytes lt is has =
    let fourth = put_reserved 1 0 b fields (bits_of bytes) (before b fields (bits_of bytes) has) in
    let third = put_number 1 1 b (b / 2 % 2) (reserved 1 ∷ fields) (bits_of bytes) refl fourth in
    let second = put_number 2 2 b m (number 1 (b / 2 % 2) ∷ reserved 1 ∷ fields) (bits_of bytes) is third in
    close_byte b _ bytes
    (put_number 4 4 b (b / 16) (number 2 m ∷ number 1 (b / 2 % 2) ∷ reserved 1 ∷ fields) (bits_of bytes)
    (omega arith) second)

-- ---- flags

pub flag_back : (n : ℕ) (b : Bool) → n ≡ flag b → (n == 1) ≡ b
flag_back n true e = rw e refl
flag_back n false e = rw e refl

pub flag_there : (n : ℕ) → n < 2 → flag (n == 1) ≡ n
flag_there zero lt = refl
flag_there (suc zero) lt = refl
flag_there (suc (suc n)) lt = absurd (omega arith)

pub flag_fits : (b : Bool) → flag b < 2 ^ 1
flag_fits true = omega arith
flag_fits false = omega arith

-- ---- cells

-- a list of six cells at least
pub record Six (bytes : List ℕ) : Type 0 where
  pub a : ℕ
  pub b : ℕ
  pub c : ℕ
  pub d : ℕ
  pub e : ℕ
  pub f : ℕ
  pub rest : List ℕ
  pub is : bytes ≡ a ∷ b ∷ c ∷ d ∷ e ∷ f ∷ rest

pub six_cells : (bytes : List ℕ) → 6 ≤ length bytes → Six bytes
six_cells (a ∷ b ∷ c ∷ d ∷ e ∷ f ∷ rest) long =
    record { a = a; b = b; c = c; d = d; e = e; f = f; rest = rest; is = refl }
six_cells [] long = absurd (omega arith)
six_cells (a ∷ []) long = absurd (omega arith)
six_cells (a ∷ b ∷ []) long = absurd (omega arith)
six_cells (a ∷ b ∷ c ∷ []) long = absurd (omega arith)
six_cells (a ∷ b ∷ c ∷ d ∷ []) long = absurd (omega arith)
six_cells (a ∷ b ∷ c ∷ d ∷ e ∷ []) long = absurd (omega arith)
