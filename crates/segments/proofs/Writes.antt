-- Bytes that are what a writer makes of a table: the rows that share a byte, or two bytes, and whole tables.
use Rattle.std.proofs.Common.{◌≡◌, ℕ, zero, suc, ◌+◌, ◌*◌, ◌/◌, ◌%◌, ◌^◌, ◌<◌, List, [], ◌∷◌, ◌++◌, replicate, refl, sym, ap, subst, ◌∙◌, append_assoc, arith}
use Rattle.std.proofs.Math.Nat.{mod-eq_of_lt}
use Rattle.std.proofs.lemmas.Nat.{shr_high, mod_low}
use Rattle.std.proofs.lemmas.List.{length-replicate}
use Rattle.stream_syntax.specs.Fields.{Field, number, reserved, HasFields, no_row, row_first, written, bytes_of}
use Rattle.stream_syntax.specs.PixelCodes.{bits, bits_of}
use Rattle.pixel_codes.proofs.Bits.{bits-add, number_of-bits}
use Rattle.segments.proofs.Bits.{bits-same, bits_of-cons, bits_of-two}
use Rattle.segments.proofs.Shapes.{AreBytes, AreBytes-tail}

-- the bytes are what a writer makes of the table
pub record Writes (fields : List Field) (bytes : List ℕ) : Type 0 where
  pub made : bits_of bytes ≡ written fields
  pub each : AreBytes bytes

AreBytes-cons : (b : ℕ) (bytes : List ℕ) → b < 256 → AreBytes bytes → AreBytes (b ∷ bytes)
AreBytes-cons b bytes lt fits zero = lt
AreBytes-cons b bytes lt fits (suc i) = fits i

-- ---- from bits to bytes and back

byte_again : (b : ℕ) (stream : List ℕ) → b < 256 → bytes_of (bits 8 b ++ stream) ≡ b ∷ bytes_of stream
unfolding bits bytes_of
byte_again b stream lt = ap (λ (n : ℕ). n ∷ bytes_of stream) (number_of-bits 8 b ∙ mod-eq_of_lt lt)

pub bytes_again : (bytes : List ℕ) → AreBytes bytes → bytes_of (bits_of bytes) ≡ bytes
unfolding bits_of bytes_of
bytes_again [] fits = refl
bytes_again (b ∷ bytes) fits =
    byte_again b (bits_of bytes) (fits 0)
    ∙ ap (λ (bs : List ℕ). b ∷ bs) (bytes_again bytes (AreBytes-tail b bytes fits))

-- the bytes of a table
pub spelled_is : (fields : List Field) (bytes : List ℕ) → Writes fields bytes
    → bytes_of (written fields) ≡ bytes
spelled_is fields bytes writes = ap bytes_of (sym writes.made) ∙ bytes_again bytes writes.each

-- what a writer makes of a table has the table
pub written_has : (fields : List Field) → HasFields fields (written fields)
unfolding written
written_has [] = no_row
written_has (number width n ∷ fields) = row_first (bits width n) (written fields) refl (written_has fields) refl
written_has (reserved width ∷ fields) =
    row_first (replicate width 1) (written fields) (length-replicate width 1) (written_has fields) refl

pub writes_has : (fields : List Field) (bytes : List ℕ) → Writes fields bytes → HasFields fields (bits_of bytes)
writes_has fields bytes writes = subst (HasFields fields) (sym writes.made) (written_has fields)

-- ---- rows side by side

join : (high low a b : ℕ) → b < 2 ^ low → bits (high + low) (a * 2 ^ low + b) ≡ bits high a ++ bits low b
join high low a b lt =
    bits-add high low (a * 2 ^ low + b)
    ∙ ap (λ (n : ℕ). bits high n ++ bits low (a * 2 ^ low + b)) (shr_high a low b lt)
    ∙ ap (λ (s : List ℕ). bits high a ++ s) (bits-same low (a * 2 ^ low + b) b (mod_low a low b lt))

written-number : (width n : ℕ) (fields : List Field)
    → written (number width n ∷ fields) ≡ bits width n ++ written fields
unfolding written
written-number width n fields = refl

-- reserved bits of a writer are the number of ones
ones_2 : (fields : List Field) → written (reserved 2 ∷ fields) ≡ bits 2 3 ++ written fields
unfolding written bits
ones_2 fields = refl

ones_1 : (fields : List Field) → written (reserved 1 ∷ fields) ≡ bits 1 1 ++ written fields
unfolding written bits
ones_1 fields = refl

ones_3 : (fields : List Field) → written (reserved 3 ∷ fields) ≡ bits 3 7 ++ written fields
unfolding written bits
ones_3 fields = refl

ones_4 : (fields : List Field) → written (reserved 4 ∷ fields) ≡ bits 4 15 ++ written fields
unfolding written bits
ones_4 fields = refl

ones_8 : (fields : List Field) → written (reserved 8 ∷ fields) ≡ bits 8 255 ++ written fields
unfolding written bits
ones_8 fields = refl

-- two numbers side by side are one
pair : (high low a b : ℕ) (stream : List ℕ) → b < 2 ^ low
    → bits high a ++ (bits low b ++ stream) ≡ bits (high + low) (a * 2 ^ low + b) ++ stream
pair high low a b stream lt =
    sym (append_assoc (bits high a) (bits low b) stream)
    ∙ ap (λ (s : List ℕ). s ++ stream) (sym (join high low a b lt))

-- a number in front of what is one number already
before_it : (high low a b : ℕ) (fields : List Field) (stream : List ℕ) → b < 2 ^ low
    → written fields ≡ bits low b ++ stream
    → written (number high a ∷ fields) ≡ bits (high + low) (a * 2 ^ low + b) ++ stream
before_it high low a b fields stream lt e =
    written-number high a fields ∙ ap (λ (s : List ℕ). bits high a ++ s) e ∙ pair high low a b stream lt

close_byte : (b c : ℕ) (fields rest : List Field) (bytes : List ℕ) → b < 256 → c ≡ b
    → written fields ≡ bits 8 c ++ written rest → Writes rest bytes → Writes fields (b ∷ bytes)
close_byte b c fields rest bytes fits same e writes =
    record {
      each = AreBytes-cons b bytes fits writes.each;
      made = bits_of-cons b bytes
          ∙ ap (λ (s : List ℕ). bits 8 b ++ s) writes.made
          ∙ ap (λ (n : ℕ). bits 8 n ++ written rest) (sym same) ∙ sym e;
    }

close_word : (a b n : ℕ) (fields rest : List Field) (bytes : List ℕ) → a < 256 → b < 256 → n ≡ a * 256 + b
    → written fields ≡ bits 16 n ++ written rest → Writes rest bytes → Writes fields (a ∷ b ∷ bytes)
close_word a b n fields rest bytes lta lt same e writes =
    record {
      each = AreBytes-cons a (b ∷ bytes) lta (AreBytes-cons b bytes lt writes.each);
      made = bits_of-two a b
          bytes lt ∙ ap (λ (s : List ℕ). bits 16 (a * 256 + b) ++ s) writes.made
          ∙ ap (λ (m : ℕ). bits 16 m ++ written rest) (sym same) ∙ sym e;
    }

-- ---- whole bytes

pub nothing_written : Writes [] []
unfolding written bits_of
nothing_written = record { made = refl; each = λ i. omega arith }

pub write_byte : (n : ℕ) (fields : List Field) (bytes : List ℕ) → n < 2 ^ 8 → Writes fields bytes
    → Writes (number 8 n ∷ fields) (n ∷ bytes)
write_byte n fields bytes lt writes =
    close_byte n n (number 8 n ∷ fields) fields bytes lt refl (written-number 8 n fields) writes

pub write_free : (fields : List Field) (bytes : List ℕ) → Writes fields bytes
    → Writes (reserved 8 ∷ fields) (255 ∷ bytes)
write_free fields bytes writes =
    close_byte 255 255 (reserved 8 ∷ fields) fields bytes (omega arith) refl (ones_8 fields) writes

pub write_word : (n : ℕ) (fields : List Field) (bytes : List ℕ) → n < 2 ^ 16 → Writes fields bytes
    → Writes (number 16 n ∷ fields) (n / 256 % 256 ∷ n % 256 ∷ bytes)
write_word n fields bytes lt writes =
    close_word (n / 256 % 256) (n % 256) n (number 16 n ∷ fields) fields bytes (omega arith) (omega arith)
    (omega arith) (written-number 16 n fields) writes

-- ---- rows that share a byte

pub write_4_2 : (v s : ℕ) (fields : List Field) (bytes : List ℕ) → v < 2 ^ 4 → s < 2 ^ 2
    → Writes fields bytes
    → Writes (number 4 v ∷ number 2 s ∷ reserved 2 ∷ fields) ((v * 16 + s * 4 + 3) ∷ bytes)
write_4_2 v s fields bytes ltv lt writes =
    let second = before_it 2 2 s 3 (reserved 2 ∷ fields) (written fields) (omega arith) (ones_2 fields) in
    let first =
    before_it 4 4 v (s * 4 + 3) (number 2 s ∷ reserved 2 ∷ fields) (written fields) (omega arith) second in
    close_byte (v * 16 + s * 4 + 3) (v * 16 + (s * 4 + 3)) _ fields bytes (omega arith) (omega arith) first writes

pub write_4_1 : (v s : ℕ) (fields : List Field) (bytes : List ℕ) → v < 2 ^ 4 → s < 2 ^ 1
    → Writes fields bytes
    → Writes (number 4 v ∷ number 1 s ∷ reserved 3 ∷ fields) ((v * 16 + s * 8 + 7) ∷ bytes)
write_4_1 v s fields bytes ltv lt writes =
    let second = before_it 1 3 s 7 (reserved 3 ∷ fields) (written fields) (omega arith) (ones_3 fields) in
    let first =
    before_it 4 4 v (s * 8 + 7) (number 1 s ∷ reserved 3 ∷ fields) (written fields) (omega arith) second in
    close_byte (v * 16 + s * 8 + 7) (v * 16 + (s * 8 + 7)) _ fields bytes (omega arith) (omega arith) first writes

pub write_3_3 : (v s : ℕ) (fields : List Field) (bytes : List ℕ) → v < 2 ^ 3 → s < 2 ^ 3
    → Writes fields bytes
    → Writes (number 3 v ∷ number 3 s ∷ reserved 2 ∷ fields) ((v * 32 + s * 4 + 3) ∷ bytes)
write_3_3 v s fields bytes ltv lt writes =
    let second = before_it 3 2 s 3 (reserved 2 ∷ fields) (written fields) (omega arith) (ones_2 fields) in
    let first =
    before_it 3 5 v (s * 4 + 3) (number 3 s ∷ reserved 2 ∷ fields) (written fields) (omega arith) second in
    close_byte (v * 32 + s * 4 + 3) (v * 32 + (s * 4 + 3)) _ fields bytes (omega arith) (omega arith) first writes

pub write_4 : (v : ℕ) (fields : List Field) (bytes : List ℕ) → v < 2 ^ 4 → Writes fields bytes
    → Writes (number 4 v ∷ reserved 4 ∷ fields) ((v * 16 + 15) ∷ bytes)
write_4 v fields bytes ltv writes =
    let first = before_it 4 4 v 15 (reserved 4 ∷ fields) (written fields) (omega arith) (ones_4 fields) in
    close_byte (v * 16 + 15) (v * 16 + 15) _ fields bytes (omega arith) refl first writes

pub write_flags : (two four eight : ℕ) (fields : List Field) (bytes : List ℕ) → two < 2 ^ 1 → four < 2 ^ 1
    → eight < 2 ^ 1 → Writes fields bytes
    → Writes (number 1 two ∷ number 1 four ∷ number 1 eight ∷ reserved 4 ∷ number 1 1 ∷ fields)
    ((two * 128 + four * 64 + eight * 32 + 31) ∷ bytes)
write_flags two four eight fields bytes lt2 lt4 lt8 writes =
    let last : written (reserved 4 ∷ number 1 1 ∷ fields) ≡ bits 5 31 ++ written fields =
    ones_4 (number 1 1 ∷ fields) ∙ ap (λ (s : List ℕ). bits 4 15 ++ s) (written-number 1 1 fields)
    ∙ pair 4 1 15 1 (written fields) (omega arith) in
    let third = before_it 1 5 eight 31 (reserved 4 ∷ number 1 1 ∷ fields) (written fields) (omega arith) last in
    let second =
    before_it 1 6 four (eight * 32 + 31) (number 1 eight ∷ reserved 4 ∷ number 1 1 ∷ fields) (written fields)
    (omega arith) third in
    let first =
    before_it 1 7 two (four * 64 + (eight * 32 + 31))
    (number 1 four ∷ number 1 eight ∷ reserved 4 ∷ number 1 1 ∷ fields) (written fields) (omega arith)
    second in
    close_byte (two * 128 + four * 64 + eight * 32 + 31) (two * 128 + (four * 64 + (eight * 32 + 31))) _ fields bytes
    (omega arith) (omega arith) first writes

pub write_4_2_1 : (v s : ℕ) (fields : List Field) (bytes : List ℕ) → v < 2 ^ 4 → s < 2 ^ 1
    → Writes fields bytes
    → Writes (number 4 v ∷ number 2 0 ∷ number 1 s ∷ reserved 1 ∷ fields) ((v * 16 + s * 2 + 1) ∷ bytes)
write_4_2_1 v s fields bytes ltv lt writes =
    let third = before_it 1 1 s 1 (reserved 1 ∷ fields) (written fields) (omega arith) (ones_1 fields) in
    let second =
    before_it 2 2 0 (s * 2 + 1) (number 1 s ∷ reserved 1 ∷ fields) (written fields) (omega arith) third in
    let first =
    before_it 4 4 v (0 * 4 + (s * 2 + 1)) (number 2 0 ∷ number 1 s ∷ reserved 1 ∷ fields) (written fields)
    (omega arith) second in
    close_byte (v * 16 + s * 2 + 1) (v * 16 + (0 * 4 + (s * 2 + 1))) _ fields bytes (omega arith) (omega arith) first
    writes

-- ---- rows that share two bytes

pub write_2_2_12 : (x : ℕ) (fields : List Field) (bytes : List ℕ) → x < 2 ^ 12 → Writes fields bytes
    → Writes (number 2 0 ∷ number 2 0 ∷ number 12 x ∷ fields) (x / 256 % 256 ∷ x % 256 ∷ bytes)
write_2_2_12 x fields bytes lt writes =
    let second = before_it 2 12 0 x (number 12 x ∷ fields) (written fields) lt (written-number 12 x fields) in
    let first =
    before_it 2 14 0 (0 * 2 ^ 12 + x) (number 2 0 ∷ number 12 x ∷ fields) (written fields) (omega arith) second
    in
    close_word (x / 256 % 256) (x % 256) (0 * 2 ^ 14 + (0 * 2 ^ 12 + x)) _ fields bytes (omega arith) (omega arith)
    (omega arith) first writes

pub write_r4_12 : (y : ℕ) (fields : List Field) (bytes : List ℕ) → y < 2 ^ 12 → Writes fields bytes
    → Writes (reserved 4 ∷ number 12 y ∷ fields) ((61440 + y) / 256 % 256 ∷ (61440 + y) % 256 ∷ bytes)
write_r4_12 y fields bytes lt writes =
    let first : written (reserved 4 ∷ number 12 y ∷ fields) ≡ bits 16 (15 * 2 ^ 12 + y) ++ written fields =
    ones_4 (number 12 y ∷ fields) ∙ ap (λ (s : List ℕ). bits 4 15 ++ s) (written-number 12 y fields)
    ∙ pair 4 12 15 y (written fields) lt in
    close_word ((61440 + y) / 256 % 256) ((61440 + y) % 256) (15 * 2 ^ 12 + y) _ fields bytes (omega arith)
    (omega arith) (omega arith) first writes
