-- Laws of the bits of numbers and bytes, and of the rows of a table over them.
use Rattle.std.proofs.Common.{◌≡◌, ℕ, ◌+◌, ◌*◌, ◌/◌, ◌%◌, ◌^◌, ◌<◌, List, ◌∷◌, ◌++◌, length, take, drop, refl, sym, ap, subst, ◌∙◌, append_assoc, arith}
use Rattle.std.proofs.Math.Nat.{mod-eq_of_lt}
use Rattle.std.proofs.lemmas.Nat.{shr_high, mod_low}
use Rattle.std.proofs.lemmas.List.{take_at, drop_at}
use Rattle.stream_syntax.specs.Fields.{Field, number, reserved, number_of, HasFields, row_first}
use Rattle.stream_syntax.specs.PixelCodes.{bits, bits_of}
use Rattle.pixel_codes.proofs.Bits.{length-bits, bits-add, bits-mod, number_of-bits}

-- the bits of a number determine it, where it fits them
pub bits-same : (width n v : ℕ) → n % 2 ^ width ≡ v → bits width n ≡ bits width v
bits-same width n v e = sym (bits-mod width n) ∙ ap (bits width) e

pub same_from_bits : (width n v : ℕ) → v < 2 ^ width → bits width n ≡ bits width v → n % 2 ^ width ≡ v
same_from_bits width n v fits e =
    sym (number_of-bits width n) ∙ ap number_of e ∙ number_of-bits width v ∙ mod-eq_of_lt fits

-- ---- a row taken off a table, and put on one

cut_left : (a b c d : List ℕ) → length a ≡ length c → a ++ b ≡ c ++ d → a ≡ c
cut_left a b c d len e =
    sym (take_at a b (length a) refl) ∙ ap (take (length a)) e ∙ take_at c d (length a) (sym len)

cut_right : (a b c d : List ℕ) → length a ≡ length c → a ++ b ≡ c ++ d → b ≡ d
cut_right a b c d len e =
    sym (drop_at a b (length a) refl) ∙ ap (drop (length a)) e ∙ drop_at c d (length a) (sym len)

pub take_number : (width low n v : ℕ) (fields : List Field) (rest : List ℕ) → v < 2 ^ width
    → HasFields (number width v ∷ fields) (bits (width + low) n ++ rest) → (n / 2 ^ low % 2 ^ width ≡ v)
    × HasFields fields (bits low n ++ rest)
take_number width low n v fields rest fits (row_first row after row-is more e) =
    let parts : bits width (n / 2 ^ low) ++ (bits low n ++ rest) ≡ row ++ after =
    sym (append_assoc (bits width (n / 2 ^ low)) (bits low n) rest)
    ∙ ap (λ (s : List ℕ). s ++ rest) (sym (bits-add width low n)) ∙ e in
    let len : length (bits width (n / 2 ^ low)) ≡ length row =
    length-bits width (n / 2 ^ low) ∙ sym (ap length row-is ∙ length-bits width v) in
    let front : bits width (n / 2 ^ low) ≡ row = cut_left _ _ _ _ len parts in
    let back : bits low n ++ rest ≡ after = cut_right _ _ _ _ len parts in
    (same_from_bits width (n / 2 ^ low) v fits (front ∙ row-is), subst (HasFields fields) (sym back) more)

pub put_number : (width low n v : ℕ) (fields : List Field) (rest : List ℕ) → n / 2 ^ low % 2 ^ width ≡ v
    → HasFields fields (bits low n ++ rest) → HasFields (number width v ∷ fields) (bits (width + low) n ++ rest)
put_number width low n v fields rest e more =
    row_first (bits width (n / 2 ^ low)) (bits low n ++ rest) (bits-same width (n / 2 ^ low) v e) more
    (ap (λ (s : List ℕ). s ++ rest) (bits-add width low n)
    ∙ append_assoc (bits width (n / 2 ^ low)) (bits low n) rest)

pub take_reserved : (width low n : ℕ) (fields : List Field) (rest : List ℕ)
    → HasFields (reserved width ∷ fields) (bits (width + low) n ++ rest) → HasFields fields (bits low n ++ rest)
take_reserved width low n fields rest (row_first row after row-is more e) =
    let parts : bits width (n / 2 ^ low) ++ (bits low n ++ rest) ≡ row ++ after =
    sym (append_assoc (bits width (n / 2 ^ low)) (bits low n) rest)
    ∙ ap (λ (s : List ℕ). s ++ rest) (sym (bits-add width low n)) ∙ e in
    let len : length (bits width (n / 2 ^ low)) ≡ length row = length-bits width (n / 2 ^ low) ∙ sym row-is in
    let back : bits low n ++ rest ≡ after = cut_right _ _ _ _ len parts in
    subst (HasFields fields) (sym back) more

pub put_reserved : (width low n : ℕ) (fields : List Field) (rest : List ℕ)
    → HasFields fields (bits low n ++ rest) → HasFields (reserved width ∷ fields) (bits (width + low) n ++ rest)
put_reserved width low n fields rest more =
    row_first (bits width (n / 2 ^ low)) (bits low n ++ rest) (length-bits width (n / 2 ^ low)) more
    (ap (λ (s : List ℕ). s ++ rest) (bits-add width low n)
    ∙ append_assoc (bits width (n / 2 ^ low)) (bits low n) rest)

-- ---- whole bytes

pub bits_of-cons : (b : ℕ) (bytes : List ℕ) → bits_of (b ∷ bytes) ≡ bits 8 b ++ bits_of bytes
unfolding bits_of
bits_of-cons b bytes = refl

pub bits_of-two : (a b : ℕ) (bytes : List ℕ) → b < 256
    → bits_of (a ∷ b ∷ bytes) ≡ bits 16 (a * 256 + b) ++ bits_of bytes
bits_of-two a b bytes lt =
    let high : (a * 256 + b) / 2 ^ 8 ≡ a = shr_high a 8 b lt in
    let low : (a * 256 + b) % 2 ^ 8 ≡ b = mod_low a 8 b lt in
    let split : bits 16 (a * 256 + b) ≡ bits 8 a ++ bits 8 b =
    bits-add 8 8 (a * 256 + b) ∙ ap (λ (h : ℕ). bits 8 h ++ bits 8 (a * 256 + b)) high
    ∙ ap (λ (s : List ℕ). bits 8 a ++ s) (bits-same 8 (a * 256 + b) b low) in
    bits_of-cons a (b ∷ bytes) ∙ ap (λ (s : List ℕ). bits 8 a ++ s) (bits_of-cons b bytes)
    ∙ sym (append_assoc (bits 8 a) (bits 8 b) (bits_of bytes))
    ∙ ap (λ (s : List ℕ). s ++ bits_of bytes) (sym split)

pub no_bits : (n : ℕ) (rest : List ℕ) → bits 0 n ++ rest ≡ rest
unfolding bits
no_bits n rest = refl

pub take_byte : (v b : ℕ) (fields : List Field) (bytes : List ℕ) → v < 256 → b < 256
    → HasFields (number 8 v ∷ fields) (bits_of (b ∷ bytes)) → (b ≡ v) × HasFields fields (bits_of bytes)
take_byte v b fields bytes fits lt has =
    let t =
    take_number 8 0 b v fields (bits_of bytes) fits
    (subst (HasFields (number 8 v ∷ fields)) (bits_of-cons b bytes) has) in
    let same : b ≡ v = omega (arith, t.0) in
    (same, subst (HasFields fields) (no_bits b (bits_of bytes)) t.1)

pub put_byte : (b : ℕ) (fields : List Field) (bytes : List ℕ) → b < 256
    → HasFields fields (bits_of bytes) → HasFields (number 8 b ∷ fields) (bits_of (b ∷ bytes))
put_byte b fields bytes lt more =
    subst (HasFields (number 8 b ∷ fields)) (sym (bits_of-cons b bytes))
    (put_number 8 0 b b fields (bits_of bytes) (omega arith)
    (subst (HasFields fields) (sym (no_bits b (bits_of bytes))) more))

pub take_word : (v a b : ℕ) (fields : List Field) (bytes : List ℕ) → v < 2 ^ 16 → a < 256 → b < 256
    → HasFields (number 16 v ∷ fields) (bits_of (a ∷ b ∷ bytes)) → (a * 256 + b ≡ v)
    × HasFields fields (bits_of bytes)
take_word v a b fields bytes fits lta lt has =
    let t =
    take_number 16 0 (a * 256 + b) v fields (bits_of bytes) fits
    (subst (HasFields (number 16 v ∷ fields)) (bits_of-two a b bytes lt) has) in
    let same : a * 256 + b ≡ v = omega (arith, t.0) in
    (same, subst (HasFields fields) (no_bits (a * 256 + b) (bits_of bytes)) t.1)

pub put_word : (a b : ℕ) (fields : List Field) (bytes : List ℕ) → a < 256 → b < 256
    → HasFields fields (bits_of bytes)
    → HasFields (number 16 (a * 256 + b) ∷ fields) (bits_of (a ∷ b ∷ bytes))
put_word a b fields bytes lta lt more =
    subst (HasFields (number 16 (a * 256 + b) ∷ fields)) (sym (bits_of-two a b bytes lt))
    (put_number 16 0 (a * 256 + b) (a * 256 + b) fields (bits_of bytes) (omega arith)
    (subst (HasFields fields) (sym (no_bits (a * 256 + b) (bits_of bytes))) more))
