-- The head of a segment: what is read at its places is what its table says.
use Rattle.std.proofs.Common.{◌≡◌, ℕ, ◌+◌, ◌*◌, ◌≤◌, List, [], ◌∷◌, length, take, subst, arith}
use Rattle.stream_syntax.specs.Fields.{number, HasFields}
use Rattle.stream_syntax.specs.PixelCodes.{bits_of}
use Rattle.stream_syntax.specs.Segments.{head_fields}
use Rattle.stream_syntax.specs.Tests.{byte_at, word_at}
use Rattle.segments.proofs.Shapes.{AreBytes, nothing_left}
use Rattle.segments.proofs.Bits.{put_byte, put_word}

pub head_is_laid : (bytes : List ℕ) → AreBytes bytes → byte_at 0 bytes ≡ 15 → 6 ≤ length bytes
    → HasFields (head_fields (byte_at 1 bytes) (word_at 2 bytes) (word_at 4 bytes)) (bits_of (take 6 bytes))
head_is_laid (a ∷ b ∷ c ∷ d ∷ e ∷ f ∷ rest) fits sync long =
    let size = put_word e f [] [] (fits 4) (fits 5) nothing_left in
    let page = put_word c d _ (e ∷ f ∷ []) (fits 2) (fits 3) size in
    let kind = put_byte b _ (c ∷ d ∷ e ∷ f ∷ []) (fits 1) page in
    let first = put_byte a _ (b ∷ c ∷ d ∷ e ∷ f ∷ []) (fits 0) kind in
    subst (λ (n : ℕ). HasFields
    (number 8 n ∷ number 8 b ∷ number 16 (c * 256 + d) ∷ number 16 (e * 256 + f) ∷ [])
    (bits_of (a ∷ b ∷ c ∷ d ∷ e ∷ f ∷ []))) sync first
head_is_laid [] fits sync long = absurd (omega arith)
head_is_laid (a ∷ []) fits sync long = absurd (omega arith)
head_is_laid (a ∷ b ∷ []) fits sync long = absurd (omega arith)
head_is_laid (a ∷ b ∷ c ∷ []) fits sync long = absurd (omega arith)
head_is_laid (a ∷ b ∷ c ∷ d ∷ []) fits sync long = absurd (omega arith)
head_is_laid (a ∷ b ∷ c ∷ d ∷ e ∷ []) fits sync long = absurd (omega arith)

pub head_reads : (bytes : List ℕ) (kind page size : ℕ) → AreBytes bytes → byte_at 0 bytes ≡ 15
    → 6 ≤ length bytes
    → kind ≡ byte_at 1 bytes → page ≡ word_at 2 bytes → size ≡ word_at 4 bytes
    → HasFields (head_fields kind page size) (bits_of (take 6 bytes))
head_reads bytes kind page size fits sync long kind-is page-is size-is =
    rw (kind-is, page-is, size-is) (head_is_laid bytes fits sync long)
