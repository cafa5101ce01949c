-- The bytes of a segment that can be written: its head, and what does not depend on its page.
use Rattle.std.proofs.Common.{◌≡◌, ℕ, ◌/◌, ◌%◌, ◌∷◌, ◌++◌, length, sym, ap}
use Rattle.stream_syntax.specs.Segments.{SegmentValue, spelled, segment_kind, IsWritable}
use Rattle.stream_syntax.specs.Tests.{byte_at, word_at}
use Rattle.decoder_model.specs.Received.{IsFramed}
use Rattle.segments.specs.Writing.{word_bytes, body_bytes}
use Rattle.segments.proofs.Spellings.{spelled_as, spelled_head}
use Rattle.sent_sets.proofs.FieldFrames.{framed_by_head}

-- its type and its page
pub head_kind : (page : ℕ) (value : SegmentValue) → IsWritable page value
    → byte_at 1 (spelled page value) ≡ segment_kind value
head_kind page value writable = (spelled_head page value writable).kind_is

pub head_page : (page : ℕ) (value : SegmentValue) → IsWritable page value → word_at 2 (spelled page value) ≡ page
head_page page value writable = (spelled_head page value writable).page_is

-- it is one segment by its head
pub is_framed : (page : ℕ) (value : SegmentValue) → IsWritable page value → IsFramed (spelled page value)
is_framed page value writable =
    let head = spelled_head page value writable in
    framed_by_head (spelled page value)
    (record { sync = ap (byte_at 0) (spelled_as page value writable.fits); size = sym head.size_is })

-- its bytes, of which two are those of the page
pub bytes_on : (page : ℕ) (value : SegmentValue) → IsWritable page value
    → spelled page value
    ≡ 15 ∷ segment_kind value ∷ page / 256 % 256 ∷ page % 256
    ∷ (word_bytes (length (body_bytes value)) ++ body_bytes value)
bytes_on page value writable = spelled_as page value writable.fits
