-- The frames of a data field: what the head says is the frame, and a walk over heads meets the frames of the field.
use Rattle.std.proofs.Common.{◌≡◌, ◌∙◌, ℕ, ◌+◌, ◌-◌, false, List, ◌∷◌, length, take, drop, None, refl, sym, ap, arith}
use Rattle.std.proofs.lemmas.List.{length-take-le, get_or-take, drop-take, take_all, take_rest}
use Rattle.stream_syntax.specs.SegmentTests.{frame_tests, body_of, segment_size}
use Rattle.stream_syntax.specs.Tests.{byte_at, word_at, first_fault}
use Rattle.stream_syntax.specs.DataField.{segment, ends_segments, frames_of}
use Rattle.stream_syntax.proofs.FrameLaws.{frames_more}
use Rattle.segments.specs.declared.frame.Frame.{Frame}
use Rattle.segments.specs.Framing.{IsFrameOf, IsFirstFrame}
use Rattle.segments.proofs.WholeSegments.{head_asks, head_passes, body_length}
use Rattle.segments.proofs.Shapes.{AreBytes, AreBytes-take}

-- what the head says of bytes that pass its tests
pub frame_is : (bytes : List ℕ) (frame : Frame) → AreBytes bytes → None ≡ first_fault (frame_tests bytes)
    → frame.kind ≡ byte_at 1 bytes → frame.page ≡ word_at 2 bytes
    → frame.whole ≡ 6 + word_at 4 bytes → frame.body.now ≡ body_of bytes → IsFrameOf bytes frame
frame_is bytes frame fits passes kind page whole body =
    record { each = fits; passes = sym passes; kind_is = kind; page_is = page; whole_is = whole; body_is = body }

-- the body has as many bytes as the head says
pub body_size : (bytes : List ℕ) (frame : Frame) → IsFrameOf bytes frame
    → length frame.body.now ≡ word_at 4 bytes
body_size bytes frame is =
    ap (λ (body : List ℕ). length body) is.body_is ∙ body_length bytes (head_asks bytes is.passes)

-- the bytes of the segment alone have the same frame
pub alone : (bytes : List ℕ) (frame : Frame) → IsFrameOf bytes frame
    → IsFrameOf (take (segment_size bytes) bytes) frame × (frame.whole ≡ length (take (segment_size bytes) bytes))
alone bytes frame is =
    let size = segment_size bytes in
    let asks = head_asks bytes is.passes in
    let long : length (take size bytes) ≡ size = length-take-le size bytes asks.2 in
    let zeroth = get_or-take size bytes 0 0 (omega arith) in
    let first = get_or-take size bytes 1 0 (omega arith) in
    let second = get_or-take size bytes 2 0 (omega arith) in
    let third = get_or-take size bytes 3 0 (omega arith) in
    let word : word_at 4 (take size bytes) ≡ word_at 4 bytes =
    rw (get_or-take size bytes 4 0 (omega arith), get_or-take size bytes 5 0 (omega arith)) refl in
    let page : word_at 2 (take size bytes) ≡ word_at 2 bytes = rw (second, third) refl in
    let body : body_of (take size bytes) ≡ body_of bytes =
    ap (λ (n : ℕ). take n (drop 6 (take size bytes))) word
    ∙ ap (take (word_at 4 bytes)) (drop-take 6 (word_at 4 bytes) bytes)
    ∙ take_all (word_at 4 bytes) (body_of bytes) (omega (arith, body_length bytes asks)) in (
      record {
        each = AreBytes-take size bytes is.each;
        passes = head_passes (take size bytes) (zeroth ∙ asks.0, omega arith, omega arith);
        kind_is = is.kind_is ∙ sym first;
        page_is = is.page_is ∙ sym page;
        whole_is = is.whole_is ∙ ap (λ (n : ℕ). 6 + n) (sym word);
        body_is = is.body_is ∙ sym body;
      },
      is.whole_is ∙ sym long,
    )

-- the first of the frames of a field, and those behind it
pub first_frame : (field behind : List ℕ) (frame : Frame) → IsFrameOf field frame
    → ends_segments field ≡ false → behind ≡ take (length field - frame.whole) (drop frame.whole field)
    → IsFirstFrame (frames_of field) (frames_of behind) frame
first_frame field behind frame is goes_on is_behind =
    let one = alone field frame is in
    let left : behind ≡ drop (segment_size field) field =
    is_behind ∙ take_rest field frame.whole ∙ ap (λ n. drop n field) is.whole_is in
    record {
      bytes = take (segment_size field) field;
      first =
          frames_more field goes_on (sym is.passes)
          ∙ ap (λ (rest : List ℕ). segment (take (segment_size field) field) ∷ frames_of rest) (sym left);
      is_frame = one.0;
      exact = one.1;
    }
