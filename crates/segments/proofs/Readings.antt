-- What bytes are read as: a segment or a fault, and never both.
use Rattle.std.proofs.Common.{◌≡◌, ℕ, ◌+◌, ◌≤◌, List, ◌++◌, length, take, drop, Option, Some, None, Result, Ok, Err, refl, sym, ap, subst, ◌∙◌, arith}
use Rattle.std.specs.Prelude.{IfOk, IfErr, OnOk, IsOkAnd}
use Rattle.std.proofs.lemmas.List.{take_at, length-append}
use Rattle.sub_base.specs.declared.depth.Depth.TheVariants.{Eight}
use Rattle.pixel_codes.proofs.Blocks.{not_both}
use Rattle.pixel_codes.proofs.Parts.{same_fault}
use Rattle.stream_syntax.specs.declared.code_fault.CodeFault.{CodeFault}
use Rattle.stream_syntax.specs.declared.segment_fault.SegmentFault.{SegmentFault}
use Rattle.stream_syntax.specs.declared.segment_fault.SegmentKind.TheVariants.{Code}
use Rattle.stream_syntax.specs.Segments.{SegmentValue, of_page, of_region, of_clut, of_object, of_display, end_of_set, passed_over, IsBody, IsKindOf, IsSegment}
use Rattle.stream_syntax.specs.Fields.{Field}
use Rattle.stream_syntax.specs.SegmentTests.{frame_tests, body_tests, body_of, top_in, bottom_in, AreBlocks, IsBlocksFault, in_top, in_bottom, IsBodyFault, in_tests, in_blocks, IsSegmentFault, in_head, in_body}
use Rattle.stream_syntax.specs.Tests.{first_fault, byte_at, word_at}
use Rattle.segments.specs.declared.reading.Segment.{Segment}
use Rattle.segments.specs.declared.frame.Frame.{Frame}
use Rattle.segments.specs.Contents.{contents}
use Rattle.segments.specs.Framing.{IsFrameOf}
use Rattle.segments.specs.Reading.{value_in}
use Rattle.segments.proofs.WholeSegments.{is_segment, segment_again, kind_there}
use Rattle.segments.proofs.Shapes.{AreBytes, AreBytes-take, AreBytes-drop}
use Rattle.segments.proofs.Whole.{Reads, body_laid}

-- ---- blocks

blocks_apart : (top bottom : List ℕ) (fault : SegmentFault) → AreBlocks top bottom
    → IsBlocksFault top bottom fault → ⊥
blocks_apart top bottom fault blocks (in_top code bad is) = not_both Eight top blocks.top_runs code blocks.top_is bad
blocks_apart top bottom fault blocks (in_bottom runs code good bad is) =
    not_both Eight bottom blocks.bottom_runs code blocks.bottom_is bad

same_blocks_fault : (top bottom : List ℕ) (one other : SegmentFault) → IsBlocksFault top bottom one
    → IsBlocksFault top bottom other → one ≡ other
same_blocks_fault top bottom one other (in_top code bad is) (in_top code' bad' is') =
    is ∙ ap (λ (c : CodeFault). record { place = 13 + c.place; kind = Code c })
    (same_fault Eight top code code' bad bad') ∙ sym is'
same_blocks_fault top bottom one other (in_top code bad is) (in_bottom runs code' good bad' is') =
    absurd (not_both Eight top runs code good bad)
same_blocks_fault top bottom one other (in_bottom runs code good bad is) (in_top code' bad' is') =
    absurd (not_both Eight top runs code' good bad')
same_blocks_fault top bottom one other (in_bottom runs code good bad is) (in_bottom runs' code' good' bad' is') =
    is ∙ ap (λ (c : CodeFault). record { place = 13 + length top + c.place; kind = Code c })
    (same_fault Eight bottom code code' bad bad') ∙ sym is'

-- ---- bodies and whole segments

abbrev fails : SegmentFault → Option SegmentFault
fails fault = Some fault

apart : {fault : SegmentFault} → fails fault ≡ None → ⊥
apart e = cc

AreBytes-body : (bytes : List ℕ) → AreBytes bytes → AreBytes (body_of bytes)
AreBytes-body bytes fits = AreBytes-take (word_at 4 bytes) (drop 6 bytes) (AreBytes-drop 6 bytes fits)

same_some : (one other : SegmentFault) → fails one ≡ fails other → one ≡ other
same_some one other e = cc

same_body_fault : (kind : ℕ) (body : List ℕ) (one other : SegmentFault) → IsBodyFault kind body one
    → IsBodyFault kind body other → one ≡ other
same_body_fault kind body one other (in_tests a) (in_tests b) = same_some one other (sym a ∙ b)
same_body_fault kind body one other (in_tests a) (in_blocks none e bad) = absurd (apart (sym a ∙ none))
same_body_fault kind body one other (in_blocks none e bad) (in_tests b) = absurd (apart (sym b ∙ none))
same_body_fault kind body one other (in_blocks none e bad) (in_blocks none' e' bad') =
    same_blocks_fault (top_in body) (bottom_in body) one other bad bad'

-- bytes have one fault
pub same_segment_fault : (bytes : List ℕ) (one other : SegmentFault) → IsSegmentFault bytes one
    → IsSegmentFault bytes other → one ≡ other
same_segment_fault bytes one other (in_head a) (in_head b) = same_some one other (sym a ∙ b)
same_segment_fault bytes one other (in_head a) (in_body none bad) = absurd (apart (sym a ∙ none))
same_segment_fault bytes one other (in_body none bad) (in_head b) = absurd (apart (sym b ∙ none))
same_segment_fault bytes one other (in_body none bad) (in_body none' bad') =
    same_body_fault (byte_at 1 bytes) (body_of bytes) one other bad bad'

body_apart : (kind : ℕ) (body : List ℕ) (value : SegmentValue) (fault : SegmentFault) → Reads kind body value
    → IsBodyFault kind body fault → ⊥
body_apart kind body value fault reads (in_tests e) = apart (sym e ∙ reads.0.1)
body_apart kind body value fault reads (in_blocks none e bad) =
    blocks_apart (top_in body) (bottom_in body) fault (reads.1 e) bad

segment_apart : (bytes : List ℕ) (value : SegmentValue) (fault : SegmentFault)
    → first_fault (frame_tests bytes) ≡ None → Reads (byte_at 1 bytes) (body_of bytes) value
    → IsSegmentFault bytes fault → ⊥
segment_apart bytes value fault none reads (in_head e) = apart (sym e ∙ none)
segment_apart bytes value fault none reads (in_body none' bad) =
    body_apart (byte_at 1 bytes) (body_of bytes) value fault reads bad

-- ---- what reading gave

-- a segment that was read: its head and its body pass their tests, and this is its value
pub record WasRead (bytes : List ℕ) (value : SegmentValue) : Type 0 where
  pub head : first_fault (frame_tests bytes) ≡ None
  pub body : Reads (byte_at 1 bytes) (body_of bytes) value

abbrev pub Outcome : Type 0
Outcome = Result Segment SegmentFault

abbrev pub WasAllRead : List ℕ → Outcome → Type 0
WasAllRead bytes result = IfOk result (λ segment. WasRead bytes (contents segment))

pub found : (bytes : List ℕ) (size : ℕ) (result : Outcome) → AreBytes bytes → size ≡ 6 + word_at 4 bytes
    → WasAllRead bytes result → IfOk result (λ segment. IsSegment (take size bytes) (contents segment))
found bytes size (Ok segment) fits whole was =
    let laid =
    body_laid (byte_at 1 bytes) (body_of bytes) (contents segment) (AreBytes-body bytes fits) (fits 1) was.body.0
    was.body.1 in
    subst (λ (n : ℕ). IsSegment (take n bytes) (contents segment)) (sym whole)
    (is_segment bytes (contents segment) fits was.head laid)
found bytes size (Err fault) fits whole was = tt

kind_of_body : (value : SegmentValue) (kind : ℕ) (fields : List Field) → IsBody value kind fields
    → IsKindOf value kind
kind_of_body (of_page value) kind fields is = is.0
kind_of_body (of_region value) kind fields is = is.0
kind_of_body (of_clut value) kind fields is = is.0
kind_of_body (of_object value) kind fields is = is.0
kind_of_body (of_display value) kind fields is = is.0
kind_of_body end_of_set kind fields is = is.0
kind_of_body passed_over kind fields is = is.0

-- a segment has the type of its value in its second byte
pub kind_of_segment : (bytes : List ℕ) (value : SegmentValue) → IsSegment bytes value
    → IsKindOf value (byte_at 1 bytes)
kind_of_segment bytes value is =
    subst (IsKindOf value) (kind_there bytes value is) (kind_of_body value is.kind is.body is.is_body)

pub kind_found : (bytes : List ℕ) (result : Outcome) → AreBytes bytes → WasAllRead bytes result
    → IfOk result (λ segment. IsKindOf (contents segment) (byte_at 1 bytes))
kind_found bytes (Ok segment) fits was =
    let laid =
    body_laid (byte_at 1 bytes) (body_of bytes) (contents segment) (AreBytes-body bytes fits) (fits 1) was.body.0
    was.body.1 in
    kind_of_body (contents segment) (byte_at 1 bytes) laid.fields laid.is_body
kind_found bytes (Err fault) fits was = tt

same_value : (kind : ℕ) (body : List ℕ) (one other : SegmentValue) → Reads kind body one
    → Reads kind body other → one ≡ other
same_value kind body one other a b = a.0.0 ∙ sym b.0.0

-- bytes that begin with a segment have no fault
pub no_fault_there : (bytes : List ℕ) (size : ℕ) (value : SegmentValue) (fault : SegmentFault)
    → size ≤ length bytes → IsSegment (take size bytes) value → IsSegmentFault bytes fault → ⊥
no_fault_there bytes size value fault le is bad =
    let again = segment_again bytes size value le is in
    segment_apart bytes value fault again.0 again.2 bad

pub every_segment : (bytes : List ℕ) (whole : ℕ) (result : Outcome) → whole ≡ 6 + word_at 4 bytes
    → WasAllRead bytes result → IfErr result (IsSegmentFault bytes)
    → (value : SegmentValue) (size : ℕ) → size ≤ length bytes → IsSegment (take size bytes) value
    → IsOkAnd result (λ segment. (contents segment ≡ value) × (whole ≡ size))
every_segment bytes whole (Ok segment) is_whole was bad value size le is =
    let again = segment_again bytes size value le is in
    (same_value (byte_at 1 bytes) (body_of bytes) (contents segment) value was.body again.2, is_whole ∙ sym again.1)
every_segment bytes whole (Err fault) is_whole was bad value size le is =
    absurd (no_fault_there bytes size value fault le is bad)

pub every_fault : (bytes : List ℕ) (result : Outcome) → WasAllRead bytes result
    → IfErr result (IsSegmentFault bytes)
    → (fault : SegmentFault) → IsSegmentFault bytes fault → result ≡ Err fault
every_fault bytes (Ok segment) was bad fault is =
    absurd (segment_apart bytes (contents segment) fault was.head was.body is)
every_fault bytes (Err known) was bad fault is =
    ap (λ (f : SegmentFault). Err f) (same_segment_fault bytes known fault bad is)

-- a head that is refused leaves no segment, and no other fault
pub head_refused : (bytes : List ℕ) (fault : SegmentFault) → Some fault ≡ first_fault (frame_tests bytes)
    → (value : SegmentValue) (size : ℕ) → size ≤ length bytes → IsSegment (take size bytes) value → ⊥
head_refused bytes fault refused value size le is = no_fault_there bytes size value fault le is (in_head (sym refused))

pub head_fault : (bytes : List ℕ) (known fault : SegmentFault) → Some known ≡ first_fault (frame_tests bytes)
    → IsSegmentFault bytes fault → known ≡ fault
head_fault bytes known fault refused is = same_segment_fault bytes known fault (in_head (sym refused)) is

abbrev refused_with : SegmentFault → Outcome
refused_with fault = Err fault

pub err_is : (one other : SegmentFault) → refused_with one ≡ refused_with other → one ≡ other
err_is one other e = cc

-- ---- a frame and its body

-- what the steps of reading a body say of the result
pub record IsBodyRead (kind : ℕ) (body : List ℕ) (result : Outcome) : Type 0 where
  pub value : IfOk result (λ segment. contents segment ≡ value_in kind body)
  pub passes : OnOk result (first_fault (body_tests kind body) ≡ None)
  pub blocks : OnOk result (kind ≡ 19 → AreBlocks (top_in body) (bottom_in body))
  pub fault : IfErr result (IsBodyFault kind body)

of_body : (bytes : List ℕ) (result : Outcome) → first_fault (frame_tests bytes) ≡ None
    → IsBodyRead (byte_at 1 bytes) (body_of bytes) result → WasAllRead bytes result
    × IfErr result (IsSegmentFault bytes)
of_body bytes (Ok segment) head read = (record { head = head; body = ((read.value, read.passes), read.blocks) }, tt)
of_body bytes (Err fault) head read = (tt, in_body head read.fault)

pub of_frame : (bytes : List ℕ) (frame : Frame) (result : Outcome) → IsFrameOf bytes frame
    → IsBodyRead frame.kind frame.body.now result → WasAllRead bytes result × IfErr result (IsSegmentFault bytes)
of_frame bytes frame result is read =
    of_body bytes result is.passes
    (subst (λ (kind : ℕ). IsBodyRead kind (body_of bytes) result) is.kind_is
    (subst (λ (body : List ℕ). IsBodyRead frame.kind body result) is.body_is read))

-- ---- laws

same_length : (a b x y : List ℕ) → length a ≡ length b → a ++ x ≡ b ++ y → a ≡ b
same_length a b x y len e =
    sym (take_at a x (length a) refl) ∙ ap (take (length a)) e ∙ take_at b y (length a) (sym len)

pub one_reading : (a b x y : List ℕ) (one other : SegmentValue) → IsSegment a one → IsSegment b other
    → a ++ x ≡ b ++ y → (a ≡ b) × (one ≡ other)
one_reading a b x y one other is is' e =
    let first =
    segment_again (a ++ x) (length a) one (omega (arith, length-append a x))
    (subst (λ (s : List ℕ). IsSegment s one) (sym (take_at a x (length a) refl)) is) in
    let front : take (length b) (a ++ x) ≡ b = ap (take (length b)) e ∙ take_at b y (length b) refl in
    let second =
    segment_again (a ++ x) (length b) other (omega (arith, ap length e, length-append b y))
    (subst (λ (s : List ℕ). IsSegment s other) (sym front) is') in (
      same_length a b x y (first.1 ∙ sym second.1) e,
      same_value (byte_at 1 (a ++ x)) (body_of (a ++ x)) one other
          first.2 second.2,
    )
