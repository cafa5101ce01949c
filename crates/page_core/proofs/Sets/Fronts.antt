-- The segment at the front of framed segments.
use Rattle.std.specs.Prelude.{IfOk, IsOkAnd}
use Rattle.std.proofs.Common.{Result, ◌≡◌, ℕ, ◌≤◌, List, ◌++◌, length, take, drop, None, Ok, Err, sym, ap, subst, ◌∙◌, arith, length-append}
use Rattle.std.proofs.Math.Seq.{take-append_seam, drop-append_seam, take-length}
use Rattle.std.proofs.Math.ListN.{get_or-append}
use Rattle.std.proofs.lemmas.Bool.Decides.{nat_tests}
use Rattle.stream_syntax.specs.SegmentTests.{frame_tests, IsSegmentFault, segment_size}
use Rattle.stream_syntax.specs.Segments.{SegmentValue, IsSegment}
use Rattle.stream_syntax.specs.Tests.{byte_at, first_fault}
use Rattle.stream_syntax.specs.declared.segment_fault.SegmentFault.{SegmentFault}
use Rattle.decoder_model.specs.Readings.{Reading, read, faulty, IsReading}
use Rattle.segments.specs.Contents.{contents}
use Rattle.segments.specs.declared.reading.Segment.{Segment}
use Rattle.decoder_model.specs.Received.{IsFramed, BeginsWith}
use Rattle.page_core.specs.Handed.{Matches}
use Rattle.page_core.specs.Private.RegionSteps.{IsValidValue}
use Rattle.page_core.proofs.Regions.RegionHeads.{valid_value}

-- framed bytes have a head
pub framed_length : (bytes : List ℕ) → IsFramed bytes → 6 ≤ length bytes
framed_length bytes framed = let whole = framed.whole in omega arith

-- behind framed bytes the size at the front stays
pub size_at_front : (segment rest : List ℕ) → IsFramed segment → segment_size (segment ++ rest) ≡ length segment
size_at_front segment rest framed =
    let long = framed_length segment framed in
    let fourth : byte_at 4 (segment ++ rest) ≡ byte_at 4 segment = get_or-append segment rest 0 4 (omega arith) in
    let fifth : byte_at 5 (segment ++ rest) ≡ byte_at 5 segment = get_or-append segment rest 0 5 (omega arith) in
    let whole = framed.whole in
    omega arith

-- bytes that begin with a framed segment are framed at the front
pub framed_at_front : (segment rest : List ℕ) → IsFramed segment
    → first_fault (frame_tests (segment ++ rest)) ≡ None
framed_at_front segment rest framed =
    let long = framed_length segment framed in
    let first : byte_at 0 (segment ++ rest) ≡ byte_at 0 segment = get_or-append segment rest 0 0 (omega arith) in
    let fourth : byte_at 4 (segment ++ rest) ≡ byte_at 4 segment = get_or-append segment rest 0 4 (omega arith) in
    let fifth : byte_at 5 (segment ++ rest) ≡ byte_at 5 segment = get_or-append segment rest 0 5 (omega arith) in
    let whole = framed.whole in
    let test = framed.framed in
    let longer = length-append segment rest in
    grind (arith, nat_tests)

-- what a reader of whole segments gives is what a reading says
pub matches_ok : (bytes : List ℕ) (segment : Segment) (whole : ℕ) (reading : Reading)
    → ((value : SegmentValue) (size : ℕ) → size ≤ length bytes → IsSegment (take size bytes) value
    → (contents segment ≡ value) × (whole ≡ size))
    → ((fault : SegmentFault) → IsSegmentFault bytes fault → ⊥) → IsReading bytes reading
    → Matches (Ok segment) reading
matches_ok bytes segment whole (read content) every never is_reading =
    (every content.value (length bytes) (omega arith)
    (subst (λ (part : List ℕ). IsSegment part content.value) (sym (take-length bytes)) is_reading.segment)).0
matches_ok bytes segment whole (faulty fault) every never is_reading = never fault is_reading

pub matches_err : (bytes : List ℕ) (found : SegmentFault) (reading : Reading)
    → ((value : SegmentValue) (size : ℕ) → size ≤ length bytes → IsSegment (take size bytes) value → ⊥)
    → ((fault : SegmentFault) → IsSegmentFault bytes fault → found ≡ fault) → IsReading bytes reading
    → Matches (Err found) reading
matches_err bytes found (read content) never every is_reading =
    never content.value (length bytes) (omega arith)
    (subst (λ (part : List ℕ). IsSegment part content.value) (sym (take-length bytes)) is_reading.segment)
matches_err bytes found (faulty fault) never every is_reading = every fault is_reading

-- what a reader of a frame gives is what a reading of its segment says
pub matches_result : (bytes : List ℕ) (whole : ℕ) (result : Result Segment SegmentFault) (reading : Reading)
    → ((value : SegmentValue) (size : ℕ) → size ≤ length bytes → IsSegment (take size bytes) value
    → IsOkAnd result (λ segment. (contents segment ≡ value) × (whole ≡ size)))
    → ((fault : SegmentFault) → IsSegmentFault bytes fault → result ≡ Err fault) → IsReading bytes reading
    → Matches result reading
matches_result bytes whole (Ok segment) reading every_segment every_fault is_reading =
    matches_ok bytes segment whole reading every_segment
    (λ fault is. absurd
    (let no : ◌≡◌ {A = Result Segment SegmentFault} (Ok segment) (Err fault) = every_fault fault is in cc))
    is_reading
matches_result bytes whole (Err found) reading every_segment every_fault is_reading =
    matches_err bytes found reading every_segment
    (λ fault is. let same : ◌≡◌ {A = Result Segment SegmentFault} (Err found) (Err fault) = every_fault fault
    is in cc) is_reading

-- and a valid value
pub right_result : (bytes : List ℕ) (whole : ℕ) (result : Result Segment SegmentFault)
    → IfOk result (λ segment. IsSegment (take whole bytes) (contents segment))
    → IfOk result (λ segment. IsValidValue (contents segment))
right_result bytes whole (Ok segment) is = valid_value (take whole bytes) (contents segment) is
right_result bytes whole (Err fault) is = tt

-- the front of bytes, cut where the size says
pub taken_front : (bytes rest : List ℕ) (reading : Reading) (size : ℕ) → BeginsWith bytes reading rest
    → size ≡ segment_size bytes → IsReading (take size bytes) reading × (drop size bytes ≡ rest)
taken_front bytes rest reading size begins is_size =
    let right : size ≡ length begins.segment =
    is_size ∙ ap segment_size begins.joined ∙ size_at_front begins.segment rest begins.is_framed in
    let front : take size bytes ≡ begins.segment =
    ap (λ n. take n bytes) right ∙ ap (take (length begins.segment)) begins.joined
    ∙ take-append_seam begins.segment rest in (
      subst (λ (part : List ℕ). IsReading part reading) (sym front) begins.is_reading,
      ap (λ n. drop n bytes) right ∙ ap (drop (length begins.segment)) begins.joined
          ∙ drop-append_seam begins.segment rest,
    )

-- and they are framed there
pub framed_front : (bytes rest : List ℕ) (reading : Reading) → BeginsWith bytes reading rest
    → first_fault (frame_tests bytes) ≡ None
framed_front bytes rest reading begins =
    ap (λ (all : List ℕ). first_fault (frame_tests all)) begins.joined
    ∙ framed_at_front begins.segment rest begins.is_framed
