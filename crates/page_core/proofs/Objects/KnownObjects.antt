-- What is known of the body of an object's segment.
use Rattle.std.proofs.Common.{◌≡◌, ◌∙◌, ℕ, List, length, None, sym, ap, subst, arith}
use Rattle.std.proofs.Math.Seq.{take-length}
use Rattle.stream_syntax.specs.SegmentTests.{frame_tests, object_tests, body_of}
use Rattle.stream_syntax.specs.Segments.{Object, of_object, IsSegment}
use Rattle.stream_syntax.specs.Tests.{byte_at, first_fault}
use Rattle.segments.specs.Reading.{object_in, value_in}
use Rattle.segments.proofs.Bodies.{object_kind}
use Rattle.segments.proofs.WholeSegments.{segment_again}
use Rattle.segments.proofs.Readings.{kind_of_segment}

-- the body of an object's segment passes the tests of one, and has the object
pub record IsKnown (bytes : List ℕ) (value : Object) : Type 0 where
  pub head : first_fault (frame_tests bytes) ≡ None
  pub tests : first_fault (object_tests (body_of bytes)) ≡ None
  pub object : value ≡ object_in (body_of bytes)

pub known : (bytes : List ℕ) (value : Object) → IsSegment bytes (of_object value) → IsKnown bytes value
known bytes value is =
    let again =
    segment_again bytes (length bytes) (of_object value) (omega arith)
    (subst (λ (part : List ℕ). IsSegment part (of_object value)) (sym (take-length bytes)) is) in
    let kind : byte_at 1 bytes ≡ 19 = kind_of_segment bytes (of_object value) is in
    let found : of_object value ≡ of_object (object_in (body_of bytes)) =
    again.2.0.0 ∙ ap (λ (k : ℕ). value_in k (body_of bytes)) kind in
    record {
      head = again.0;
      tests = ap first_fault (sym (object_kind (byte_at 1 bytes) (body_of bytes) kind)) ∙ again.2.0.1;
      object = cc;
    }

-- as the body of its frame
pub known_body : (segment body : List ℕ) (value : Object) → IsSegment segment (of_object value)
    → body ≡ body_of segment → (first_fault (object_tests body) ≡ None) × (object_in body ≡ value)
known_body segment body value is same =
    let k = known segment value is in (
      subst (λ (bytes : List ℕ). first_fault (object_tests bytes) ≡ None) (sym same) k.tests,
      ap object_in same ∙ sym k.object,
    )
