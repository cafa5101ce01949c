-- The tests and the value of a body by the segment type.
use Rattle.std.proofs.Common.{◌≡◌, ℕ, ◌/◌, ◌%◌, Bool, true, false, cond, List, length, drop, Some, None, Ok, Err, refl, sym, ap, subst, ◌∙◌}
use Rattle.std.specs.Prelude.{◌==◌, nat_lt, ◌||◌}
use Rattle.std.specs.Result.{result_err}
use Rattle.stream_syntax.specs.declared.segment_fault.SegmentFault.{SegmentFault}
use Rattle.stream_syntax.specs.declared.segment_fault.SegmentKind.TheVariants.{BadLength, ZeroSize, BadDepth}
use Rattle.stream_syntax.specs.Segments.{Region, Object, Display, SegmentValue, of_region, of_object, of_display}
use Rattle.stream_syntax.specs.SegmentTests.{page_tests, region_tests, listing_tests, clut_tests, object_tests, display_tests, body_tests, IsBlocksFault, IsBodyFault, in_tests, in_blocks}
use Rattle.stream_syntax.specs.Tests.{Test, first_fault, byte_at, word_at}
use Rattle.segments.specs.Reading.{◌>>=◌, checked, tested, region_head_in, region_in, region_at, depth_of, object_in, object_at, display_in, display_at, value_in}
use Rattle.segments.specs.Contents.{region_listings}
use Rattle.segments.proofs.Checks.{fault_of_checked, value_of_checked, same_from_ok, tested-then}

-- the first fault of tests that gave one, and of tests that gave none
pub fault_known : {Value : Type 0} (tests : List (Test SegmentFault)) (value : Value) (fault : SegmentFault)
    → checked tests value ≡ Err fault → first_fault tests ≡ Some fault
fault_known tests value fault e = sym (fault_of_checked tests value) ∙ ap result_err e

pub no_fault : {Value : Type 0} (tests : List (Test SegmentFault)) (value found : Value)
    → checked tests value ≡ Ok found → first_fault tests ≡ None
no_fault tests value found e = sym (fault_of_checked tests value) ∙ ap result_err e

pub value_known : {Value : Type 0} (tests : List (Test SegmentFault)) (value found : Value)
    → checked tests value ≡ Ok found → value ≡ found
value_known {Value} tests value found e =
    same_from_ok {Fault = SegmentFault} value found
    (sym (value_of_checked tests value (no_fault tests value found e)) ∙ e)

-- a fault of the tests of the body's type
pub is_body_fault : {Value : Type 0} (kind : ℕ) (body : List ℕ) (tests : List (Test SegmentFault)) (value : Value)
    (fault : SegmentFault) → body_tests kind body ≡ tests → checked tests value ≡ Err fault
    → IsBodyFault kind body fault
is_body_fault kind body tests value fault same e = in_tests (ap first_fault same ∙ fault_known tests value fault e)

pub page_kind : (kind : ℕ) (body : List ℕ) → kind ≡ 16 → body_tests kind body ≡ page_tests body
page_kind kind body e = rw e refl

pub region_kind : (kind : ℕ) (body : List ℕ) → kind ≡ 17 → body_tests kind body ≡ region_tests body
region_kind kind body e = rw e refl

pub clut_kind : (kind : ℕ) (body : List ℕ) → kind ≡ 18 → body_tests kind body ≡ clut_tests body
clut_kind kind body e = rw e refl

pub object_kind : (kind : ℕ) (body : List ℕ) → kind ≡ 19 → body_tests kind body ≡ object_tests body
object_kind kind body e = rw e refl

pub display_kind : (kind : ℕ) (body : List ℕ) → kind ≡ 20 → body_tests kind body ≡ display_tests body
display_kind kind body e = rw e refl

-- reading a region is its tests in order
region_steps : (a b c : Bool) (f1 f2 f3 : SegmentFault) {Depth Head Whole : Type 0} (depth : Depth)
    (head : Depth → Head) (tests : List (Test SegmentFault)) (whole : Head → Whole)
    → ((cond a (Err f1) (cond b (Err f2) (Ok (tt {0}))) >>= λ shape. cond c (Err f3) (Ok depth) >>= λ d. Ok
    (head d)) >>= λ h. tested tests >>= λ passed. Ok (whole h))
    ≡ cond a (Err f1) (cond b (Err f2) (cond c (Err f3) (checked tests (whole (head depth)))))
region_steps true b c f1 f2 f3 depth head tests whole = refl
region_steps false true c f1 f2 f3 depth head tests whole = refl
region_steps false false true f1 f2 f3 depth head tests whole = refl
region_steps false false false f1 f2 f3 depth head tests whole = tested-then tests (whole (head depth))

pub region_is : (body : List ℕ) → region_at body ≡ checked (region_tests body) (region_in body)
unfolding region_at
region_is body =
    region_steps (nat_lt (length body) 10) (word_at 2 body == 0 || word_at 4 body == 0)
    (byte_at 6 body / 4 % 8 == 0 || nat_lt 3 (byte_at 6 body / 4 % 8))
    (record { place = 4; kind = BadLength }) (record { place = 8; kind = ZeroSize })
    (record { place = 12; kind = BadDepth })
    (depth_of (byte_at 6 body / 4 % 8)) (region_head_in body) (listing_tests 16 (drop 10 body))
    (λ head. record { head = head; listings = region_listings (drop 10 body) })

-- ---- what was read without a fault, by the segment type

abbrev pub Found : ℕ → List ℕ → SegmentValue → Type 0
Found kind body value = (value ≡ value_in kind body) × (first_fault (body_tests kind body) ≡ None)

pub region_found : (kind : ℕ) (body : List ℕ) (value : Region) → kind ≡ 17 → region_at body ≡ Ok value
    → Found kind body (of_region value)
region_found kind body value e read =
    let known : checked (region_tests body) (region_in body) ≡ Ok value = sym (region_is body) ∙ read in
    rw e (
      ap of_region (sym (value_known (region_tests body) (region_in body) value known)),
      no_fault
          (region_tests body) (region_in body) value known,
    )

pub object_found : (kind : ℕ) (body : List ℕ) (value : Object) → kind ≡ 19 → object_at body ≡ Ok value
    → Found kind body (of_object value)
object_found kind body value e known =
    rw e (
      ap of_object (sym (value_known (object_tests body) (object_in body) value known)),
      no_fault
          (object_tests body) (object_in body) value known,
    )

pub display_found : (kind : ℕ) (body : List ℕ) (value : Display) → kind ≡ 20 → display_at body ≡ Ok value
    → Found kind body (of_display value)
display_found kind body value e known =
    rw e (
      ap of_display (sym (value_known (display_tests body) (display_in body) value known)),
      no_fault
          (display_tests body) (display_in body) value known,
    )

pub object_fault : (kind : ℕ) (body : List ℕ) (value : Object) (fault : SegmentFault) → kind ≡ 19
    → object_at body ≡ Ok value → IsBlocksFault value.top value.bottom fault → IsBodyFault kind body fault
object_fault kind body value fault e known bad =
    let same : object_in body ≡ value = value_known (object_tests body) (object_in body) value known in
    in_blocks (object_found kind body value e known).1 e
    (subst (λ (o : Object). IsBlocksFault o.top o.bottom fault) (sym same) bad)
