-- The next content of a kind in a set.
use Rattle.std.proofs.Common.{◌≡◌, ◌∙◌, ℕ, ◌<◌, ◌==◌, Bool, true, false, cond, List, [], ◌∷◌, filter, length, refl, sym, ap, subst, arith}
use Rattle.std.proofs.lemmas.Bool.{eqb-true}
use Rattle.stream_syntax.specs.Segments.{SegmentValue, of_page, of_region, of_clut, of_object, of_display, end_of_set, passed_over, IsKindOf, IsPassedOver, IsSegment, Object}
use Rattle.std.specs.Option.{is_some}
use Rattle.stream_syntax.specs.declared.wire.TheConstants.{OBJECT_DATA}
use Rattle.decoder_model.specs.Contents.{object_in}
use Rattle.stream_syntax.specs.Tests.{byte_at}
use Rattle.decoder_model.specs.Readings.{Content, Reading, read, IsReading}
use Rattle.decoder_model.specs.Received.{BeginsWith}
use Rattle.segments.specs.Contents.{contents}
use Rattle.segments.specs.Framing.{IsFrameOf}
use Rattle.segments.specs.declared.reading.Segment.{Segment}
use Rattle.segments.proofs.Readings.{kind_of_segment}
use Rattle.page_core.specs.Handed.{AreContents, IsFrameCutOff}
use Rattle.page_core.specs.Private.Walks.{is_of, is_content_of, is_object, IsNextFront, IsNextOf, IsLeftOf}
use Rattle.page_core.specs.declared.front.Front.{Front as Cut}

-- the segment type of a segment tells whether its value is of that type
kind_tells : (kind number : ℕ) (value : SegmentValue) → IsKindOf value number → (IsPassedOver kind → ⊥)
    → (number == kind) ≡ is_of kind value
kind_tells kind number (of_page value) is set = ap (λ n. n == kind) is
kind_tells kind number (of_region value) is set = ap (λ n. n == kind) is
kind_tells kind number (of_clut value) is set = ap (λ n. n == kind) is
kind_tells kind number (of_object value) is set = ap (λ n. n == kind) is
kind_tells kind number (of_display value) is set = ap (λ n. n == kind) is
kind_tells kind number end_of_set is set = ap (λ n. n == kind) is
kind_tells kind number passed_over is set = by (number == kind) refl
  where
    by : (hit : Bool) → (number == kind) ≡ hit → hit ≡ false
    by false at = refl
    by true at = absurd (set (subst IsPassedOver (eqb-true number kind at) is))

-- what is cut off at the front of what is left
pub record Front (kind : ℕ) (set : List Content) (front : Cut) : Type 0 where
  pub content : Content
  pub segment : List ℕ
  pub is_reading : IsReading segment (read content)
  pub framed : IsFrameOf segment front.frame
  pub more : List Content
  pub are : AreContents more front.rest.now
  pub same : filter (is_content_of kind) set ≡ filter (is_content_of kind) (content ∷ more)
  pub type_is : (front.frame.kind == kind) ≡ is_content_of kind content

front_by : (kind : ℕ) (set : List Content) (bytes : List ℕ) (front : Cut) (left : List Content)
    → (IsPassedOver kind → ⊥) → length front.rest.now < length bytes
    → ((reading : Reading) (behind : List ℕ) → BeginsWith bytes reading behind
    → IsFrameCutOff reading behind front) → AreContents left bytes
    → filter (is_content_of kind) set ≡ filter (is_content_of kind) left → Front kind set front
front_by kind set bytes front [] known shorter cut none same = absurd (omega (arith, ap length none))
front_by kind set bytes front (content ∷ more) known shorter cut (behind, begins, are) same =
    let off = cut (read content) behind begins in
    record {
      content = content;
      segment = off.segment;
      is_reading = off.is_reading;
      framed = off.framed;
      more = more;
      are = subst (AreContents more) (sym off.behind) are;
      same = same;
      type_is =
          ap (λ number. number == kind) off.framed.kind_is
          ∙ kind_tells kind (byte_at 1 off.segment) content.value
          (kind_of_segment off.segment content.value off.is_reading.segment) known;
    }

pub front_of : (kind : ℕ) (set : List Content) (bytes : List ℕ) (front : Cut) → (IsPassedOver kind → ⊥)
    → length front.rest.now < length bytes
    → ((reading : Reading) (behind : List ℕ) → BeginsWith bytes reading behind
    → IsFrameCutOff reading behind front) → IsLeftOf (is_content_of kind) set bytes → Front kind set front
front_of kind set bytes front known shorter cut l = front_by kind set bytes front l.left known shorter cut l.are l.same

-- one of another type is passed over
pub passed : (kind : ℕ) (set : List Content) (front : Cut) → (front.frame.kind == kind) ≡ false
    → Front kind set front → IsLeftOf (is_content_of kind) set front.rest.now
passed kind set front other f = record {
  left = f.more;
  are = f.are;
  same =
      f.same ∙ ap
      (λ b. cond b (f.content ∷ filter (is_content_of kind) f.more) (filter (is_content_of kind) f.more))
      (sym f.type_is ∙ other);
}

-- one of the type is the next
pub found : (kind : ℕ) (set : List Content) (front : Cut) → (front.frame.kind == kind) ≡ true
    → Front kind set front → IsNextFront kind set front
found kind set front hit f = record {
  content = f.content;
  segment = f.segment;
  is_content = f.is_reading;
  framed = f.framed;
  hit = sym f.type_is ∙ hit;
  more = f.more;
  are = f.are;
  split =
      f.same ∙ ap
      (λ b. cond b (f.content ∷ filter (is_content_of kind) f.more) (filter (is_content_of kind) f.more))
      (sym f.type_is ∙ hit);
}

pub next_is : (kind : ℕ) (set : List Content) (front : Cut) (segment : Segment) (n : IsNextFront kind set front)
    → contents segment ≡ n.content.value → IsNextOf (is_content_of kind) set (contents segment) front.rest.now
next_is kind set front segment n same =
    record { content = n.content; same = same; hit = n.hit; more = n.more; are = n.are; split = n.split }

-- one of an object has it
object_by_kind : (value : SegmentValue) → is_of OBJECT_DATA value ≡ true → (object : Object)
    × (value ≡ of_object object)
object_by_kind (of_page value) hit = absurd (cc)
object_by_kind (of_region value) hit = absurd (cc)
object_by_kind (of_clut value) hit = absurd (cc)
object_by_kind (of_object value) hit = (value, refl)
object_by_kind (of_display value) hit = absurd (cc)
object_by_kind end_of_set hit = absurd (cc)
object_by_kind passed_over hit = absurd (cc)

is_object_value : (value : SegmentValue) → is_of OBJECT_DATA value ≡ is_some (object_in value)
is_object_value (of_page value) = refl
is_object_value (of_region value) = refl
is_object_value (of_clut value) = refl
is_object_value (of_object value) = refl
is_object_value (of_display value) = refl
is_object_value end_of_set = refl
is_object_value passed_over = refl

objects_of : (set : List Content) → filter (is_content_of OBJECT_DATA) set ≡ filter is_object set
objects_of set = λ i. filter (λ content. is_object_value content.value i) set

pub object_is_segment : (set : List Content) (front : Cut) (n : IsNextFront OBJECT_DATA set front)
    → (object : Object) × IsSegment n.segment (of_object object) × (n.content.value ≡ of_object object)
object_is_segment set front n =
    let object = object_by_kind n.content.value n.hit in
    (object.0, subst (IsSegment n.segment) object.1 n.is_content.segment, object.1)

pub next_object_is : (set : List Content) (front : Cut) (object : Object) (n : IsNextFront OBJECT_DATA set front)
    → of_object object ≡ n.content.value → IsNextOf is_object set (of_object object) front.rest.now
next_object_is set front object n same = record {
  content = n.content;
  same = same;
  hit = sym (is_object_value n.content.value) ∙ n.hit;
  more = n.more;
  are = n.are;
  split = sym (objects_of set) ∙ n.split ∙ ap (λ (rest : List Content). n.content ∷ rest) (objects_of n.more);
}

pub no_object_left : (set : List Content) → filter (is_content_of OBJECT_DATA) set ≡ []
    → filter is_object set ≡ []
no_object_left set none = sym (objects_of set) ∙ none

-- where nothing is at the front, none is left
none_by : (kind : ℕ) (set : List Content) (bytes : List ℕ) (left : List Content)
    → ((reading : Reading) (behind : List ℕ) → BeginsWith bytes reading behind → ⊥) → AreContents left bytes
    → filter (is_content_of kind) set ≡ filter (is_content_of kind) left → filter (is_content_of kind) set ≡ []
none_by kind set bytes [] nothing are same = same
none_by kind set bytes (content ∷ more) nothing (behind, begins, are) same =
    absurd (nothing (read content) behind begins)

pub none_left : (kind : ℕ) (set : List Content) (bytes : List ℕ)
    → ((reading : Reading) (behind : List ℕ) → BeginsWith bytes reading behind → ⊥)
    → IsLeftOf (is_content_of kind) set bytes
    → filter (is_content_of kind) set ≡ []
none_left kind set bytes nothing l = none_by kind set bytes l.left nothing l.are l.same

pub start : (wanted : Content → Bool) (set : List Content) (bytes : List ℕ) → AreContents set bytes
    → IsLeftOf wanted set bytes
start wanted set bytes are = record { left = set; are = are; same = refl }
