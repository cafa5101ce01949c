-- Walks over the contents of a kind in a set.
use Rattle.std.specs.Prelude.{◌≡◌, ℕ, ◌==◌, Bool, true, false, List, ◌∷◌, filter}
use Rattle.std.specs.Option.{is_some}
use Rattle.stream_syntax.specs.Segments.{SegmentValue, of_page, of_region, of_clut, of_object, of_display, end_of_set, passed_over}
use Rattle.stream_syntax.specs.declared.wire.TheConstants.{CLUT_DEFINITION, DISPLAY_DEFINITION, END_OF_DISPLAY_SET, OBJECT_DATA, PAGE_COMPOSITION, REGION_COMPOSITION}
use Rattle.decoder_model.specs.Contents.{region_of, clut_of, object_of}
use Rattle.decoder_model.specs.Readings.{Content, IsContent}
use Rattle.segments.specs.Framing.{IsFrameOf}
use Rattle.page_core.specs.Handed.{AreContents}
use Rattle.page_core.specs.declared.front.Front.{Front}

-- a value is of that segment type
abbrev pub is_of : ℕ → SegmentValue → Bool
is_of kind (of_page value) = PAGE_COMPOSITION == kind
is_of kind (of_region value) = REGION_COMPOSITION == kind
is_of kind (of_clut value) = CLUT_DEFINITION == kind
is_of kind (of_object value) = OBJECT_DATA == kind
is_of kind (of_display value) = DISPLAY_DEFINITION == kind
is_of kind end_of_set = END_OF_DISPLAY_SET == kind
is_of kind passed_over = false

-- a content is of that segment type
abbrev pub is_content_of : ℕ → Content → Bool
is_content_of kind content = is_of kind content.value

-- a content is of a region composition segment
abbrev pub is_region : Content → Bool
is_region content = is_some (region_of content)

-- a content is of a CLUT definition segment
abbrev pub is_clut : Content → Bool
is_clut content = is_some (clut_of content)

-- a content is of an object data segment
abbrev pub is_object : Content → Bool
is_object content = is_some (object_of content)

-- the contents of a type in a set are that of a segment that was cut off, and then those of what the bytes behind it
-- are
pub record IsNextFront (kind : ℕ) (set : List Content) (front : Front) : Type 0 where
  pub content : Content
  pub segment : List ℕ
  pub is_content : IsContent segment content
  pub framed : IsFrameOf segment front.frame
  pub hit : is_content_of kind content ≡ true
  pub more : List Content
  pub are : AreContents more front.rest.now
  pub split : filter (is_content_of kind) set ≡ content ∷ filter (is_content_of kind) more

-- the wanted contents of a set are one with that value, and then those of what the bytes are
pub record IsNextOf (wanted : Content → Bool) (set : List Content) (value : SegmentValue)
    (rest : List ℕ) : Type 0 where
  pub content : Content
  pub same : value ≡ content.value
  pub hit : wanted content ≡ true
  pub more : List Content
  pub are : AreContents more rest
  pub split : filter wanted set ≡ content ∷ filter wanted more

-- the wanted contents of a set are those of what these bytes are
pub record IsLeftOf (wanted : Content → Bool) (set : List Content) (bytes : List ℕ) : Type 0 where
  pub left : List Content
  pub are : AreContents left bytes
  pub same : filter wanted set ≡ filter wanted left
