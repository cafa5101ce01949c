-- The bytes of a set as a core is handed them: whole segments, one behind the other.
use Rattle.std.specs.Prelude.{◌≡◌, ◌≤◌, List, length, map, Result, Ok, Err, ℕ}
use Rattle.stream_syntax.specs.Segments.{SegmentValue, of_page, of_region, of_clut, of_object, of_display, end_of_set, passed_over}
use Rattle.stream_syntax.specs.declared.segment_fault.SegmentFault.{SegmentFault}
use Rattle.decoder_model.specs.Readings.{Content, Reading, read, faulty, IsReading}
use Rattle.decoder_model.specs.Received.{AreRead}
use Rattle.segments.specs.Contents.{contents}
use Rattle.segments.specs.Framing.{IsFrameOf}
use Rattle.segments.specs.declared.reading.Segment.{Segment}
use Rattle.page_core.specs.declared.front.Front.{Front}

-- a segment that was read, or its fault, is what a reading says
abbrev pub Matches : Result Segment SegmentFault → Reading → Type 0
Matches (Ok segment) (read content) = contents segment ≡ content.value
Matches (Ok segment) (faulty fault) = ⊥
Matches (Err found) (read content) = ⊥
Matches (Err found) (faulty fault) = found ≡ fault

-- the bytes are segments with these contents, none of them refused
abbrev pub AreContents : List Content → List ℕ → Type 0
AreContents set bytes = AreRead (map read set) bytes

-- what is cut off at the front of bytes is the frame of a segment that is read so; behind it come these bytes
pub record IsFrameCutOff (reading : Reading) (rest : List ℕ) (front : Front) : Type 0 where
  pub segment : List ℕ
  pub is_reading : IsReading segment reading
  pub framed : IsFrameOf segment front.frame
  pub behind : front.rest.now ≡ rest

-- the blocks of an object's two fields have lengths of 16 bits (7.2.5, top and bottom field data block length)
abbrev pub HasFieldSizes : SegmentValue → Type 0
HasFieldSizes (of_page value) = Unit {0}
HasFieldSizes (of_region value) = Unit {0}
HasFieldSizes (of_clut value) = Unit {0}
HasFieldSizes (of_object value) = (length value.top ≤ 65535) × (length value.bottom ≤ 65535)
HasFieldSizes (of_display value) = Unit {0}
HasFieldSizes end_of_set = Unit {0}
HasFieldSizes passed_over = Unit {0}
