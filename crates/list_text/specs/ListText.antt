-- What `list` tells of the packets of a stream: the losses, the units of the PID, and their segments.
use Rattle.std.specs.Prelude.{◌≡◌, ℕ, ◌+◌, ◌<◌, List, [], ◌∷◌, ◌++◌, length, take, slice_index_or, Option, Some, None}
use Rattle.std.specs.List.{flat_map}
use Rattle.stream_syntax.specs.Pes.{IsPes, pes_fault}
use Rattle.stream_syntax.specs.Segments.{IsSegment, SegmentValue}
use Rattle.stream_syntax.specs.SegmentTests.{IsSegmentFault}
use Rattle.stream_syntax.specs.Tests.{byte_at, word_at}
use Rattle.stream_syntax.specs.Units.{event_at, unit_at}
use Rattle.stream_syntax.specs.declared.pes.PesFault.{PesFault}
use Rattle.stream_syntax.specs.declared.segment_fault.SegmentFault.{SegmentFault}
use Rattle.stream_syntax.specs.DataField.{Frame, segment, broken, AreFrames}
use Rattle.sub_base.specs.declared.profile.TheConstants.{LARGEST_BUFFER}
use Rattle.list_text.specs.ListLines.{loss_line, unit_line, pes_line, segment_line, fault_line}

-- the line of a segment at that place of its field: of what its head says, or of its first fault
pub data IsSegmentLine : ℕ → List ℕ → List ℕ → Type 0 where
  valid : {place : ℕ} {bytes line : List ℕ} (value : SegmentValue) → IsSegment bytes value
      → line ≡ segment_line place (byte_at 1 bytes) (word_at 2 bytes) (word_at 4 bytes)
      → IsSegmentLine place bytes line
  refused : {place : ℕ} {bytes line : List ℕ} (fault : SegmentFault) → IsSegmentFault bytes fault
      → line ≡ fault_line place fault → IsSegmentLine place bytes line

-- the lines of the frames of a field, the first of which stands at that place
pub data AreFrameLines : ℕ → List Frame → List ℕ → Type 0 where
  none_left : {place : ℕ} {lines : List ℕ} → lines ≡ [] → AreFrameLines place [] lines
  cut_line : {place : ℕ} {fault : SegmentFault} {frames : List Frame} {lines : List ℕ}
      → lines ≡ fault_line place fault
      → AreFrameLines place (broken fault ∷ frames) lines
  line_first : {place : ℕ} {bytes lines : List ℕ} {frames : List Frame} (line rest : List ℕ)
      → IsSegmentLine place bytes line → AreFrameLines (place + length bytes) frames rest
      → lines ≡ line ++ rest → AreFrameLines place (segment bytes ∷ frames) lines

-- the lines of the segments that stand in these bytes of a field, the first at that place
pub record AreSegmentLines (place : ℕ) (bytes lines : List ℕ) : Type 0 where
  pub frames : List Frame
  pub stand : AreFrames bytes frames
  pub told : AreFrameLines place frames lines

-- the lines of a unit that ends with the packet of that place. The segments begin at place 2 of the field.
pub data AreUnitLines : ℕ → List ℕ → List ℕ → Type 0 where
  of_subtitles : {place : ℕ} {unit lines : List ℕ} (pts : ℕ) (segments rest : List ℕ)
      → IsPes unit pts segments
      → AreSegmentLines 2 segments rest
      → lines ≡ unit_line place pts (length unit) ++ rest → AreUnitLines place unit lines
  of_others : {place : ℕ} {unit lines : List ℕ} (fault : PesFault) → pes_fault unit ≡ Some fault
      → lines ≡ pes_line place fault → AreUnitLines place unit lines

-- the lines of the unit that a packet ends, where it ends one
abbrev pub AreEndLines : ℕ → Option (List ℕ) → List ℕ → Type 0
AreEndLines place None lines = lines ≡ []
AreEndLines place (Some unit) lines = AreUnitLines place unit lines

-- the lines at a packet, by the packets before it: of its loss, and then of the unit that it ends. Units that need more
-- bytes than the largest coded data buffer has are dropped
pub record ArePacketLines (pid : ℕ) (before : List (List ℕ)) (packet lines : List ℕ) : Type 0 where
  pub of_unit : List ℕ
  pub ended : AreEndLines (length before) (unit_at pid LARGEST_BUFFER before packet) of_unit
  pub whole : lines ≡ loss_line (length before) (event_at pid LARGEST_BUFFER before packet) ++ of_unit

-- the text of a list of packets: the lines at each of them, in order
pub record IsListText (pid : ℕ) (packets : List (List ℕ)) (text : List ℕ) : Type 0 where
  pub lines : List (List ℕ)
  pub count : length lines ≡ length packets
  pub each : (k : ℕ) → k < length packets
      → ArePacketLines pid (take k packets) (slice_index_or packets k []) (slice_index_or lines k [])
  pub whole : text ≡ flat_map (λ at_one. at_one) lines
