-- The segments in the data field of a PES packet, behind its first two bytes (EN 300 743, clauses 7.1 and 7.2).
use Rattle.std.specs.Prelude.{◌≡◌, ℕ, zero, suc, ◌==◌, Bool, true, false, if◌then◌else◌, List, [], ◌∷◌, ◌++◌, length, take, drop, Option, Some, None}
use Rattle.stream_syntax.specs.declared.wire.TheConstants.{DATA_IDENTIFIER, END_OF_FIELD, SUBTITLE_STREAM}
use Rattle.stream_syntax.specs.SegmentTests.{frame_tests, segment_size}
use Rattle.stream_syntax.specs.Tests.{first_fault}
use Rattle.stream_syntax.specs.declared.segment_fault.SegmentFault.{SegmentFault}

-- the data field of a PES packet with these bytes of segments (7.1): subtitle data of stream 0, the segments, and the
-- end marker
abbrev pub data_field : List ℕ → List ℕ
data_field segments = DATA_IDENTIFIER ∷ SUBTITLE_STREAM ∷ (segments ++ END_OF_FIELD ∷ [])

-- what stands in a segment's place: the bytes of a whole segment, or bytes that begin none, for this reason
pub data Frame : Type 0 where
  segment : List ℕ → Frame
  broken : SegmentFault → Frame

-- no segment begins here: the field has ended, or its end marker FF stands in a segment's place
abbrev pub ends_segments : List ℕ → Bool
ends_segments [] = true
ends_segments (byte ∷ bytes) = byte == END_OF_FIELD

-- these frames stand in the bytes, one after another; behind a broken one nothing is looked for
pub data AreFrames : List ℕ → List Frame → Type 0 where
  no_more : {bytes : List ℕ} {frames : List Frame} → ends_segments bytes ≡ true → frames ≡ []
      → AreFrames bytes frames
  cut_off : {bytes : List ℕ} {frames : List Frame} (fault : SegmentFault) → ends_segments bytes ≡ false
      → first_fault (frame_tests bytes) ≡ Some fault
      → frames ≡ broken fault ∷ [] → AreFrames bytes frames
  one_more : {bytes : List ℕ} {frames : List Frame} (rest : List Frame) → ends_segments bytes ≡ false
      → first_fault (frame_tests bytes) ≡ None
      → AreFrames (drop (segment_size bytes) bytes) rest
      → frames ≡ segment (take (segment_size bytes) bytes) ∷ rest
      → AreFrames bytes frames

-- ---- the frames as a function of the bytes

-- the frames of bytes by the fault of the first one: it is broken by that, or a whole segment where there is none;
-- `behind` gives the frames of the bytes that follow a segment
abbrev pub frames_by : (List ℕ → List Frame) → List ℕ → Option SegmentFault → List Frame
frames_by behind bytes (Some fault) = broken fault ∷ []
frames_by behind bytes None = segment (take (segment_size bytes) bytes) ∷ behind (drop (segment_size bytes) bytes)

-- the frames of bytes, none where the segments have ended; `behind` gives those of the bytes that follow a segment
abbrev pub frames_at : (List ℕ → List Frame) → List ℕ → List Frame
frames_at behind bytes = if ends_segments bytes then [] else frames_by behind bytes (first_fault (frame_tests bytes))

-- the frames in bytes, one after another, at most so many
abbrev pub frames_within : ℕ → List ℕ → List Frame
frames_within zero bytes = []
frames_within (suc most) bytes = frames_at (frames_within most) bytes

-- the frames that stand in the bytes, one after another, up to a broken one; there are no more of them than bytes
unfoldable pub frames_of : List ℕ → List Frame
frames_of bytes = frames_within (length bytes) bytes
