-- The segments of a data field as this crate hands them out, head by head (EN 300 743, clause 7.2).
use Rattle.std.specs.Prelude.{◌≡◌, ◌<◌, ℕ, List, [], ◌∷◌, length, Option, Some, None, Result, Ok, Err}
use Rattle.stream_syntax.specs.DataField.{Frame as FrameInField, segment, broken, frames_of}
use Rattle.stream_syntax.specs.SegmentTests.{frame_tests, body_of, segment_size}
use Rattle.stream_syntax.specs.Tests.{byte_at, word_at, first_fault}
use Rattle.stream_syntax.specs.declared.segment_fault.SegmentFault.{SegmentFault}
use Rattle.segments.specs.declared.frame.Frame.{Frame}
use Rattle.segments.specs.declared.data_field.FieldFrames.{FieldFrames}

-- the frame is that of the segment that begins the bytes: what its head says, and the body behind its head
pub record IsFrameOf (bytes : List ℕ) (frame : Frame) : Type 0 where
  pub each : (place : ℕ) → byte_at place bytes < 256
  pub passes : first_fault (frame_tests bytes) ≡ None
  pub kind_is : frame.kind ≡ byte_at 1 bytes
  pub page_is : frame.page ≡ word_at 2 bytes
  pub whole_is : frame.whole ≡ segment_size bytes
  pub body_is : frame.body.now ≡ body_of bytes

-- the frame of a segment that begins some bytes
abbrev pub IsFrame : Frame → Type 0
IsFrame frame = (bytes : List ℕ) × IsFrameOf bytes frame

-- what is left of the frames of a data field
abbrev pub frames_left : FieldFrames → List FrameInField
frames_left frames = frames_of frames.rest.now

-- the frame is that of the segment that stands first among frames, before these others
pub record IsFirstFrame (frames others : List FrameInField) (frame : Frame) : Type 0 where
  pub bytes : List ℕ
  pub first : frames ≡ segment bytes ∷ others
  pub is_frame : IsFrameOf bytes frame
  pub exact : frame.whole ≡ length bytes

-- a call told of the first of the frames that were left, and left the others; behind a broken one none is left
abbrev pub TellsFirst : FieldFrames → Option (Result Frame SegmentFault) → FieldFrames → Type 0
TellsFirst old None new = (frames_left old ≡ []) × (frames_left new ≡ [])
TellsFirst old (Some (Ok frame)) new = IsFirstFrame (frames_left old) (frames_left new) frame
TellsFirst old (Some (Err fault)) new = (frames_left old ≡ broken fault ∷ []) × (frames_left new ≡ [])
