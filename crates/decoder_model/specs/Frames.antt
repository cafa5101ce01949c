-- The segments of a subtitle service's pages among those of a data field (EN 300 743, clauses 5.1 and 7.2).
use Rattle.std.specs.Prelude.{ℕ, ◌==◌, ◌&&◌, ◌||◌, [], ◌∷◌, Bool, true, false, List, length, filter_map, sum_by, Option, Some, None}
use Rattle.std.specs.List.{list_any}
use Rattle.stream_syntax.specs.Tests.{byte_at, word_at}
use Rattle.stream_syntax.specs.declared.segment_fault.SegmentFault.{SegmentFault}
use Rattle.stream_syntax.specs.DataField.{Frame, segment, broken}
use Rattle.stream_syntax.specs.declared.wire.TheConstants.{CLUT_DEFINITION, END_OF_DISPLAY_SET, OBJECT_DATA}
use Rattle.stream_syntax.specs.Segments.{set_kinds}
use Rattle.decoder_model.specs.declared.pages.Pages.{Pages}

-- a segment of one of these types with that page id
abbrev pub is_of_page : List ℕ → ℕ → List ℕ → Bool
is_of_page kinds page bytes = (word_at 2 bytes == page) && list_any (λ kind. byte_at 1 bytes == kind) kinds

-- the types of segments that count on an ancillary page: CLUT definitions and object data
abbrev pub shared_kinds : List ℕ
shared_kinds = CLUT_DEFINITION ∷ OBJECT_DATA ∷ []

-- a segment of a display set on the composition page, or a CLUT definition or object data on the ancillary page
abbrev pub is_of_pages : Pages → List ℕ → Bool
is_of_pages pages bytes = is_of_page set_kinds pages.composition bytes || is_of_page shared_kinds pages.ancillary bytes

-- the pages of a service without an ancillary page
abbrev pub only : ℕ → Pages
only page = record { composition = page; ancillary = page }

-- what counts for the sets of these pages: their segments, and faults, whatever page stands beside them
abbrev pub counts_for : Pages → Frame → Bool
counts_for pages (segment bytes) = is_of_pages pages bytes
counts_for pages (broken fault) = true

-- the bytes of a frame that is a segment; none of a fault
abbrev pub segment_in : Frame → Option (List ℕ)
segment_in (segment bytes) = Some bytes
segment_in (broken fault) = None

-- the bytes of the segments among frames, in order
abbrev pub segments_in : List Frame → List (List ℕ)
segments_in frames = filter_map segment_in frames

-- how many bytes they have together
abbrev pub bytes_in : List Frame → ℕ
bytes_in frames = sum_by length (segments_in frames)

-- the frame is an end_of_display_set_segment, by its segment_type
abbrev pub is_end : Frame → Bool
is_end (segment bytes) = byte_at 1 bytes == END_OF_DISPLAY_SET
is_end (broken fault) = false

-- the fault that stands in a data field in place of a segment
abbrev pub fault_of : Frame → Option SegmentFault
fault_of (segment bytes) = None
fault_of (broken fault) = Some fault
