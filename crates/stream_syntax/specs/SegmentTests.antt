-- When the bytes of a segment are refused: the tests in order, each with the place and the kind of its fault. Places
-- count from the segment's first byte, and a length is always at place 4.
use Rattle.std.specs.Prelude.{◌≡◌, ℕ, ◌+◌, ◌/◌, ◌%◌, ◌==◌, nat_lt, not, ◌&&◌, ◌||◌, Bool, true, false, List, [], ◌∷◌, ◌++◌, length, take, drop, Some, None, suc, zero, if◌then◌else◌}
use Rattle.stream_syntax.specs.declared.wire.TheConstants.{SEGMENT_SYNC, CLUT_DEFINITION, DISPLAY_DEFINITION, OBJECT_DATA, PAGE_COMPOSITION, REGION_COMPOSITION}
use Rattle.stream_syntax.specs.declared.segment_fault.SegmentFault.{SegmentFault}
use Rattle.stream_syntax.specs.declared.segment_fault.SegmentKind.{SegmentKind}
use Rattle.stream_syntax.specs.declared.segment_fault.SegmentKind.TheVariants.{NoSync, Cut, BadLength, ReservedState, BadDepth, CharacterObject, HeldObject, Progressive, ReservedMethod, Code, BadWindow, ZeroSize}
use Rattle.stream_syntax.specs.declared.code_fault.CodeFault.{CodeFault}
use Rattle.stream_syntax.specs.declared.pixel_run.Run.{Run}
use Rattle.stream_syntax.specs.PixelBlocks.{IsBlock, IsBlockFault}
use Rattle.stream_syntax.specs.Tests.{Test, test, byte_at, word_at, first_fault}
use Rattle.sub_base.specs.declared.depth.Depth.TheVariants.{Eight}

-- a test that gives a fault of that kind at that place
abbrev pub refuse : Bool → ℕ → SegmentKind → Test SegmentFault
refuse fails place kind = test fails (record { place = place; kind = kind })

-- how many bytes the segment that begins these bytes has: its head of six, and as many as segment_length says
abbrev pub segment_size : List ℕ → ℕ
segment_size bytes = 6 + word_at 4 bytes

-- the head: it begins with the sync byte, and the segment has all of its bytes
abbrev pub frame_tests : List ℕ → List (Test SegmentFault)
frame_tests bytes =
    refuse (not (byte_at 0 bytes == SEGMENT_SYNC)) 0 NoSync
    ∷ refuse (nat_lt (length bytes) 6 || nat_lt (length bytes) (segment_size bytes)) (length bytes) Cut
    ∷ []

-- a page: two bytes and six for each entry; its state is not 11
abbrev pub page_tests : List ℕ → List (Test SegmentFault)
page_tests body =
    refuse (not (length body % 6 == 2)) 4 BadLength
    ∷ refuse (byte_at 1 body / 4 % 4 == 3) 7 ReservedState
    ∷ []

-- the listings of a region, the first at that place: each has six bytes, type 0 and provider 0
abbrev pub listing_tests : ℕ → List ℕ → List (Test SegmentFault)
listing_tests place [] = []
listing_tests place (a ∷ b ∷ kinds ∷ c ∷ d ∷ e ∷ rest) =
    refuse (not (kinds / 64 == 0)) (place + 2) CharacterObject
    ∷ refuse (not (kinds / 16 % 4 == 0)) (place + 2) HeldObject
    ∷ listing_tests (place + 6) rest
listing_tests place rest = refuse true 4 BadLength ∷ []

-- the depth of a region (region_depth): it is 1, 2 or 3
abbrev pub depth_tests : ℕ → List (Test SegmentFault)
depth_tests number = refuse (number == 0 || nat_lt 3 number) 12 BadDepth ∷ []

-- a region before its listings: it has ten bytes, its sides are not 0, and its depth is 1, 2 or 3
abbrev pub region_head_tests : List ℕ → List (Test SegmentFault)
region_head_tests body =
    refuse (nat_lt (length body) 10) 4 BadLength
    ∷ refuse (word_at 2 body == 0 || word_at 4 body == 0) 8 ZeroSize
    ∷ depth_tests (byte_at 6 body / 4 % 8)

-- a region: its ten bytes, and its listings
abbrev pub region_tests : List ℕ → List (Test SegmentFault)
region_tests body = region_head_tests body ++ listing_tests 16 (drop 10 body)

-- how many bytes the first entry of a CLUT has: its second byte ends in the flag of the full range
abbrev pub entry_size : List ℕ → ℕ
entry_size entries = if byte_at 1 entries % 2 == 1 then 6 else 4

-- entries of a CLUT, at most so many, follow one another to the end of the bytes
abbrev pub are_entries : ℕ → List ℕ → Bool
are_entries zero entries = true
are_entries (suc most) entries =
    if length entries == 0 then true else
    if nat_lt (length entries) (entry_size entries) then false else
    are_entries most (drop (entry_size entries) entries)

-- no entry of a CLUT is cut
unfoldable pub are_whole : List ℕ → Bool
are_whole entries = are_entries (length entries) entries

-- a CLUT: two bytes, and whole entries
abbrev pub clut_tests : List ℕ → List (Test SegmentFault)
clut_tests body = refuse (nat_lt (length body) 2 || not (are_whole (drop 2 body))) 4 BadLength ∷ []

-- the window of a display is not empty, and inside the display
abbrev pub is_window : List ℕ → Bool
is_window body =
    not (nat_lt (word_at 7 body) (word_at 5 body)) && nat_lt (word_at 7 body) (word_at 1 body + 1)
    && not (nat_lt (word_at 11 body) (word_at 9 body)) && nat_lt (word_at 11 body) (word_at 3 body + 1)

-- display_window_flag: the body of a display has a window
abbrev pub has_window : List ℕ → Bool
has_window body = byte_at 0 body / 8 % 2 == 1

-- a display: five bytes, and eight more where it has a window, which is not empty and lies inside the display
abbrev pub display_tests : List ℕ → List (Test SegmentFault)
display_tests body =
    refuse (nat_lt (length body) 5 || has_window body && nat_lt (length body) 13) 4 BadLength
    ∷ refuse (has_window body && not (is_window body)) 11 BadWindow
    ∷ []

-- object_coding_method: 0 is pixels
abbrev pub coding_method : List ℕ → ℕ
coding_method body = byte_at 2 body / 4 % 4

-- how many bytes an object has up to the end of its two blocks, by the lengths of these
abbrev pub object_size : List ℕ → ℕ
object_size body = 7 + word_at 3 body + word_at 5 body

-- an object: seven bytes, its two blocks, and perhaps a byte 00; its coding method is 0, pixels
abbrev pub object_tests : List ℕ → List (Test SegmentFault)
object_tests body =
    refuse (nat_lt (length body) 3) 4 BadLength
    ∷ refuse (coding_method body == 1) 8 CharacterObject
    ∷ refuse (coding_method body == 2) 8 Progressive
    ∷ refuse (coding_method body == 3) 8 ReservedMethod
    ∷ refuse (nat_lt (length body) 7) 4 BadLength
    ∷ refuse (not (length body == object_size body)
    && not (length body == object_size body + 1 && byte_at (object_size body) body == 0)) 4 BadLength
    ∷ []

-- the block of the top field in the body of an object
abbrev pub top_in : List ℕ → List ℕ
top_in body = take (word_at 3 body) (drop 7 body)

-- the block of the bottom field in the body of an object
abbrev pub bottom_in : List ℕ → List ℕ
bottom_in body = take (word_at 5 body) (drop (7 + word_at 3 body) body)

-- the tests of a body by the segment type; bodies of other types are not tested
abbrev pub body_tests : ℕ → List ℕ → List (Test SegmentFault)
body_tests kind body =
    if kind == PAGE_COMPOSITION then page_tests body else
    if kind == REGION_COMPOSITION then region_tests body else
    if kind == CLUT_DEFINITION then clut_tests body else
    if kind == OBJECT_DATA then object_tests body else
    if kind == DISPLAY_DEFINITION then display_tests body else
    []

-- the bytes after the head, as many as it says
abbrev pub body_of : List ℕ → List ℕ
body_of bytes = take (word_at 4 bytes) (drop 6 bytes)

-- both blocks of an object are in the grammar of pixel data blocks of eight bits
pub record AreBlocks (top bottom : List ℕ) : Type 0 where
  pub top_runs : List Run
  pub top_is : IsBlock Eight top top_runs
  pub bottom_runs : List Run
  pub bottom_is : IsBlock Eight bottom bottom_runs

-- the first fault of the blocks of an object: that of the top block, or, where that has none, that of the bottom
-- block; its own place counts in its block
pub data IsBlocksFault : List ℕ → List ℕ → SegmentFault → Type 0 where
  in_top : {top bottom : List ℕ} {fault : SegmentFault} (code : CodeFault) → IsBlockFault Eight top code
      → fault ≡ record { place = 13 + code.place; kind = Code code } → IsBlocksFault top bottom fault
  in_bottom : {top bottom : List ℕ} {fault : SegmentFault} (runs : List Run) (code : CodeFault)
      → IsBlock Eight top runs
      → IsBlockFault Eight bottom code
      → fault ≡ record { place = 13 + length top + code.place; kind = Code code } → IsBlocksFault top bottom fault

-- the fault of a body: that of the first test that fails, or, where an object passes them, that of its blocks
pub data IsBodyFault : ℕ → List ℕ → SegmentFault → Type 0 where
  in_tests : {kind : ℕ} {body : List ℕ} {fault : SegmentFault} → first_fault (body_tests kind body) ≡ Some fault
      → IsBodyFault kind body fault
  in_blocks : {kind : ℕ} {body : List ℕ} {fault : SegmentFault} → first_fault (body_tests kind body) ≡ None
      → kind ≡ OBJECT_DATA → IsBlocksFault (top_in body) (bottom_in body) fault → IsBodyFault kind body fault

-- the fault of the segment that begins the bytes: that of its head, or, where that has none, that of its body
pub data IsSegmentFault : List ℕ → SegmentFault → Type 0 where
  in_head : {bytes : List ℕ} {fault : SegmentFault} → first_fault (frame_tests bytes) ≡ Some fault
      → IsSegmentFault bytes fault
  in_body : {bytes : List ℕ} {fault : SegmentFault} → first_fault (frame_tests bytes) ≡ None
      → IsBodyFault (byte_at 1 bytes) (body_of bytes) fault → IsSegmentFault bytes fault
