-- Reading from left to right: the first fault that is met, or the value.
use Rattle.std.specs.Prelude.{◌≡◌, ℕ, zero, suc, ◌+◌, ◌/◌, ◌%◌, ◌==◌, List, [], ◌∷◌, length, drop, nat_lt, ◌||◌, Some, None, Result, Ok, Err, if◌then◌else◌}
use Rattle.stream_syntax.specs.declared.segment_fault.SegmentFault.{SegmentFault}
use Rattle.sub_base.specs.declared.depth.Depth.{Depth}
use Rattle.sub_base.specs.declared.depth.Depth.TheVariants.{Two, Four, Eight}
use Rattle.stream_syntax.specs.declared.page.State.{State}
use Rattle.stream_syntax.specs.declared.page.State.TheVariants.{Normal, Acquisition, ModeChange}
use Rattle.stream_syntax.specs.Segments.{Page, Region, Clut, Object, Display, SegmentValue, of_page, of_region, of_clut, of_object, of_display, end_of_set, passed_over}
use Rattle.stream_syntax.specs.declared.display.Window.{Window}
use Rattle.stream_syntax.specs.SegmentTests.{refuse, page_tests, depth_tests, listing_tests, clut_tests, has_window, display_tests, object_tests, top_in, bottom_in}
use Rattle.stream_syntax.specs.declared.segment_fault.SegmentKind.TheVariants.{BadLength, ZeroSize}
use Rattle.stream_syntax.specs.declared.region.RegionHead.{RegionHead}
use Rattle.stream_syntax.specs.Tests.{Test, byte_at, word_at}
use Rattle.segments.specs.Contents.{page_entries, region_listings, clut_entries}
use Rattle.stream_syntax.specs.declared.wire.TheConstants.{CLUT_DEFINITION, DISPLAY_DEFINITION, END_OF_DISPLAY_SET, OBJECT_DATA, PAGE_COMPOSITION, REGION_COMPOSITION}

-- a further step where the first gave a value
infixl 10 ◌>>=◌
abbrev pub ◌>>=◌ : {First Value Fault : Type 0} → Result First Fault → (First → Result Value Fault)
    → Result Value Fault
(Ok first) >>= next = next first
(Err fault) >>= next = Err fault

-- the value, or the fault of the first test that fails
abbrev pub checked : {Fault Value : Type 0} → List (Test Fault) → Value → Result Value Fault
checked [] value = Ok value
checked (test ∷ tests) value = if test.fails then Err test.fault else checked tests value

-- no value, or the fault of the first test that fails
abbrev pub tested : {Fault : Type 0} → List (Test Fault) → Result (Unit {0}) Fault
tested tests = checked tests (tt {0})

-- what a function returned, seen by view, is what reading gives
abbrev pub GivesReading : {Seg Value Fault : Type 0} → (Seg → Value) → Result Seg Fault → Result Value Fault → Type 0
GivesReading view (Ok seg) read = read ≡ Ok (view seg)
GivesReading view (Err fault) read = read ≡ Err fault

-- the page state by its number, 0 to 2
abbrev pub state_of : ℕ → State
state_of zero = Normal
state_of (suc zero) = Acquisition
state_of (suc (suc n)) = ModeChange

-- the page that a body spells
abbrev pub page_in : List ℕ → Page
page_in body =
    record {
      time_out = byte_at 0 body;
      version = byte_at 1 body / 16;
      state = state_of (byte_at 1 body / 4 % 4);
      entries = page_entries (drop 2 body);
    }

-- the page of a body, or the fault of its first test that fails
abbrev pub page_at : List ℕ → Result Page SegmentFault
page_at body = checked (page_tests body) (page_in body)

-- the depth by its number, 1 to 3
abbrev pub depth_of : ℕ → Depth
depth_of zero = Two
depth_of (suc zero) = Two
depth_of (suc (suc zero)) = Four
depth_of (suc (suc (suc n))) = Eight

-- the depth by its number, or that there is none
abbrev pub depth_at : ℕ → Result Depth SegmentFault
depth_at number = checked (depth_tests number) (depth_of number)

-- the fields of a region before its objects, with that depth
abbrev pub region_head_in : List ℕ → Depth → RegionHead
region_head_in body depth =
    record {
      region = byte_at 0 body;
      version = byte_at 1 body / 16;
      fill = byte_at 1 body / 8 % 2 == 1;
      width = word_at 2 body;
      height = word_at 4 body;
      depth = depth;
      clut = byte_at 7 body;
      code8 = byte_at 8 body;
      code4 = byte_at 9 body / 16;
      code2 = byte_at 9 body / 4 % 4;
    }

-- the same, or the fault of the first test that fails
abbrev pub region_head_at : List ℕ → Result RegionHead SegmentFault
region_head_at body = do
  shape ← tested
      (refuse (nat_lt (length body) 10) 4 BadLength ∷ refuse (word_at 2 body == 0 || word_at 4 body == 0) 8 ZeroSize
      ∷ [])
  depth ← depth_at (byte_at 6 body / 4 % 8)
  Ok (region_head_in body depth)

-- the region that a body spells
abbrev pub region_in : List ℕ → Region
region_in body =
    record { head = region_head_in body (depth_of (byte_at 6 body / 4 % 8)); listings = region_listings (drop 10 body) }

-- the region of a body, or the fault of its first test that fails
unfoldable pub region_at : List ℕ → Result Region SegmentFault
region_at body = do
  head ← region_head_at body
  listings ← tested (listing_tests 16 (drop 10 body))
  Ok (record { head = head; listings = region_listings (drop 10 body) })

-- the CLUT that a body spells
abbrev pub clut_in : List ℕ → Clut
clut_in body = record { clut = byte_at 0 body; version = byte_at 1 body / 16; entries = clut_entries (drop 2 body) }

-- the CLUT of a body, or the fault of its first test that fails
abbrev pub clut_at : List ℕ → Result Clut SegmentFault
clut_at body = checked (clut_tests body) (clut_in body)

-- the window that a body spells
abbrev pub window_in : List ℕ → Window
window_in body =
    record { left = word_at 5 body; right = word_at 7 body; top = word_at 9 body; bottom = word_at 11 body }

-- the display that a body spells
abbrev pub display_in : List ℕ → Display
display_in body =
    record {
      version = byte_at 0 body / 16;
      width = word_at 1 body + 1;
      height = word_at 3 body + 1;
      window = if has_window body then Some (window_in body) else None;
    }

-- the display of a body, or the fault of its first test that fails
abbrev pub display_at : List ℕ → Result Display SegmentFault
display_at body = checked (display_tests body) (display_in body)

-- the object that a body spells
abbrev pub object_in : List ℕ → Object
object_in body =
    record {
      object = word_at 0 body;
      version = byte_at 2 body / 16;
      see_through = byte_at 2 body / 2 % 2 == 1;
      top = top_in body;
      bottom = bottom_in body;
    }

-- the object of a body, or the fault of its first test that fails
abbrev pub object_at : List ℕ → Result Object SegmentFault
object_at body = checked (object_tests body) (object_in body)

-- the value of a body that passes its tests, by the segment type
abbrev pub value_in : ℕ → List ℕ → SegmentValue
value_in kind body =
    if kind == PAGE_COMPOSITION then of_page (page_in body) else
    if kind == REGION_COMPOSITION then of_region (region_in body) else
    if kind == CLUT_DEFINITION then of_clut (clut_in body) else
    if kind == OBJECT_DATA then of_object (object_in body) else
    if kind == DISPLAY_DEFINITION then of_display (display_in body) else
    if kind == END_OF_DISPLAY_SET then end_of_set else
    passed_over
