-- The segments of EN 300 743, clause 7.2: what each stands for, the syntax table of each kind, and when bytes are a
-- segment with that value. Bits that a table reserves may be anything.
use Rattle.std.specs.Prelude.{◌≡◌, ◌≢◌, ℕ, ◌+◌, ◌*◌, ◌-◌, ◌/◌, ◌%◌, ◌==◌, ◌<◌, ◌≤◌, Bool, true, false, List, [], ◌∷◌, ◌++◌, length, map, replicate, sum_by, All, Option, Some, None}
use Rattle.std.specs.List.{flat_map}
use Rattle.sub_base.specs.Colour.{shown_of}
use Rattle.sub_base.specs.declared.colour.Colour.{Colour}
use Rattle.sub_base.specs.declared.depth.Depth.{Depth}
use Rattle.sub_base.specs.declared.depth.Depth.TheVariants.{Two, Four, Eight}
use Rattle.stream_syntax.specs.declared.wire.TheConstants.{SEGMENT_SYNC, CLUT_DEFINITION, DISPLAY_DEFINITION, END_OF_DISPLAY_SET, OBJECT_DATA, PAGE_COMPOSITION, REGION_COMPOSITION}
use Rattle.stream_syntax.specs.Fields.{Field, number, reserved, HasFields, FitsFields, written, bytes_of}
use Rattle.stream_syntax.specs.PixelCodes.{bits_of}
use Rattle.stream_syntax.specs.SegmentTests.{AreBlocks, segment_size}
use Rattle.stream_syntax.specs.Tests.{byte_at, word_at}
use Rattle.stream_syntax.specs.declared.clut.ClutEntry.{ClutEntry}
use Rattle.stream_syntax.specs.declared.display.Window.{Window}
use Rattle.stream_syntax.specs.declared.page.PageEntry.{PageEntry}
use Rattle.stream_syntax.specs.declared.page.State.{State}
use Rattle.stream_syntax.specs.declared.page.State.TheVariants.{Normal, Acquisition, ModeChange}
use Rattle.stream_syntax.specs.declared.region.Listing.{Listing}
use Rattle.stream_syntax.specs.declared.region.RegionHead.{RegionHead}

-- ---- what segments stand for

-- a page: the seconds that it is shown at most, its version and state, and the regions that it shows
pub record Page : Type 0 where
  pub time_out : ℕ
  pub version : ℕ
  pub state : State
  pub entries : List PageEntry

-- a region, and the objects that it shows
pub record Region : Type 0 where
  pub head : RegionHead
  pub listings : List Listing

-- what a CLUT definition says: the id of the CLUT, the version, and the entries that it sets
pub record Clut : Type 0 where
  pub clut : ℕ
  pub version : ℕ
  pub entries : List ClutEntry

-- an object of pixels: whether code 1 lets the region be seen, and the pixel data blocks of its two fields
pub record Object : Type 0 where
  pub object : ℕ
  pub version : ℕ
  pub see_through : Bool
  pub top : List ℕ
  pub bottom : List ℕ

-- the sides of the display in pixels, and the window in which regions stand
pub record Display : Type 0 where
  pub version : ℕ
  pub width : ℕ
  pub height : ℕ
  pub window : Option Window

-- what a segment stands for; segments of other kinds are passed over
pub data SegmentValue : Type 0 where
  of_page : Page → SegmentValue
  of_region : Region → SegmentValue
  of_clut : Clut → SegmentValue
  of_object : Object → SegmentValue
  of_display : Display → SegmentValue
  end_of_set : SegmentValue
  passed_over : SegmentValue

-- ---- the tables

-- how many bits a row of a table has
abbrev pub width_of : Field → ℕ
width_of (number width n) = width
width_of (reserved width) = width

-- how many bytes a table has
abbrev pub byte_count : List Field → ℕ
byte_count fields = sum_by width_of fields / 8

-- the rows of bytes as they are
abbrev pub bytes_fields : List ℕ → List Field
bytes_fields bytes = map (number 8) bytes

-- the rows of so many bytes that may be anything
abbrev pub free_bytes : ℕ → List Field
free_bytes count = replicate count (reserved 8)

-- the bit of a flag: 1 where it is set
abbrev pub flag : Bool → ℕ
flag false = 0
flag true = 1

-- the head of a segment (7.2): sync byte, segment type, page id, segment length in bytes
abbrev pub head_fields : ℕ → ℕ → ℕ → List Field
head_fields kind page size =
    number 8 SEGMENT_SYNC
    ∷ number 8 kind
    ∷ number 16 page
    ∷ number 16 size
    ∷ []

-- a segment of that segment type and page, its head and the table of its body (7.2)
abbrev pub segment_fields : ℕ → ℕ → List Field → List Field
segment_fields kind page body = head_fields kind page (byte_count body) ++ body

-- page_state in a page composition segment (7.2.2)
abbrev pub state_number : State → ℕ
state_number Normal = 0
state_number Acquisition = 1
state_number ModeChange = 2

-- a receiver can begin at a set of this state (5.1.1): at an acquisition point or a mode change, and at no normal set
abbrev pub is_entry_state : State → Bool
is_entry_state Normal = false
is_entry_state Acquisition = true
is_entry_state ModeChange = true

-- a region that a page shows: region_id, reserved, region_horizontal_address, region_vertical_address (7.2.2)
abbrev pub page_entry_fields : PageEntry → List Field
page_entry_fields entry =
    number 8 entry.region
    ∷ reserved 8
    ∷ number 16 entry.x
    ∷ number 16 entry.y
    ∷ []

-- the body of a page composition segment (7.2.2)
abbrev pub page_fields : Page → List Field
page_fields page =
    number 8 page.time_out
    ∷ number 4 page.version
    ∷ number 2 (state_number page.state)
    ∷ reserved 2
    ∷ flat_map page_entry_fields page.entries

-- region_depth in a region composition segment (7.2.3)
abbrev pub depth_number : Depth → ℕ
depth_number Two = 1
depth_number Four = 2
depth_number Eight = 3

-- an object that a region shows, with its place in the region (7.2.3); it has type 0 and provider 0
abbrev pub listing_fields : Listing → List Field
listing_fields listing =
    number 16 listing.object
    ∷ number 2 0
    ∷ number 2 0
    ∷ number 12 listing.x
    ∷ reserved 4
    ∷ number 12 listing.y
    ∷ []

-- the body of a region composition segment with that level of compatibility (7.2.3)
abbrev pub region_fields : ℕ → Region → List Field
region_fields compatibility region =
    number 8 region.head.region
    ∷ number 4 region.head.version
    ∷ number 1 (flag region.head.fill)
    ∷ reserved 3
    ∷ number 16 region.head.width
    ∷ number 16 region.head.height
    ∷ number 3 compatibility
    ∷ number 3 (depth_number region.head.depth)
    ∷ reserved 2
    ∷ number 8 region.head.clut
    ∷ number 8 region.head.code8
    ∷ number 4 region.head.code4
    ∷ number 2 region.head.code2
    ∷ reserved 2
    ∷ flat_map listing_fields region.listings

-- a colour in a CLUT definition segment (7.2.4): it is coded in the full range, or by its high bits
pub data CodedColour : Type 0 where
  full : ℕ → ℕ → ℕ → ℕ → CodedColour
  short : ℕ → ℕ → ℕ → ℕ → CodedColour

-- an entry in a CLUT definition segment (7.2.4): its id, whether it is set in the CLUTs of 2, of 4 and of 8 bits, and
-- its colour as it is coded
pub record CodedEntry : Type 0 where
  pub entry : ℕ
  pub two : Bool
  pub four : Bool
  pub eight : Bool
  pub coded : CodedColour

-- full_range_flag (7.2.4)
abbrev pub full_range : CodedColour → ℕ
full_range (full y cr cb t) = 1
full_range (short y cr cb t) = 0

-- Y_value, Cr_value, Cb_value and T_value (7.2.4): in the full range of 8 bits each, else of 6, 4, 4 and 2 bits
abbrev pub colour_fields : CodedColour → List Field
colour_fields (full y cr cb t) = number 8 y ∷ number 8 cr ∷ number 8 cb ∷ number 8 t ∷ []
colour_fields (short y cr cb t) = number 6 y ∷ number 4 cr ∷ number 4 cb ∷ number 2 t ∷ []

-- CLUT_entry_id, the flags of an entry, and its colour (7.2.4)
abbrev pub coded_entry_fields : CodedEntry → List Field
coded_entry_fields coded =
    number 8 coded.entry
    ∷ number 1 (flag coded.two)
    ∷ number 1 (flag coded.four)
    ∷ number 1 (flag coded.eight)
    ∷ reserved 4
    ∷ number 1 (full_range coded.coded)
    ∷ colour_fields coded.coded

-- the body of a CLUT definition segment: CLUT-id, CLUT_version_number, reserved, and the entries (7.2.4)
abbrev pub clut_fields : ℕ → ℕ → List CodedEntry → List Field
clut_fields clut version coded =
    number 8 clut
    ∷ number 4 version
    ∷ reserved 4
    ∷ flat_map coded_entry_fields coded

-- the colour that is shown: the low bits of a short colour are 0, and a luminance of 0 means full transparency
abbrev pub colour_of : CodedColour → Colour
colour_of (full y cr cb t) = shown_of (record { y = y; cr = cr; cb = cb; t = t })
colour_of (short y cr cb t) = shown_of (record { y = y * 4; cr = cr * 16; cb = cb * 16; t = t * 64 })

-- the entry that a coded one stands for, with the colour that is shown
abbrev pub entry_of : CodedEntry → ClutEntry
entry_of coded =
    record {
      entry = coded.entry;
      two = coded.two;
      four = coded.four;
      eight = coded.eight;
      colour = colour_of
          coded.coded;
    }

-- 8_stuff_bits (7.2.5): the byte 00 that makes the length of an object even, where it is there
abbrev pub padding : Bool → List Field
padding false = []
padding true = number 8 0 ∷ []

-- the body of an object data segment (7.2.5) with coding method 0, with or without a byte 00 at its end
abbrev pub object_fields : Bool → Object → List Field
object_fields padded object =
    number 16 object.object
    ∷ number 4 object.version
    ∷ number 2 0
    ∷ number 1 (flag object.see_through)
    ∷ reserved 1
    ∷ number 16 (length object.top)
    ∷ number 16 (length object.bottom)
    ∷ (bytes_fields object.top ++ (bytes_fields object.bottom ++ padding padded))

-- display_window_flag in a display definition segment (7.2.1)
abbrev pub window_flag : Option Window → ℕ
window_flag None = 0
window_flag (Some window) = 1

-- the first and last column and the first and last row of the window, where there is one (7.2.1)
abbrev pub window_fields : Option Window → List Field
window_fields None = []
window_fields (Some window) =
    number 16 window.left
    ∷ number 16 window.right
    ∷ number 16 window.top
    ∷ number 16 window.bottom
    ∷ []

-- the body of a display definition segment with so many further bytes (7.2.1); a side is sent as one less than it is
abbrev pub display_fields : ℕ → Display → List Field
display_fields further display =
    number 4 display.version
    ∷ number 1 (window_flag display.window)
    ∷ reserved 3
    ∷ number 16 (display.width - 1)
    ∷ number 16 (display.height - 1)
    ∷ (window_fields display.window ++ free_bytes further)

-- ---- when bytes are a segment with a value

-- the segment types of a display set: page, region, CLUT, object, display, and end of display set
abbrev pub set_kinds : List ℕ
set_kinds =
    PAGE_COMPOSITION
    ∷ REGION_COMPOSITION
    ∷ CLUT_DEFINITION
    ∷ OBJECT_DATA
    ∷ DISPLAY_DEFINITION
    ∷ END_OF_DISPLAY_SET
    ∷ []

-- a segment type (7.2) of none of these kinds
abbrev pub IsPassedOver : ℕ → Type 0
IsPassedOver kind =
    (kind < 256) × (kind ≢ PAGE_COMPOSITION) × (kind ≢ REGION_COMPOSITION) × (kind ≢ CLUT_DEFINITION)
    × (kind ≢ OBJECT_DATA) × (kind ≢ DISPLAY_DEFINITION) × (kind ≢ END_OF_DISPLAY_SET)

-- the segment types that have the value
abbrev pub IsKindOf : SegmentValue → ℕ → Type 0
IsKindOf (of_page value) kind = kind ≡ PAGE_COMPOSITION
IsKindOf (of_region value) kind = kind ≡ REGION_COMPOSITION
IsKindOf (of_clut value) kind = kind ≡ CLUT_DEFINITION
IsKindOf (of_object value) kind = kind ≡ OBJECT_DATA
IsKindOf (of_display value) kind = kind ≡ DISPLAY_DEFINITION
IsKindOf end_of_set kind = kind ≡ END_OF_DISPLAY_SET
IsKindOf passed_over kind = IsPassedOver kind

-- the segment types and the tables of bodies that have the value: what the value leaves open, as the level of
-- compatibility, the coding of colours and further bytes, is free
abbrev pub IsBody : SegmentValue → ℕ → List Field → Type 0
IsBody (of_page value) kind body = (kind ≡ PAGE_COMPOSITION) × (body ≡ page_fields value)
IsBody (of_region value) kind body =
    (kind ≡ REGION_COMPOSITION) × (compatibility : ℕ) × (body ≡ region_fields compatibility value)
IsBody (of_clut value) kind body =
    (kind ≡ CLUT_DEFINITION) × (coded : List CodedEntry) × (map entry_of coded ≡ value.entries)
    × (body ≡ clut_fields value.clut value.version coded)
IsBody (of_object value) kind body = (kind ≡ OBJECT_DATA) × (padded : Bool) × (body ≡ object_fields padded value)
IsBody (of_display value) kind body =
    (kind ≡ DISPLAY_DEFINITION) × (further : ℕ) × (body ≡ display_fields further value)
IsBody end_of_set kind body = (kind ≡ END_OF_DISPLAY_SET) × (further : ℕ) × (body ≡ free_bytes further)
IsBody passed_over kind body = IsPassedOver kind × (further : ℕ) × (body ≡ free_bytes further)

-- the window is not empty, and inside the display
abbrev pub IsWindowOf : ℕ → ℕ → Option Window → Type 0
IsWindowOf width height None = Unit {0}
IsWindowOf width height (Some window) =
    (window.left ≤ window.right) × (window.right < width) × (window.top ≤ window.bottom)
    × (window.bottom < height)

-- what is asked of a value beyond its table: sides are at least 1, the blocks of an object are in their grammar, and a
-- window lies inside the display
abbrev pub IsValid : SegmentValue → Type 0
IsValid (of_page value) = Unit {0}
IsValid (of_region value) = (1 ≤ value.head.width) × (1 ≤ value.head.height)
IsValid (of_clut value) = Unit {0}
IsValid (of_object value) = AreBlocks value.top value.bottom
IsValid (of_display value) =
    (1 ≤ value.width) × (1 ≤ value.height) × IsWindowOf value.width value.height value.window
IsValid end_of_set = Unit {0}
IsValid passed_over = Unit {0}

-- the bytes are a whole segment with that value
pub record IsSegment (bytes : List ℕ) (value : SegmentValue) : Type 0 where
  pub each : All (λ byte. byte < 256) bytes
  pub kind : ℕ
  pub page : ℕ
  pub body : List Field
  pub is_body : IsBody value kind body
  pub fits : FitsFields (segment_fields kind page body)
  pub laid : HasFields (segment_fields kind page body) (bits_of bytes)
  pub valid : IsValid value

-- ---- what a writer makes of a value

-- the segment type
abbrev pub segment_kind : SegmentValue → ℕ
segment_kind (of_page value) = PAGE_COMPOSITION
segment_kind (of_region value) = REGION_COMPOSITION
segment_kind (of_clut value) = CLUT_DEFINITION
segment_kind (of_object value) = OBJECT_DATA
segment_kind (of_display value) = DISPLAY_DEFINITION
segment_kind end_of_set = END_OF_DISPLAY_SET
segment_kind passed_over = 0xFF

-- each colour in the full range
abbrev pub in_full : ClutEntry → CodedEntry
in_full entry =
    record {
      entry = entry.entry;
      two = entry.two;
      four = entry.four;
      eight = entry.eight;
      coded = full entry.colour.y
          entry.colour.cr entry.colour.cb entry.colour.t;
    }

-- an object has a byte 00 at its end exactly where its head, its own fixed bytes and its blocks are an odd sum
abbrev pub is_odd : Object → Bool
is_odd object = (13 + length object.top + length object.bottom) % 2 == 1

-- the table: the level of compatibility is the depth's number, colours are in the full range, the length of an object
-- is made even, and nothing stands after a display definition or in an end of set
abbrev pub written_body : SegmentValue → List Field
written_body (of_page value) = page_fields value
written_body (of_region value) = region_fields (depth_number value.head.depth) value
written_body (of_clut value) = clut_fields value.clut value.version (map in_full value.entries)
written_body (of_object value) = object_fields (is_odd value) value
written_body (of_display value) = display_fields 0 value
written_body end_of_set = []
written_body passed_over = []

-- the table of the whole segment that a writer makes of a value, on that page
abbrev pub written_fields : ℕ → SegmentValue → List Field
written_fields page value = segment_fields (segment_kind value) page (written_body value)

-- the bytes
unfoldable pub spelled : ℕ → SegmentValue → List ℕ
spelled page value = bytes_of (written (written_fields page value))

-- behind their sync byte the bytes begin with this segment type, this page and a length (segment_length) that ends
-- with the bytes
pub record IsHeadedBy (kind page : ℕ) (bytes : List ℕ) : Type 0 where
  pub kind_is : byte_at 1 bytes ≡ kind
  pub page_is : word_at 2 bytes ≡ page
  pub size_is : segment_size bytes ≡ length bytes

-- the colours of a CLUT are as they are shown
abbrev pub HasShownColours : SegmentValue → Type 0
HasShownColours (of_clut value) = All (λ entry. shown_of entry.colour ≡ entry.colour) value.entries
HasShownColours value = Unit {0}

-- what can be written: each number fits its row, the length of the body among them, the value is valid, and its
-- colours are as they are shown
pub record IsWritable (page : ℕ) (value : SegmentValue) : Type 0 where
  pub fits : FitsFields (written_fields page value)
  pub valid : IsValid value
  pub shown : HasShownColours value
