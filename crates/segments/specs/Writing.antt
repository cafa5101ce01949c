-- The bytes of a segment one by one, as the writer appends them.
use Rattle.std.specs.Prelude.{ℕ, ◌+◌, ◌-◌, ◌*◌, ◌/◌, ◌%◌, Bool, true, false, List, [], ◌∷◌, ◌++◌, length, Option, Some, None}
use Rattle.std.specs.List.{flat_map}
use Rattle.stream_syntax.specs.declared.clut.ClutEntry.{ClutEntry}
use Rattle.stream_syntax.specs.declared.display.Window.{Window}
use Rattle.stream_syntax.specs.declared.page.PageEntry.{PageEntry}
use Rattle.stream_syntax.specs.declared.region.Listing.{Listing}
use Rattle.stream_syntax.specs.declared.region.RegionHead.{RegionHead}
use Rattle.stream_syntax.specs.Segments.{Page, Region, Clut, Object, Display, SegmentValue, of_page, of_region, of_clut, of_object, of_display, end_of_set, passed_over, segment_kind, state_number, depth_number, flag, is_odd, window_flag}

-- a number of 16 bits, its high byte first
abbrev pub word_bytes : ℕ → List ℕ
word_bytes n = n / 256 % 256 ∷ n % 256 ∷ []

-- a region of the page: its id, a reserved byte, and its address
abbrev pub page_entry_bytes : PageEntry → List ℕ
page_entry_bytes entry = entry.region ∷ 255 ∷ (word_bytes entry.x ++ word_bytes entry.y)

-- the body of a page composition segment
abbrev pub page_bytes : Page → List ℕ
page_bytes page =
    page.time_out ∷ (page.version * 16 + state_number page.state * 4 + 3) ∷ flat_map page_entry_bytes page.entries

-- an object that a region lists: its id, its type 0 and provider 0 with the horizontal position, four reserved bits and
-- the vertical position
abbrev pub listing_bytes : Listing → List ℕ
listing_bytes listing = word_bytes listing.object ++ (word_bytes listing.x ++ word_bytes (61440 + listing.y))

-- the fields of a region before its objects
abbrev pub head_bytes : RegionHead → List ℕ
head_bytes head =
    head.region ∷ (head.version * 16 + flag head.fill * 8 + 7)
    ∷ (word_bytes head.width ++ (word_bytes head.height ++
    (depth_number head.depth * 32 + depth_number head.depth * 4 + 3) ∷ head.clut ∷ head.code8
    ∷ (head.code4 * 16 + head.code2 * 4 + 3) ∷ []))

-- the body of a region composition segment
abbrev pub region_bytes : Region → List ℕ
region_bytes region = head_bytes region.head ++ flat_map listing_bytes region.listings

-- an entry of a CLUT in the full range: its flags, and eight bits each of Y, Cr, Cb and T
abbrev pub clut_entry_bytes : ClutEntry → List ℕ
clut_entry_bytes entry =
    entry.entry ∷ (flag entry.two * 128 + flag entry.four * 64 + flag entry.eight * 32 + 31) ∷ entry.colour.y
    ∷ entry.colour.cr ∷ entry.colour.cb ∷ entry.colour.t ∷ []

-- the body of a CLUT definition segment
abbrev pub clut_bytes : Clut → List ℕ
clut_bytes clut = clut.clut ∷ (clut.version * 16 + 15) ∷ flat_map clut_entry_bytes clut.entries

-- a byte 0 where that is so
abbrev pub padding_bytes : Bool → List ℕ
padding_bytes false = []
padding_bytes true = 0 ∷ []

-- the fields of an object before its blocks: it is coded as pixels, and both lengths are told
abbrev pub object_head_bytes : Object → List ℕ
object_head_bytes object =
    word_bytes object.object ++ (object.version * 16 + flag object.see_through * 2 + 1)
    ∷ (word_bytes (length object.top) ++ word_bytes (length object.bottom))

-- the body of an object data segment, with a byte 0 at its end where the segment had an odd length
abbrev pub object_bytes : Object → List ℕ
object_bytes object = object_head_bytes object ++ (object.top ++ (object.bottom ++ padding_bytes (is_odd object)))

-- the sides of a window, where there is one
abbrev pub window_bytes : Option Window → List ℕ
window_bytes None = []
window_bytes (Some window) =
    word_bytes window.left ++ (word_bytes window.right ++ (word_bytes window.top ++ word_bytes window.bottom))

-- the body of a display definition segment; a side is sent as one less than it is
abbrev pub display_bytes : Display → List ℕ
display_bytes display =
    (display.version * 16 + window_flag display.window * 8 + 7)
    ∷ (word_bytes (display.width - 1) ++ (word_bytes (display.height - 1) ++ window_bytes display.window))

-- the body of a segment
abbrev pub body_bytes : SegmentValue → List ℕ
body_bytes (of_page value) = page_bytes value
body_bytes (of_region value) = region_bytes value
body_bytes (of_clut value) = clut_bytes value
body_bytes (of_object value) = object_bytes value
body_bytes (of_display value) = display_bytes value
body_bytes end_of_set = []
body_bytes passed_over = []

-- the head of a segment: the sync byte, its type, its page, and the length of its body
abbrev pub frame_bytes : ℕ → ℕ → ℕ → List ℕ
frame_bytes kind page size = 15 ∷ kind ∷ (word_bytes page ++ word_bytes size)

-- a segment of that page
abbrev pub segment_bytes : ℕ → SegmentValue → List ℕ
segment_bytes page value = frame_bytes (segment_kind value) page (length (body_bytes value)) ++ body_bytes value
