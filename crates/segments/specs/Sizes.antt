-- How many bytes segments have that are written, each with its head of six bytes (EN 300 743, clause 7.2).
use Rattle.std.specs.Prelude.{ℕ, ◌+◌, ◌*◌, ◌%◌, length, Option, Some, None}
use Rattle.stream_syntax.specs.Segments.{SegmentValue, of_page, of_region, of_clut, of_object, of_display, end_of_set, passed_over}
use Rattle.stream_syntax.specs.declared.display.Window.{Window}

-- a page composition: two bytes, and six for each region that it lists
abbrev pub page_size : ℕ → ℕ
page_size entries = 8 + 6 * entries

-- a region composition: ten bytes, and six for each object that it lists
abbrev pub region_size : ℕ → ℕ
region_size listings = 16 + 6 * listings

-- a CLUT definition: two bytes, and six for each entry, as its colour is in the full range
abbrev pub clut_size : ℕ → ℕ
clut_size entries = 8 + 6 * entries

-- an odd number of bytes and one more, an even number as it is
abbrev pub made_even : ℕ → ℕ
made_even size = size + size % 2

-- an object: seven bytes, and its two blocks of so many bytes; one byte 00 makes an odd length even
abbrev pub object_size : ℕ → ℕ → ℕ
object_size top bottom = made_even (13 + top + bottom)

-- a window in a display definition: its four edges
abbrev pub window_size : Option Window → ℕ
window_size None = 0
window_size (Some window) = 8

-- the bytes of a segment that is written, by its kind
abbrev pub size_of : SegmentValue → ℕ
size_of (of_page value) = page_size (length value.entries)
size_of (of_region value) = region_size (length value.listings)
size_of (of_clut value) = clut_size (length value.entries)
size_of (of_object value) = object_size (length value.top) (length value.bottom)
size_of (of_display value) = 11 + window_size value.window
size_of end_of_set = 6
size_of passed_over = 6
