-- The picture of a page memory, by rows (EN 300 743, clauses 7.2.1 and 7.2.2): regions stand from the corner of the
-- display's window on and are cut off at its edges; a later entry of the page lies over the ones before it, and where
-- no region is the video is seen.
use Rattle.std.specs.Prelude.{◌≡◌, ℕ, ◌+◌, ◌-◌, ◌==◌, ◌<◌, ◌≤◌, ◌⊎◌, if◌then◌else◌, List, length, map, flat_map, Option, Some, None, unwrap_or}
use Rattle.std.specs.List.{list_any, range_with_len}
use Rattle.sub_base.specs.Colour.{clear}
use Rattle.sub_base.specs.Depth.{code_count}
use Rattle.sub_base.specs.Lists.{last_given}
use Rattle.sub_base.specs.declared.colour.Colour.{Colour}
use Rattle.sub_base.specs.declared.depth.Depth.{Depth}
use Rattle.stream_syntax.specs.declared.display.Window.{Window}
use Rattle.stream_syntax.specs.declared.page.PageEntry.{PageEntry}
use Rattle.stream_syntax.specs.declared.region.RegionHead.{RegionHead}
use Rattle.decoder_model.specs.Shown.{window_of, is_in_window}
use Rattle.pixel_store.specs.Regions.{StoredRegion, Regions, region_at, IsPackedRow, code_of as code_in_region}
use Rattle.page_core.specs.Coloured.{colour_of}
use Rattle.page_core.specs.Composition.{Composition, KeptRegion, region_in}
use Rattle.page_core.specs.Memory.{Memory, code_in, ink_in}
use Rattle.page_core.specs.declared.rows.RowPlace.{RowPlace}
use Rattle.sub_base.specs.Picture.{is_inside}

-- ---- a place of the display

-- the colour in a column and a row of a region, through its CLUT
abbrev pub colour_in : Memory → KeptRegion → ℕ → ℕ → Colour
colour_in memory kept x y = ink_in memory.inks kept.head.clut kept.head.depth (code_in memory kept x y)

-- the colour that a region whose corner is there gives a place, where it covers the place
abbrev pub colour_through : Memory → ℕ → ℕ → ℕ → ℕ → Option KeptRegion → Option Colour
colour_through memory left top x y None = None
colour_through memory left top x y (Some kept) =
    if is_inside left top kept.head.width kept.head.height x y then Some (colour_in memory kept (x - left) (y - top))
    else None

-- the colour that an entry of the page gives a place
abbrev pub colour_by_entry : Memory → Window → ℕ → ℕ → PageEntry → Option Colour
colour_by_entry memory window x y entry =
    colour_through memory (window.left + entry.x) (window.top + entry.y) x y (region_in memory.composition entry.region)

-- the colour of a place: that of the last entry whose region covers it, within the window, and else clear
unfoldable pub colour_at : Memory → ℕ → ℕ → Colour
colour_at memory x y =
    if is_in_window (window_of memory.display) x y
    then unwrap_or (last_given (colour_by_entry memory (window_of memory.display) x y) memory.composition.entries) clear
    else clear

-- a row of the picture
unfoldable pub row_in : Memory → ℕ → List Colour
row_in memory y = map (λ x. colour_at memory x y) (range_with_len 0 memory.display.width)

-- the whole picture, by rows
abbrev pub picture_in : Memory → List Colour
picture_in memory = flat_map (row_in memory) (range_with_len 0 memory.display.height)

-- ---- drawing over a row

-- what is found at a place, where the place lies in the window
abbrev pub seen_in : Window → ℕ → ℕ → Option Colour → Option Colour
seen_in window x y found = if is_in_window window x y then found else None

-- each place of row y has the colour that it is given, where it is given one and lies in the window; all others are as
-- they were
abbrev pub IsDrawnOver : Window → ℕ → (ℕ → Option Colour) → List Colour → List Colour → Type 0
IsDrawnOver window y given old new =
    (x : ℕ) → x < length old → colour_of new x ≡ unwrap_or (seen_in window x y (given x)) (colour_of old x)

-- the colour that a region with these colours of its CLUT gives a place, where its corner is there and it covers the
-- place
abbrev pub colour_by_region : RegionHead → StoredRegion → List Colour → ℕ → ℕ → ℕ → ℕ → Option Colour
colour_by_region head region colours left top x y =
    if is_inside left top head.width head.height x y
    then Some (colour_of colours (code_in_region region (x - left) (y - top))) else None

-- the places of a row from one up to another have the colours of a line of a region, from its first column on, and all
-- others are as they were
pub record IsLineDrawn (region : StoredRegion) (line : ℕ) (colours : List Colour) (from to : ℕ)
    (old new : List Colour) : Type 0 where
  pub covered : (x : ℕ) → from ≤ x → x < to
      → colour_of new x ≡ colour_of colours (code_in_region region (x - from) line)
  pub beside : (x : ℕ) → (x < from) ⊎ (to ≤ x) → colour_of new x ≡ colour_of old x

-- these are the colours of a CLUT for codes of a depth
abbrev pub AreColoursOf : List Colour → ℕ → Depth → List Colour → Type 0
AreColoursOf inks clut depth colours =
    (number : ℕ) → number < code_count depth → colour_of colours number ≡ ink_in inks clut depth number

-- the window at whose rows a row is
abbrev pub window_at : RowPlace → Window
window_at place = record { left = place.left; right = place.right; top = place.top; bottom = place.bottom }

-- the memory has this composition, these regions of pixels and these colours
pub record IsKeptAs (memory : Memory) (composition : Composition) (store : Regions) (inks : List Colour) : Type 0 where
  pub nodes : memory.composition ≡ composition
  pub pixels : memory.store ≡ store
  pub colours : memory.inks ≡ inks

-- a row after some entries of the page, with the entries that are left: what these give it makes it row y of the
-- picture
abbrev pub IsDrawing : Memory → ℕ → List PageEntry → List Colour → Type 0
IsDrawing memory y rest row = (x : ℕ) → x < length row →
    colour_at memory x y
    ≡ unwrap_or
    (seen_in (window_of memory.display) x y
    (last_given (colour_by_entry memory (window_of memory.display) x y) rest)) (colour_of row x)

-- ---- packed lines

-- the region of that id, where the page lists it
abbrev pub listed_in : Memory → ℕ → Option KeptRegion
listed_in memory id =
    if list_any (λ (entry : PageEntry). entry.region == id) memory.composition.entries
    then region_in memory.composition id else None

-- these are the packed bytes of a line of a region: there are none where there is no region, or it has no such line
abbrev pub IsLineLent : Memory → Option KeptRegion → ℕ → Option (List ℕ) → Type 0
IsLineLent memory None line found = found ≡ None
IsLineLent memory (Some kept) line None = kept.head.height ≤ line
IsLineLent memory (Some kept) line (Some bytes) =
    (line < kept.head.height) × IsPackedRow (region_at memory.store kept.slot) line bytes
