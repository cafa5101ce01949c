-- Pixel data blocks (EN 300 743, pixel-data sub-block): the sub-blocks of a field, the runs that they draw, and the
-- first place at which bytes are no block.
use Rattle.std.specs.Prelude.{◌≡◌, ℕ, ◌+◌, ◌/◌, ◌%◌, ◌<◌, ◌≤◌, ◌==◌, if◌then◌else◌, List, [], ◌∷◌, ◌++◌, length, flat_map, slice_index}
use Rattle.sub_base.specs.declared.depth.Depth.{Depth}
use Rattle.sub_base.specs.declared.depth.Depth.TheVariants.{Two, Four, Eight}
use Rattle.sub_base.specs.Depth as depths
use Rattle.stream_syntax.specs.PixelCodes.{Code, pixel_count, colour_of, IsString}
use Rattle.stream_syntax.specs.declared.wire.TheConstants.{EIGHT_BIT_STRING, END_OF_LINE, FOUR_BIT_STRING, FOUR_TO_EIGHT_TABLE, TWO_BIT_STRING, TWO_TO_EIGHT_TABLE, TWO_TO_FOUR_TABLE}
use Rattle.stream_syntax.specs.declared.map_table.MapTable.{MapTable}
use Rattle.stream_syntax.specs.declared.map_table.MapTable.TheVariants.{TwoToFour, TwoToEight, FourToEight}
use Rattle.stream_syntax.specs.declared.pixel_run.Run.{Run}
use Rattle.stream_syntax.specs.declared.code_fault.CodeFault.{CodeFault}
use Rattle.stream_syntax.specs.declared.code_fault.CodeKind.{CodeKind}
use Rattle.stream_syntax.specs.declared.code_fault.CodeKind.TheVariants.{UnknownType, TooDeep, CutString, CutTable}

-- A sub-block: a string of codes of a depth, a map table with its entries, or the end of a line.
pub data Part : Type 0 where
  string : Depth → List Code → Part
  table : MapTable → List ℕ → Part
  line_end : Part

-- the type byte of a string of a depth
abbrev pub string_type : Depth → ℕ
string_type Two = TWO_BIT_STRING
string_type Four = FOUR_BIT_STRING
string_type Eight = EIGHT_BIT_STRING

-- the type byte of a map table
abbrev pub table_type : MapTable → ℕ
table_type TwoToFour = TWO_TO_FOUR_TABLE
table_type TwoToEight = TWO_TO_EIGHT_TABLE
table_type FourToEight = FOUR_TO_EIGHT_TABLE

-- the type byte of an end of line
abbrev pub line_end_type : ℕ
line_end_type = END_OF_LINE

-- how many bytes of entries a map table has
abbrev pub table_size : MapTable → ℕ
table_size TwoToFour = 2
table_size TwoToEight = 4
table_size FourToEight = 16

-- the entries in the bytes of a map table: for 4 bit codes two a byte, the high one first
abbrev pub entries_of : MapTable → List ℕ → List ℕ
entries_of TwoToFour bytes = flat_map (λ byte. byte / 16 ∷ byte % 16 ∷ []) bytes
entries_of TwoToEight bytes = bytes
entries_of FourToEight bytes = bytes

-- the string of a depth that is no deeper than the region's
abbrev pub IsNoDeeper : Depth → Depth → Type 0
IsNoDeeper depth region = depths.bits_of depth ≤ depths.bits_of region

-- these bytes, and all of them, are the sub-block, in a region of a depth
abbrev pub IsPart : Depth → Part → List ℕ → Type 0
IsPart region (string depth codes) bytes =
    IsNoDeeper depth region × (body : List ℕ) × (bytes ≡ string_type depth ∷ body) × IsString depth codes body
IsPart region (table kind entries) bytes = (body : List ℕ) × (bytes ≡ table_type kind ∷ body)
    × (length body ≡ table_size kind) × (entries ≡ entries_of kind body)
IsPart region line_end bytes = bytes ≡ line_end_type ∷ []

-- these bytes are the sub-blocks, one after another
abbrev pub AreParts : Depth → List Part → List ℕ → Type 0
AreParts region [] bytes = bytes ≡ []
AreParts region (part ∷ parts) bytes = (front : List ℕ) × (rest : List ℕ) × (bytes ≡ front ++ rest)
    × IsPart region part front × AreParts region parts rest

-- the map table of a kind before any is sent
abbrev pub default_entries : MapTable → List ℕ
default_entries TwoToFour = 0x0 ∷ 0x7 ∷ 0x8 ∷ 0xF ∷ []
default_entries TwoToEight = 0x00 ∷ 0x77 ∷ 0x88 ∷ 0xFF ∷ []
default_entries FourToEight =
    0x00 ∷ 0x11 ∷ 0x22 ∷ 0x33 ∷ 0x44 ∷ 0x55 ∷ 0x66 ∷ 0x77 ∷ 0x88 ∷ 0x99 ∷ 0xAA ∷ 0xBB
    ∷ 0xCC ∷ 0xDD ∷ 0xEE ∷ 0xFF ∷ []

-- the entries in the first table of a kind among some, else the default ones
abbrev pub entries_in : MapTable → List Part → List ℕ
entries_in kind [] = default_entries kind
entries_in TwoToFour (table TwoToFour entries ∷ before) = entries
entries_in TwoToEight (table TwoToEight entries ∷ before) = entries
entries_in FourToEight (table FourToEight entries ∷ before) = entries
entries_in kind (part ∷ before) = entries_in kind before

-- the region's pixel code for a code of a string of a depth, the nearest sub-block before it first
abbrev pub mapped : Depth → Depth → List Part → ℕ → ℕ
mapped Two Four before code = slice_index (entries_in TwoToFour before) code
mapped Two Eight before code = slice_index (entries_in TwoToEight before) code
mapped Four Eight before code = slice_index (entries_in FourToEight before) code
mapped depth region before code = code

-- the line at which the pen stands after some sub-blocks: how many of them end a line
abbrev pub line_after : List Part → ℕ
line_after [] = 0
line_after (line_end ∷ before) = line_after before + 1
line_after (part ∷ before) = line_after before

-- how many pixels some codes give
abbrev pub pixels_in : Depth → List Code → ℕ
pixels_in depth [] = 0
pixels_in depth (code ∷ codes) = pixel_count depth code + pixels_in depth codes

-- the column at which the pen stands after some sub-blocks, nearest first: the pixels of the strings since the last
-- end of line
abbrev pub column_after : List Part → ℕ
column_after [] = 0
column_after (line_end ∷ before) = 0
column_after (string depth codes ∷ before) = column_after before + pixels_in depth codes
column_after (part ∷ before) = column_after before

-- one run for each code that gives a pixel, from a column of a line on
abbrev pub runs_from : Depth → Depth → List Part → ℕ → List Code → List Run
runs_from region depth before column [] = []
runs_from region depth before column (code ∷ codes) =
    (if pixel_count depth code == 0 then []
    else record {
      x = column;
      line = line_after before;
      length = pixel_count depth code;
      read = colour_of code;
      code = mapped depth region before (colour_of code);
    } ∷ [])
    ++ runs_from region depth before (column + pixel_count depth code) codes

-- the runs of sub-blocks, behind those before them, of which the nearest stands first
abbrev pub runs_after : Depth → List Part → List Part → List Run
runs_after region before [] = []
runs_after region before (string depth codes ∷ parts) =
    runs_from region depth before (column_after before) codes ++ runs_after region (string depth codes ∷ before) parts
runs_after region before (part ∷ parts) = runs_after region (part ∷ before) parts

-- these bytes are a block for a region of a depth, and these are its runs
pub record IsBlock (region : Depth) (bytes : List ℕ) (runs : List Run) : Type 0 where
  pub parts : List Part
  pub whole : AreParts region parts bytes
  pub drawn : runs ≡ runs_after region [] parts

-- no sub-block that is in the grammar begins these bytes, for this reason
abbrev pub IsRefused : Depth → CodeKind → List ℕ → Type 0
IsRefused region kind [] = ⊥
IsRefused region UnknownType (first ∷ body) = ((depth : Depth) → first ≡ string_type depth → ⊥)
    × ((kind : MapTable) → first ≡ table_type kind → ⊥) × (first ≡ line_end_type → ⊥)
IsRefused region TooDeep (first ∷ body) =
    (depth : Depth) × (first ≡ string_type depth) × (IsNoDeeper depth region → ⊥)
IsRefused region CutString (first ∷ body) =
    (depth : Depth) × (first ≡ string_type depth) × IsNoDeeper depth region
    × ((codes : List Code) (front : List ℕ) (rest : List ℕ) → body ≡ front ++ rest
    → IsString depth codes front → ⊥)
IsRefused region CutTable (first ∷ body) =
    (kind : MapTable) × (first ≡ table_type kind) × (length body < table_size kind)

-- these bytes are no block for a region of a depth, and this is their first sub-block that is not in the grammar
pub record IsBlockFault (region : Depth) (bytes : List ℕ) (fault : CodeFault) : Type 0 where
  pub parts : List Part
  pub before : List ℕ
  pub after : List ℕ
  pub whole : bytes ≡ before ++ after
  pub good : AreParts region parts before
  pub refused : IsRefused region fault.kind after
  pub place : fault.place ≡ length before
