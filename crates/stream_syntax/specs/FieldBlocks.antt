-- The pixel data blocks that a writer gives the two fields of a picture (EN 300 743, object data segment), and that
-- what they draw is the picture.
use Rattle.std.specs.Prelude.{◌≡◌, ℕ, ◌+◌, List, [], ◌∷◌, ◌++◌, length, replicate}
use Rattle.sub_base.specs.declared.depth.Depth.{Depth}
use Rattle.sub_base.specs.declared.depth.Depth.TheVariants.{Two, Four, Eight}
use Rattle.sub_base.specs.Picture.{Picture, top_field, bottom_field, HasEqualFields}
use Rattle.stream_syntax.specs.PixelCodes.{IsRowString, IsRowSize}
use Rattle.stream_syntax.specs.PixelBlocks.{string_type, table_type, line_end_type, IsBlock}
use Rattle.stream_syntax.specs.declared.map_table.MapTable.TheVariants.{TwoToFour, TwoToEight, FourToEight}
use Rattle.stream_syntax.specs.declared.pixel_run.Run.{Run}

-- The map table in which each code stands for itself, with its type byte: it goes ahead of the rows where the picture
-- is less deep than the region.
abbrev pub identity_table : Depth → Depth → List ℕ
identity_table Two Four = table_type TwoToFour ∷ 0x01 ∷ 0x23 ∷ []
identity_table Two Eight = table_type TwoToEight ∷ 0x00 ∷ 0x01 ∷ 0x02 ∷ 0x03 ∷ []
identity_table Four Eight =
    table_type FourToEight
    ∷ 0x00 ∷ 0x01 ∷ 0x02 ∷ 0x03 ∷ 0x04 ∷ 0x05 ∷ 0x06 ∷ 0x07 ∷ 0x08 ∷ 0x09 ∷ 0x0A
    ∷ 0x0B ∷ 0x0C ∷ 0x0D ∷ 0x0E ∷ 0x0F ∷ []
identity_table depth region = []

-- the sub-blocks of a row: its string by the picture's depth, and the end of line
abbrev pub IsRowBlock : Depth → List ℕ → List ℕ → Type 0
IsRowBlock depth row bytes =
    (text : List ℕ) × IsRowString depth row text × (bytes ≡ string_type depth ∷ (text ++ line_end_type ∷ []))

-- those of rows, one after another
abbrev pub AreRowBlocks : Depth → List (List ℕ) → List ℕ → Type 0
AreRowBlocks depth [] bytes = bytes ≡ []
AreRowBlocks depth (row ∷ rows) bytes = (front : List ℕ) × (rest : List ℕ) × (bytes ≡ front ++ rest)
    × IsRowBlock depth row front × AreRowBlocks depth rows rest

-- the block of a field for a region of a depth; a field without rows is an end of line alone
abbrev pub IsFieldBlock : Depth → Depth → List (List ℕ) → List ℕ → Type 0
IsFieldBlock depth region [] bytes = bytes ≡ line_end_type ∷ []
IsFieldBlock depth region (row ∷ rows) bytes =
    (text : List ℕ) × AreRowBlocks depth (row ∷ rows) text × (bytes ≡ identity_table depth region ++ text)

-- The blocks of a picture's fields. The bottom one is left out exactly where the two fields are equal: the top one
-- then serves for both.
pub record AreFieldBlocks (picture : Picture) (region : Depth) (top bottom : List ℕ) : Type 0 where
  pub top_block : IsFieldBlock picture.depth region (top_field picture) top
  pub shared : HasEqualFields picture → bottom ≡ []
  pub own : (HasEqualFields picture → ⊥) → IsFieldBlock picture.depth region (bottom_field picture) bottom

-- how many bytes the sub-blocks of rows have: each row's string and two more
abbrev pub AreRowSizes : Depth → List (List ℕ) → ℕ → Type 0
AreRowSizes depth [] sum = sum ≡ 0
AreRowSizes depth (row ∷ rows) sum =
    (here : ℕ) × (rest : ℕ) × IsRowSize depth row here × AreRowSizes depth rows rest × (sum ≡ 2 + here + rest)

-- how many bytes the block of a field has
abbrev pub IsFieldSize : Depth → Depth → List (List ℕ) → ℕ → Type 0
IsFieldSize depth region [] size = size ≡ 1
IsFieldSize depth region (row ∷ rows) size =
    (sum : ℕ) × AreRowSizes depth (row ∷ rows) sum × (size ≡ length (identity_table depth region) + sum)

-- how many bytes the blocks of a picture's fields have
pub record AreFieldSizes (picture : Picture) (region : Depth) (top bottom : ℕ) : Type 0 where
  pub top_size : IsFieldSize picture.depth region (top_field picture) top
  pub shared : HasEqualFields picture → bottom ≡ 0
  pub own : (HasEqualFields picture → ⊥) → IsFieldSize picture.depth region (bottom_field picture) bottom

-- these runs stand side by side in a line, from a column on, and draw these pixels, each as it is read
abbrev pub DrawsLine : ℕ → ℕ → List Run → List ℕ → Type 0
DrawsLine line column [] pixels = pixels ≡ []
DrawsLine line column (run ∷ runs) pixels = (run.line ≡ line) × (run.x ≡ column) × (run.read ≡ run.code)
    × (rest : List ℕ) × (pixels ≡ replicate run.length run.code ++ rest)
    × DrawsLine line (column + run.length) runs rest

-- these runs draw these rows, a line each from a line on
abbrev pub DrawsRows : ℕ → List Run → List (List ℕ) → Type 0
DrawsRows line runs [] = runs ≡ []
DrawsRows line runs (row ∷ rows) = (front : List Run) × (rest : List Run) × (runs ≡ front ++ rest)
    × DrawsLine line 0 front row × DrawsRows (line + 1) rest rows

-- these bytes are a block for a region of a depth, and draw these rows
pub record IsDrawnAs (region : Depth) (bytes : List ℕ) (rows : List (List ℕ)) : Type 0 where
  pub runs : List Run
  pub block : IsBlock region bytes runs
  pub drawn : DrawsRows 0 runs rows

-- the blocks of a picture's fields draw its rows: the top one those of the top field, and of the bottom field too
-- where the bottom block is left out
pub record DrawsPicture (picture : Picture) (region : Depth) (top bottom : List ℕ) : Type 0 where
  pub top_rows : IsDrawnAs region top (top_field picture)
  pub shared : HasEqualFields picture → IsDrawnAs region top (bottom_field picture)
  pub own : (HasEqualFields picture → ⊥) → IsDrawnAs region bottom (bottom_field picture)
