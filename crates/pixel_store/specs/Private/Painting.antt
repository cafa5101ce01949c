-- What painting changes: in a byte, over bytes, in a row, in all rows of a region.
use Rattle.std.specs.Prelude.{◌≡◌, ◌≢◌, ℕ, ◌+◌, ◌*◌, ◌/◌, ◌%◌, ◌^◌, ◌<◌, ◌≤◌, ◌⊎◌, List, ◌++◌, length, slice_index}
use Rattle.sub_base.specs.declared.depth.Depth.{Depth}
use Rattle.sub_base.specs.declared.depth.Depth.TheVariants.{Two, Four, Eight}
use Rattle.string_painting.specs.Codes.{codes_in_byte, code_in}
use Rattle.stream_syntax.specs.PixelCodes.{Code, IsString}
use Rattle.string_painting.specs.Painting.{code_after, pixels_of_codes}
use Rattle.string_painting.specs.declared.drawing.Brush.{Brush}
use Rattle.string_painting.specs.declared.painter.Painted.{Painted}
use Rattle.pixel_store.specs.Private.Extents.{stride_of, room_of, size_of, row_start, pixel}
use Rattle.pixel_store.specs.declared.extent.Extent.{Extent}

-- the byte whose codes are all 1
abbrev pub ones_of : Depth → ℕ
ones_of Two = 85
ones_of Four = 17
ones_of Eight = 1

-- the byte, but the bits from `low` up to `high` from the pattern
unfoldable pub splice : ℕ → ℕ → ℕ → ℕ → ℕ
splice high low pattern byte = byte / 2 ^ high * 2 ^ high + pattern % 2 ^ high / 2 ^ low * 2 ^ low + byte % 2 ^ low

-- codes from `from` up to `to` of the byte are now `code`, and the others as they were
pub record PaintsByte (depth : Depth) (from to code old new : ℕ) : Type 0 where
  pub covered : (j : ℕ) → from ≤ j → j < to → code_in depth j new ≡ code
  pub outside : (j : ℕ) → j < codes_in_byte depth → (j < from) ⊎ (to ≤ j)
      → code_in depth j new ≡ code_in depth j old

-- the number of code j of byte i, where the codes of all bytes are counted on
abbrev pub code_number : Depth → ℕ → ℕ → ℕ
code_number depth i j = i * codes_in_byte depth + j

-- the codes with the numbers from `from` up to `to` are now `code`; all other codes, and bytes without such a code, are
-- as they were
pub record Paints (depth : Depth) (from to code : ℕ) (old new : List ℕ) : Type 0 where
  pub covered : (i j : ℕ) → i < length old → j < codes_in_byte depth → from ≤ code_number depth i j
      → code_number depth i j < to →
      code_in depth j (slice_index new i) ≡ code
  pub outside : (i j : ℕ) → i < length old → j < codes_in_byte depth → (code_number depth i j < from)
      ⊎ (to ≤ code_number depth i j) →
      code_in depth j (slice_index new i) ≡ code_in depth j (slice_index old i)
  pub untouched : (i : ℕ) → (i * codes_in_byte depth + codes_in_byte depth ≤ from)
      ⊎ (to ≤ i * codes_in_byte depth)
      → slice_index new i ≡ slice_index old i

-- row y has `code` from column `from` up to `to`; nothing else is changed
pub record PaintsRow (extent : Extent) (y from to code : ℕ) (old new : List ℕ) : Type 0 where
  pub covered : (x : ℕ) → from ≤ x → x < to → pixel new extent x y ≡ code
  pub beside : (x : ℕ) → x < room_of extent → (x < from) ⊎ (to ≤ x)
      → pixel new extent x y ≡ pixel old extent x y
  pub untouched : (i : ℕ) → (i < row_start extent y) ⊎ (row_start extent y + stride_of extent ≤ i)
      → slice_index new i ≡ slice_index old i

-- nothing but columns of row y may be changed
pub record KeepsRows (extent : Extent) (y : ℕ) (old new : List ℕ) : Type 0 where
  pub others : (x row : ℕ) → x < room_of extent → row < extent.height → row ≢ y
      → pixel new extent x row ≡ pixel old extent x row
  pub beside : (x row : ℕ) → extent.width ≤ x → x < room_of extent → row < extent.height
      → pixel new extent x row ≡ pixel old extent x row
  pub untouched : (i : ℕ) → (i < extent.offset) ⊎ (extent.offset + size_of extent ≤ i)
      → slice_index new i ≡ slice_index old i

-- pixels are laid over row y from column `start` on
abbrev pub LaysRow : Extent → ℕ → (ℕ → ℕ → ℕ) → ℕ → List ℕ → List ℕ → List ℕ → Type 0
LaysRow extent y over start pixels old new = (x : ℕ) → x < extent.width → y < extent.height
    → pixel new extent x y ≡ code_after over start pixels x (pixel old extent x y)

-- what painting of a string from column x on tells: of a string that begins the bytes how many bytes it has, and the
-- column behind its last pixel; and of all bytes that no more are passed than there are, and how far the column goes
pub record TellsString (brush : Brush) (x : ℕ) (string : List ℕ) (told : Painted) : Type 0 where
  pub size : (codes : List Code) (front rest : List ℕ) → string ≡ front ++ rest → IsString brush.string codes front
      → told.size ≡ length front
  pub column : (codes : List Code) (front rest : List ℕ) → string ≡ front ++ rest → IsString brush.string codes front
      → told.x ≡ x + length (pixels_of_codes brush.string codes)
  pub within : told.size ≤ length string
  pub forward : x ≤ told.x
  pub short : told.x ≤ x + 284 * (8 * told.size)

-- the first `rows` rows have `code` in each column, and nothing else is changed
pub record Fills (extent : Extent) (rows code : ℕ) (old new : List ℕ) : Type 0 where
  pub covered : (x y : ℕ) → x < extent.width → y < rows → pixel new extent x y ≡ code
  pub beside : (x y : ℕ) → x < room_of extent → extent.width ≤ x → y < extent.height
      → pixel new extent x y ≡ pixel old extent x y
  pub below : (x y : ℕ) → x < room_of extent → rows ≤ y → y < extent.height
      → pixel new extent x y ≡ pixel old extent x y
  pub untouched : (i : ℕ) → (i < extent.offset) ⊎ (extent.offset + size_of extent ≤ i)
      → slice_index new i ≡ slice_index old i
