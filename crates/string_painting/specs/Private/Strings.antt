-- What painting of a string does, whatever string begins the bytes.
use Rattle.std.specs.Prelude.{◌≡◌, ℕ, ◌+◌, ◌*◌, ◌≤◌, List, ◌++◌, length}
use Rattle.stream_syntax.specs.PixelCodes.{Code, IsString}
use Rattle.string_painting.specs.Codes.{packed_code}
use Rattle.string_painting.specs.Painting.{laid_over, LaysPixels, pixels_of_codes}
use Rattle.string_painting.specs.declared.drawing.Brush.{Brush}
use Rattle.string_painting.specs.declared.drawing.RowPlace.{RowPlace}
use Rattle.string_painting.specs.declared.painter.Painted.{Painted}

-- the string of these codes was painted, which is so many bytes
pub record IsStringLaid (brush : Brush) (table : List ℕ) (place : RowPlace) (codes : List Code) (size : ℕ)
    (told : Painted) (old new : List ℕ) : Type 0 where
  pub painted :
      LaysPixels brush.region (laid_over brush table) place.width place.x (pixels_of_codes brush.string codes) old new
  pub size_is : told.size ≡ size
  pub column_is : told.x ≡ place.x + length (pixels_of_codes brush.string codes)

-- what was painted: the string, where one begins the bytes. Whatever they are, codes behind the region's columns stay,
-- no more bytes are passed than there are, the column does not go back, and each bit that is passed brings at most one
-- code, which gives at most 284 pixels
pub record PaintsString (brush : Brush) (table : List ℕ) (place : RowPlace) (string : List ℕ) (told : Painted)
    (old new : List ℕ) : Type 0 where
  pub whole : (codes : List Code) (front rest : List ℕ) → string ≡ front ++ rest → IsString brush.string codes front
      → IsStringLaid brush table place codes (length front) told old new
  pub beside : (x : ℕ) → place.width ≤ x → packed_code brush.region new x ≡ packed_code brush.region old x
  pub inside : told.size ≤ length string
  pub forward : place.x ≤ told.x
  pub short : told.x ≤ place.x + 284 * (8 * told.size)
