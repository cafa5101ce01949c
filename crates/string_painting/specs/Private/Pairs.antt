-- Two single pixels that are read and laid at once.
use Rattle.std.specs.Prelude.{◌≡◌, ℕ, ◌+◌, ◌*◌, ◌<◌, ◌⊎◌, false, List, length, replicate, Some}
use Rattle.sub_base.specs.Depth.{code_count}
use Rattle.string_painting.specs.Codes.{codes_in_byte}
use Rattle.string_painting.specs.Painting.{laid_over, LaysPixels}
use Rattle.string_painting.specs.Private.Reading.{field_at}
use Rattle.string_painting.specs.declared.drawing.Brush.{Brush}
use Rattle.string_painting.specs.declared.drawing.RowPlace.{RowPlace}

-- one pixel is laid at a place, and then one behind it
pub record LaysPair (brush : Brush) (table : List ℕ) (place : RowPlace) (first second : ℕ) (old new : List ℕ)
    : Type 0 where
  pub mid : List ℕ
  pub before : LaysPixels brush.region (laid_over brush table) place.width place.x (replicate 1 first) old mid
  pub behind : LaysPixels brush.region (laid_over brush table) place.width (place.x + 1) (replicate 1 second) mid new

-- the code at a field is a single pixel of this code, and may be laid at once with the one pixel that a code before it
-- gives, at a place of the region
pub record IsBehind (brush : Brush) (string : List ℕ) (pen : RowPlace) (count next second : ℕ) : Type 0 where
  pub field : field_at brush.string string next ≡ Some second
  pub inside : next < codes_in_byte brush.string * length string
  pub coloured : 0 < second
  pub narrow : second < code_count brush.string
  pub single : count ≡ 1
  pub seen : brush.see_through ≡ false
  pub room : pen.x + 1 < pen.width

-- the single pixel of the code at a field is laid behind those before it
pub record IsLaidBehind (brush : Brush) (table string : List ℕ) (pen : RowPlace) (count next further : ℕ)
    (mid new : List ℕ) : Type 0 where
  pub one : further ≡ 1
  pub second : ℕ
  pub is_behind : IsBehind brush string pen count next second
  pub laid :
      LaysPixels brush.region (laid_over brush table) pen.width (pen.x + count) (replicate 1 second) mid new

-- the pixels of a code are laid, and then those of `further` codes behind it, which is none or one that gives a single
-- pixel
pub record LaysOn (brush : Brush) (table string : List ℕ) (pen : RowPlace) (count read next further : ℕ)
    (old new : List ℕ) : Type 0 where
  pub mid : List ℕ
  pub laid : LaysPixels brush.region (laid_over brush table) pen.width pen.x (replicate count read) old mid
  pub on : ((further ≡ 0) × (mid ≡ new)) ⊎ IsLaidBehind brush table string pen count next further mid new
