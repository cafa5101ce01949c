-- Pictures that are drawn in bands of whole rows.
use Rattle.std.specs.Prelude.{◌≡◌, ℕ, ◌+◌, ◌*◌, ◌<◌, ◌≤◌, List, slice_index_or}
use Rattle.sub_base.specs.Colour.{clear}
use Rattle.sub_base.specs.declared.colour.Colour.{Colour}
use Rattle.page_core.specs.Memory.{Memory}
use Rattle.page_core.specs.Rows.{picture_in}

-- a part of the plane with so many places, the first of which has that number, has the colours of the picture
abbrev pub IsPlanePart : Memory → ℕ → ℕ → List Colour → Type 0
IsPlanePart memory start size part =
    (k : ℕ) → k < size → slice_index_or part k clear ≡ slice_index_or (picture_in memory) (start + k) clear

-- a part of the plane with so many places, the first of which has that number, is whole rows of the picture
pub record IsBand (memory : Memory) (start size : ℕ) : Type 0 where
  pub first : ℕ
  pub rows : ℕ
  pub begins : start ≡ first * memory.display.width
  pub is_whole : size ≡ rows * memory.display.width
  pub inside : first + rows ≤ memory.display.height
