use Rattle.std.specs.Prelude.{◌≡◌, ◌≢◌, ℕ, ◌*◌, ◌<◌, ◌≤◌, List, length, slice_index}
use Rattle.sub_base.specs.declared.depth.Depth.{Depth}
use Rattle.sub_base.specs.Depth.{code_count}
use Rattle.sub_base.specs.Picture.{Picture}
use Rattle.indexed_picture.specs.declared.fault.PictureFault.{PictureFault}
use Rattle.indexed_picture.specs.declared.fault.PictureFault.TheVariants.{WrongCount, CodeOutside}

-- `place` has the first code that the depth does not have
pub record IsFirstOutside (depth : Depth) (codes : List ℕ) (place : ℕ) : Type 0 where
  pub within : place < length codes
  pub outside : code_count depth ≤ slice_index codes place
  pub before : (k : ℕ) → k < place → slice_index codes k < code_count depth

-- why sides, depth and codes make no picture
abbrev pub IsFaultOf : Picture → PictureFault → Type 0
IsFaultOf picture WrongCount = length picture.codes ≢ picture.width * picture.height
IsFaultOf picture (CodeOutside place) =
    (length picture.codes ≡ picture.width * picture.height) × IsFirstOutside picture.depth picture.codes place
