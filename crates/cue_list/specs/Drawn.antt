-- The pictures that records bring.
use Rattle.std.specs.Prelude.{◌≡◌, List, [], ◌∷◌, ◌++◌, ℕ, Some}
use Rattle.bitmap_font.specs.Font.{FontValue}
use Rattle.sub_base.specs.Picture.{Picture, IsPicture, picture_of}
use Rattle.cue_records.specs.declared.region.Region.{Region}
use Rattle.cue_records.specs.declared.row_values.PictureHead.{PictureHead}
use Rattle.cue_records.specs.declared.row_kind.RowKind.{RowKind}
use Rattle.cue_records.specs.declared.row_kind.RowKind.TheVariants as kinds
use Rattle.cue_records.specs.Cells.{cell_at}
use Rattle.cue_records.specs.PixelRuns.{picture_codes}
use Rattle.cue_records.specs.RowValues.{head_in}
use Rattle.cue_records.specs.Rows.{Row}
use Rattle.cue_list.specs.Setting.{IsTextOf}

-- a picture of these sides, whose codes are those of a text
pub record IsPictureWith (head : PictureHead) (text : List ℕ) (picture : Picture) : Type 0 where
  pub codes : List ℕ
  pub read : picture_codes head.depth text ≡ Some codes
  pub drawn : picture ≡ picture_of head.width head.height head.depth codes
  pub whole : IsPicture picture

-- a picture's record adds its picture
pub record IsPictureOf (cells : Row) (old new : List Picture) : Type 0 where
  pub picture : Picture
  pub drawn : IsPictureWith (head_in cells) (cell_at cells 5) picture
  pub added : new ≡ old ++ picture ∷ []

-- the pictures after a record of that kind: one more after a picture's or a cue's, in an epoch with these regions
abbrev pub Brings : FontValue → List Region → RowKind → Row → List Picture → List Picture → Type 0
Brings font regions kinds.Picture cells old new = IsPictureOf cells old new
Brings font regions kinds.Cue cells old new = IsTextOf font regions cells old new
Brings font regions _ cells old new = new ≡ old
