-- Faults of a text, as faults of its record.
use Rattle.std.specs.Prelude.{◌≡◌, ℕ, List, [], ◌∷◌, ◌++◌, chars, Some}
use Rattle.sub_base.specs.Picture.{Picture, IsPicture}
use Rattle.bitmap_font.specs.Font.{FontValue}
use Rattle.bitmap_font.specs.Setting.{IsSetting}
use Rattle.bitmap_font.specs.declared.set_fault.SetFault.{SetFault}
use Rattle.bitmap_font.specs.declared.set_fault.SetFault.TheVariants as set
use Rattle.cue_records.specs.declared.region.Region.{Region}
use Rattle.cue_records.specs.declared.fault.ScriptKind.TheVariants as faults
use Rattle.cue_records.specs.declared.record_fault.RecordFault.{RecordFault}
use Rattle.cue_records.specs.declared.record_fault.RecordFault.TheVariants.{Memory, Wrong}
use Rattle.cue_records.specs.CellFaults.{value_at}
use Rattle.cue_records.specs.Cells.{cell_at}
use Rattle.cue_list.specs.Past.{region_with}
use Rattle.cue_records.specs.Rows.{Row}

-- the fault of a record whose text cannot be set
abbrev pub record_fault_of : SetFault → RecordFault
record_fault_of set.Memory = Memory
record_fault_of (set.MissingGlyph character) = Wrong (faults.Glyph character)
record_fault_of set.Empty = Wrong faults.Range
record_fault_of set.TooWide = Wrong faults.CueOutside

-- the picture of a cue's text, at its region's depth
pub record IsTextPicture (font : FontValue) (regions : List Region) (id ink paper : ℕ) (characters : List ℕ)
    (picture : Picture) : Type 0 where
  pub region : Region
  pub found : region_with id regions ≡ Some region
  pub set : IsSetting font characters ink paper region.depth picture
  pub whole : IsPicture picture

-- a cue's record adds the picture of its text
pub record IsTextOf (font : FontValue) (regions : List Region) (cells : Row) (old new : List Picture) : Type 0 where
  pub picture : Picture
  pub set : IsTextPicture font regions (value_at cells 3) (value_at cells 6) (value_at cells 7)
      (chars (cell_at cells 8)) picture
  pub added : new ≡ old ++ picture ∷ []
