-- What the size and the segments of a set need of its epoch: places that are there, and numbers that fit their fields.
use Rattle.std.specs.Prelude.{◌≡◌, ◌<◌, ◌≤◌, List, length, All}
use Rattle.sub_base.specs.Colour.{shown_of}
use Rattle.sub_base.specs.Picture.{Picture}
use Rattle.stream_syntax.specs.PixelBlocks.{IsNoDeeper}
use Rattle.cue_records.specs.declared.limits.TheConstants.{MOST_CUES}
use Rattle.cue_list.specs.Authored.{picture_at_place}
use Rattle.cue_records.specs.declared.row_values.ColourRow.{ColourRow}
use Rattle.cue_list.specs.declared.epoch.Cue.{Cue}
use Rattle.cue_list.specs.declared.epoch.Epoch.{Epoch}
use Rattle.cue_records.specs.declared.region.Region.{Region}
use Rattle.page_epoch.specs.Sendable.{HasRegion}
use Rattle.set_coder.specs.SetSegments.{epoch_region}

-- the numbers of a region fit their fields, and its sides are at least 1
pub record IsUsableRegion (region : Region) : Type 0 where
  pub id : region.id ≤ 255
  pub clut : region.clut ≤ 255
  pub x : region.x ≤ 1920
  pub y : region.y ≤ 1920
  pub wide : 1 ≤ region.width
  pub width : region.width ≤ 1920
  pub high : 1 ≤ region.height
  pub height : region.height ≤ 1920

-- the numbers of a colour row fit their fields, and its colour is as it is shown
pub record IsUsableColour (row : ColourRow) : Type 0 where
  pub entry : row.entry < 256
  pub shown : shown_of row.colour ≡ row.colour
  pub y : row.colour.y ≤ 255
  pub cr : row.colour.cr ≤ 255
  pub cb : row.colour.cb ≤ 255
  pub t : row.colour.t ≤ 255

-- the place of a cue fits its fields
pub record IsUsablePlace (cue : Cue) : Type 0 where
  pub x : cue.x ≤ 1920
  pub y : cue.y ≤ 1920

-- the numbers of an epoch fit their fields
pub record IsUsable (epoch : Epoch) : Type 0 where
  pub regions : All IsUsableRegion epoch.regions
  pub colours : All IsUsableColour epoch.colours
  pub few_cues : length epoch.cues ≤ MOST_CUES
  pub cues : All IsUsablePlace epoch.cues

-- a cue's picture and region are there, and the picture is no deeper than the region and has no side over 1,920
pub record IsDrawable (pictures : List Picture) (epoch : Epoch) (cue : Cue) : Type 0 where
  pub picture : cue.picture < length pictures
  pub region : HasRegion epoch cue.region
  pub shallow : IsNoDeeper (picture_at_place pictures cue.picture).depth (epoch_region epoch cue.region).depth
  pub wide : (picture_at_place pictures cue.picture).width ≤ 1920
  pub high : (picture_at_place pictures cue.picture).height ≤ 1920

-- each cue of an epoch can be drawn
abbrev pub AreDrawable : List Picture → Epoch → Type 0
AreDrawable pictures epoch = All (IsDrawable pictures epoch) epoch.cues
