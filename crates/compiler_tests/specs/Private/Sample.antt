-- The epoch of the tests: a region of four pixels, in which two cues are shown, and a colour.
use Rattle.std.specs.Prelude.{[], ◌∷◌, false, true}
use Rattle.sub_base.specs.declared.depth.Depth.TheVariants.{Four}
use Rattle.cue_records.specs.declared.row_values.ColourRow.{ColourRow}
use Rattle.cue_list.specs.declared.epoch.Cue.{Cue}
use Rattle.cue_list.specs.declared.epoch.Epoch.{Epoch}
use Rattle.cue_records.specs.declared.region.Region.{Region}

-- the region, of four by one pixels of four bits, in the upper left corner of the display
abbrev pub sample_region : Region
sample_region = record { id = 0; x = 0; y = 0; width = 4; height = 1; depth = Four; clut = 0 }

-- the colour of entry 2 of the region's CLUT from the start of the epoch on
abbrev pub sample_colour : ColourRow
sample_colour =
    record {
      tick = 90000;
      row = 6;
      clut = 0;
      depth = Four;
      entry = 2;
      colour = record { y = 81; cr = 240; cb = 90; t = 192 };
    }

-- the cue of picture 0, from second 1 to second 3, which covers what lies beneath
abbrev pub solid_cue : Cue
solid_cue = record { start = 90000; end = 270000; row = 9; region = 0; x = 0; y = 0; picture = 0; see_through = false }

-- the cue of picture 1, from second 1.5 to second 3, of which code 1 lets what lies beneath be seen
abbrev pub through_cue : Cue
through_cue =
    record { start = 135000; end = 270000; row = 10; region = 0; x = 0; y = 0; picture = 1; see_through = true }

-- the epoch, which starts at second 1, with the region, the colour and the two cues
abbrev pub sample : Epoch
sample =
    record {
      start = 90000;
      row = 4;
      regions = sample_region ∷ [];
      colours = sample_colour ∷ [];
      cues = solid_cue
          ∷ through_cue ∷ [];
    }
