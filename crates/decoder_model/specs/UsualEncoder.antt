-- A unit as a usual encoder makes it, alone in a stream (EN 300 743, clauses 7.2 and 10): no display definition, a
-- stuffing segment, a region of 2 by 1 pixels of two bits, and an object whose bottom data are left out. Its codes are
-- 1 and 3, and its time-out is 10 seconds.
use Rattle.std.specs.Prelude.{◌≡◌, ℕ, true, false, List, [], ◌∷◌, Some}
use Rattle.sub_base.specs.Colour.{clear}
use Rattle.sub_base.specs.Profile.{profile_of}
use Rattle.sub_base.specs.declared.depth.Depth.TheVariants.{Two}
use Rattle.sub_base.specs.declared.profile.ProfileName.TheVariants.{Sd}
use Rattle.stream_syntax.specs.PixelBlocks.{string, line_end}
use Rattle.stream_syntax.specs.PixelCodes.{pixel}
use Rattle.stream_syntax.specs.Segments.{of_page, of_region, of_object, end_of_set}
use Rattle.stream_syntax.specs.declared.page.State.TheVariants.{ModeChange}
use Rattle.decoder_model.specs.Frames.{only}
use Rattle.decoder_model.specs.Readings.{Content, Reading, read}
use Rattle.decoder_model.specs.Sets.{Delivery, whole, sets_of}
use Rattle.decoder_model.specs.Shown.{Scene, scene_in, colour_at}
use Rattle.decoder_model.specs.Verdict.{verdict_of}
use Rattle.decoder_model.specs.declared.set_end.SetEnd.TheVariants.{Shown}

-- its packet
unfoldable pub usual_packet : List ℕ
usual_packet =
    0x47 ∷ 0x41 ∷ 0x00 ∷ 0x30 ∷ 0x63 ∷ 0x00 ∷ 0xFF ∷ 0xFF ∷ 0xFF ∷ 0xFF ∷ 0xFF ∷ 0xFF
    ∷ 0xFF ∷ 0xFF ∷ 0xFF ∷ 0xFF ∷ 0xFF ∷ 0xFF ∷ 0xFF ∷ 0xFF ∷ 0xFF ∷ 0xFF ∷ 0xFF
    ∷ 0xFF ∷ 0xFF ∷ 0xFF ∷ 0xFF ∷ 0xFF ∷ 0xFF ∷ 0xFF ∷ 0xFF ∷ 0xFF ∷ 0xFF ∷ 0xFF
    ∷ 0xFF ∷ 0xFF ∷ 0xFF ∷ 0xFF ∷ 0xFF ∷ 0xFF ∷ 0xFF ∷ 0xFF ∷ 0xFF ∷ 0xFF ∷ 0xFF
    ∷ 0xFF ∷ 0xFF ∷ 0xFF ∷ 0xFF ∷ 0xFF ∷ 0xFF ∷ 0xFF ∷ 0xFF ∷ 0xFF ∷ 0xFF ∷ 0xFF
    ∷ 0xFF ∷ 0xFF ∷ 0xFF ∷ 0xFF ∷ 0xFF ∷ 0xFF ∷ 0xFF ∷ 0xFF ∷ 0xFF ∷ 0xFF ∷ 0xFF
    ∷ 0xFF ∷ 0xFF ∷ 0xFF ∷ 0xFF ∷ 0xFF ∷ 0xFF ∷ 0xFF ∷ 0xFF ∷ 0xFF ∷ 0xFF ∷ 0xFF
    ∷ 0xFF ∷ 0xFF ∷ 0xFF ∷ 0xFF ∷ 0xFF ∷ 0xFF ∷ 0xFF ∷ 0xFF ∷ 0xFF ∷ 0xFF ∷ 0xFF
    ∷ 0xFF ∷ 0xFF ∷ 0xFF ∷ 0xFF ∷ 0xFF ∷ 0xFF ∷ 0xFF ∷ 0xFF ∷ 0xFF ∷ 0xFF ∷ 0xFF
    ∷ 0xFF ∷ 0xFF ∷ 0xFF ∷ 0xFF ∷ 0x00 ∷ 0x00 ∷ 0x01 ∷ 0xBD ∷ 0x00 ∷ 0x4E ∷ 0x84
    ∷ 0x80 ∷ 0x05 ∷ 0x21 ∷ 0x00 ∷ 0x05 ∷ 0xBF ∷ 0x21 ∷ 0x20 ∷ 0x00 ∷ 0x0F ∷ 0x10
    ∷ 0x00 ∷ 0x01 ∷ 0x00 ∷ 0x08 ∷ 0x0A ∷ 0x08 ∷ 0x01 ∷ 0x00 ∷ 0x00 ∷ 0x00 ∷ 0x00
    ∷ 0x00 ∷ 0x0F ∷ 0x11 ∷ 0x00 ∷ 0x01 ∷ 0x00 ∷ 0x10 ∷ 0x01 ∷ 0x08 ∷ 0x00 ∷ 0x02
    ∷ 0x00 ∷ 0x01 ∷ 0x24 ∷ 0x00 ∷ 0x00 ∷ 0x00 ∷ 0x00 ∷ 0x05 ∷ 0x00 ∷ 0x00 ∷ 0x00
    ∷ 0x00 ∷ 0x0F ∷ 0xFF ∷ 0x00 ∷ 0x01 ∷ 0x00 ∷ 0x02 ∷ 0xAA ∷ 0xAA ∷ 0x0F ∷ 0x13
    ∷ 0x00 ∷ 0x01 ∷ 0x00 ∷ 0x0B ∷ 0x00 ∷ 0x05 ∷ 0x00 ∷ 0x00 ∷ 0x04 ∷ 0x00 ∷ 0x00
    ∷ 0x10 ∷ 0x70 ∷ 0x00 ∷ 0xF0 ∷ 0x0F ∷ 0x80 ∷ 0x00 ∷ 0x01 ∷ 0x00 ∷ 0x00 ∷ 0xFF ∷ []

-- the bytes of its segments of the page
unfoldable pub usual_segments : List (List ℕ)
usual_segments =
    (0x0F ∷ 0x10 ∷ 0x00 ∷ 0x01 ∷ 0x00 ∷ 0x08 ∷ 0x0A ∷ 0x08 ∷ 0x01 ∷ 0x00 ∷ 0x00 ∷ 0x00
    ∷ 0x00 ∷ 0x00 ∷ [])
    ∷ (0x0F ∷ 0x11 ∷ 0x00 ∷ 0x01 ∷ 0x00 ∷ 0x10 ∷ 0x01 ∷ 0x08 ∷ 0x00 ∷ 0x02 ∷ 0x00
    ∷ 0x01 ∷ 0x24 ∷ 0x00 ∷ 0x00 ∷ 0x00 ∷ 0x00 ∷ 0x05 ∷ 0x00 ∷ 0x00 ∷ 0x00 ∷ 0x00 ∷ [])
    ∷ (0x0F ∷ 0x13 ∷ 0x00 ∷ 0x01 ∷ 0x00 ∷ 0x0B ∷ 0x00 ∷ 0x05 ∷ 0x00 ∷ 0x00 ∷ 0x04
    ∷ 0x00 ∷ 0x00 ∷ 0x10 ∷ 0x70 ∷ 0x00 ∷ 0xF0 ∷ [])
    ∷ (0x0F ∷ 0x80 ∷ 0x00 ∷ 0x01 ∷ 0x00 ∷ 0x00 ∷ [])
    ∷ []

-- what its page composition segment stands for
unfoldable pub usual_page : Content
usual_page = record {
  value =
      of_page (record {
        time_out = 10;
        version = 0;
        state = ModeChange;
        entries = record { region = 1; x = 0; y = 0 }
            ∷ [];
      });
  top = [];
  bottom = [];
}

-- what its region composition segment stands for
unfoldable pub usual_region : Content
usual_region = record {
  value = of_region (record {
    head =
        record {
          region = 1;
          version = 0;
          fill = true;
          width = 2;
          height = 1;
          depth = Two;
          clut = 0;
          code8 = 0;
          code4 = 0;
          code2 = 0;
        };
    listings = record { object = 5; x = 0; y = 0 } ∷ [];
  });
  top = [];
  bottom = [];
}

-- what its object data segment stands for, with the sub-blocks of its top field
unfoldable pub usual_object : Content
usual_object = record {
  value =
      of_object
      (record {
        object = 5;
        version = 0;
        see_through = false;
        top = 0x10 ∷ 0x70 ∷ 0x00 ∷ 0xF0
            ∷ [];
        bottom = [];
      });
  top = string Two (pixel 1 ∷ pixel 3 ∷ []) ∷ line_end ∷ [];
  bottom = [];
}

-- what its end_of_display_set_segment stands for
unfoldable pub usual_end : Content
usual_end = record { value = end_of_set; top = []; bottom = [] }

-- what all segments of its set stand for, in their order
unfoldable pub usual_contents : List Content
usual_contents = usual_page ∷ usual_region ∷ usual_object ∷ usual_end ∷ []

-- its set as it is read: whole, at 90,000 ticks, from a PES packet of 84 bytes
unfoldable pub usual_delivery : Delivery Reading
usual_delivery = whole 90000 84 (read usual_page ∷ read usual_region ∷ read usual_object ∷ read usual_end ∷ [])

-- the page that it shows
unfoldable pub usual_scene : Scene
usual_scene =
    scene_in (usual_contents ∷ [])
    (record { time_out = 10; version = 0; state = ModeChange; entries = record { region = 1; x = 0; y = 0 } ∷ [] })

-- the set is whole at 90,000, its segments of page 1 alone; it is shown; its page has white, grey and nothing (Y, Cr,
-- Cb and T) in the first three places of the first row, and nothing in the last row; and the display has the size that
-- the standard gives where none is defined
pub record IsUsualSetShown : Type 0 where
  pub set : sets_of 24576 256 (only 1) true (usual_packet ∷ []) ≡ whole 90000 84 usual_segments ∷ []
  pub verdict : verdict_of (profile_of Sd) 0 [] usual_delivery ≡ Some Shown
  pub white : colour_at usual_scene 0 0 ≡ record { y = 0xEB; cr = 0x80; cb = 0x80; t = 0 }
  pub grey : colour_at usual_scene 1 0 ≡ record { y = 0x7E; cr = 0x80; cb = 0x80; t = 0 }
  pub beside : colour_at usual_scene 2 0 ≡ clear
  pub last : colour_at usual_scene 719 575 ≡ clear
  pub width : usual_scene.display.width ≡ 720
  pub height : usual_scene.display.height ≡ 576
