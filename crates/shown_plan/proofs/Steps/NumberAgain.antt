-- An example: the number of an object comes again. A set gives it to the object of another region's cue, while a region
-- that it does not send lists that number. There an object of the number was painted since the region's segment, so
-- nothing of the new one is, as both have version 0; one of another version would be painted there too.
use Rattle.std.proofs.Common.{◌≡◌, ℕ, true, false, List, [], ◌∷◌, refl}
use Rattle.sub_base.specs.declared.depth.Depth.TheVariants.{Two}
use Rattle.stream_syntax.specs.PixelBlocks.{string, line_end}
use Rattle.stream_syntax.specs.PixelCodes.{pixel}
use Rattle.stream_syntax.specs.Segments.{of_page, of_region, of_object, end_of_set}
use Rattle.stream_syntax.specs.declared.page.PageEntry.{PageEntry}
use Rattle.stream_syntax.specs.declared.page.State.{State}
use Rattle.stream_syntax.specs.declared.page.State.TheVariants.{Normal, ModeChange}
use Rattle.decoder_model.specs.Pixels.{painted_listings, pixel_of}
use Rattle.decoder_model.specs.Readings.{Content}
use Rattle.decoder_model.specs.Taken.{segments_of, taken_among, taken_of}
use Rattle.shown_plan.proofs.Segments.ReadSets.{plain}

-- a page that shows these regions
page_of : ℕ → State → List PageEntry → Content
page_of number state entries =
    plain (of_page (record { time_out = 10; version = number; state = state; entries = entries }))

entry_of : ℕ → PageEntry
entry_of id = record { region = id; x = 0; y = id }

-- a region of one pixel that is filled with 0 and lists object 0
listing_region : ℕ → Content
listing_region id =
    plain (of_region (record {
      head = record {
        region = id;
        version = 0;
        fill = true;
        width = 1;
        height = 1;
        depth = Two;
        clut = 0;
        code8 = 0;
        code4 = 0;
        code2 = 0;
      };
      listings = record { object = 0; x = 0; y = 0 } ∷ [];
    }))

-- object 0, of a version, that draws a pixel of a code
object_of_code : ℕ → ℕ → Content
object_of_code number code = record {
  value = of_object (record { object = 0; version = number; see_through = false; top = []; bottom = [] });
  top = string Two (pixel code ∷ []) ∷ line_end ∷ [];
  bottom = line_end ∷ [];
}

-- a set that shows region 1 with a pixel of code 2, and one that shows region 2 beside it with a pixel of code 3, in an
-- object of the same number
first_set : List Content
first_set =
    page_of 0 ModeChange (entry_of 1 ∷ []) ∷ listing_region 1 ∷ object_of_code 0 2 ∷ plain end_of_set ∷ []

next_set : ℕ → List Content
next_set number =
    page_of 1 Normal (entry_of 1 ∷ entry_of 2 ∷ []) ∷ listing_region 2 ∷ object_of_code number 3
    ∷ plain end_of_set ∷ []

-- region 1 keeps its pixel, and region 2 has its own
number_again : pixel_of (taken_of (segments_of (next_set 0 ∷ first_set ∷ []))) 1 0 0 ≡ 2
unfolding first_set next_set page_of entry_of listing_region object_of_code pixel_of segments_of taken_among
    painted_listings
number_again = refl

number_its_own : pixel_of (taken_of (segments_of (next_set 0 ∷ first_set ∷ []))) 2 0 0 ≡ 3
unfolding first_set next_set page_of entry_of listing_region object_of_code pixel_of segments_of taken_among
    painted_listings
number_its_own = refl

-- an object of another version is painted in both
other_version : pixel_of (taken_of (segments_of (next_set 1 ∷ first_set ∷ []))) 1 0 0 ≡ 3
unfolding first_set next_set page_of entry_of listing_region object_of_code pixel_of segments_of taken_among
    painted_listings
other_version = refl
