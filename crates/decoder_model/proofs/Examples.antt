-- Computed examples: a broken set and what follows it, a receiver that enters at an acquisition point, times that go
-- round, objects of several versions, and a region without fill.
use Rattle.std.specs.Prelude.{◌≡◌, ℕ, Bool, true, false, List, [], ◌∷◌, Some, refl}
use Rattle.sub_base.specs.Profile.{profile_of}
use Rattle.sub_base.specs.declared.depth.Depth.TheVariants.{Two}
use Rattle.sub_base.specs.declared.profile.ProfileName.TheVariants.{Sd}
use Rattle.stream_syntax.specs.PixelBlocks.{string, line_end}
use Rattle.stream_syntax.specs.PixelCodes.{pixel}
use Rattle.stream_syntax.specs.Segments.{SegmentValue, of_page, of_region, of_object, end_of_set}
use Rattle.stream_syntax.specs.declared.page.State.{State}
use Rattle.stream_syntax.specs.declared.page.State.TheVariants.{Normal, Acquisition, ModeChange}
use Rattle.decoder_model.specs.Faults.{all_region_ids, epoch_fault}
use Rattle.decoder_model.specs.Kept.{last_time, lifted_time, epoch_of}
use Rattle.decoder_model.specs.Nodes.{region_ids, clut_ids, table_entries}
use Rattle.decoder_model.specs.Painting.{set_load}
use Rattle.decoder_model.specs.Pixels.{painted_listings, pixel_of}
use Rattle.decoder_model.specs.Readings.{Content, Reading, read}
use Rattle.decoder_model.specs.Sets.{Delivery, lost, whole}
use Rattle.decoder_model.specs.Taken.{segments_of, taken_among, taken_of}
use Rattle.decoder_model.specs.Verdict.{sets_since, verdict_of, known_epoch}
use Rattle.decoder_model.specs.declared.set_end.SetEnd.TheVariants.{Shown, Waiting, Broken, NotLater}
use Rattle.decoder_model.specs.declared.set_fault.SetFault.TheVariants.{NoPage}

plain : SegmentValue → Content
plain segment = record { value = segment; top = []; bottom = [] }

-- ---- sets without regions

-- a set of a state with an empty page, in a unit of 31 bytes
page_set : State → List Content
page_set kind =
    plain (of_page (record { time_out = 10; version = 0; state = kind; entries = [] })) ∷ plain end_of_set ∷ []

set_at : ℕ → State → Delivery Reading
set_at time kind =
    whole time 31
    (read (plain (of_page (record { time_out = 10; version = 0; state = kind; entries = [] })))
    ∷ read (plain end_of_set) ∷ [])

-- a set without a page
bare_set : ℕ → Delivery Reading
bare_set time = whole time 23 (read (plain end_of_set) ∷ [])

-- a set that is shown, a broken one, one that waits, and one that begins a new epoch
broken_verdict : verdict_of (profile_of Sd) 0 (set_at 90000 ModeChange ∷ []) (bare_set 180000)
    ≡ Some (Broken NoPage)
unfolding set_at bare_set plain sets_since last_time epoch_of epoch_fault all_region_ids segments_of taken_among
    region_ids clut_ids table_entries
broken_verdict = refl

waits_behind_broken : verdict_of (profile_of Sd) 0 (bare_set 180000 ∷ set_at 90000 ModeChange ∷ [])
    (set_at 270000 Normal) ≡ Some Waiting
unfolding set_at bare_set plain sets_since last_time epoch_of epoch_fault all_region_ids segments_of taken_among
    region_ids clut_ids table_entries
waits_behind_broken = refl

begins_behind_broken : verdict_of (profile_of Sd) 0
    (set_at 270000 Normal ∷ bare_set 180000 ∷ set_at 90000 ModeChange ∷ []) (set_at 360000 Acquisition)
    ≡ Some Shown
unfolding set_at bare_set plain sets_since last_time epoch_of epoch_fault all_region_ids segments_of taken_among
    region_ids clut_ids table_entries
begins_behind_broken = refl

-- the epoch of a receiver that enters at an acquisition point begins there: the set before, which waited, is not of it
entered_epoch : known_epoch (profile_of Sd) 0 (set_at 180000 Acquisition ∷ set_at 90000 Normal ∷ [])
    ≡ Some (page_set Acquisition ∷ [])
unfolding set_at page_set plain sets_since last_time epoch_of epoch_fault all_region_ids segments_of taken_among
    region_ids clut_ids table_entries
entered_epoch = refl

-- in a known epoch an acquisition point begins none
epoch_goes_on : known_epoch (profile_of Sd) 0 (set_at 180000 Acquisition ∷ set_at 90000 ModeChange ∷ [])
    ≡ Some (page_set Acquisition ∷ page_set ModeChange ∷ [])
unfolding set_at page_set plain sets_since last_time epoch_of epoch_fault all_region_ids segments_of taken_among
    region_ids clut_ids table_entries
epoch_goes_on = refl

-- ---- times that go round

-- from anchor 0 a set at 8589934000 is shown, one at 100 behind it too, with the lifted time 8589934692, and 8589934000
-- again is not later
before_round : verdict_of (profile_of Sd) 0 [] (set_at 8589934000 ModeChange) ≡ Some Shown
unfolding set_at plain sets_since last_time epoch_of epoch_fault all_region_ids segments_of taken_among region_ids
    clut_ids table_entries
before_round = refl

behind_round : verdict_of (profile_of Sd) 0 (set_at 8589934000 ModeChange ∷ []) (set_at 100 ModeChange) ≡ Some Shown
unfolding set_at plain sets_since last_time epoch_of epoch_fault all_region_ids segments_of taken_among region_ids
    clut_ids table_entries
behind_round = refl

lifted_behind_round : lifted_time 0 (set_at 8589934000 ModeChange ∷ []) (set_at 100 ModeChange) ≡ Some 8589934692
unfolding set_at last_time
lifted_behind_round = refl

not_later : verdict_of (profile_of Sd) 0 (set_at 100 ModeChange ∷ set_at 8589934000 ModeChange ∷ [])
    (set_at 8589934000 ModeChange) ≡ Some (NotLater 8589934692)
unfolding set_at plain sets_since last_time epoch_of epoch_fault all_region_ids segments_of taken_among region_ids
    clut_ids table_entries
not_later = refl

-- what a set that is not later asks has the time as read
not_later_load : set_load (profile_of Sd) 0 (set_at 100 ModeChange ∷ set_at 8589934000 ModeChange ∷ [])
    (set_at 8589934000 ModeChange) ≡ Some (record { pts = 8589934000; size = 31; painted = 0 })
unfolding set_at plain sets_since last_time epoch_of epoch_fault all_region_ids segments_of taken_among region_ids
    clut_ids table_entries
not_later_load = refl

-- a loss does not bring the anchor back
lifted_behind_loss : lifted_time 0 (lost ∷ set_at 8589934000 ModeChange ∷ []) (set_at 100 ModeChange)
    ≡ Some 8589934692
unfolding set_at last_time
lifted_behind_loss = refl

-- ---- objects and regions

-- a region of 1 by 1 pixel of two bits that lists an object, with fill code 2, or without fill
small_region : ℕ → Bool → Content
small_region number filled = plain (of_region (record {
  head =
      record {
        region = 1;
        version = number;
        fill = filled;
        width = 1;
        height = 1;
        depth = Two;
        clut = 0;
        code8 = 0;
        code4 = 0;
        code2 = 2;
      };
  listings = record { object = 5; x = 0; y = 0 } ∷ [];
}))

-- the object in a version, with one pixel of a code
dot : ℕ → ℕ → Content
dot number code = record {
  value = of_object (record { object = 5; version = number; see_through = false; top = []; bottom = [] });
  top = string Two (pixel code ∷ []) ∷ line_end ∷ [];
  bottom = [];
}

-- an object paints a listing
painted : pixel_of (taken_of (dot 0 1 ∷ small_region 0 true ∷ [])) 1 0 0 ≡ 1
unfolding dot small_region plain taken_among painted_listings pixel_of
painted = refl

-- in the version with which it painted the listing it does not paint it again, whatever its data are
same_version : pixel_of (taken_of (dot 0 3 ∷ dot 0 1 ∷ small_region 0 true ∷ [])) 1 0 0 ≡ 1
unfolding dot small_region plain taken_among painted_listings pixel_of
same_version = refl

-- in another version it does
other_version : pixel_of (taken_of (dot 1 3 ∷ dot 0 1 ∷ small_region 0 true ∷ [])) 1 0 0 ≡ 3
unfolding dot small_region plain taken_among painted_listings pixel_of
other_version = refl

-- a region segment of another version without fill keeps the codes, and its listings are painted anew
kept_without_fill : pixel_of (taken_of (small_region 1 false ∷ dot 0 1 ∷ small_region 0 true ∷ [])) 1 0 0 ≡ 1
unfolding dot small_region plain taken_among painted_listings pixel_of
kept_without_fill = refl

painted_anew : pixel_of (taken_of (dot 0 3 ∷ small_region 1 false ∷ dot 0 1 ∷ small_region 0 true ∷ [])) 1 0 0
    ≡ 3
unfolding dot small_region plain taken_among painted_listings pixel_of
painted_anew = refl

-- with fill it has the fill code
filled_again : pixel_of (taken_of (small_region 1 true ∷ dot 0 1 ∷ small_region 0 true ∷ [])) 1 0 0 ≡ 2
unfolding dot small_region plain taken_among painted_listings pixel_of
filled_again = refl

-- a region segment of the same version is held, whatever it says
held : pixel_of (taken_of (small_region 0 true ∷ dot 0 1 ∷ small_region 0 true ∷ [])) 1 0 0 ≡ 1
unfolding dot small_region plain taken_among painted_listings pixel_of
held = refl
