-- A page of one region that an object's picture fills, and then a page without regions: both sets are kept and shown,
-- and between their times the picture is shown.
use Rattle.std.proofs.Common.{◌≡◌, ◌∙◌, ℕ, ◌+◌, ◌%◌, ◌<◌, ◌≤◌, Bool, true, false, eqb, List, [], ◌∷◌, Option, Some, None, refl, ap, arith}
use Rattle.std.specs.Option.{option_and_then, option_or}
use Rattle.std.proofs.lemmas.Bool.Decides.{nat_tests}
use Rattle.sub_base.specs.Picture.{Picture}
use Rattle.sub_base.specs.declared.depth.Depth.{Depth}
use Rattle.sub_base.specs.declared.profile.Profile.{Profile}
use Rattle.stream_syntax.specs.PixelBlocks.{Part}
use Rattle.stream_syntax.specs.Segments.{SegmentValue, of_page, of_region, of_object, of_display, end_of_set, Page, Region, Object, Display}
use Rattle.stream_syntax.specs.declared.page.State.TheVariants.{Normal, ModeChange}
use Rattle.stream_syntax.specs.declared.region.RegionHead.{RegionHead}
use Rattle.decoder_model.specs.Contents.{display_in_set}
use Rattle.sub_base.specs.Lists.{first_given}
use Rattle.decoder_model.specs.Faults.{epoch_fault, too_deep_at, display_fault, page_fault, first_fault_by, region_changed, pixels_full, composition_fault, object_too_deep, fault_in_region, all_region_ids}
use Rattle.decoder_model.specs.Kept.{lifted_behind, lifted_time, last_time, epoch_of}
use Rattle.decoder_model.specs.Nodes.{region_bytes, region_ids, clut_ids, table_entries}
use Rattle.decoder_model.specs.Pixels.{painted_listings}
use Rattle.decoder_model.specs.Readings.{Content, Reading, read}
use Rattle.decoder_model.specs.Sets.{Delivery, whole}
use Rattle.decoder_model.specs.Taken.{Taken, segments_of, taken_among, taken_of, taken_region}
use Rattle.decoder_model.specs.Verdict.{verdict_of, verdict_after, verdict_in_epoch, shown_unless, if_kept, sets_since, sets_with, verdict_on_kept}
use Rattle.decoder_model.specs.declared.set_end.SetEnd.TheVariants.{Shown}
use Rattle.decoder_model.specs.declared.set_fault.SetFault.{SetFault}
use Rattle.decoder_model.proofs.Lifts.{lifted_first, lifted_next}
use Rattle.decoder_model.proofs.Searches.{first_given-none}
use Rattle.stream_syntax.specs.declared.wire.TheConstants.{TIME_ROUND, HALF_ROUND, TICK_LIMIT}

-- what the two sets are made of: the picture, its region's depth, id and CLUT, the page's time-out, the object's
-- fields, and how many bytes the units of the sets have
pub record Cue : Type 0 where
  pub picture : Picture
  pub depth : Depth
  pub region : ℕ
  pub clut : ℕ
  pub time_out : ℕ
  pub top_bytes : List ℕ
  pub bottom_bytes : List ℕ
  pub top : List Part
  pub bottom : List Part
  pub first_size : ℕ
  pub last_size : ℕ

-- a segment that is no object
abbrev plain : SegmentValue → Content
plain of_value = record { value = of_value; top = []; bottom = [] }

abbrev pub head_of : Cue → RegionHead
head_of cue =
    record {
      region = cue.region;
      version = 0;
      fill = true;
      width = cue.picture.width;
      height = cue.picture.height;
      depth = cue.depth;
      clut = cue.clut;
      code8 = 0;
      code4 = 0;
      code2 = 0;
    }

abbrev pub region_for : Cue → Region
region_for cue = record { head = head_of cue; listings = record { object = 0; x = 0; y = 0 } ∷ [] }

abbrev pub first_page : Cue → Page
first_page cue =
    record {
      time_out = cue.time_out;
      version = 0;
      state = ModeChange;
      entries = record { region = cue.region; x = 0; y = 0 } ∷ [];
    }

abbrev pub last_page : Cue → Page
last_page cue = record { time_out = cue.time_out; version = 1; state = Normal; entries = [] }

abbrev pub display_for : Cue → Display
display_for cue = record { version = 0; width = cue.picture.width; height = cue.picture.height; window = None }

abbrev pub object_for : Cue → Object
object_for cue = record { object = 0; version = 0; see_through = false; top = cue.top_bytes; bottom = cue.bottom_bytes }

abbrev pub drawn_object : Cue → Content
drawn_object cue = record { value = of_object (object_for cue); top = cue.top; bottom = cue.bottom }

-- the contents of the first set, and of the last
abbrev pub first_contents : Cue → List Content
first_contents cue =
    plain (of_display (display_for cue)) ∷ plain (of_page (first_page cue)) ∷ plain (of_region (region_for cue))
    ∷ drawn_object cue ∷ plain end_of_set ∷ []

abbrev pub last_contents : Cue → List Content
last_contents cue = plain (of_page (last_page cue)) ∷ plain end_of_set ∷ []

abbrev pub first_readings : Cue → List Reading
first_readings cue =
    read (plain (of_display (display_for cue))) ∷ read (plain (of_page (first_page cue)))
    ∷ read (plain (of_region (region_for cue))) ∷ read (drawn_object cue) ∷ read (plain end_of_set) ∷ []

abbrev pub last_readings : Cue → List Reading
last_readings cue = read (plain (of_page (last_page cue))) ∷ read (plain end_of_set) ∷ []

-- a receiver of the profile has room for it
pub record Fits (profile : Profile) (cue : Cue) : Type 0 where
  pub wide : cue.picture.width ≤ profile.width
  pub high : cue.picture.height ≤ profile.height
  pub pixels : region_bytes (head_of cue) ≤ profile.pixels
  pub nodes : 3 ≤ profile.nodes
  pub top_depth : too_deep_at cue.depth cue.top ≡ None
  pub bottom_depth : too_deep_at cue.depth cue.bottom ≡ None

-- what is taken before the object
abbrev before_object : Cue → Taken
before_object cue =
    record {
      segments = plain (of_region (region_for cue)) ∷ plain (of_page (first_page cue))
          ∷ plain (of_display (display_for cue)) ∷ [];
    }

-- ---- the first set

pub begins_epoch : (cue : Cue) → epoch_of (first_contents cue ∷ []) ≡ Some (first_contents cue ∷ [])
unfolding epoch_of
begins_epoch cue = refl

pub is_same_id : (id : ℕ) → eqb id id ≡ true
is_same_id id = grind (arith, nat_tests)

-- the region is found among the taken segments of the set
pub its_region : (cue : Cue)
    → taken_region cue.region (taken_of (segments_of (first_contents cue ∷ []))) ≡ Some (region_for cue)
unfolding taken_among segments_of
its_region cue = rw (is_same_id cue.region) refl

fits_display : (profile : Profile) (cue : Cue) → Fits profile cue
    → option_and_then (display_fault profile) (display_in_set (first_contents cue)) ≡ None
fits_display profile cue h = let wide = h.wide in let high = h.high in grind (arith, nat_tests)

fits_page : (profile : Profile) (cue : Cue)
    → page_fault (segments_of (first_contents cue ∷ [])) (first_page cue) ≡ None
unfolding segments_of
fits_page profile cue = rw (is_same_id cue.region) refl

fits_shape : (cue : Cue) → first_fault_by region_changed (segments_of []) (first_contents cue) ≡ None
unfolding segments_of taken_among
fits_shape cue = refl

fits_pixels : (profile : Profile) (cue : Cue) → Fits profile cue
    → first_fault_by (pixels_full profile) (segments_of []) (first_contents cue) ≡ None
unfolding segments_of taken_among region_ids
fits_pixels profile cue h = let pixels = h.pixels in grind (arith, nat_tests)

fits_nodes : (profile : Profile) (cue : Cue) → Fits profile cue
    → composition_fault profile (taken_of (segments_of (first_contents cue ∷ []))) (first_page cue) ≡ None
unfolding segments_of taken_among region_ids clut_ids table_entries
fits_nodes profile cue h = let nodes = h.nodes in rw (is_same_id cue.region) (grind (arith, nat_tests))

fits_region : (cue : Cue) → too_deep_at cue.depth cue.top ≡ None → too_deep_at cue.depth cue.bottom ≡ None
    → (id : ℕ)
    → fault_in_region (before_object cue) (drawn_object cue) (object_for cue) id ≡ None
unfolding painted_listings
fits_region cue top bottom id = by (eqb cue.region id) refl
  where
    by : (same : Bool) → eqb cue.region id ≡ same
        → fault_in_region (before_object cue) (drawn_object cue) (object_for cue) id ≡ None
    by true e = rw (e, top, bottom) refl
    by false e = rw e refl

fits_depth : (profile : Profile) (cue : Cue) → Fits profile cue
    → first_fault_by object_too_deep (segments_of []) (first_contents cue) ≡ None
unfolding segments_of taken_among
fits_depth profile cue h =
    ap (λ found. option_or found None)
    (first_given-none (fault_in_region (before_object cue) (drawn_object cue) (object_for cue))
    (fits_region cue h.top_depth h.bottom_depth) all_region_ids)

pub six_none : (a b c d e f : Option SetFault) → a ≡ None → b ≡ None → c ≡ None → d ≡ None
    → e ≡ None → f ≡ None
    → first_given (λ (found : Option SetFault). found) (a ∷ b ∷ c ∷ d ∷ e ∷ f ∷ []) ≡ None
six_none a b c d e f ha hb hc hd he hf = rw (ha, hb, hc, hd, he, hf) refl

first_epoch_fault : (profile : Profile) (cue : Cue) → Fits profile cue
    → epoch_fault profile [] (first_contents cue) (first_page cue) ≡ None
unfolding epoch_fault
first_epoch_fault profile cue h =
    six_none
    (option_and_then (display_fault profile) (display_in_set (first_contents cue)))
    (page_fault (segments_of (first_contents cue ∷ [])) (first_page cue))
    (first_fault_by region_changed (segments_of []) (first_contents cue))
    (first_fault_by (pixels_full profile) (segments_of []) (first_contents cue))
    (composition_fault profile (taken_of (segments_of (first_contents cue ∷ []))) (first_page cue))
    (first_fault_by object_too_deep (segments_of []) (first_contents cue))
    (fits_display profile cue h)
    (fits_page profile cue)
    (fits_shape cue)
    (fits_pixels profile cue h)
    (fits_nodes profile cue h)
    (fits_depth profile cue h)

-- ---- the verdicts

first_verdict : (profile : Profile) (cue : Cue) → Fits profile cue
    → verdict_on_kept profile [] (first_readings cue) ≡ Shown
first_verdict profile cue h =
    ap (λ epoch. verdict_in_epoch profile (first_page cue) epoch) (begins_epoch cue)
    ∙ ap shown_unless (first_epoch_fault profile cue h)

-- two times that a receiver with an anchor lifts: the first is not more than 2 to the 33 ticks behind the anchor, and
-- the second less than 2 to the 32 behind the first
pub record AreLiftable (anchor start end : ℕ) : Type 0 where
  pub later : anchor ≤ start
  pub round : start < anchor + TIME_ROUND
  pub rising : start < end
  pub near : end < start + HALF_ROUND
  pub low : end < TICK_LIMIT

-- the sets as they are handed over: their times are told modulo 2 to the 33
abbrev pub first_set : Cue → ℕ → Delivery Reading
first_set cue start = whole (start % TIME_ROUND) cue.first_size (first_readings cue)

abbrev pub last_set : Cue → ℕ → Delivery Reading
last_set cue end = whole (end % TIME_ROUND) cue.last_size (last_readings cue)

pub first_lifted : (anchor start end : ℕ) (cue : Cue) → AreLiftable anchor start end
    → lifted_time anchor [] (first_set cue start) ≡ Some start
unfolding last_time
first_lifted anchor start end cue times = lifted_first anchor start times.later times.round

pub time_before_last : (anchor start end : ℕ) (cue : Cue) → AreLiftable anchor start end
    → last_time anchor (first_set cue start ∷ []) ≡ Some start
unfolding last_time
time_before_last anchor start end cue times =
    ap (λ found. option_or found None) (lifted_first anchor start times.later times.round)

pub last_lifted : (anchor start end : ℕ) (cue : Cue) → AreLiftable anchor start end
    → lifted_time anchor (first_set cue start ∷ []) (last_set cue end) ≡ Some end
last_lifted anchor start end cue times =
    ap (λ last. lifted_behind anchor last (end % TIME_ROUND)) (time_before_last anchor start end cue times)
    ∙ lifted_next anchor start end times.rising times.near times.low

-- the first set is shown
pub first_is_shown : (profile : Profile) (cue : Cue) (anchor start end : ℕ) → Fits profile cue
    → AreLiftable anchor start end → verdict_of profile anchor [] (first_set cue start) ≡ Some Shown
unfolding sets_since last_time
first_is_shown profile cue anchor start end h times =
    ap (λ lifted. Some (if_kept lifted None (verdict_on_kept profile [] (first_readings cue))))
    (lifted_first anchor start times.later times.round) ∙ ap Some (first_verdict profile cue h)

-- it is what is known as the last set comes
pub sets_before : (profile : Profile) (cue : Cue) (anchor start end : ℕ) → Fits profile cue
    → AreLiftable anchor start end
    → sets_since profile anchor (first_set cue start ∷ []) ≡ first_contents cue ∷ []
unfolding sets_since
sets_before profile cue anchor start end h times =
    ap (sets_with [] (first_set cue start)) (first_is_shown profile cue anchor start end h times)

pub goes_on : (cue : Cue)
    → epoch_of (last_contents cue ∷ first_contents cue ∷ [])
    ≡ Some (last_contents cue ∷ first_contents cue ∷ [])
unfolding epoch_of
goes_on cue = refl

last_nodes : (profile : Profile) (cue : Cue) → Fits profile cue
    → composition_fault profile (taken_of (segments_of (last_contents cue ∷ first_contents cue ∷ [])))
    (last_page cue) ≡ None
unfolding segments_of taken_among region_ids clut_ids table_entries
last_nodes profile cue h = let nodes = h.nodes in rw (is_same_id cue.region) (grind (arith, nat_tests))

last_epoch_fault : (profile : Profile) (cue : Cue) → Fits profile cue
    → epoch_fault profile (first_contents cue ∷ []) (last_contents cue) (last_page cue) ≡ None
unfolding epoch_fault
last_epoch_fault profile cue h =
    six_none
    (option_and_then (display_fault profile) (display_in_set (last_contents cue)))
    (page_fault (segments_of (last_contents cue ∷ first_contents cue ∷ [])) (last_page cue))
    (first_fault_by region_changed (segments_of (first_contents cue ∷ [])) (last_contents cue))
    (first_fault_by (pixels_full profile) (segments_of (first_contents cue ∷ [])) (last_contents cue))
    (composition_fault profile (taken_of (segments_of (last_contents cue ∷ first_contents cue ∷ [])))
    (last_page cue))
    (first_fault_by object_too_deep (segments_of (first_contents cue ∷ [])) (last_contents cue))
    refl
    refl
    refl
    refl
    (last_nodes profile cue h)
    refl

last_verdict : (profile : Profile) (cue : Cue) → Fits profile cue
    → verdict_on_kept profile (first_contents cue ∷ []) (last_readings cue) ≡ Shown
last_verdict profile cue h =
    ap (λ epoch. verdict_in_epoch profile (last_page cue) epoch) (goes_on cue)
    ∙ ap shown_unless (last_epoch_fault profile cue h)

-- and the last set is shown
pub last_is_shown : (profile : Profile) (cue : Cue) (anchor start end : ℕ) → Fits profile cue
    → AreLiftable anchor start end
    → verdict_of profile anchor (first_set cue start ∷ []) (last_set cue end) ≡ Some Shown
last_is_shown profile cue anchor start end h times =
    ap (λ sets. verdict_after profile anchor (last_time anchor (first_set cue start ∷ [])) sets (last_set cue end))
    (sets_before profile cue anchor start end h times)
    ∙ ap (λ lifted. Some
    (if_kept lifted (last_time anchor (first_set cue start ∷ []))
    (verdict_on_kept profile (first_contents cue ∷ []) (last_readings cue))))
    (last_lifted anchor start end cue times)
    ∙ ap Some (last_verdict profile cue h)
