-- The taken segments of an epoch with one more region segment.
use Rattle.std.proofs.Common.{◌≡◌, ◌≢◌, ◌∙◌, ℕ, ◌==◌, ◌&&◌, Bool, true, false, cond, List, [], ◌∷◌, map, Option, Some, None, option_map, refl, sym, ap}
use Rattle.std.specs.Prelude.{take_while, unwrap_or}
use Rattle.std.specs.Option.{is_none, option_or}
use Rattle.std.proofs.lemmas.Bool.{ne_eqb, eqb-true}
use Rattle.std.proofs.lemmas.List.Sums.{take_while-cons}
use Rattle.sub_base.specs.Lists.{first_given}
use Rattle.stream_syntax.specs.PixelBlocks.{Part}
use Rattle.stream_syntax.specs.Segments.{Object, Region, SegmentValue, of_page, of_region, of_clut, of_object, of_display, end_of_set, passed_over}
use Rattle.stream_syntax.specs.declared.region.Listing.{Listing}
use Rattle.decoder_model.specs.Contents.{object_in, region_in, region_named, region_of, where_passes}
use Rattle.decoder_model.specs.Pixels.{code_by_fill, code_by_listings, code_by_segment, depth_of, fill_code, is_painting, last_code, listings_by, version_of_object, painted_listings, pixel_of}
use Rattle.decoder_model.specs.Readings.{Content}
use Rattle.decoder_model.specs.Taken.{Taken, is_taken, last_region, taken_among, taken_of, taken_region}
use Rattle.page_core.specs.Composition.{KeptListing}
use Rattle.page_core.specs.Memory.{head_of, kept_listing}
use Rattle.page_core.specs.Private.RegionSteps.{fresh}
use Rattle.page_core.specs.Private.RegionTests.{is_new}
use Rattle.page_core.proofs.Regions.RegionLaws.{taken_by_head}
use Rattle.page_core.proofs.Counts.PixelRoom.{named_other, named_same, neither, of_segments, with_segment}
use Rattle.page_core.proofs.Sets.QuietSteps.{listing_behind}

-- the last region of an id has that id
pub id_of_last : (id : ℕ) (segments : List Content) (region : Region) → last_region id segments ≡ Some region
    → region.head.region ≡ id
id_of_last id [] region is = absurd (cc)
id_of_last id (segment ∷ segments) region is = by (region_in segment.value) is (id_of_last id segments region)
  where
    chosen : (found : Region) (hit : Bool) → (found.head.region == id) ≡ hit
        → option_or (cond hit (Some found) None) (last_region id segments) ≡ Some region
        → (last_region id segments ≡ Some region → region.head.region ≡ id) → region.head.region ≡ id
    chosen found true here is rest =
        let same : found ≡ region = cc in sym (ap (λ (r : Region). r.head.region) same)
        ∙ eqb-true found.head.region id here
    chosen found false here is rest = rest is

    by : (found : Option Region)
        → option_or (where_passes (λ (one : Region). one.head.region == id) found) (last_region id segments)
        ≡ Some region
        → (last_region id segments ≡ Some region → region.head.region ≡ id) → region.head.region ≡ id
    by None is rest = rest is
    by (Some found) is rest = chosen found (found.head.region == id) refl is rest

-- ---- a region that no segment defines has no pixels written

no_code : (earlier : List Content) (value : SegmentValue) (top bottom : List Part) (id x y : ℕ)
    → where_passes (λ (one : Region). one.head.region == id) (region_in value) ≡ None
    → last_region id earlier ≡ None
    → code_by_segment (record { segments = earlier }) value top bottom id x y ≡ None
unfolding painted_listings
no_code earlier (of_page value) top bottom id x y other none = refl
no_code earlier (of_region value) top bottom id x y other none = by (value.head.region == id) other
  where
    by : (hit : Bool) → cond hit (Some value) None ≡ None
        → cond (hit && value.head.fill) (Some (fill_code value.head.depth value.head)) None ≡ None
    by true is = absurd (cc)
    by false is = refl
no_code earlier (of_clut value) top bottom id x y other none = refl
no_code earlier (of_object value) top bottom id x y other none =
    ap (λ (r : Option Region). code_by_listings (depth_of (last_region id earlier)) value.see_through top bottom x y
    (listings_by (is_painting (record { segments = earlier }) id value) value r)) none
    ∙ by (is_painting (record { segments = earlier }) id value)
  where
    by : (painting : Bool)
        → code_by_listings (depth_of (last_region id earlier)) value.see_through top bottom x y
        (listings_by painting value None) ≡ None
    by true = refl
    by false = refl
no_code earlier (of_display value) top bottom id x y other none = refl
no_code earlier end_of_set top bottom id x y other none = refl
no_code earlier passed_over top bottom id x y other none = refl

nothing_written : (segments : List Content) (id x y : ℕ) → last_region id segments ≡ None
    → last_code segments id x y ≡ None
nothing_written [] id x y none = refl
nothing_written (segment ∷ earlier) id x y none =
    let parts = neither (region_named id segment) (last_region id earlier) none in
    ap (λ (o : Option ℕ). option_or o (last_code earlier id x y))
    (no_code earlier segment.value segment.top segment.bottom id x y parts.0 parts.1)
    ∙ nothing_written earlier id x y parts.1

pub no_pixels : (taken : Taken) (id x y : ℕ) → taken_region id taken ≡ None → pixel_of taken id x y ≡ 0
unfolding pixel_of
no_pixels taken id x y none = ap (λ (o : Option ℕ). unwrap_or o 0) (nothing_written taken.segments id x y none)

-- ---- one more region segment

module _ (content : Content) (region : Region) (value : of_region region ≡ content.value) (taken : Taken) where
  pub is_region_of : region_of content ≡ Some region
  is_region_of = ap region_in (sym value)

  pub region_then : taken_region region.head.region (with_segment content taken.segments) ≡ Some region
  region_then =
      ap (λ (o : Option Region). option_or o (last_region region.head.region taken.segments))
      (named_same content region is_region_of)

  pub region_then_other : (id : ℕ) → id ≢ region.head.region
      → taken_region id (with_segment content taken.segments) ≡ taken_region id taken
  region_then_other id other =
      ap (λ (o : Option Region). option_or o (last_region id taken.segments))
      (named_other content region id is_region_of other)

  -- its own listings are unpainted, and those of other regions are as they were
  pub listing_then : (listing : Listing)
      → kept_listing (with_segment content taken.segments) region.head.region listing ≡ fresh listing
  listing_then listing =
      let since : Content → Bool = λ segment. is_none (region_named region.head.region segment) in
      let painted : List Content
      → KeptListing = λ found. record {
        listing = listing;
        painted = version_of_object
            (first_given
            (λ (content : Content). where_passes (λ (object : Object). object.object == listing.object)
            (object_in content.value)) found);
      } in
      ap painted (take_while-cons since content taken.segments)
      ∙ ap (λ (o : Option Region). painted (cond (is_none o) (content ∷ take_while since taken.segments) []))
      (named_same content region is_region_of)

  pub listings_then : (listings : List Listing)
      → map (kept_listing (with_segment content taken.segments) region.head.region) listings ≡ map fresh listings
  listings_then [] = refl
  listings_then (listing ∷ listings) = λ i. listing_then listing i ∷ listings_then listings i

  pub listings_then_other : (id : ℕ) → id ≢ region.head.region → (listings : List Listing)
      → map (kept_listing (with_segment content taken.segments) id) listings ≡ map (kept_listing taken id) listings
  listings_then_other id other [] = refl
  listings_then_other id other (listing ∷ listings) =
      λ i. listing_behind content taken.segments id listing (named_other content region id is_region_of other)
      (ap (λ (v : SegmentValue). where_passes (λ (object : Object). object.object == listing.object) (object_in v))
      (sym value)) i ∷ listings_then_other id other listings i

  -- it writes to its own pixels alone
  pub code_then : (id x y : ℕ)
      → code_by_segment taken content.value content.top content.bottom id x y ≡ code_by_fill id region.head
  code_then id x y = ap (λ (v : SegmentValue). code_by_segment taken v content.top content.bottom id x y) (sym value)

  pub pixel_then_other : (id x y : ℕ) → id ≢ region.head.region
      → pixel_of (with_segment content taken.segments) id x y ≡ pixel_of taken id x y
  unfolding pixel_of
  pixel_then_other id x y other =
      ap (λ (o : Option ℕ). unwrap_or (option_or o (last_code taken.segments id x y)) 0)
      (code_then id x y
      ∙ ap (λ b. cond (b && region.head.fill) (Some (fill_code region.head.depth region.head)) None)
      (ne_eqb region.head.region id (λ e. other (sym e))))

-- ---- whether it is taken

pub taken_by_version : (segments : List Content) (content : Content) (region : Region)
    → of_region region ≡ content.value
    → is_taken segments content.value
    ≡ is_new region.head (option_map head_of (taken_region region.head.region (taken_of segments)))
taken_by_version segments content region value =
    ap (is_taken segments) (sym value) ∙ taken_by_head segments segments region (record { last = refl; taken = refl })

pub taken_then : (segments : List Content) (content : Content) → is_taken segments content.value ≡ true
    → taken_of (content ∷ segments) ≡ with_segment content (taken_among segments)
unfolding taken_among
taken_then segments content is =
    ap (λ b. of_segments (cond b (content ∷ taken_among segments) (taken_among segments))) is

pub held_then : (segments : List Content) (content : Content) → is_taken segments content.value ≡ false
    → taken_of (content ∷ segments) ≡ taken_of segments
unfolding taken_among
held_then segments content is =
    ap (λ b. of_segments (cond b (content ∷ taken_among segments) (taken_among segments))) is
