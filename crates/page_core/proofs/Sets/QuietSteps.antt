-- A page memory with one more segment that changes no region, no pixel and no CLUT.
use Rattle.std.proofs.Common.{◌≡◌, ◌∙◌, ℕ, Bool, true, false, cond, List, [], ◌∷◌, ◌++◌, filter, map, reverse, Option, None, option_map, refl, sym, ap, subst}
use Rattle.std.specs.Prelude.{take_while}
use Rattle.std.proofs.lemmas.List.{reverse-append}
use Rattle.std.proofs.lemmas.List.Sums.{take_while-cons}
use Rattle.sub_base.specs.Lists.{first_given}
use Rattle.stream_syntax.specs.declared.region.Listing.{Listing}
use Rattle.std.specs.Option.{is_some, is_none, option_or}
use Rattle.stream_syntax.specs.Segments.{SegmentValue, of_page, of_region, of_clut, of_object, of_display, end_of_set, passed_over, Page, Display, Object, Region}
use Rattle.decoder_model.specs.Contents.{page_in, page_of, display_in, display_of, region_named, object_named}
use Rattle.decoder_model.specs.Faults.{display_in_force}
use Rattle.decoder_model.specs.Ink.{ink_of}
use Rattle.decoder_model.specs.Nodes.{region_ids, clut_ids, table_entries}
use Rattle.stream_syntax.specs.PixelBlocks.{Part}
use Rattle.decoder_model.specs.Pixels.{pixel_of, version_of_object}
use Rattle.decoder_model.specs.Readings.{Content}
use Rattle.decoder_model.specs.Taken.{Taken, taken_among, taken_of, taken_region}
use Rattle.page_core.specs.Memory.{Memory, HoldsSegments, kept_listing, showing}
use Rattle.page_core.specs.Composition.{KeptListing}
use Rattle.page_core.specs.Private.RegionTests.{before_regions}

-- a segment that is neither the region nor the object of a listing leaves it as it is painted
pub listing_behind : (content : Content) (segments : List Content) (id : ℕ) (listing : Listing)
    → region_named id content ≡ None → object_named listing.object content ≡ None
    → kept_listing (record { segments = content ∷ segments }) id listing
    ≡ kept_listing (record { segments = segments }) id listing
listing_behind content segments id listing no_region no_object =
    let since : Content → Bool = λ segment. is_none (region_named id segment) in
    let painted : List Content
    → KeptListing = λ found. record {
      listing = listing;
      painted = version_of_object
          (first_given (object_named listing.object) found);
    } in
    ap painted (take_while-cons since content segments)
    ∙ ap (λ (o : Option Region). painted (cond (is_none o) (content ∷ take_while since segments) [])) no_region
    ∙ ap (λ (o : Option Object). let kept : KeptListing = record {
      listing = listing;
      painted = version_of_object
          (option_or o (first_given (object_named listing.object) (take_while since segments)));
    } in kept) no_object

-- the same listings, by another list of segments
pub listings_by : (taken other : Taken) (id : ℕ) (found : Option Region)
    → ((listing : Listing) → kept_listing other id listing ≡ kept_listing taken id listing)
    → option_map (λ (region : Region). map (kept_listing taken id) region.listings) found
    ≡ option_map (λ (region : Region). map (kept_listing other id) region.listings) found
listings_by taken other id found same =
    λ i. option_map (λ (region : Region). map (λ listing. sym (same listing) i) region.listings) found

-- a page changes nothing that is kept of segments
page_step : (page : Page) (top bottom : List Part) (earlier : List Content) (memory : Memory)
    → HoldsSegments earlier memory
    → HoldsSegments (record { value = of_page page; top = top; bottom = bottom } ∷ earlier) memory
unfolding taken_among region_ids clut_ids table_entries pixel_of ink_of
page_step page top bottom earlier memory holds = record {
  display = holds.display;
  region_ids = holds.region_ids;
  heads = holds.heads;
  listings = λ id. holds.listings id
      ∙ listings_by (taken_of earlier)
      (record { segments = record { value = of_page page; top = top; bottom = bottom } ∷ taken_among earlier }) id
      (taken_region id (taken_of earlier))
      (λ listing. listing_behind (record { value = of_page page; top = top; bottom = bottom }) (taken_among earlier) id
      listing refl refl);
  pixels = holds.pixels;
  clut_ids = holds.clut_ids;
  versions = holds.versions;
  inks = holds.inks;
  set_entries = holds.set_entries;
  set_count = holds.set_count;
}

-- and a display nothing but the display
display_step : (display : Display) (top bottom : List Part) (earlier : List Content) (memory : Memory)
    → HoldsSegments earlier memory
    → HoldsSegments (record { value = of_display display; top = top; bottom = bottom } ∷ earlier)
    (showing display memory)
unfolding taken_among region_ids clut_ids table_entries pixel_of ink_of
display_step display top bottom earlier memory holds = record {
  display = refl;
  region_ids = holds.region_ids;
  heads = holds.heads;
  listings = λ id. holds.listings id
      ∙ listings_by (taken_of earlier)
      (record {
        segments = record { value = of_display display; top = top; bottom = bottom }
            ∷ taken_among earlier;
      }) id (taken_region id (taken_of earlier))
      (λ listing. listing_behind (record { value = of_display display; top = top; bottom = bottom })
      (taken_among earlier) id listing refl refl);
  pixels = holds.pixels;
  clut_ids = holds.clut_ids;
  versions = holds.versions;
  inks = holds.inks;
  set_entries = holds.set_entries;
  set_count = holds.set_count;
}

-- with the display of its segments a memory is what it was
same_display : (segments : List Content) (memory : Memory) → HoldsSegments segments memory
    → HoldsSegments segments (showing (display_in_force segments) memory)
same_display segments memory holds = record {
  display = refl;
  region_ids = holds.region_ids;
  heads = holds.heads;
  listings = holds.listings;
  pixels = holds.pixels;
  clut_ids = holds.clut_ids;
  versions = holds.versions;
  inks = holds.inks;
  set_entries = holds.set_entries;
  set_count = holds.set_count;
}

-- pages and displays alone
abbrev pub IsQuietValue : SegmentValue → Type 0
IsQuietValue (of_page value) = Unit {0}
IsQuietValue (of_region value) = ⊥
IsQuietValue (of_clut value) = ⊥
IsQuietValue (of_object value) = ⊥
IsQuietValue (of_display value) = Unit {0}
IsQuietValue end_of_set = ⊥
IsQuietValue passed_over = ⊥

abbrev pub AreQuiet : List Content → Type 0
AreQuiet [] = Unit {0}
AreQuiet (content ∷ contents) = IsQuietValue content.value × AreQuiet contents

one_step : (value : SegmentValue) (top bottom : List Part) (earlier : List Content) (memory : Memory)
    → IsQuietValue value → HoldsSegments earlier (showing (display_in_force earlier) memory)
    → HoldsSegments (record { value = value; top = top; bottom = bottom } ∷ earlier)
    (showing (display_in_force (record { value = value; top = top; bottom = bottom } ∷ earlier)) memory)
one_step (of_page page) top bottom earlier memory quiet holds =
    page_step page top bottom earlier (showing (display_in_force earlier) memory) holds
one_step (of_display display) top bottom earlier memory quiet holds =
    display_step display top bottom earlier (showing (display_in_force earlier) memory) holds
one_step (of_region value) top bottom earlier memory quiet holds = absurd quiet
one_step (of_clut value) top bottom earlier memory quiet holds = absurd quiet
one_step (of_object value) top bottom earlier memory quiet holds = absurd quiet
one_step end_of_set top bottom earlier memory quiet holds = absurd quiet
one_step passed_over top bottom earlier memory quiet holds = absurd quiet

-- behind pages and displays a memory holds what it held, with their display
pub quiet_behind : (mid base : List Content) (memory : Memory) → AreQuiet mid → HoldsSegments base memory
    → HoldsSegments (mid ++ base) (showing (display_in_force (mid ++ base)) memory)
quiet_behind [] base memory quiet holds = same_display base memory holds
quiet_behind (content ∷ mid) base memory quiet holds =
    one_step content.value content.top content.bottom (mid ++ base) memory quiet.0
    (quiet_behind mid base memory quiet.1 holds)

-- ---- those before the regions of a set

quiet_append : (xs ys : List Content) → AreQuiet xs → AreQuiet ys → AreQuiet (xs ++ ys)
quiet_append [] ys first second = second
quiet_append (x ∷ xs) ys first second = (first.0, quiet_append xs ys first.1 second)

quiet_reversed : (xs : List Content) → AreQuiet xs → AreQuiet (reverse xs)
quiet_reversed [] quiet = tt
quiet_reversed (x ∷ xs) quiet =
    subst AreQuiet (sym (reverse-append (x ∷ []) xs))
    (quiet_append (reverse xs) (x ∷ []) (quiet_reversed xs quiet.1) (quiet.0, tt))

quiet_kind : (kind : Content → Bool) (set : List Content)
    → ((content : Content) → kind content ≡ true → IsQuietValue content.value) → AreQuiet (filter kind set)
quiet_kind kind [] each = tt
quiet_kind kind (content ∷ set) each = by (quiet_kind kind set each) (kind content) refl
  where
    by : AreQuiet (filter kind set) → (hit : Bool) → kind content ≡ hit
        → AreQuiet (cond hit (content ∷ filter kind set) (filter kind set))
    by rest true is = (each content is, rest)
    by rest false is = rest

quiet_page : (value : SegmentValue) → is_some (page_in value) ≡ true → IsQuietValue value
quiet_page (of_page value) is = tt
quiet_page (of_region value) is = absurd (cc)
quiet_page (of_clut value) is = absurd (cc)
quiet_page (of_object value) is = absurd (cc)
quiet_page (of_display value) is = absurd (cc)
quiet_page end_of_set is = absurd (cc)
quiet_page passed_over is = absurd (cc)

quiet_display : (value : SegmentValue) → is_some (display_in value) ≡ true → IsQuietValue value
quiet_display (of_page value) is = absurd (cc)
quiet_display (of_region value) is = absurd (cc)
quiet_display (of_clut value) is = absurd (cc)
quiet_display (of_object value) is = absurd (cc)
quiet_display (of_display value) is = tt
quiet_display end_of_set is = absurd (cc)
quiet_display passed_over is = absurd (cc)

-- with the display and the page of a set a memory holds what it held, and shows the display that is in force then
pub before_regions_hold : (older set : List Content) (memory : Memory) → HoldsSegments older memory
    → HoldsSegments (before_regions older set) (showing (display_in_force (before_regions older set)) memory)
before_regions_hold older set memory holds =
    let displays = filter (λ content. is_some (display_of content)) set in
    let pages = filter (λ content. is_some (page_of content)) set in
    quiet_behind (reverse pages) (reverse displays ++ older)
    (showing (display_in_force (reverse displays ++ older)) memory)
    (quiet_reversed pages
    (quiet_kind (λ content. is_some (page_of content)) set (λ content is. quiet_page content.value is)))
    (quiet_behind (reverse displays) older memory
    (quiet_reversed displays
    (quiet_kind (λ content. is_some (display_of content)) set (λ content is. quiet_display content.value is)))
    holds)
