-- What an object segment does to a region, in the words of the taken segments (EN 300 743, clause 7.2.5).
use Rattle.std.proofs.Common.{◌≡◌, ◌∙◌, refl, sym, ap, one-add, ℕ, ◌+◌, ◌<◌, Bool, true, false, ◌&&◌, not, cond, eqb, List, [], ◌∷◌, map, Option, Some, None, arith}
use Rattle.std.specs.Prelude.{unwrap_or, take}
use Rattle.std.specs.List.{prefix_len}
use Rattle.std.specs.Option.{is_none, option_or}
use Rattle.std.proofs.lemmas.Bool.{eqb-true}
use Rattle.std.proofs.lemmas.Bool.Decides.{nat_tests}
use Rattle.sub_base.specs.Lists.{first_given, last_given}
use Rattle.stream_syntax.specs.PixelBlocks.{Part}
use Rattle.stream_syntax.specs.Segments.{SegmentValue, Object, Region, of_object}
use Rattle.stream_syntax.specs.declared.region.Listing.{Listing}
use Rattle.decoder_model.specs.Contents.{where_passes, region_in, object_in, object_named, region_named}
use Rattle.decoder_model.specs.Pixels.{version_of_object, since_region, is_painting, listings_by, painted_listings, code_by_listing, code_by_listings, code_by_segment, last_code, pixel_of}
use Rattle.decoder_model.specs.Readings.{Content}
use Rattle.decoder_model.specs.Taken.{Taken, has_new_version, taken_region}
use Rattle.pixel_store.specs.Regions.{Regions, region_at, code_of}
use Rattle.page_core.specs.Private.Listings.{is_due, code_by_kept, painted_listing, IsPainter}
use Rattle.page_core.specs.Memory.{kept_listing}
use Rattle.block_painting.specs.Writing.{IsWritten}
use Rattle.page_core.specs.Private.Painted.{FieldRuns, code_by_fields, field_runs}
use Rattle.page_core.specs.declared.composition.listings.Painter.{Painter}
use Rattle.block_painting.proofs.Written.{later_first}
use Rattle.page_core.proofs.Objects.Written.{named_listings}

-- ---- pixels

-- a pixel has the code of the last write behind one more segment
pub pixel_step : (taken : Taken) (content : Content) (slot id x y : ℕ) (old new : Regions)
    → IsWritten slot (λ x y. code_by_segment taken content.value content.top content.bottom id x y) old new
    → x < (region_at old slot).width → y < (region_at old slot).height
    → code_of (region_at old slot) x y ≡ pixel_of taken id x y
    → code_of (region_at new slot) x y ≡ pixel_of (record { segments = content ∷ taken.segments }) id x y
unfolding pixel_of
pixel_step taken content slot id x y old new written narrow low before =
    written.codes x y narrow low
    ∙ ap (unwrap_or (code_by_segment taken content.value content.top content.bottom id x y)) before
    ∙ later_first (code_by_segment taken content.value content.top content.bottom id x y)
    (last_code taken.segments id x y) 0

-- ---- listings

module _ (taken : Taken) (id : ℕ) (object : Object) (painter : Painter) (is : IsPainter painter object) where
  -- whether a listing is due
  pub due_is : (listing : Listing)
      → is_due painter (kept_listing taken id listing)
      ≡ (eqb listing.object object.object && is_painting taken id object)
  due_is listing =
      (λ i. eqb listing.object (is.object i)
      && has_new_version (is.version i)
      (version_of_object (first_given (object_named listing.object) (since_region id taken))))
      ∙ by (eqb listing.object object.object) refl
    where
      by : (named : Bool) → eqb listing.object object.object ≡ named
          → (named && has_new_version object.version
          (version_of_object (first_given (object_named listing.object) (since_region id taken))))
          ≡ (named && is_painting taken id object)
      by true same =
          ap (λ (n : ℕ). has_new_version object.version
          (version_of_object (first_given (object_named n) (since_region id taken))))
          (eqb-true listing.object object.object same)
      by false same = refl

  -- what the object writes through the listings of a region is what it writes through those that it paints
  pub object_writes : (region : Region) (fields : FieldRuns) (top bottom : List Part)
      → taken_region id taken ≡ Some region → fields ≡ field_runs region.head.depth top bottom → (x y : ℕ)
      → last_given (code_by_kept painter fields x y) (map (kept_listing taken id) region.listings)
      ≡ code_by_listings region.head.depth object.see_through top bottom x y (painted_listings taken id object)
  unfolding painted_listings
  object_writes region fields top bottom here are x y =
      along region.listings
      ∙ by (is_painting taken id object)
      ∙ ap (λ (r : Option Region). code_by_listings region.head.depth object.see_through top bottom x y
      (listings_by (is_painting taken id object) object r)) (sym here)
    where
      code_by : Bool → Listing → Option ℕ
      code_by painting listing =
          cond (eqb listing.object object.object && painting)
          (code_by_listing region.head.depth object.see_through top bottom x y listing) None

      one : (listing : Listing) → code_by_kept painter fields x y (kept_listing taken id listing)
          ≡ cond (eqb listing.object object.object && is_painting taken id object)
          (code_by_listing region.head.depth object.see_through top bottom x y listing) None
      one listing =
          ap (λ (due : Bool). cond due (code_by_fields painter.see_through fields x y listing) None) (due_is listing)
          ∙ (λ i. cond (eqb listing.object object.object && is_painting taken id object)
          (code_by_fields (is.see_through i) (are i) x y listing) None)

      along : (listings : List Listing)
          → last_given (code_by_kept painter fields x y) (map (kept_listing taken id) listings)
          ≡ last_given
          (λ (listing : Listing). cond (eqb listing.object object.object && is_painting taken id object)
          (code_by_listing region.head.depth object.see_through top bottom x y listing) None) listings
      along [] = refl
      along (listing ∷ listings) = (λ i. option_or (along listings i) (one listing i))

      none : (listings : List Listing)
          → last_given
          (λ (listing : Listing). cond (eqb listing.object object.object && false)
          (code_by_listing region.head.depth object.see_through top bottom x y listing) None) listings ≡ None
      none [] = refl
      none (listing ∷ listings) = (λ i. option_or (none listings i) (no_code (eqb listing.object object.object) i))
        where
          no_code : (named : Bool)
              → cond (named && false) (code_by_listing region.head.depth object.see_through top bottom x y listing)
              None ≡ None
          no_code true = refl
          no_code false = refl

      all : (listings : List Listing)
          → last_given
          (λ (listing : Listing). cond (eqb listing.object object.object && true)
          (code_by_listing region.head.depth object.see_through top bottom x y listing) None) listings
          ≡ last_given
          (λ (listing : Listing). cond (eqb listing.object object.object)
          (code_by_listing region.head.depth object.see_through top bottom x y listing) None) listings
      all [] = refl
      all (listing ∷ listings) = (λ i. option_or (all listings i) (same_code (eqb listing.object object.object) i))
        where
          same_code : (named : Bool)
              → cond (named && true) (code_by_listing region.head.depth object.see_through top bottom x y listing)
              None ≡ cond named (code_by_listing region.head.depth object.see_through top bottom x y listing) None
          same_code true = refl
          same_code false = refl

      by : (painting : Bool)
          → last_given
          (λ (listing : Listing). cond (eqb listing.object object.object && painting)
          (code_by_listing region.head.depth object.see_through top bottom x y listing) None) region.listings
          ≡ code_by_listings region.head.depth object.see_through top bottom x y
          (listings_by painting object (Some region))
      by true =
          all region.listings
          ∙ sym (named_listings (code_by_listing region.head.depth object.see_through top bottom x y) object.object
          region.listings)
      by false = none region.listings

  -- ---- versions

  -- no newer version is there: it is that one
  same_version : (version : ℕ) (last : Option ℕ) → has_new_version version last ≡ false
      → last ≡ Some version
  same_version version None e = absurd (cc)
  same_version version (Some last) e = ap Some (eqb-true last version (back (eqb last version) e))
    where
      back : (same : Bool) → not same ≡ false → same ≡ true
      back true e = refl
      back false e = sym e

  -- the segments since the region's last one, with the object
  since_object : (content : Content) → content.value ≡ of_object object
      → since_region id (record { segments = content ∷ taken.segments }) ≡ content ∷ since_region id taken
  since_object content value =
      let none : region_named id content ≡ None =
      ap (λ (v : SegmentValue). where_passes (λ (region : Region). eqb region.head.region id) (region_in v)) value
      in
      ap (λ (found : Option Region). take
      (cond (is_none found)
      (1 + prefix_len (λ (segment : Content). is_none (region_named id segment)) taken.segments) 0)
      (content ∷ taken.segments)) none
      ∙ ap (λ (n : ℕ). take n (content ∷ taken.segments))
      (one-add (prefix_len (λ (segment : Content). is_none (region_named id segment)) taken.segments))

  -- the version of the last object of an id since then
  version_then : (content : Content) → content.value ≡ of_object object → (o : ℕ)
      → first_given (object_named o) (since_region id (record { segments = content ∷ taken.segments }))
      ≡ option_or (cond (eqb object.object o) (Some object) None)
      (first_given (object_named o) (since_region id taken))
  version_then content value o =
      ap (first_given (object_named o)) (since_object content value)
      ∙ ap (λ (v : SegmentValue). option_or (where_passes (λ (one : Object). eqb one.object o) (object_in v))
      (first_given (object_named o) (since_region id taken))) value

  -- a listing behind the object is as the segments with it have it
  listing_keeps : (content : Content) → content.value ≡ of_object object → (listing : Listing)
      → painted_listing painter (kept_listing taken id listing)
      ≡ kept_listing (record { segments = content ∷ taken.segments }) id listing
  listing_keeps content value listing = by (eqb listing.object object.object) refl
    where
      then_is : kept_listing (record { segments = content ∷ taken.segments }) id listing
          ≡ record {
            listing = listing;
            painted = version_of_object
                (option_or (cond (eqb object.object listing.object) (Some object) None)
                (first_given (object_named listing.object) (since_region id taken)));
          }
      then_is =
          λ i. record { listing = listing; painted = version_of_object (version_then content value listing.object i) }

      named_is : (named : Bool) → eqb listing.object object.object ≡ named
          → eqb object.object listing.object ≡ named
      named_is true e = grind (arith, nat_tests)
      named_is false e = grind (arith, nat_tests)

      when_due : (due : Bool)
          → has_new_version painter.version
          (version_of_object (first_given (object_named listing.object) (since_region id taken))) ≡ due
          → cond due (record { listing = listing; painted = Some painter.version }) (kept_listing taken id listing)
          ≡ record { listing = listing; painted = Some object.version }
      when_due true e = λ i. record { listing = listing; painted = Some (is.version i) }
      when_due false e =
          λ i. record {
            listing = listing;
            painted = (same_version painter.version
                (version_of_object (first_given (object_named listing.object) (since_region id taken))) e
                ∙ ap Some is.version) i;
          }

      by : (named : Bool) → eqb listing.object object.object ≡ named
          → painted_listing painter (kept_listing taken id listing)
          ≡ kept_listing (record { segments = content ∷ taken.segments }) id listing
      by true e =
          (λ i. cond
          (eqb listing.object (is.object i)
          && has_new_version painter.version
          (version_of_object (first_given (object_named listing.object) (since_region id taken))))
          (record { listing = listing; painted = Some painter.version }) (kept_listing taken id listing))
          ∙ ap (λ (named : Bool). cond
          (named && has_new_version painter.version
          (version_of_object (first_given (object_named listing.object) (since_region id taken))))
          (record { listing = listing; painted = Some painter.version }) (kept_listing taken id listing)) e
          ∙ when_due
          (has_new_version painter.version
          (version_of_object (first_given (object_named listing.object) (since_region id taken)))) refl
          ∙ sym (then_is
          ∙ ap (λ (named : Bool). record {
            listing = listing;
            painted = version_of_object
                (option_or (cond named (Some object) None)
                (first_given (object_named listing.object) (since_region id taken)));
          }) (named_is true e))
      by false e =
          (λ i. cond
          (eqb listing.object (is.object i)
          && has_new_version painter.version
          (version_of_object (first_given (object_named listing.object) (since_region id taken))))
          (record { listing = listing; painted = Some painter.version }) (kept_listing taken id listing))
          ∙ ap (λ (named : Bool). cond
          (named && has_new_version painter.version
          (version_of_object (first_given (object_named listing.object) (since_region id taken))))
          (record { listing = listing; painted = Some painter.version }) (kept_listing taken id listing)) e
          ∙ sym (then_is
          ∙ ap (λ (named : Bool). record {
            listing = listing;
            painted = version_of_object
                (option_or (cond named (Some object) None)
                (first_given (object_named listing.object) (since_region id taken)));
          }) (named_is false e))

  pub object_keeps : (content : Content) → content.value ≡ of_object object → (listings : List Listing)
      → map (painted_listing painter) (map (kept_listing taken id) listings)
      ≡ map (kept_listing (record { segments = content ∷ taken.segments }) id) listings
  object_keeps content value [] = refl
  object_keeps content value (listing ∷ listings) =
      λ i. listing_keeps content value listing i ∷ object_keeps content value listings i
