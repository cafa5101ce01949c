-- The fault of an object in the regions of a page memory is that in the regions of the taken segments.
use Rattle.std.proofs.Common.{◌≡◌, ◌∙◌, refl, sym, ap, ℕ, suc, ◌<◌, ◌≤◌, Bool, true, false, not, ◌&&◌, ◌||◌, cond, eqb, List, [], ◌∷◌, length, map, All, Contains, Option, Some, None, option_map, arith}
use Rattle.std.proofs.lemmas.List.Elements.{All-contains}
use Rattle.std.specs.List.{list_any, range_with_len}
use Rattle.std.proofs.lemmas.Bool.{eqb-true}
use Rattle.std.proofs.lemmas.Bool.Decides.{nat_tests}
use Rattle.sub_base.specs.Lists.{first_given}
use Rattle.stream_syntax.specs.Segments.{Object, Region}
use Rattle.stream_syntax.specs.declared.region.Listing.{Listing}
use Rattle.decoder_model.specs.Faults.{depth_fault, fault_in_region, fault_in_regions, all_region_ids}
use Rattle.decoder_model.specs.Pixels.{is_painting, listings_naming, listings_by, painted_listings, depth_of}
use Rattle.decoder_model.specs.Readings.{Content}
use Rattle.decoder_model.specs.Taken.{Taken, taken_of, taken_region}
use Rattle.decoder_model.specs.declared.set_fault.SetFault.{SetFault}
use Rattle.page_core.specs.Composition.{KeptRegion, region_in}
use Rattle.page_core.specs.Private.Listings.{is_due, IsPainter}
use Rattle.page_core.specs.Memory.{Memory, HoldsSegments, head_of, kept_listing}
use Rattle.page_core.specs.Private.ObjectFaults.{least_of, in_region, fault_in_kept}
use Rattle.page_core.specs.declared.composition.listings.Painter.{Painter}
use Rattle.page_core.proofs.Regions.KeptIds.{ids_apart, found_by_id}
use Rattle.page_core.proofs.Objects.ObjectRegions.{IsLeastOf, least_is, first_at, none_at}
use Rattle.page_core.proofs.Objects.ObjectSteps.{due_is}
use Rattle.page_core.proofs.Regions.RegionNodes.{found_there}

-- ---- whether a listing is painted

some_named : (object : Object) (listings : List Listing)
    → list_any (λ (listing : Listing). eqb listing.object object.object) listings
    ≡ not (eqb (length (listings_naming object.object listings)) 0)
some_named object [] = refl
some_named object (listing ∷ listings) = by (eqb listing.object object.object) (some_named object listings)
  where
    by : (named : Bool)
        → list_any (λ (listing : Listing). eqb listing.object object.object) listings
        ≡ not (eqb (length (listings_naming object.object listings)) 0)
        → (named || list_any (λ (listing : Listing). eqb listing.object object.object) listings)
        ≡ not (eqb
        (length (cond named (listing ∷ listings_naming object.object listings)
        (listings_naming object.object listings))) 0)
    by true rest =
        let some : eqb (suc (length (listings_naming object.object listings))) 0
        ≡ false = grind (arith, nat_tests) in rw some refl
    by false rest = rest

module _ (taken : Taken) (id : ℕ) (object : Object) (painter : Painter) (is : IsPainter painter object) where
  along : (listings : List Listing)
      → list_any (is_due painter) (map (kept_listing taken id) listings)
      ≡ list_any (λ (listing : Listing). eqb listing.object object.object && is_painting taken id object) listings
  along [] = refl
  along (listing ∷ listings) = λ i. due_is taken id object painter is listing i || along listings i

  none : (listings : List Listing)
      → list_any (λ (listing : Listing). eqb listing.object object.object && false) listings ≡ false
  none [] = refl
  none (listing ∷ listings) = λ i. no_one (eqb listing.object object.object) i || none listings i
    where
      no_one : (named : Bool) → (named && false) ≡ false
      no_one true = refl
      no_one false = refl

  all : (listings : List Listing)
      → list_any (λ (listing : Listing). eqb listing.object object.object && true) listings
      ≡ list_any (λ (listing : Listing). eqb listing.object object.object) listings
  all [] = refl
  all (listing ∷ listings) = λ i. same_one (eqb listing.object object.object) i || all listings i
    where
      same_one : (named : Bool) → (named && true) ≡ named
      same_one true = refl
      same_one false = refl

  -- a listing of the region is due exactly where the object paints one
  some_due : (region : Region) → taken_region id taken ≡ Some region
      → list_any (is_due painter) (map (kept_listing taken id) region.listings)
      ≡ not (eqb (length (painted_listings taken id object)) 0)
  unfolding painted_listings
  some_due region here =
      along region.listings ∙ by (is_painting taken id object)
      ∙ ap (λ (found : Option Region). not (eqb (length (listings_by (is_painting taken id object) object found)) 0))
      (sym here)
    where
      by : (painting : Bool)
          → list_any (λ (listing : Listing). eqb listing.object object.object && painting) region.listings
          ≡ not (eqb (length (listings_by painting object (Some region))) 0)
      by true = all region.listings ∙ some_named object region.listings
      by false = none region.listings

  -- no region, and no fault
  pub no_fault : (content : Content) → taken_region id taken ≡ None
      → fault_in_region taken content object id ≡ None
  unfolding painted_listings
  no_fault content here =
      ap (λ (found : Option Region). cond (eqb (length (listings_by (is_painting taken id object) object found)) 0)
      None (depth_fault (depth_of found) content object)) here ∙ by (is_painting taken id object)
    where
      by : (painting : Bool)
          → cond (eqb (length (listings_by painting object None)) 0) None
          (depth_fault (depth_of None) content object) ≡ None
      by true = refl
      by false = refl

  -- the fault in a region that is kept
  pub same_fault : (content : Content) (kept : KeptRegion) (region : Region) → taken_region id taken ≡ Some region
      → kept.head ≡ region.head → kept.head.region ≡ id
      → kept.listings ≡ map (kept_listing taken id) region.listings
      → fault_in_kept painter content object kept
      ≡ option_map (in_region id) (fault_in_region taken content object id)
  same_fault content kept region here head id_is listings =
      (λ i. cond ((ap (list_any (is_due painter)) listings ∙ some_due region here) i)
      (option_map (in_region (id_is i)) (depth_fault (head i).depth content object)) None)
      ∙ by (eqb (length (painted_listings taken id object)) 0)
      ∙ ap (λ (found : Option Region). option_map (in_region id)
      (cond (eqb (length (painted_listings taken id object)) 0) None (depth_fault (depth_of found) content object)))
      (sym here)
    where
      by : (empty : Bool)
          → cond (not empty) (option_map (in_region id) (depth_fault region.head.depth content object)) None
          ≡ option_map (in_region id) (cond empty None (depth_fault region.head.depth content object))
      by true = refl
      by false = refl

-- ---- all regions

module _ (segments : List Content) (memory : Memory) (holds : HoldsSegments segments memory) (content : Content)
    (object : Object) (painter : Painter) (is : IsPainter painter object) where
  region_of_kept : (kept : KeptRegion) → Contains memory.composition.regions kept
      → fault_in_kept painter content object kept
      ≡ option_map (in_region kept.head.region) (fault_in_region (taken_of segments) content object kept.head.region)
  region_of_kept kept there = by (taken_region kept.head.region (taken_of segments)) refl
    where
      found : region_in memory.composition kept.head.region ≡ Some kept
      found = found_by_id memory.composition.regions (ids_apart segments memory holds) kept there

      heads : Some kept.head ≡ option_map head_of (taken_region kept.head.region (taken_of segments))
      heads = ap (option_map (λ (kept : KeptRegion). kept.head)) (sym found) ∙ holds.heads kept.head.region

      listings : Some kept.listings
          ≡ option_map (λ (region : Region). map (kept_listing (taken_of segments) kept.head.region) region.listings)
          (taken_region kept.head.region (taken_of segments))
      listings = ap (option_map (λ (kept : KeptRegion). kept.listings)) (sym found) ∙ holds.listings kept.head.region

      by : (region : Option Region) → taken_region kept.head.region (taken_of segments) ≡ region
          → fault_in_kept painter content object kept
          ≡ option_map (in_region kept.head.region)
          (fault_in_region (taken_of segments) content object kept.head.region)
      by None here = let no_head : Some kept.head ≡ None = heads ∙ ap (option_map head_of) here in absurd (cc)
      by (Some region) here =
          let some_head : Some kept.head ≡ Some region.head = heads ∙ ap (option_map head_of) here in
          let some_listings : Some kept.listings
          ≡ Some (map (kept_listing (taken_of segments) kept.head.region) region.listings)
          = listings
          ∙ ap (option_map
          (λ (region : Region). map (kept_listing (taken_of segments) kept.head.region) region.listings)) here in
          let head : kept.head ≡ region.head = cc in
          let same_listings : kept.listings
          ≡ map (kept_listing (taken_of segments) kept.head.region) region.listings =
          cc in
          same_fault (taken_of segments) kept.head.region object painter is content kept region here head refl
          same_listings

  -- an id with a fault is that of a region that is kept
  faulty_is_kept : (id : ℕ) (fault : SetFault)
      → fault_in_region (taken_of segments) content object id ≡ Some fault → (kept : KeptRegion)
      × Contains memory.composition.regions kept × (kept.head.region ≡ id)
  faulty_is_kept id fault has = by (region_in memory.composition id) refl
    where
      by : (kept : Option KeptRegion) → region_in memory.composition id ≡ kept → (one : KeptRegion)
          × Contains memory.composition.regions one × (one.head.region ≡ id)
      by None here = region_by (taken_region id (taken_of segments)) refl
        where
          region_by : (region : Option Region) → taken_region id (taken_of segments) ≡ region
              → (one : KeptRegion) × Contains memory.composition.regions one × (one.head.region ≡ id)
          region_by None none =
              let no_one = no_fault (taken_of segments) id object painter is content none in absurd (cc)
          region_by (Some region) some =
              let no_head : None ≡ Some region.head =
              ap (option_map (λ (kept : KeptRegion). kept.head)) (sym here) ∙ holds.heads id
              ∙ ap (option_map head_of) some in absurd (cc)
      by (Some kept) here =
          let there =
          found_there (λ (kept : KeptRegion). eqb kept.head.region id) memory.composition.regions kept here in
          (kept, there.0, eqb-true kept.head.region id there.1)

  -- an id with a fault has it in the region that is kept
  kept_fault : (id : ℕ) (fault : SetFault) → fault_in_region (taken_of segments) content object id ≡ Some fault
      → (kept : KeptRegion) × Contains memory.composition.regions kept
      × (fault_in_kept painter content object kept ≡ Some (id, fault))
  kept_fault id fault has =
      let kept = faulty_is_kept id fault has in (
        kept.0,
        kept.1,
        region_of_kept kept.0 kept.1
            ∙ (λ i. option_map (in_region (kept.2 i))
            (fault_in_region (taken_of segments) content object (kept.2 i)))
            ∙ ap (option_map (in_region id)) has,
      )

  -- the fault in the region of the least id is the first one over all ids
  below_count : (count : ℕ) → All (λ (kept : KeptRegion). kept.head.region < count) memory.composition.regions
      → option_map (λ (found : ℕ × SetFault). found.1)
      (least_of (fault_in_kept painter content object) memory.composition.regions)
      ≡ first_given (fault_in_region (taken_of segments) content object) (range_with_len 0 count)
  below_count count low =
      by (least_of (fault_in_kept painter content object) memory.composition.regions)
      (least_is (fault_in_kept painter content object) memory.composition.regions)
    where
      by : (found : Option (ℕ × SetFault))
          → IsLeastOf (fault_in_kept painter content object) memory.composition.regions found
          → option_map (λ (found : ℕ × SetFault). found.1) found
          ≡ first_given (fault_in_region (taken_of segments) content object) (range_with_len 0 count)
      by None all =
          sym (none_at (fault_in_region (taken_of segments) content object) 0 count
          (λ id. nothing id (fault_in_region (taken_of segments) content object id) refl))
        where
          nothing : (id : ℕ) (fault : Option SetFault)
              → fault_in_region (taken_of segments) content object id ≡ fault
              → fault_in_region (taken_of segments) content object id ≡ None
          nothing id None e = e
          nothing id (Some fault) e =
              let kept = kept_fault id fault e in
              let no_one = all kept.0 kept.1 in
              let one = kept.2 in
              absurd (cc)
      by (Some found) least =
          sym (first_at (fault_in_region (taken_of segments) content object) 0 count found.0 found.1 (omega arith)
          (omega (
            arith,
            here.0,
            All-contains (λ (kept : KeptRegion). kept.head.region < count)
                memory.composition.regions least.item low least.there,
          )) earlier here.1)
        where
          at : (fault : Option SetFault)
              → fault_in_region (taken_of segments) content object least.item.head.region ≡ fault
              → (found.0 ≡ least.item.head.region)
              × (fault_in_region (taken_of segments) content object found.0 ≡ Some found.1)
          at None e =
              let no_one : Some found ≡ None =
              sym least.has ∙ region_of_kept least.item least.there
              ∙ ap (option_map (in_region least.item.head.region)) e in absurd (cc)
          at (Some fault) e =
              let one : Some found ≡ Some (least.item.head.region, fault) =
              sym least.has ∙ region_of_kept least.item least.there
              ∙ ap (option_map (in_region least.item.head.region)) e in
              let same : found ≡ (least.item.head.region, fault) = cc in
              let id : found.0 ≡ least.item.head.region = ap (λ (f : ℕ × SetFault). f.0) same in
              let fault_is : found.1 ≡ fault = ap (λ (f : ℕ × SetFault). f.1) same in
              (id, ap (fault_in_region (taken_of segments) content object) id ∙ e ∙ ap Some (sym fault_is))

          here : (found.0 ≡ least.item.head.region)
              × (fault_in_region (taken_of segments) content object found.0 ≡ Some found.1)
          here = at (fault_in_region (taken_of segments) content object least.item.head.region) refl

          none_yet : (id : ℕ) → id < found.0 → (fault : Option SetFault)
              → fault_in_region (taken_of segments) content object id ≡ fault
              → fault_in_region (taken_of segments) content object id ≡ None
          none_yet id before None e = e
          none_yet id before (Some fault) e =
              let kept = kept_fault id fault e in
              let after : found.0 ≤ id = least.least kept.0 (id, fault) kept.1 kept.2 in
              absurd (omega (arith, after))

          earlier : (id : ℕ) → id < found.0 → fault_in_region (taken_of segments) content object id ≡ None
          earlier id before = none_yet id before (fault_in_region (taken_of segments) content object id) refl

  pub object_fault_is : All (λ (kept : KeptRegion). kept.head.region < 256) memory.composition.regions
      → option_map (λ (found : ℕ × SetFault). found.1)
      (least_of (fault_in_kept painter content object) memory.composition.regions)
      ≡ fault_in_regions (taken_of segments) content object
  unfolding all_region_ids
  object_fault_is bytes = below_count 256 bytes
