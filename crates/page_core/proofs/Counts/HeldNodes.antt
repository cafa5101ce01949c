-- How many nodes the page memory of some segments takes.
use Rattle.std.proofs.Common.{◌≡◌, ◌∙◌, refl, sym, ap, ℕ, zero, suc, ◌+◌, List, [], ◌∷◌, length, map, reverse, Contains, Option, Some, None, option_map, arith}
use Rattle.std.specs.Prelude.{sum_by}
use Rattle.std.proofs.lemmas.List.{length-map, length-reverse, reverse-append}
use Rattle.std.proofs.lemmas.List.Sums.{sum_by-cons, sum_by-append}
use Rattle.stream_syntax.specs.Segments.{Region}
use Rattle.decoder_model.specs.Nodes.{region_ids, clut_ids, table_entries, listing_count, listings_held}
use Rattle.decoder_model.specs.Readings.{Content}
use Rattle.decoder_model.specs.Taken.{taken_of, taken_region}
use Rattle.page_core.specs.Composition.{KeptListing, KeptRegion, KeptClut, taken_nodes}
use Rattle.page_core.specs.Memory.{Memory, HoldsSegments, kept_listing}
use Rattle.page_core.proofs.Regions.KeptIds.{id_of_kept, ids_apart, found_by_id}

-- ---- sums

sum_reversed : {X : Type 0} (f : X → ℕ) (xs : List X) → sum_by f (reverse xs) ≡ sum_by f xs
sum_reversed f [] = refl
sum_reversed f (x ∷ xs) =
    let parts = ap (sum_by f) (reverse-append (x ∷ []) xs) ∙ sum_by-append f (reverse xs) (x ∷ []) in
    let last = sum_by-cons f x [] in
    let whole = sum_by-cons f x xs in
    let rest = sum_reversed f xs in
    omega (arith, parts, last, whole, rest)

sum_mapped : {X Y : Type 0} (f : Y → ℕ) (g : X → Y) (xs : List X)
    → sum_by f (map g xs) ≡ sum_by (λ x. f (g x)) xs
sum_mapped f g [] = refl
sum_mapped f g (x ∷ xs) =
    sum_by-cons f (g x) (map g xs) ∙ ap (λ n. f (g x) + n) (sum_mapped f g xs)
    ∙ sym (sum_by-cons (λ x. f (g x)) x xs)

sum_there : {X : Type 0} (f g : X → ℕ) (xs : List X) → ((x : X) → Contains xs x → f x ≡ g x)
    → sum_by f xs ≡ sum_by g xs
sum_there f g [] same = refl
sum_there f g (x ∷ xs) same =
    sum_by-cons f x xs
    ∙ (λ i. same x (zero, omega arith, refl) i
    + sum_there f g xs (λ y there. same y (suc there.0, omega (arith, there.1), there.2)) i)
    ∙ sym (sum_by-cons g x xs)

-- ---- what is kept

module _ (segments : List Content) (memory : Memory) (holds : HoldsSegments segments memory) where
  pub regions_counted : length memory.composition.regions ≡ length (region_ids (taken_of segments))
  regions_counted =
      sym (length-map memory.composition.regions id_of_kept) ∙ ap length holds.region_ids
      ∙ length-reverse (region_ids (taken_of segments))

  pub cluts_counted : length memory.composition.cluts ≡ length (clut_ids (taken_of segments))
  cluts_counted =
      sym (length-map memory.composition.cluts (λ (kept : KeptClut). kept.clut)) ∙ ap length holds.clut_ids
      ∙ length-reverse (clut_ids (taken_of segments))

  -- a region has as many listings as its last taken segment
  listings_of : (kept : KeptRegion) → Contains memory.composition.regions kept
      → length kept.listings ≡ listing_count (taken_region kept.head.region (taken_of segments))
  listings_of kept there = by (taken_region kept.head.region (taken_of segments))
      (ap (option_map (λ (kept : KeptRegion). kept.listings))
      (sym (found_by_id memory.composition.regions (ids_apart segments memory holds) kept there))
      ∙ holds.listings kept.head.region)
    where
      by : (region : Option Region)
          → Some kept.listings
          ≡ option_map (λ (region : Region). map (kept_listing (taken_of segments) kept.head.region) region.listings)
          region → length kept.listings ≡ listing_count region
      by None is = absurd (cc)
      by (Some region) is =
          let same : kept.listings ≡ map (kept_listing (taken_of segments) kept.head.region) region.listings = cc in
          ap (λ (listings : List KeptListing). length listings) same
          ∙ length-map region.listings (kept_listing (taken_of segments) kept.head.region)

  pub listings_counted : sum_by (λ (kept : KeptRegion). length kept.listings) memory.composition.regions
      ≡ listings_held (taken_of segments)
  listings_counted =
      let count : ℕ → ℕ = λ id. listing_count (taken_region id (taken_of segments)) in
      sum_there (λ (kept : KeptRegion). length kept.listings) (λ (kept : KeptRegion). count kept.head.region)
      memory.composition.regions listings_of
      ∙ sym (sum_mapped count id_of_kept memory.composition.regions)
      ∙ ap (sum_by count) holds.region_ids
      ∙ sum_reversed count (region_ids (taken_of segments))

  -- the nodes that are taken, beside those of the page
  pub nodes_counted : taken_nodes memory.composition
      ≡ length memory.composition.entries + length (region_ids (taken_of segments))
      + listings_held (taken_of segments)
      + length (clut_ids (taken_of segments)) + length (table_entries (taken_of segments))
  nodes_counted =
      λ i. length memory.composition.entries + regions_counted i + listings_counted i + cluts_counted i
      + holds.set_count i
