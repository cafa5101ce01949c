-- The regions of a set before the first of them is taken: the listings of those that it renews are free.
use Rattle.std.proofs.Common.{◌≡◌, ◌∙◌, ℕ, ◌+◌, ◌==◌, ◌<◌, ◌||◌, Bool, true, false, cond, List, [], ◌∷◌, filter, find, length, map, reverse, sum_by, Option, Some, None, option_map, refl, sym, ap, subst, arith}
use Rattle.std.specs.List.{list_any}
use Rattle.std.proofs.lemmas.Bool.{eq-eqb, eqb-true}
use Rattle.std.proofs.lemmas.List.{length-map, length-reverse, reverse-append}
use Rattle.std.proofs.lemmas.List.Sums.{sum_by-append, sum_by-cons}
use Rattle.stream_syntax.specs.Segments.{Region}
use Rattle.stream_syntax.specs.declared.region.Listing.{Listing}
use Rattle.stream_syntax.specs.declared.region.RegionHead.{RegionHead}
use Rattle.decoder_model.specs.Nodes.{region_ids}
use Rattle.decoder_model.specs.Pixels.{pixel_of}
use Rattle.decoder_model.specs.Readings.{Content}
use Rattle.decoder_model.specs.Taken.{Taken, taken_of, taken_region}
use Rattle.pixel_store.specs.Regions.{Regions, code_of, region_at}
use Rattle.page_core.specs.Composition.{AreIdsApart, Composition, KeptRegion, region_in}
use Rattle.page_core.specs.Memory.{HoldsSegments, IsWholeMemory, Memory, head_of, kept_listing}
use Rattle.page_core.specs.Private.RegionSteps.{AreBare, AreReady, AreRegionsValid, AreStored, AwaitRegions, KeepsBesideRegions, awaited, bare_by, bare_where, is_renewed, listings_kept}
use Rattle.page_core.specs.Private.RegionTests.{AreApart}
use Rattle.page_core.specs.Private.Walks.{is_region}
use Rattle.page_core.proofs.Regions.RegionIds.{found_mapped, has_id, ids_mapped, id_of, listings_at}
use Rattle.page_core.proofs.Counts.RegionNeeds.{are_regions, count_awaited, count_by, counts, nodes_with}

-- ---- regions without their listings

bare_head : (set : List Content) (kept : KeptRegion) → (bare_by set kept).head ≡ kept.head
bare_head set kept = by (is_renewed set kept.head)
  where
    by : (renewed : Bool) → (bare_where renewed kept).head ≡ kept.head
    by true = refl
    by false = refl

bare_slot : (set : List Content) (kept : KeptRegion) → (bare_by set kept).slot ≡ kept.slot
bare_slot set kept = by (is_renewed set kept.head)
  where
    by : (renewed : Bool) → (bare_where renewed kept).slot ≡ kept.slot
    by true = refl
    by false = refl

bare_id : (set : List Content) (kept : KeptRegion) → (bare_by set kept).head.region ≡ kept.head.region
bare_id set kept = ap (λ (head : RegionHead). head.region) (bare_head set kept)

module _ (older set : List Content) (memory : Memory) (composition : Composition) (holds : HoldsSegments older memory)
    (bared : AreBare set memory.composition composition) where
  found_is : (id : ℕ) → region_in composition id ≡ option_map (bare_by set) (region_in memory.composition id)
  found_is id =
      ap (find (λ (kept : KeptRegion). kept.head.region == id)) bared
      ∙ found_mapped (bare_by set) (bare_id set) id memory.composition.regions

  heads_are : (id : ℕ)
      → option_map (λ (kept : KeptRegion). kept.head) (region_in composition id)
      ≡ option_map head_of (taken_region id (taken_of older))
  heads_are id =
      ap (option_map (λ (kept : KeptRegion). kept.head)) (found_is id) ∙ by (region_in memory.composition id)
      ∙ holds.heads id
    where
      by : (found : Option KeptRegion)
          → option_map (λ (kept : KeptRegion). kept.head) (option_map (bare_by set) found)
          ≡ option_map (λ (kept : KeptRegion). kept.head) found
      by None = refl
      by (Some kept) = ap Some (bare_head set kept)

  listings_are : (id : ℕ) → option_map (λ (kept : KeptRegion). kept.listings) (region_in composition id)
      ≡ option_map
      (λ (region : Region). awaited (is_renewed set region.head)
      (map (kept_listing (taken_of older) id) region.listings)) (taken_region id (taken_of older))
  listings_are id =
      ap (option_map (λ (kept : KeptRegion). kept.listings)) (found_is id)
      ∙ by (region_in memory.composition id) (taken_region id (taken_of older)) (holds.heads id)
      (holds.listings id)
    where
      bare_listings : (renewed : Bool) (kept : KeptRegion)
          → (bare_where renewed kept).listings ≡ awaited renewed kept.listings
      bare_listings true kept = refl
      bare_listings false kept = refl

      by : (found : Option KeptRegion) (known : Option Region)
          → option_map (λ (kept : KeptRegion). kept.head) found ≡ option_map head_of known
          → option_map (λ (kept : KeptRegion). kept.listings) found
          ≡ option_map (λ (region : Region). map (kept_listing (taken_of older) id) region.listings) known
          → option_map (λ (kept : KeptRegion). kept.listings) (option_map (bare_by set) found)
          ≡ option_map
          (λ (region : Region). awaited (is_renewed set region.head)
          (map (kept_listing (taken_of older) id) region.listings)) known
      by None None head listings = refl
      by None (Some region) head listings = absurd (cc)
      by (Some kept) None head listings = absurd (cc)
      by (Some kept) (Some region) head listings =
          let same_head : kept.head ≡ region.head = cc in
          let same_listings : kept.listings ≡ map (kept_listing (taken_of older) id) region.listings = cc in
          ap Some (bare_listings (is_renewed set kept.head) kept
          ∙ (λ i. awaited (is_renewed set (same_head i)) (same_listings i)))

  pub await_begins : AwaitRegions (taken_of older) set composition memory.store
  await_begins = record {
    region_ids =
        ap (map (λ (kept : KeptRegion). kept.head.region)) bared
        ∙ ids_mapped (bare_by set) (bare_id set) memory.composition.regions ∙ holds.region_ids;
    heads = heads_are;
    listings = listings_are;
    pixels =
        λ id x y kept found narrow low. by id x y kept (region_in memory.composition id) refl
        (sym (found_is id) ∙ found) narrow low;
  }
    where
      by : (id x y : ℕ) (kept : KeptRegion) (was : Option KeptRegion) → region_in memory.composition id ≡ was
          → option_map (bare_by set) was ≡ Some kept → x < kept.head.width → y < kept.head.height
          → code_of (region_at memory.store kept.slot) x y ≡ pixel_of (taken_of older) id x y
      by id x y kept None is found narrow low = absurd (cc)
      by id x y kept (Some before) is found narrow low =
          let same : bare_by set before ≡ kept = cc in
          let head : before.head ≡ kept.head = sym (bare_head set before) ∙ ap (λ (k : KeptRegion). k.head) same in
          let slot : before.slot ≡ kept.slot = sym (bare_slot set before) ∙ ap (λ (k : KeptRegion). k.slot) same in
          ap (λ n. code_of (region_at memory.store n) x y) (sym slot)
          ∙ holds.pixels id x y before is (subst (λ (h : RegionHead). x < h.width) (sym head) narrow)
          (subst (λ (h : RegionHead). y < h.height) (sym head) low)

-- ---- how many nodes there are

found_any : (id : ℕ) (regions : List KeptRegion) (kept : KeptRegion) → find (has_id id) regions ≡ Some kept
    → list_any (has_id id) regions ≡ true
found_any id [] kept is = absurd (cc)
found_any id (one ∷ regions) kept is = by (one.head.region == id) is (found_any id regions kept)
  where
    by : (hit : Bool) → cond hit (Some one) (find (has_id id) regions) ≡ Some kept
        → (find (has_id id) regions ≡ Some kept → list_any (has_id id) regions ≡ true)
        → (hit || list_any (has_id id) regions) ≡ true
    by true is rest = refl
    by false is rest = rest is

-- the listings of all regions, by what is found by their ids
sum_found : (f : ℕ → ℕ) (regions : List KeptRegion) → AreIdsApart regions
    → ((id : ℕ) (kept : KeptRegion)
    → find (λ (kept : KeptRegion). kept.head.region == id) regions ≡ Some kept → length kept.listings ≡ f id)
    → sum_by (λ (kept : KeptRegion). length kept.listings) regions
    ≡ sum_by f (map (λ (kept : KeptRegion). kept.head.region) regions)
sum_found f [] apart each = refl
sum_found f (kept ∷ regions) apart each =
    let here : length kept.listings ≡ f kept.head.region =
    each kept.head.region kept
    (ap (λ b. cond b (Some kept) (find (has_id kept.head.region) regions))
    (eq-eqb kept.head.region kept.head.region refl)) in
    omega (
      arith,
      sum_by-cons listings_at kept regions,
      sum_by-cons f kept.head.region (map id_of regions),
      here,
      sum_found f regions apart.1 (λ id one found. each id one (behind id one found (kept.head.region == id) refl)),
    )
  where
    behind : (id : ℕ) (one : KeptRegion) → find (has_id id) regions ≡ Some one → (hit : Bool)
        → (kept.head.region == id) ≡ hit
        → cond (kept.head.region == id) (Some kept) (find (has_id id) regions) ≡ Some one
    behind id one found true is =
        let there : list_any (has_id kept.head.region) regions ≡ true =
        ap (λ n. list_any (has_id n) regions) (eqb-true kept.head.region id is)
        ∙ found_any id regions one found in
        absurd (let none = apart.0 in cc)
    behind id one found false is = ap (λ b. cond b (Some kept) (find (has_id id) regions)) is ∙ found

sum_reversed : (f : ℕ → ℕ) (xs : List ℕ) → sum_by f (reverse xs) ≡ sum_by f xs
sum_reversed f [] = refl
sum_reversed f (x ∷ xs) =
    omega (
      arith,
      ap (sum_by f) (reverse-append (x ∷ []) xs),
      sum_by-append f (reverse xs) (x ∷ []),
      sum_by-cons f x
          [],
      sum_by-cons f x xs,
      sum_reversed f xs,
    )

listings_counted : (taken : Taken) (set : List Content) (composition : Composition) (store : Regions)
    → AwaitRegions taken set composition store → AreIdsApart composition.regions
    → length composition.regions + listings_kept composition
    ≡ length (region_ids taken) + sum_by (counts taken set) (region_ids taken)
listings_counted taken set composition store await apart =
    omega (
      arith,
      length-map composition.regions id_of,
      ap length await.region_ids,
      length-reverse (region_ids taken),
      sum_found (counts taken set) composition.regions apart
          (λ id kept found. each id kept (taken_region id taken)
          (sym (ap (option_map (λ (kept : KeptRegion). kept.listings)) found) ∙ await.listings id)),
      ap (sum_by (counts taken set)) await.region_ids,
      sum_reversed (counts taken set) (region_ids taken),
    )
  where
    awaited_count : (id : ℕ) (renewed : Bool) (listings : List Listing)
        → length (awaited renewed (map (kept_listing taken id) listings)) ≡ count_by renewed (length listings)
    awaited_count id true listings = refl
    awaited_count id false listings = length-map listings (kept_listing taken id)

    each : (id : ℕ) (kept : KeptRegion) (known : Option Region)
        → Some kept.listings
        ≡ option_map
        (λ (region : Region). awaited (is_renewed set region.head) (map (kept_listing taken id) region.listings)) known
        → length kept.listings ≡ count_awaited set known
    each id kept None is = absurd (cc)
    each id kept (Some region) is =
        let same : kept.listings
        ≡ awaited (is_renewed set region.head) (map (kept_listing taken id) region.listings) =
        cc in ap length same ∙ awaited_count id (is_renewed set region.head) region.listings

-- the regions of a set can be taken
pub ready_begins : (older set : List Content) (memory : Memory) (composition : Composition) → HoldsSegments older memory
    → IsWholeMemory memory → AreApart [] (filter is_region set) → AreRegionsValid older set memory
    → AreBare (filter is_region set) memory.composition composition
    → KeepsBesideRegions memory.composition composition → AreStored composition memory.store
    → AreReady memory.profile older (filter is_region set) composition memory.store
ready_begins older set memory composition holds whole apart right bared beside stored =
    let await = await_begins older (filter is_region set) memory composition holds bared in
    record {
      regions = await;
      changed = right.changed;
      room = right.room;
      free = right.free;
      nodes = omega (
        arith,
        listings_counted (taken_of older) (filter is_region set) composition memory.store await stored.apart,
        nodes_with older [] (filter is_region set) (are_regions set) apart,
        right.nodes,
        whole.counted,
        stored.counted,
        ap length beside.entries,
        ap length beside.cluts,
        ap length beside.set_entries,
        beside.size,
      );
    }
