-- What a region segment that is taken means: one more of the taken segments.
use Rattle.std.proofs.Common.{◌≡◌, ◌≢◌, ◌∙◌, ℕ, ◌<◌, ◌||◌, false, cond, List, [], ◌∷◌, map, reverse, Option, Some, None, option_map, refl, sym, ap, subst, inl, inr}
use Rattle.std.specs.Option.{is_some, option_map_or}
use Rattle.std.proofs.lemmas.Bool.{cases_eq, ne_eqb, eq-eqb}
use Rattle.stream_syntax.specs.Segments.{Region, of_region}
use Rattle.stream_syntax.specs.declared.region.RegionHead.{RegionHead}
use Rattle.decoder_model.specs.Contents.{region_named}
use Rattle.decoder_model.specs.Nodes.{region_ids}
use Rattle.decoder_model.specs.Pixels.{pixel_of}
use Rattle.decoder_model.specs.Readings.{Content}
use Rattle.decoder_model.specs.Taken.{Taken, taken_region}
use Rattle.pixel_store.specs.Regions.{Regions, code_of, region_at}
use Rattle.page_core.specs.Composition.{Composition, KeptRegion, region_in}
use Rattle.page_core.specs.Memory.{head_of, kept_listing}
use Rattle.page_core.specs.Private.RegionSteps.{AwaitRegions, awaited, fresh, is_renewed}
use Rattle.page_core.specs.Private.RegionTests.{is_new}
use Rattle.page_core.specs.Private.Seen.{defines}
use Rattle.page_core.proofs.Regions.RegionLaws.{either_false}
use Rattle.page_core.proofs.Counts.PixelRoom.{with_segment}
use Rattle.page_core.proofs.Regions.RegionLookups.{IsLookedUp}
use Rattle.page_core.proofs.Regions.RenewedRegions.{renews_is}
use Rattle.page_core.proofs.Regions.TakenRegions.{id_of_last, listings_then, listings_then_other, pixel_then_other, region_then, region_then_other}

-- contents that define no region of an id renew none
pub none_renewed : (head : RegionHead) (left : List Content) → defines head.region left ≡ false
    → is_renewed left head ≡ false
none_renewed head [] none = refl
none_renewed head (content ∷ left) none =
    let parts = either_false (is_some (region_named head.region content)) (defines head.region left) none in
    by (region_named head.region content) parts.0 (none_renewed head left parts.1)
  where
    by : (found : Option Region) → is_some found ≡ false → is_renewed left head ≡ false
        → (option_map_or (λ (region : Region). is_new region.head (Some head)) found false || is_renewed left head)
        ≡ false
    by None is rest = rest
    by (Some region) is rest = absurd (cc)

module _ (taken : Taken) (left : List Content) (content : Content) (region : Region)
    (value : of_region region ≡ content.value) where
  -- a region of another id is not renewed by the segment
  pub not_renewed : (head : RegionHead) → head.region ≢ region.head.region
      → is_renewed (content ∷ left) head ≡ is_renewed left head
  not_renewed head other =
      ap (λ b. b || is_renewed left head)
      (renews_is head content region value
      ∙ ap (λ b. cond b (is_new region.head (Some head)) false)
      (ne_eqb region.head.region head.region (λ e. other (sym e))))

  listings_of_other : (id : ℕ) (found : Option Region) → id ≢ region.head.region
      → taken_region id taken ≡ found
      → option_map
      (λ (one : Region). awaited (is_renewed (content ∷ left) one.head)
      (map (kept_listing taken id) one.listings)) found
      ≡ option_map
      (λ (one : Region). awaited (is_renewed left one.head)
      (map (kept_listing (with_segment content taken.segments) id) one.listings)) found
  listings_of_other id None other is = refl
  listings_of_other id (Some one) other is =
      let named : one.head.region ≡ id = id_of_last id taken.segments one is in
      λ i. Some
      (awaited (not_renewed one.head (λ e. other (sym named ∙ e)) i)
      (sym (listings_then_other content region value taken id other one.listings) i))

  -- the segment is one of those that are taken
  pub await_taken : (slot : ℕ) (old new : Composition) (before after : Regions)
      → defines region.head.region left ≡ false → IsLookedUp region.head region.listings slot old new
      → map (λ (kept : KeptRegion). kept.head.region) new.regions
      ≡ reverse (region_ids (with_segment content taken.segments))
      → ((x y : ℕ) → x < region.head.width → y < region.head.height
      → code_of (region_at after slot) x y
      ≡ pixel_of (with_segment content taken.segments) region.head.region x y)
      → ((id : ℕ) (kept : KeptRegion) → id ≢ region.head.region → region_in old id ≡ Some kept
      → region_at after kept.slot ≡ region_at before kept.slot)
      → AwaitRegions taken (content ∷ left) old before
      → AwaitRegions (with_segment content taken.segments) left new after
  await_taken slot old new before after apart looked ids here_pixels other_pixels await = record {
    region_ids = ids;
    heads = λ id. elim (cases_eq id region.head.region) [
      | inl same ↦
          subst (λ n. option_map (λ (kept : KeptRegion). kept.head) (region_in new n)
          ≡ option_map head_of (taken_region n (with_segment content taken.segments))) (sym same)
          (ap (option_map (λ (kept : KeptRegion). kept.head)) looked.here
          ∙ sym (ap (option_map head_of) (region_then content region value taken)))
      | inr other ↦
          ap (option_map (λ (kept : KeptRegion). kept.head)) (looked.others id other) ∙ await.heads id
          ∙ sym (ap (option_map head_of) (region_then_other content region value taken id other))
    ];
    listings = λ id. elim (cases_eq id region.head.region) [
      | inl same ↦
          subst (λ n. option_map (λ (kept : KeptRegion). kept.listings) (region_in new n)
          ≡ option_map
          (λ (one : Region). awaited (is_renewed left one.head)
          (map (kept_listing (with_segment content taken.segments) n) one.listings))
          (taken_region n (with_segment content taken.segments))) (sym same)
          (ap (option_map (λ (kept : KeptRegion). kept.listings)) looked.here
          ∙ sym (ap
          (option_map
          (λ (one : Region). awaited (is_renewed left one.head)
          (map (kept_listing (with_segment content taken.segments) region.head.region) one.listings)))
          (region_then content region value taken)
          ∙ (λ i. Some
          (awaited (none_renewed region.head left apart i)
          (listings_then content region value taken region.listings i)))))
      | inr other ↦
          ap (option_map (λ (kept : KeptRegion). kept.listings)) (looked.others id other) ∙ await.listings id
          ∙ listings_of_other id (taken_region id taken) other refl
          ∙ sym (ap
          (option_map
          (λ (one : Region). awaited (is_renewed left one.head)
          (map (kept_listing (with_segment content taken.segments) id) one.listings)))
          (region_then_other content region value taken id other))
    ];
    pixels = λ id x y kept found. elim (cases_eq id region.head.region) [
      | inl same ↦
          let there : Some kept
          ≡ Some (record { head = region.head; slot = slot; listings = map fresh region.listings }) = sym found
          ∙ ap (region_in new) same ∙ looked.here in
          let is : kept ≡ record { head = region.head; slot = slot; listings = map fresh region.listings } = cc in
          let P : KeptRegion → Type 0 = λ k. x < k.head.width → y < k.head.height
          → code_of (region_at after k.slot) x y ≡ pixel_of (with_segment content taken.segments) id x y in
          subst P (sym is)
          (λ narrow low. here_pixels x y narrow low
          ∙ ap (λ n. pixel_of (with_segment content taken.segments) n x y) (sym same))
      | inr other ↦ λ narrow low.
          let was : region_in old id ≡ Some kept = sym (looked.others id other) ∙ found in
          ap (λ r. code_of r x y) (other_pixels id kept other was) ∙ await.pixels id x y kept was narrow low
          ∙ sym (pixel_then_other content region value taken id x y other)
    ];
  }

  -- one that is not taken renews none
  pub held_renewed : (id : ℕ) (one : Region)
      → is_new region.head (option_map head_of (taken_region region.head.region taken)) ≡ false
      → taken_region id taken ≡ Some one
      → is_renewed (content ∷ left) one.head ≡ is_renewed left one.head
  held_renewed id one held is = elim (cases_eq one.head.region region.head.region) [
    | inl same ↦
        let there : taken_region region.head.region taken ≡ Some one =
        ap (λ n. taken_region n taken) (sym same ∙ id_of_last id taken.segments one is) ∙ is in
        let not_new : is_new region.head (Some one.head) ≡ false =
        sym (ap (λ (o : Option Region). is_new region.head (option_map head_of o)) there) ∙ held in
        ap (λ b. b || is_renewed left one.head)
        (renews_is one.head content region value
        ∙ ap (λ b. cond b (is_new region.head (Some one.head)) false)
        (eq-eqb region.head.region one.head.region (sym same)) ∙ not_new)
    | inr other ↦ not_renewed one.head other
  ]

  -- a segment that is not taken changes nothing
  pub await_held : (old : Composition) (store : Regions)
      → is_new region.head (option_map head_of (taken_region region.head.region taken)) ≡ false
      → AwaitRegions taken (content ∷ left) old store → AwaitRegions taken left old store
  await_held old store held await = record {
    region_ids = await.region_ids;
    heads = await.heads;
    listings = λ id. await.listings id ∙ by id (taken_region id taken) refl;
    pixels = await.pixels;
  }
    where
      by : (id : ℕ) (found : Option Region) → taken_region id taken ≡ found
          → option_map
          (λ (one : Region). awaited (is_renewed (content ∷ left) one.head)
          (map (kept_listing taken id) one.listings)) found
          ≡ option_map
          (λ (one : Region). awaited (is_renewed left one.head) (map (kept_listing taken id) one.listings)) found
      by id None is = refl
      by id (Some one) is =
          ap (λ b. Some (awaited b (map (kept_listing taken id) one.listings))) (held_renewed id one held is)
