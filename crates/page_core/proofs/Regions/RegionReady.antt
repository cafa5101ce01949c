-- The regions of a set taken one after another behind earlier segments.
use Rattle.std.proofs.Common.{◌≡◌, ◌≢◌, ◌∙◌, ℕ, zero, suc, ◌+◌, ◌-◌, ◌==◌, ◌<◌, ◌≤◌, ◌||◌, ◌&&◌, Bool, true, false, cond, List, [], ◌∷◌, ◌++◌, filter, get_or, length, map, reverse, Option, Some, None, option_map, refl, sym, ap, subst, arith}
use Rattle.std.specs.Prelude.{nat_lt, option_and_then}
use Rattle.std.specs.List.{range_with_len}
use Rattle.std.specs.Option.{is_none, is_some}
use Rattle.std.proofs.lemmas.Bool.{eqb-true}
use Rattle.std.proofs.lemmas.Bool.Decides.{nat_tests}
use Rattle.std.proofs.lemmas.List.{reverse-append}
use Rattle.sub_base.specs.declared.profile.Profile.{Profile}
use Rattle.stream_syntax.specs.Segments.{Region, of_region}
use Rattle.stream_syntax.specs.declared.region.RegionHead.{RegionHead}
use Rattle.decoder_model.specs.Contents.{region_in, region_named, region_of, where_passes}
use Rattle.decoder_model.specs.Faults.{changed_from, changed_region, has_same_shape, pixels_full, region_changed, region_too_large}
use Rattle.decoder_model.specs.Nodes.{region_bytes, pixels_used, region_ids}
use Rattle.decoder_model.specs.Pixels.{code_by_fill, code_by_segment}
use Rattle.decoder_model.specs.Readings.{Content}
use Rattle.decoder_model.specs.Taken.{Taken, is_taken, taken_among, taken_of, taken_region}
use Rattle.decoder_model.specs.declared.set_fault.SetFault.TheVariants.{PixelFull}
use Rattle.pixel_store.specs.Regions.{Regions, region_at}
use Rattle.page_core.specs.Composition.{Composition, KeptListing, KeptRegion}
use Rattle.page_core.specs.Composition.{region_in as kept_in}
use Rattle.page_core.specs.Handed.{AreContents}
use Rattle.page_core.specs.Memory.{HasSidesOf, head_of, kept_listing}
use Rattle.block_painting.specs.Writing.{IsWritten}
use Rattle.page_core.specs.Private.Painted.{HasRegion}
use Rattle.page_core.specs.Private.RegionSteps.{AreReady, AreStored, AwaitRegions, IsNewRegion, IsRegionTaken, IsTakenAgain, awaited, is_renewed, nodes_needed_by, nodes_needed_for, with_regions_of}
use Rattle.page_core.specs.Private.RegionTests.{AreApart, first_in, is_new}
use Rattle.page_core.specs.Private.Seen.{defines}
use Rattle.page_core.specs.Private.Walks.{IsNextOf, is_region}
use Rattle.page_core.proofs.Pictures.DrawnEntries.{placed_in_order}
use Rattle.page_core.proofs.Pictures.Finds.{found_all}
use Rattle.page_core.proofs.Objects.ObjectSteps.{pixel_step}
use Rattle.page_core.proofs.Sets.Orders.{moved}
use Rattle.page_core.proofs.Counts.PixelRoom.{ids_with, named_same, neither, same_bytes, shape_kept, used_with_new, used_with_same, with_segment}
use Rattle.page_core.proofs.Regions.RegionIds.{found_has}
use Rattle.page_core.proofs.Regions.RegionLookups.{IsLookedUp, again_ids, again_looked_up, first_ids, first_looked_up}
use Rattle.page_core.proofs.Regions.RegionMeanings.{await_held, await_taken}
use Rattle.page_core.proofs.Regions.RegionNodes.{found_there}
use Rattle.page_core.proofs.Regions.RegionsStored.{region_again}
use Rattle.page_core.proofs.Regions.RenewedRegions.{renews_is}
use Rattle.page_core.proofs.Regions.TakenRegions.{code_then, held_then, is_region_of, no_pixels, taken_by_version, taken_then}
use Rattle.block_painting.proofs.Written.{written_as}

-- ---- bytes and slots

slot_at : (regions : List KeptRegion) (from n i : ℕ) (d : KeptRegion)
    → map (λ (kept : KeptRegion). kept.slot) regions ≡ range_with_len from n → i < length regions
    → (get_or regions i d).slot ≡ from + i
slot_at [] from n i d slots within = absurd (omega (arith, within))
slot_at (kept ∷ regions) from zero i d slots within = absurd (cc)
slot_at (kept ∷ regions) from (suc n) zero d slots within =
    let first : kept.slot ≡ from = cc in omega (arith, first)
slot_at (kept ∷ regions) from (suc n) (suc i) d slots within =
    let rest : map (λ (kept : KeptRegion). kept.slot) regions ≡ range_with_len (from + 1) n = cc in
    omega (arith, slot_at regions (from + 1) n i d rest (omega (arith, within)))

same_at : (regions : List KeptRegion) (i j : ℕ) (a b : KeptRegion) → i ≡ j → i < length regions
    → get_or regions i a ≡ a → get_or regions j b ≡ b → a ≡ b
same_at [] i j a b same within at_i at_j = absurd (omega (arith, within))
same_at (kept ∷ regions) zero zero a b same within at_i at_j = sym at_i ∙ at_j
same_at (kept ∷ regions) zero (suc j) a b same within at_i at_j = absurd (omega (arith, same))
same_at (kept ∷ regions) (suc i) zero a b same within at_i at_j = absurd (omega (arith, same))
same_at (kept ∷ regions) (suc i) (suc j) a b same within at_i at_j =
    same_at regions i j a b (omega (arith, same)) (omega (arith, within)) at_i at_j

-- regions of two ids have two slots
pub slots_apart : (composition : Composition) (store : Regions) (a b : ℕ) (one other : KeptRegion)
    → AreStored composition store → kept_in composition a ≡ Some one
    → kept_in composition b ≡ Some other → a ≢ b → one.slot ≢ other.slot
slots_apart composition store a b one other stored found_a found_b differ same =
    let there = (found_there (λ (kept : KeptRegion). kept.head.region == a) composition.regions one found_a).0 in
    let here = (found_there (λ (kept : KeptRegion). kept.head.region == b) composition.regions other found_b).0 in
    let slot_a : (get_or composition.regions there.0 one).slot ≡ 0 + there.0 =
    slot_at composition.regions 0 (length store.regions) there.0 one stored.slots there.1 in
    let slot_b : (get_or composition.regions here.0 other).slot ≡ 0 + here.0 =
    slot_at composition.regions 0 (length store.regions) here.0 other stored.slots here.1 in
    let is_a : one.slot ≡ (get_or composition.regions there.0 one).slot =
    ap (λ (k : KeptRegion). k.slot) (sym there.2) in
    let is_b : other.slot ≡ (get_or composition.regions here.0 other).slot =
    ap (λ (k : KeptRegion). k.slot) (sym here.2) in
    let index : there.0 ≡ here.0 = omega (arith, slot_a, slot_b, is_a, is_b, same) in
    let is : one ≡ other = same_at composition.regions there.0 here.0 one other index there.1 there.2 here.2 in
    differ (sym (found_has a composition.regions one found_a) ∙ ap (λ (k : KeptRegion). k.head.region) is
    ∙ found_has b composition.regions other found_b)

-- ---- a segment that is taken

module _ (taken : Taken) (left : List Content) (content : Content) (region : Region)
    (value : of_region region ≡ content.value) (apart : defines region.head.region left ≡ false)
    (old new : Composition) (before after : Regions) (stored : AreStored old before)
    (await : AwaitRegions taken (content ∷ left) old before) where
  written_then : (slot : ℕ) (from : Regions)
      → IsWritten slot (λ x y. code_by_fill region.head.region region.head) from after
      → IsWritten slot (λ x y. code_by_segment taken content.value content.top content.bottom region.head.region x y)
      from after
  written_then slot from written =
      written_as slot (λ x y. code_by_fill region.head.region region.head)
      (λ x y. code_by_segment taken content.value content.top content.bottom region.head.region x y) from after
      (λ x y. sym (code_then content region value taken region.head.region x y)) written

  pub first_means : taken_region region.head.region taken ≡ None → IsNewRegion region old before new after
      → AwaitRegions (with_segment content taken.segments) left new after
  first_means none is =
      let unknown : kept_in old region.head.region ≡ None =
      none_of (kept_in old region.head.region) (await.heads region.head.region ∙ ap (option_map head_of) none) in
      let looked =
      subst (IsLookedUp region.head region.listings is.slot old) (sym is.composition)
      (first_looked_up old region.head is.slot region.listings unknown) in
      await_taken taken left content region value is.slot old new before after apart looked
      (ap (λ (c : Composition). map (λ (kept : KeptRegion). kept.head.region) c.regions) is.composition
      ∙ first_ids old region.head is.slot region.listings
      ∙ ap (λ (ids : List ℕ). ids ++ region.head.region ∷ []) await.region_ids
      ∙ sym (reverse-append (region.head.region ∷ []) (region_ids taken))
      ∙ ap reverse (sym (ids_with content region taken.segments (is_region_of content region value taken)
      ∙ ap (λ (last : Option Region). cond (is_some last) (region_ids taken)
      (region.head.region ∷ region_ids taken)) none)))
      (λ x y narrow low. pixel_step taken content is.slot region.head.region x y is.between after
      (written_then is.slot is.between is.written)
      (subst (λ r. x < r.width) (sym is.placed.placed) narrow) (subst (λ r. y < r.height) (sym is.placed.placed) low)
      (is.placed.zeros x y narrow low ∙ sym (no_pixels taken region.head.region x y none)))
      (λ id kept other found.
      let placed =
      (found_all (λ (kept : KeptRegion). HasRegion kept.head kept.slot before)
      (λ (kept : KeptRegion). kept.head.region == id) old.regions kept
      (placed_in_order old.regions before stored.slots stored.sides) found).placed in
      is.written.others.others kept.slot (λ e. omega (arith, e, placed, is.placed.index))
      ∙ is.placed.kept kept.slot placed)
      await
    where
      none_of : (found : Option KeptRegion) → option_map (λ (kept : KeptRegion). kept.head) found ≡ None
          → found ≡ None
      none_of None is = refl
      none_of (Some kept) is = absurd (cc)

  pub again_means : (last : Region) → taken_region region.head.region taken ≡ Some last
      → is_new region.head (Some last.head) ≡ true → has_same_shape region.head last.head ≡ true
      → IsTakenAgain region old before new after → AwaitRegions (with_segment content taken.segments) left new after
  again_means last known new_version same is =
      let head_is : is.kept.head ≡ last.head =
      some_same
      (sym (ap (option_map (λ (kept : KeptRegion). kept.head)) is.known) ∙ await.heads region.head.region
      ∙ ap (option_map head_of) known) in
      let shape : has_same_shape region.head is.kept.head ≡ true = ap (has_same_shape region.head) head_is ∙ same in
      let id_is : last.head.region ≡ region.head.region =
      sym (ap (λ (h : RegionHead). h.region) head_is)
      ∙ found_has region.head.region old.regions is.kept is.known in
      let renewed : is_renewed (content ∷ left) last.head ≡ true =
      ap (λ b. b || is_renewed left last.head)
      (renews_is last.head content region value
      ∙ (λ i. cond
      (let hit : (region.head.region == last.head.region)
      ≡ true = by_same region.head.region last.head.region (sym id_is) in hit i)
      (is_new region.head (Some last.head)) false) ∙ new_version) in
      let empty : is.kept.listings ≡ [] =
      listings_same
      (sym (ap (option_map (λ (kept : KeptRegion). kept.listings)) is.known) ∙ await.listings region.head.region
      ∙ ap (option_map
      (λ (one : Region). awaited (is_renewed (content ∷ left) one.head)
      (map (kept_listing taken region.head.region) one.listings))) known
      ∙ ap (λ b. Some (awaited b (map (kept_listing taken region.head.region) last.listings))) renewed) in
      let looked =
      subst (IsLookedUp region.head region.listings is.kept.slot old) (sym is.composition)
      (again_looked_up old region.head is.kept region.listings is.known empty) in
      let placed = region_again old before region.head is.kept stored is.known shape in
      let sides =
      found_all (λ (kept : KeptRegion). HasSidesOf kept.head (region_at before kept.slot))
      (λ (kept : KeptRegion). kept.head.region == region.head.region) old.regions is.kept stored.sides is.known in
      await_taken taken left content region value is.kept.slot old new before after apart looked
      (ap (λ (c : Composition). map (λ (kept : KeptRegion). kept.head.region) c.regions) is.composition
      ∙ again_ids old region.head region.listings ∙ await.region_ids
      ∙ ap reverse (sym (ids_with content region taken.segments (is_region_of content region value taken)
      ∙ ap (λ (o : Option Region). cond (is_some o) (region_ids taken) (region.head.region ∷ region_ids taken))
      known)))
      (λ x y narrow low. pixel_step taken content is.kept.slot region.head.region x y before after
      (written_then is.kept.slot before is.written)
      (subst (λ n. x < n) (sym placed.sides.width) narrow) (subst (λ n. y < n) (sym placed.sides.height) low)
      (await.pixels region.head.region x y is.kept is.known
      (subst (λ n. x < n) (sym placed.sides.width ∙ sides.width) narrow)
      (subst (λ n. y < n) (sym placed.sides.height ∙ sides.height) low)))
      (λ id kept other found. is.written.others.others kept.slot
      (slots_apart old before id region.head.region kept is.kept stored found is.known other))
      await
    where
      some_same : {X : Type 0} {a b : X} → Some a ≡ Some b → a ≡ b
      some_same e = cc

      listings_same : {a b : List KeptListing} → Some a ≡ Some b → a ≡ b
      listings_same e = cc

      by_same : (a b : ℕ) → a ≡ b → (a == b) ≡ true
      by_same a b same = grind (arith, nat_tests)

-- ---- ready for the next

some_in : {X : Type 0} {a b : X} → Some a ≡ Some b → a ≡ b
some_in e = cc

-- how many nodes a region segment needs
pub needed_is : (segments : List Content) (content : Content) (region : Region) (taken : Bool) (known : Option Region)
    → of_region region ≡ content.value → is_taken segments content.value ≡ taken
    → taken_region region.head.region (taken_of segments) ≡ known
    → nodes_needed_for segments content (region_of content) ≡ nodes_needed_by taken known region
needed_is segments content region taken known value is_taken_so known_so =
    ap (nodes_needed_for segments content) (ap region_in (sym value))
    ∙ (λ i. nodes_needed_by (is_taken_so i) (known_so i) region)

-- a region that is new and has room
fits_in : (profile : Profile) (taken : Taken) (region : Region) → taken_region region.head.region taken ≡ None
    → region_too_large profile taken region ≡ None
    → region_bytes region.head ≤ profile.pixels - pixels_used taken
fits_in profile taken region none fits =
    by (nat_lt (profile.pixels - pixels_used taken) (region_bytes region.head)) refl
    (sym (ap (λ (o : Option Region). cond
    (is_none o && nat_lt (profile.pixels - pixels_used taken) (region_bytes region.head))
    (Some (PixelFull (region_bytes region.head) (profile.pixels - pixels_used taken))) None) none) ∙ fits)
  where
    by : (large : Bool) → nat_lt (profile.pixels - pixels_used taken) (region_bytes region.head) ≡ large
        → cond large (Some (PixelFull (region_bytes region.head) (profile.pixels - pixels_used taken))) None
        ≡ None → region_bytes region.head ≤ profile.pixels - pixels_used taken
    by true is none = absurd (cc)
    by false is none = grind (arith, nat_tests)

module _ (profile : Profile) (segments left : List Content) (content : Content) (region : Region)
    (value : of_region region ≡ content.value) (apart : defines region.head.region left ≡ false)
    (old new : Composition) (before after : Regions) (stored : AreStored old before)
    (ready : AreReady profile segments (content ∷ left) old before)
    (step : IsRegionTaken region old before new after) where
  of : region_of content ≡ Some region
  of = ap region_in (sym value)

  changes : (region_changed segments content ≡ None) × (first_in region_changed (content ∷ segments) left ≡ None)
  changes =
      neither (region_changed segments content) (first_in region_changed (content ∷ segments) left) ready.changed

  rooms : (pixels_full profile segments content ≡ None)
      × (first_in (pixels_full profile) (content ∷ segments) left ≡ None)
  rooms =
      neither (pixels_full profile segments content) (first_in (pixels_full profile) (content ∷ segments) left)
      ready.room

  pub ready_goes_on : AreReady profile (content ∷ segments) left new after
  ready_goes_on = by (taken_region region.head.region (taken_of segments)) refl
    where
      held : (last : Region) → taken_region region.head.region (taken_of segments) ≡ Some last
          → is_new region.head (Some last.head) ≡ false → AreReady profile (content ∷ segments) left new after
      held last known same_version =
          let not_taken : is_taken segments content.value ≡ false =
          taken_by_version segments content region value
          ∙ ap (λ (o : Option Region). is_new region.head (option_map head_of o)) known ∙ same_version in
          let still =
          step.held
          (ap (is_new region.head) (ready.regions.heads region.head.region ∙ ap (option_map head_of) known)
          ∙ same_version) in
          let needed = needed_is segments content region false (Some last) value not_taken known in
          record {
            regions =
                subst (λ (taken : Taken). AwaitRegions taken left new after)
                (sym (held_then segments content not_taken))
                (subst (λ (c : Composition). AwaitRegions (taken_of segments) left c after) (sym still.0)
                (subst (AwaitRegions (taken_of segments) left old) (sym still.1)
                (await_held (taken_of segments) left content region value old before
                (ap (λ (o : Option Region). is_new region.head (option_map head_of o)) known ∙ same_version)
                ready.regions)));
            changed = changes.1;
            room = rooms.1;
            free =
                ap (λ (s : Regions). s.free) still.1 ∙ ready.free
                ∙ ap (λ (taken : Taken). profile.pixels - pixels_used taken)
                (sym (held_then segments content not_taken));
            nodes = omega (arith, ready.nodes, needed, ap (λ (c : Composition). c.free) still.0);
          }

      again : (last : Region) → taken_region region.head.region (taken_of segments) ≡ Some last
          → is_new region.head (Some last.head) ≡ true → AreReady profile (content ∷ segments) left new after
      again last known new_version =
          let is : is_taken segments content.value ≡ true =
          taken_by_version segments content region value
          ∙ ap (λ (o : Option Region). is_new region.head (option_map head_of o)) known ∙ new_version in
          let unchanged : changed_from region (Some last) ≡ None =
          ap (changed_from region) (sym known)
          ∙ sym (ap
          (λ b. cond b (changed_from region (taken_region region.head.region (taken_of segments))) None) is)
          ∙ ap (changed_region segments content.value) (sym of) ∙ changes.0 in
          let shape = shape_kept region last unchanged in
          let needed = needed_is segments content region true (Some last) value is known in
          let renewed =
          step.again last.head (ready.regions.heads region.head.region ∙ ap (option_map head_of) known)
          new_version shape (omega (arith, ready.nodes, needed)) in
          let used : pixels_used (with_segment content (taken_among segments)) ≡ pixels_used (taken_of segments) =
          used_with_same content region last (taken_among segments) of known
          (same_bytes region.head last.head shape) in
          record {
            regions =
                subst (λ (taken : Taken). AwaitRegions taken left new after) (sym (taken_then segments content is))
                (again_means (taken_of segments) left content region value apart old new before after stored
                ready.regions last known new_version shape renewed);
            changed = changes.1;
            room = rooms.1;
            free =
                renewed.written.others.free ∙ ready.free ∙ ap (λ n. profile.pixels - n) (sym used)
                ∙ ap (λ (taken : Taken). profile.pixels - pixels_used taken) (sym (taken_then segments content is));
            nodes = omega (arith, ready.nodes, needed, ap (λ (c : Composition). c.free) renewed.composition);
          }

      first : taken_region region.head.region (taken_of segments) ≡ None
          → AreReady profile (content ∷ segments) left new after
      first none =
          let is : is_taken segments content.value ≡ true =
          taken_by_version segments content region value
          ∙ ap (λ (o : Option Region). is_new region.head (option_map head_of o)) none in
          let needed = needed_is segments content region true None value is none in
          let fits =
          fits_in profile (taken_of segments) region none
          (sym (ap (option_and_then (region_too_large profile (taken_of segments))) of) ∙ rooms.0) in
          let put =
          step.first (ready.regions.heads region.head.region ∙ ap (option_map head_of) none)
          (omega (arith, ready.nodes, needed)) (omega (arith, fits, ready.free)) in
          let used : pixels_used (with_segment content (taken_among segments))
          ≡ region_bytes region.head
          + pixels_used (taken_of segments) = used_with_new content region (taken_among segments) of none in
          record {
            regions =
                subst (λ (taken : Taken). AwaitRegions taken left new after) (sym (taken_then segments content is))
                (first_means (taken_of segments) left content region value apart old new before after stored
                ready.regions none put);
            changed = changes.1;
            room = rooms.1;
            free =
                let left_over : after.free
                ≡ profile.pixels - pixels_used (with_segment content (taken_among segments)) = omega
                (arith, put.written.others.free, put.placed.free, ready.free, used, fits) in
                left_over
                ∙ ap (λ (taken : Taken). profile.pixels - pixels_used taken)
                (sym (taken_then segments content is));
            nodes = omega (arith, ready.nodes, needed, ap (λ (c : Composition). c.free) put.composition);
          }

      by_version : (last : Region) → taken_region region.head.region (taken_of segments) ≡ Some last
          → (newer : Bool) → is_new region.head (Some last.head) ≡ newer
          → AreReady profile (content ∷ segments) left new after
      by_version last known true is = again last known is
      by_version last known false is = held last known is

      by : (known : Option Region) → taken_region region.head.region (taken_of segments) ≡ known
          → AreReady profile (content ∷ segments) left new after
      by None is = first is
      by (Some last) is = by_version last is (is_new region.head (Some last.head)) refl

-- ---- the walk

-- how far the regions of a set are taken
pub record IsTaking (profile : Profile) (older set : List Content) (composition : Composition) (store : Regions)
    (bytes : List ℕ) : Type 0 where
  pub mid : List Content
  pub left : List Content
  pub are : AreContents left bytes
  pub apart : AreApart mid (filter is_region left)
  pub ready : AreReady profile (mid ++ older) (filter is_region left) composition store
  pub all : reverse (filter is_region left) ++ (mid ++ older) ≡ with_regions_of older set

-- regions behind one in its set have other ids
pub apart_behind : (id : ℕ) (before left : List Content) → defines id before ≡ true → AreApart before left
    → defines id left ≡ false
apart_behind id before [] among apart = refl
apart_behind id before (content ∷ left) among apart =
    by (region_named id content) refl
    (apart_behind id (content ∷ before) left
    (either_true (is_some (region_named id content)) (defines id before) among) apart.1)
  where
    either_true : (a b : Bool) → b ≡ true → (a || b) ≡ true
    either_true true b is = refl
    either_true false b is = is

    other : (found : Option Region) → region_of content ≡ found → (named : Region)
        → where_passes (λ (one : Region). one.head.region == id) found ≡ Some named → ⊥
    other None is named passes = cc
    other (Some region) is named passes = hit (region.head.region == id) refl passes
      where
        hit : (same : Bool) → (region.head.region == id) ≡ same → cond same (Some region) None ≡ Some named
            → ⊥
        hit true here passes =
            let none : defines region.head.region before ≡ false = apart.0 region is in
            let there : defines region.head.region before ≡ true =
            ap (λ n. defines n before) (eqb-true region.head.region id here) ∙ among in
            cc
        hit false here passes = cc

    by : (found : Option Region) → region_named id content ≡ found → defines id left ≡ false
        → (is_some found || defines id left) ≡ false
    by None is rest = rest
    by (Some region) is rest = absurd (other (region_of content) refl region is)

module _ (profile : Profile) (older set : List Content) where
  pub taking_starts : (composition : Composition) (store : Regions) (bytes : List ℕ) → AreContents set bytes
      → AreApart [] (filter is_region set) → AreReady profile older (filter is_region set) composition store
      → IsTaking profile older set composition store bytes
  taking_starts composition store bytes are apart ready =
      record { mid = []; left = set; are = are; apart = apart; ready = ready; all = refl }

  pub taking_goes_on : (old new : Composition) (before after : Regions) (bytes rest : List ℕ) (region : Region)
      → AreStored old before
      → ((other : List Content) → AreContents other bytes → IsNextOf is_region other (of_region region) rest)
      → IsRegionTaken region old before new after
      → IsTaking profile older set old before bytes → IsTaking profile older set new after rest
  taking_goes_on old new before after bytes rest region stored next step t =
      let n = next t.left t.are in
      let apart = subst (AreApart t.mid) n.split t.apart in
      let named : defines region.head.region (n.content ∷ t.mid) ≡ true =
      ap (λ (o : Option Region). is_some o || defines region.head.region t.mid)
      (named_same n.content region (ap region_in (sym n.same))) in
      let others = apart_behind region.head.region (n.content ∷ t.mid) (filter is_region n.more) named apart.1 in
      let ready = subst (λ (left : List Content). AreReady profile (t.mid ++ older) left old before) n.split t.ready in
      record {
        mid = n.content ∷ t.mid;
        left = n.more;
        are = n.are;
        apart = apart.1;
        ready =
            ready_goes_on profile (t.mid ++ older) (filter is_region n.more) n.content region n.same others old new
            before after stored ready step;
        all =
            sym (moved n.content (filter is_region n.more) (t.mid ++ older))
            ∙ ap (λ (left : List Content). reverse left ++ (t.mid ++ older)) (sym n.split) ∙ t.all;
      }

  pub taking_ends : (composition : Composition) (store : Regions) (bytes : List ℕ)
      → ((other : List Content) → AreContents other bytes → filter is_region other ≡ [])
      → IsTaking profile older set composition store bytes
      → AreReady profile (with_regions_of older set) [] composition store
  taking_ends composition store bytes none t =
      let ended = none t.left t.are in
      let all : t.mid ++ older ≡ with_regions_of older set =
      ap (λ (left : List Content). reverse left ++ (t.mid ++ older)) (sym ended) ∙ t.all in
      subst (λ (segments : List Content). AreReady profile segments [] composition store) all
      (subst (λ (left : List Content). AreReady profile (t.mid ++ older) left composition store) ended t.ready)
