-- A page memory with one more object segment.
use Rattle.std.proofs.Common.{◌≡◌, ◌∙◌, refl, sym, ap, subst, ℕ, zero, suc, ◌+◌, ◌<◌, List, [], ◌∷◌, length, map, All, Contains, Option, Some, None, option_map, arith}
use Rattle.std.specs.Prelude.{option_and_then, sum_by}
use Rattle.std.specs.List.{list_any, range_with_len}
use Rattle.std.proofs.lemmas.List.{length-map}
use Rattle.std.proofs.lemmas.List.Elements.{All-map, All-contains_itself}
use Rattle.std.proofs.lemmas.List.Sums.{sum_by-cons}
use Rattle.stream_syntax.specs.PixelBlocks.{Part}
use Rattle.stream_syntax.specs.Segments.{SegmentValue, Object, of_object}
use Rattle.stream_syntax.specs.declared.segment_fault.SegmentFault.{SegmentFault}
use Rattle.decoder_model.specs.Contents.{object_in}
use Rattle.decoder_model.specs.Faults.{object_too_deep, fault_in_regions}
use Rattle.decoder_model.specs.Ink.{ink_of}
use Rattle.decoder_model.specs.Nodes.{is_same_entry, region_ids, clut_ids, table_entries}
use Rattle.decoder_model.specs.Pixels.{pixel_of}
use Rattle.decoder_model.specs.Readings.{Content}
use Rattle.decoder_model.specs.Taken.{taken_among, taken_of}
use Rattle.decoder_model.specs.declared.set_fault.SetFault.{SetFault}
use Rattle.decoder_model.specs.declared.set_fault.SetFault.TheVariants.{Segment}
use Rattle.pixel_store.specs.Regions.{region_at, code_of}
use Rattle.page_core.proofs.Regions.RegionIds.{apart_by_ids}
use Rattle.page_core.specs.Composition.{AreIdsApart, Composition, KeptRegion, KeptClut, region_in, clut_in, taken_nodes}
use Rattle.page_core.specs.Private.Everywhere.{AreKeptWritten, KeepsRoom, painted_kept, with_all_painted}
use Rattle.page_core.specs.Private.Listings.{IsPainter, painted_listing}
use Rattle.page_core.specs.Memory.{Memory, AreInks, IsWholeMemory, HasSidesOf, HoldsSegments, ink_in}
use Rattle.page_core.specs.Private.ObjectFaults.{fault_in_kept, least_of}
use Rattle.page_core.specs.Private.Painted.{HasRegion}
use Rattle.page_core.specs.declared.composition.listings.Painter.{Painter}
use Rattle.page_core.proofs.Objects.EverywhereCodes.{region_behind, heads_behind, listings_behind, pixels_behind}
use Rattle.page_core.proofs.Objects.ObjectFaultLaws.{object_fault_is}

-- ---- what holds of every memory

abbrev slot_of : KeptRegion → ℕ
slot_of kept = kept.slot

-- slots in order are below their end
slots_below : (from n : ℕ) (regions : List KeptRegion)
    → map (λ (kept : KeptRegion). kept.slot) regions ≡ range_with_len from n → (kept : KeptRegion)
    → Contains regions kept → kept.slot < from + n
slots_below from n [] is kept there = absurd (omega (arith, there.1))
slots_below from zero (first ∷ regions) is kept there = absurd (cc)
slots_below from (suc n) (first ∷ regions) is kept (zero, short, same) =
    let here : first.slot ≡ from = cc in
    let slot : first.slot ≡ kept.slot = ap slot_of same in
    omega (arith, here, slot)
slots_below from (suc n) (first ∷ regions) is kept (suc k, short, same) =
    let rest : map (λ (kept : KeptRegion). kept.slot) regions ≡ range_with_len (from + 1) n = cc in
    omega (arith, slots_below (from + 1) n regions rest kept (k, omega (arith, short), same))

-- all regions are where their slots say
pub regions_there : (memory : Memory) → IsWholeMemory memory
    → All (λ (kept : KeptRegion). HasRegion kept.head kept.slot memory.store) memory.composition.regions
regions_there memory whole = λ k d within. record {
  placed =
      omega (
        arith,
        slots_below 0 (length memory.store.regions) memory.composition.regions whole.slots _
            (All-contains_itself memory.composition.regions k d within),
      );
  sides = whole.sides k d within;
}

listings_kept : (painter : Painter) (regions : List KeptRegion)
    → sum_by (λ (kept : KeptRegion). length kept.listings) (map (painted_kept painter) regions)
    ≡ sum_by (λ (kept : KeptRegion). length kept.listings) regions
listings_kept painter [] = refl
listings_kept painter (kept ∷ regions) =
    sum_by-cons (λ (kept : KeptRegion). length kept.listings) (painted_kept painter kept)
    (map (painted_kept painter) regions)
    ∙ (λ i. length-map kept.listings (painted_listing painter) i + listings_kept painter regions i)
    ∙ sym (sum_by-cons (λ (kept : KeptRegion). length kept.listings) kept regions)

slots_kept : (painter : Painter) (regions : List KeptRegion)
    → map (λ (kept : KeptRegion). kept.slot) (map (painted_kept painter) regions)
    ≡ map (λ (kept : KeptRegion). kept.slot) regions
slots_kept painter [] = refl
slots_kept painter (kept ∷ regions) = ap (λ (rest : List ℕ). kept.slot ∷ rest) (slots_kept painter regions)

pub ids_kept : (painter : Painter) (regions : List KeptRegion)
    → map (λ (kept : KeptRegion). kept.head.region) (map (painted_kept painter) regions)
    ≡ map (λ (kept : KeptRegion). kept.head.region) regions
ids_kept painter [] = refl
ids_kept painter (kept ∷ regions) = ap (λ (rest : List ℕ). kept.head.region ∷ rest) (ids_kept painter regions)

nodes_kept : (painter : Painter) (composition : Composition)
    → taken_nodes (with_all_painted painter composition) ≡ taken_nodes composition
nodes_kept painter composition =
    λ i. length composition.entries + length-map composition.regions (painted_kept painter) i
    + listings_kept painter composition.regions i + length composition.cluts + length composition.set_entries

-- a composition and a store behind an object
pub record IsPaintedBy (painter : Painter) (old new : Memory) : Type 0 where
  pub profile : new.profile ≡ old.profile
  pub display : new.display ≡ old.display
  pub composition : new.composition ≡ with_all_painted painter old.composition
  pub inks : new.inks ≡ old.inks
  pub room : KeepsRoom old.store new.store
  pub regions : All (λ (kept : KeptRegion). HasRegion kept.head kept.slot new.store) old.composition.regions

module _ (painter : Painter) (old new : Memory) (is : IsPaintedBy painter old new) where
  pub still_whole : IsWholeMemory old → IsWholeMemory new
  still_whole whole = record {
    nodes = ap (λ (c : Composition). c.size) is.composition ∙ whole.nodes ∙ ap (λ p. p.nodes) (sym is.profile);
    counted =
        ap (λ (c : Composition). c.free + taken_nodes c) is.composition
        ∙ ap (λ n. old.composition.free + n) (nodes_kept painter old.composition)
        ∙ whole.counted ∙ ap (λ (c : Composition). c.size) (sym is.composition);
    size = is.room.size ∙ whole.size ∙ ap (λ p. p.pixels) (sym is.profile);
    slots =
        ap (λ (c : Composition). map (λ (kept : KeptRegion). kept.slot) c.regions) is.composition
        ∙ slots_kept painter old.composition.regions ∙ whole.slots
        ∙ ap (range_with_len 0) (sym is.room.count);
    sides =
        subst (λ (c : Composition). All (λ (kept : KeptRegion). HasSidesOf kept.head (region_at new.store kept.slot))
        c.regions) (sym is.composition)
        (All-map (λ (kept : KeptRegion). HasSidesOf kept.head (region_at new.store kept.slot)) (painted_kept painter)
        old.composition.regions (λ k d within. HasRegion.sides (is.regions k d within)));
    cluts =
        subst (λ (c : Composition). All (λ (kept : KeptRegion). kept.head.clut < 256) c.regions) (sym is.composition)
        (All-map (λ (kept : KeptRegion). kept.head.clut < 256) (painted_kept painter) old.composition.regions
        (λ k d within. whole.cluts k d within));
    inks =
        subst (λ (c : Composition). AreInks c.set_entries new.inks) (sym is.composition)
        (subst (AreInks old.composition.set_entries) (sym is.inks) whole.inks);
    ids =
        subst (λ (c : Composition). All (λ (kept : KeptRegion). kept.head.region < 256) c.regions)
        (sym is.composition)
        (All-map (λ (kept : KeptRegion). kept.head.region < 256) (painted_kept painter) old.composition.regions
        (λ k d within. whole.ids k d within));
    apart =
        subst (λ (c : Composition). AreIdsApart c.regions) (sym is.composition)
        (apart_by_ids old.composition.regions (map (painted_kept painter) old.composition.regions)
        (sym (ids_kept painter old.composition.regions)) whole.apart);
  }

  -- what a memory holds behind an object
  pub object_step : (object : Object) (top bottom : List Part) (earlier : List Content) → IsWholeMemory old
      → IsPainter painter object
      → AreKeptWritten painter (record { value = of_object object; top = top; bottom = bottom })
      old.composition.regions old.store new.store
      → HoldsSegments earlier old
      → HoldsSegments (record { value = of_object object; top = top; bottom = bottom } ∷ earlier) new
  unfolding taken_among region_ids clut_ids table_entries ink_of
  object_step object top bottom earlier whole by_painter written holds = record {
    display = is.display ∙ holds.display;
    region_ids =
        ap (λ (c : Composition). map (λ (kept : KeptRegion). kept.head.region) c.regions) is.composition
        ∙ ids_kept painter old.composition.regions ∙ holds.region_ids;
    heads =
        λ id. ap (λ (c : Composition). option_map (λ (kept : KeptRegion). kept.head) (region_in c id))
        is.composition ∙ heads_behind painter old.composition id ∙ holds.heads id;
    listings = λ id.
        ap (λ (c : Composition). option_map (λ (kept : KeptRegion). kept.listings) (region_in c id)) is.composition
        ∙ listings_behind earlier old holds (record { value = of_object object; top = top; bottom = bottom }) object
        painter by_painter refl id;
    pixels = λ id x y kept found narrow low.
        pixel id x y kept (region_in old.composition id) refl
        (sym (region_behind painter id old.composition.regions)
        ∙ ap (λ (c : Composition). region_in c id) (sym is.composition) ∙ found) narrow low;
    clut_ids =
        ap (λ (c : Composition). map (λ (kept : KeptClut). kept.clut) c.cluts) is.composition ∙ holds.clut_ids;
    versions =
        λ id. ap (λ (c : Composition). option_map (λ (kept : KeptClut). kept.version) (clut_in c id))
        is.composition ∙ holds.versions id;
    inks =
        λ id depth number byte low. ap (λ inks. ink_in inks id depth number) is.inks
        ∙ holds.inks id depth number byte low;
    set_entries =
        λ entry. ap (λ (c : Composition). list_any (is_same_entry entry) c.set_entries) is.composition
        ∙ holds.set_entries entry;
    set_count = ap (λ (c : Composition). length c.set_entries) is.composition ∙ holds.set_count;
  }
    where
      pixel : (id x y : ℕ) (kept : KeptRegion) (before : Option KeptRegion)
          → region_in old.composition id ≡ before → option_map (painted_kept painter) before ≡ Some kept
          → x < kept.head.width → y < kept.head.height
          → code_of (region_at new.store kept.slot) x y
          ≡ pixel_of (taken_of (record { value = of_object object; top = top; bottom = bottom } ∷ earlier)) id x
          y
      pixel id x y kept None here same narrow low = absurd (cc)
      pixel id x y kept (Some one) here same narrow low =
          let is_kept : painted_kept painter one ≡ kept = cc in
          ap (λ (k : KeptRegion). code_of (region_at new.store k.slot) x y) (sym is_kept)
          ∙ pixels_behind earlier old whole holds (record { value = of_object object; top = top; bottom = bottom })
          object painter by_painter refl new.store written id x y one here
          (subst (λ (k : KeptRegion). x < k.head.width) (sym is_kept) narrow)
          (subst (λ (k : KeptRegion). y < k.head.height) (sym is_kept) low)

content_is : (content : Content) (object : Object) → of_object object ≡ content.value
    → content ≡ record { value = of_object object; top = content.top; bottom = content.bottom }
content_is content object is = λ i. record { value = sym is i; top = content.top; bottom = content.bottom }

pub painted_holds : (painter : Painter) (old new : Memory) (object : Object) (content : Content) (older : List Content)
    → IsPaintedBy painter old new → IsWholeMemory old → IsPainter painter object → of_object object ≡ content.value
    → AreKeptWritten painter content old.composition.regions old.store new.store → HoldsSegments older old
    → HoldsSegments (content ∷ older) new
painted_holds painter old new object content older painted whole by_painter is written holds =
    let same = content_is content object is in
    subst (λ (c : Content). HoldsSegments (c ∷ older) new) (sym same)
    (object_step painter old new painted object content.top content.bottom older whole by_painter
    (subst (λ (c : Content). AreKeptWritten painter c old.composition.regions old.store new.store) same written) holds)

-- ---- the fault of an object

none_mapped : {X Y : Type 0} (f : X → Y) (o : Option X) → option_map f o ≡ None → o ≡ None
none_mapped f None is = refl
none_mapped f (Some x) is = absurd (cc)

module _ (older : List Content) (memory : Memory) (holds : HoldsSegments older memory) (painter : Painter)
    (object : Object)
    (content : Content) (by_painter : IsPainter painter object) (is : of_object object ≡ content.value)
    (bytes : All (λ (kept : KeptRegion). kept.head.region < 256) memory.composition.regions) where
  -- the fault in the regions that are kept is that of the definitions
  pub fault_is : (answer : Option SegmentFault)
      → option_map Segment answer
      ≡ option_map (λ (found : ℕ × SetFault). found.1)
      (least_of (fault_in_kept painter content object) memory.composition.regions)
      → option_map Segment answer ≡ object_too_deep older content
  fault_is answer found =
      found ∙ object_fault_is older memory holds content object painter by_painter bytes
      ∙ ap (λ (v : SegmentValue). option_and_then (fault_in_regions (taken_of older) content) (object_in v)) is

  pub no_fault_is : None
      ≡ option_map (λ (found : ℕ × SetFault). found.1)
      (least_of (fault_in_kept painter content object) memory.composition.regions)
      → least_of (fault_in_kept painter content object) memory.composition.regions ≡ None
  no_fault_is none =
      none_mapped (λ (found : ℕ × SetFault). found.1)
      (least_of (fault_in_kept painter content object) memory.composition.regions) (sym none)
