-- The regions of a composition with their slots of a store, through each change.
use Rattle.std.proofs.Common.{◌≡◌, ◌∙◌, ℕ, zero, suc, ◌+◌, ◌-◌, ◌==◌, ◌<◌, ◌≤◌, ◌&&◌, Bool, true, false, cond, List, [], ◌∷◌, ◌++◌, find, get_or, length, map, All, Option, Some, None, option_map, refl, sym, ap, subst, inl, inr, arith}
use Rattle.std.specs.List.{range_with_len}
use Rattle.std.specs.Option.{option_or}
use Rattle.std.proofs.lemmas.Bool.{cases_eq, eq-eqb, eqb-true}
use Rattle.std.proofs.lemmas.List.{length-append, length-map, map-append}
use Rattle.std.proofs.lemmas.List.Elements.{All-nil, All-cons, All-append}
use Rattle.std.proofs.lemmas.List.Folds.{find-append}
use Rattle.std.proofs.lemmas.List.FromFn.{length-range_with_len}
use Rattle.std.proofs.lemmas.List.Sums.{sum_by-append, sum_by-cons}
use Rattle.sub_base.specs.Depth.{bits_of}
use Rattle.sub_base.specs.declared.depth.Depth.{Depth}
use Rattle.sub_base.specs.declared.depth.Depth.TheVariants.{Two, Four, Eight}
use Rattle.stream_syntax.specs.declared.region.Listing.{Listing}
use Rattle.stream_syntax.specs.declared.region.RegionHead.{RegionHead}
use Rattle.decoder_model.specs.Faults.{has_same_shape}
use Rattle.pixel_store.specs.Regions.{KeepsOthers, PlacesOne, Regions, region_at}
use Rattle.pixel_store.specs.Regions.{StoredRegion}
use Rattle.page_core.specs.Composition.{Composition, KeptRegion, region_in}
use Rattle.page_core.specs.Memory.{HasSidesOf}
use Rattle.page_core.specs.Private.Painted.{HasRegion}
use Rattle.page_core.specs.Private.RegionSteps.{AreStored, IsValidHead, changed_at, fresh, headed, listing_more, with_head, with_listings, with_region, with_regions}
use Rattle.page_core.proofs.Pictures.DrawnEntries.{placed_in_order}
use Rattle.page_core.proofs.Pictures.Finds.{found_all}
use Rattle.page_core.proofs.Regions.RegionIds.{all_with, apart_mapped, apart_with, changed_here, fewer, found_changed, found_has, id_of, id_kept, none_has, sum_with}

-- ---- one region changed

slots_kept : (id : ℕ) (change : KeptRegion → KeptRegion)
    → ((kept : KeptRegion) → (change kept).slot ≡ kept.slot) → (regions : List KeptRegion)
    → map (λ (kept : KeptRegion). kept.slot) (map (changed_at id change) regions)
    ≡ map (λ (kept : KeptRegion). kept.slot) regions
slots_kept id change same [] = refl
slots_kept id change same (kept ∷ regions) =
    λ i. by (kept.head.region == id) i ∷ slots_kept id change same regions i
  where
    by : (hit : Bool) → (cond hit (change kept) kept).slot ≡ kept.slot
    by true = same kept
    by false = refl

module _ (composition : Composition) (store : Regions) (stored : AreStored composition store) (id : ℕ)
    (kept : KeptRegion) (found : region_in composition id ≡ Some kept) where
  pub stored_with : (change : KeptRegion → KeptRegion)
      → ((other : KeptRegion) → other.head.region ≡ id → (change other).head.region ≡ id)
      → ((other : KeptRegion) → (change other).slot ≡ other.slot)
      → HasSidesOf (change kept).head (region_at store (change kept).slot) → (change kept).head.clut < 256
      → (change kept).head.region < 256
      → (free : ℕ) → free + length (change kept).listings ≡ composition.free + length kept.listings
      → AreStored (with_regions (map (changed_at id change) composition.regions) free composition) store
  stored_with change same_id same_slot sides clut low free nodes = record {
    counted = omega (
      arith,
      stored.counted,
      nodes,
      sum_with id change kept composition.regions found stored.apart,
      length-map composition.regions (changed_at id change),
    );
    slots = slots_kept id change same_slot composition.regions ∙ stored.slots;
    sides =
        all_with id change kept (λ (kept : KeptRegion). HasSidesOf kept.head (region_at store kept.slot))
        composition.regions found stored.apart sides stored.sides;
    cluts =
        all_with id change kept (λ (kept : KeptRegion). kept.head.clut < 256) composition.regions found stored.apart
        clut stored.cluts;
    ids =
        all_with id change kept (λ (kept : KeptRegion). kept.head.region < 256) composition.regions found stored.apart
        low stored.ids;
    apart = apart_mapped (changed_at id change) (id_kept id change same_id) composition.regions stored.apart;
  }

-- ---- what is written to one region

sides_kept : (slot : ℕ) (old new : Regions) → KeepsOthers slot old new → (kept : KeptRegion)
    → HasSidesOf kept.head (region_at old kept.slot) → HasSidesOf kept.head (region_at new kept.slot)
sides_kept slot old new keeps kept sides = elim (cases_eq kept.slot slot) [
  | inl same ↦
      let here : HasSidesOf kept.head (region_at old slot) =
      subst (λ n. HasSidesOf kept.head (region_at old n)) same sides in
      subst (λ n. HasSidesOf kept.head (region_at new n)) (sym same)
      (record {
        width = keeps.width ∙ here.width;
        height = keeps.height ∙ here.height;
        depth = keeps.depth
            ∙ here.depth;
      })
  | inr other ↦ subst (λ r. HasSidesOf kept.head r) (sym (keeps.others kept.slot other)) sides
]

pub stored_written : (composition : Composition) (slot : ℕ) (old new : Regions) → KeepsOthers slot old new
    → AreStored composition old → AreStored composition new
stored_written composition slot old new keeps stored = record {
  counted = stored.counted;
  slots = stored.slots ∙ ap (range_with_len 0) (sym keeps.count);
  sides = λ k d within. sides_kept slot old new keeps (get_or composition.regions k d) (stored.sides k d within);
  cluts = stored.cluts;
  ids = stored.ids;
  apart = stored.apart;
}

-- ---- one more region

count_stored : (composition : Composition) (store : Regions) → AreStored composition store
    → length composition.regions ≡ length store.regions
count_stored composition store stored =
    sym (length-map composition.regions (λ (kept : KeptRegion). kept.slot)) ∙ ap length stored.slots
    ∙ length-range_with_len 0 (length store.regions)

pub room_for_one : (composition : Composition) (store : Regions) (id : ℕ) (one : KeptRegion)
    → AreStored composition store → region_in composition id ≡ None → one.head.region ≡ id → id < 256
    → length store.regions < 256
room_for_one composition store id one stored none is low =
    omega (
      arith,
      fewer id one composition.regions is low none stored.ids stored.apart,
      length-map composition.regions
          id_of,
      count_stored composition store stored,
    )

one_further : (from n : ℕ) → range_with_len from n ++ (from + n) ∷ [] ≡ range_with_len from (suc n)
one_further from zero = λ i. (let same : from + 0 ≡ from = omega arith in same i) ∷ []
one_further from (suc n) =
    λ i. from
    ∷ ((λ j. range_with_len (from + 1) n
    ++ (let same : from + suc n ≡ from + 1 + n = omega arith in same j) ∷ []) ∙ one_further (from + 1) n) i

module _ (composition : Composition) (old new : Regions) (head : RegionHead) (slot : ℕ)
    (stored : AreStored composition old) (placed : PlacesOne head.width head.height head.depth slot old new) where
  pub one_placed : HasRegion head slot new
  one_placed = record {
    placed = omega (arith, placed.index, placed.count);
    sides =
        record {
          width = ap (λ r. r.width) placed.placed;
          height = ap (λ r. r.height) placed.placed;
          depth = ap
              (λ r. r.depth) placed.placed;
        };
  }

  pub stored_with_region : region_in composition head.region ≡ None → 0 < composition.free → head.clut < 256
      → head.region < 256 → AreStored (with_region head slot composition) new
  stored_with_region none room clut low =
      let one : KeptRegion = record { head = head; slot = slot; listings = [] } in
      let in_order = placed_in_order composition.regions old stored.slots stored.sides in
      let before : All (λ (kept : KeptRegion). HasSidesOf kept.head (region_at new kept.slot)) composition.regions =
      λ k d within. subst (λ r. HasSidesOf (get_or composition.regions k d).head r)
      (sym (placed.kept (get_or composition.regions k d).slot (in_order k d within).placed))
      (stored.sides k d within) in
      record {
        counted = omega (
          arith,
          stored.counted,
          room,
          length-append composition.regions (one ∷ []),
          sum_by-append (λ (kept : KeptRegion). length kept.listings) composition.regions (one ∷ []),
          sum_by-cons (λ (kept : KeptRegion). length kept.listings) one [],
        );
        slots =
            map-append (λ (kept : KeptRegion). kept.slot) composition.regions (one ∷ [])
            ∙ (λ i. stored.slots i
            ++ (placed.index ∙ (let same : length old.regions ≡ 0 + length old.regions = omega arith in same))
            i ∷ [])
            ∙ one_further 0 (length old.regions)
            ∙ ap (range_with_len 0)
            (let same : suc (length old.regions) ≡ length new.regions = omega (arith, placed.count) in same);
        sides =
            All-append (λ (kept : KeptRegion). HasSidesOf kept.head (region_at new kept.slot)) composition.regions
            (one ∷ []) before
            (All-cons (λ (kept : KeptRegion). HasSidesOf kept.head (region_at new kept.slot)) one [] one_placed.sides
            (All-nil (λ (kept : KeptRegion). HasSidesOf kept.head (region_at new kept.slot))));
        cluts = All-append (λ (kept : KeptRegion). kept.head.clut < 256) composition.regions (one ∷ []) stored.cluts
            (All-cons (λ (kept : KeptRegion). kept.head.clut < 256) one [] clut
            (All-nil (λ (kept : KeptRegion). kept.head.clut < 256)));
        ids = All-append (λ (kept : KeptRegion). kept.head.region < 256) composition.regions (one ∷ []) stored.ids
            (All-cons (λ (kept : KeptRegion). kept.head.region < 256) one [] low
            (All-nil (λ (kept : KeptRegion). kept.head.region < 256)));
        apart = apart_with composition.regions one stored.apart (none_has head.region composition.regions none);
      }

-- it is the region of its id
pub one_found : (composition : Composition) (head : RegionHead) (slot : ℕ)
    → region_in composition head.region ≡ None
    → region_in (with_region head slot composition) head.region
    ≡ Some (record { head = head; slot = slot; listings = [] })
one_found composition head slot none =
    find-append (λ (kept : KeptRegion). kept.head.region == head.region) composition.regions
    (record { head = head; slot = slot; listings = [] } ∷ [])
    ∙ ap (λ (o : Option KeptRegion). option_or o
    (find (λ (kept : KeptRegion). kept.head.region == head.region)
    (record { head = head; slot = slot; listings = [] } ∷ []))) none
    ∙ ap (λ b. cond b (Some (record { head = head; slot = slot; listings = [] })) None)
    (eq-eqb head.region head.region refl)

-- ---- more listings, and another head

pub stored_with_listings : (composition : Composition) (store : Regions) (id : ℕ) (kept : KeptRegion)
    (listings : List Listing) → AreStored composition store → region_in composition id ≡ Some kept
    → length listings ≤ composition.free → AreStored (with_listings id listings composition) store
stored_with_listings composition store id kept listings stored found room =
    stored_with composition store stored id kept found (listing_more listings) (λ other same. same) (λ other. refl)
    (found_all (λ (kept : KeptRegion). HasSidesOf kept.head (region_at store kept.slot))
    (λ (kept : KeptRegion). kept.head.region == id) composition.regions kept stored.sides found)
    (found_all (λ (kept : KeptRegion). kept.head.clut < 256) (λ (kept : KeptRegion). kept.head.region == id)
    composition.regions kept stored.cluts found)
    (found_all (λ (kept : KeptRegion). kept.head.region < 256) (λ (kept : KeptRegion). kept.head.region == id)
    composition.regions kept stored.ids found)
    (composition.free - length listings)
    (omega (arith, room, length-append kept.listings (map fresh listings), length-map listings fresh))

both : (x y : Bool) → (x && y) ≡ true → (x ≡ true) × (y ≡ true)
both true y is = (refl, is)
both false y is = absurd (cc)

same_depth : (a b : Depth) → bits_of a ≡ bits_of b → a ≡ b
same_depth Two Two is = refl
same_depth Two Four is = absurd (omega (arith, is))
same_depth Two Eight is = absurd (omega (arith, is))
same_depth Four Two is = absurd (omega (arith, is))
same_depth Four Four is = refl
same_depth Four Eight is = absurd (omega (arith, is))
same_depth Eight Two is = absurd (omega (arith, is))
same_depth Eight Four is = absurd (omega (arith, is))
same_depth Eight Eight is = refl

-- a head of the same size and depth has the sides that another one has
pub same_sides : (head last : RegionHead) (region : StoredRegion) → has_same_shape head last ≡ true
    → HasSidesOf last region → HasSidesOf head region
same_sides head last region is sides =
    let first =
    both (head.width == last.width) ((head.height == last.height) && (bits_of head.depth == bits_of last.depth)) is
    in
    let second = both (head.height == last.height) (bits_of head.depth == bits_of last.depth) first.1 in
    record {
      width = sides.width ∙ sym (eqb-true head.width last.width first.0);
      height = sides.height ∙ sym (eqb-true head.height last.height second.0);
      depth =
          sides.depth
          ∙ sym (same_depth head.depth last.depth (eqb-true (bits_of head.depth) (bits_of last.depth) second.1));
    }

pub region_again : (composition : Composition) (store : Regions) (head : RegionHead) (kept : KeptRegion)
    → AreStored composition store → region_in composition head.region ≡ Some kept
    → has_same_shape head kept.head ≡ true
    → HasRegion head kept.slot store
region_again composition store head kept stored found same =
    let region =
    found_all (λ (kept : KeptRegion). HasRegion kept.head kept.slot store)
    (λ (kept : KeptRegion). kept.head.region == head.region) composition.regions kept
    (placed_in_order composition.regions store stored.slots stored.sides) found in
    record { placed = region.placed; sides = same_sides head kept.head (region_at store kept.slot) same region.sides }

pub stored_with_head : (composition : Composition) (store : Regions) (head : RegionHead) (kept : KeptRegion)
    → AreStored composition store → region_in composition head.region ≡ Some kept
    → has_same_shape head kept.head ≡ true
    → head.clut < 256 → head.region < 256 → AreStored (with_head head composition) store
stored_with_head composition store head kept stored found same clut low =
    stored_with composition store stored head.region kept found (headed head) (λ other is. refl) (λ other. refl)
    (region_again composition store head kept stored found same).sides clut low composition.free (omega arith)

-- the region of the id is there still, with that head
pub headed_found : (composition : Composition) (head : RegionHead) (kept : KeptRegion)
    → region_in composition head.region ≡ Some kept
    → region_in (with_head head composition) head.region ≡ Some (headed head kept)
headed_found composition head kept found =
    found_changed head.region (headed head) (λ other is. refl) head.region composition.regions
    ∙ ap (option_map (changed_at head.region (headed head))) found
    ∙ ap Some (changed_here head.region (headed head) kept (found_has head.region composition.regions kept found))

-- ---- a segment that is taken

pub stored_first : (composition new : Composition) (before between after : Regions) (head : RegionHead) (slot : ℕ)
    (listings : List Listing) → new ≡ with_listings head.region listings (with_region head slot composition)
    → PlacesOne head.width head.height head.depth slot before between → KeepsOthers slot between after
    → AreStored composition before → region_in composition head.region ≡ None
    → 1 + length listings ≤ composition.free
    → IsValidHead head → AreStored new after
stored_first composition new before between after head slot listings is placed keeps stored none room right =
    let one : KeptRegion = record { head = head; slot = slot; listings = [] } in
    let put =
    stored_with_region composition before between head slot stored placed none (omega (arith, room)) right.fits.clut
    right.region in
    subst (λ (c : Composition). AreStored c after) (sym is)
    (stored_written (with_listings head.region listings (with_region head slot composition)) slot between after keeps
    (stored_with_listings (with_region head slot composition) between head.region one listings put
    (one_found composition head slot none) (omega (arith, room))))

pub stored_again : (composition new : Composition) (before after : Regions) (head : RegionHead) (kept : KeptRegion)
    (listings : List Listing) → new ≡ with_listings head.region listings (with_head head composition)
    → KeepsOthers kept.slot before after → AreStored composition before
    → region_in composition head.region ≡ Some kept → has_same_shape head kept.head ≡ true
    → length listings ≤ composition.free → IsValidHead head → AreStored new after
stored_again composition new before after head kept listings is keeps stored found same room right =
    subst (λ (c : Composition). AreStored c after) (sym is)
    (stored_written (with_listings head.region listings (with_head head composition)) kept.slot before after keeps
    (stored_with_listings (with_head head composition) before head.region (headed head kept) listings
    (stored_with_head composition before head kept stored found same right.fits.clut right.region)
    (headed_found composition head kept found) room))
