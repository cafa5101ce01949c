-- The region of an id, where a region segment is taken.
use Rattle.std.proofs.Common.{◌≡◌, ◌≢◌, ◌∙◌, ℕ, ◌==◌, cond, List, [], ◌∷◌, ◌++◌, map, Option, Some, None, option_map, refl, sym, ap}
use Rattle.std.specs.Option.{option_or}
use Rattle.std.proofs.lemmas.Bool.{ne_eqb}
use Rattle.std.proofs.lemmas.List.{map-append}
use Rattle.std.proofs.lemmas.List.Folds.{find-append}
use Rattle.stream_syntax.specs.declared.region.Listing.{Listing}
use Rattle.stream_syntax.specs.declared.region.RegionHead.{RegionHead}
use Rattle.page_core.specs.Composition.{Composition, KeptRegion, region_in}
use Rattle.page_core.specs.Private.RegionSteps.{changed_at, fresh, headed, listing_more, with_head, with_listings, with_region}
use Rattle.decoder_model.proofs.Searches.{option_or-none}
use Rattle.page_core.proofs.Regions.RegionIds.{changed_here, changed_other, found_changed, found_has, id_of, ids_kept}
use Rattle.page_core.proofs.Regions.RegionsStored.{headed_found, one_found}

-- one region is changed or put in: it has that head, that slot and those listings, unpainted; all others stay
pub record IsLookedUp (head : RegionHead) (listings : List Listing) (slot : ℕ) (old new : Composition) : Type 0 where
  pub here : region_in new head.region ≡ Some (record { head = head; slot = slot; listings = map fresh listings })
  pub others : (id : ℕ) → id ≢ head.region → region_in new id ≡ region_in old id

-- a region of another id is found as before a change
other_found : (composition : Composition) (id n : ℕ) (change : KeptRegion → KeptRegion) → n ≢ id
    → option_map (changed_at id change) (region_in composition n) ≡ region_in composition n
other_found composition id n change other = by (region_in composition n) refl
  where
    by : (found : Option KeptRegion) → region_in composition n ≡ found
        → option_map (changed_at id change) found ≡ found
    by None is = refl
    by (Some kept) is =
        ap Some (changed_other id n change kept (found_has n composition.regions kept is) (ne_eqb n id other))

more_found : (composition : Composition) (id n : ℕ) (listings : List Listing)
    → region_in (with_listings id listings composition) n
    ≡ option_map (changed_at id (listing_more listings)) (region_in composition n)
more_found composition id n listings =
    found_changed id (listing_more listings) (λ kept same. same) n composition.regions

pub first_looked_up : (composition : Composition) (head : RegionHead) (slot : ℕ) (listings : List Listing)
    → region_in composition head.region ≡ None
    → IsLookedUp head listings slot composition
    (with_listings head.region listings (with_region head slot composition))
first_looked_up composition head slot listings none =
    let one : KeptRegion = record { head = head; slot = slot; listings = [] } in
    record {
      here =
          more_found (with_region head slot composition) head.region head.region listings
          ∙ ap (option_map (changed_at head.region (listing_more listings)))
          (one_found composition head slot none)
          ∙ ap Some (changed_here head.region (listing_more listings) one refl);
      others = λ id other.
          more_found (with_region head slot composition) head.region id listings
          ∙ other_found (with_region head slot composition) head.region id (listing_more listings) other
          ∙ find-append (λ (kept : KeptRegion). kept.head.region == id) composition.regions (one ∷ [])
          ∙ ap (λ b. option_or (region_in composition id) (cond b (Some one) None))
          (ne_eqb head.region id (λ e. other (sym e)))
          ∙ option_or-none (region_in composition id);
    }

pub again_looked_up : (composition : Composition) (head : RegionHead) (kept : KeptRegion) (listings : List Listing)
    → region_in composition head.region ≡ Some kept → kept.listings ≡ []
    → IsLookedUp head listings kept.slot composition (with_listings head.region listings (with_head head composition))
again_looked_up composition head kept listings found empty = record {
  here =
      more_found (with_head head composition) head.region head.region listings
      ∙ ap (option_map (changed_at head.region (listing_more listings)))
      (headed_found composition head kept found)
      ∙ ap Some (changed_here head.region (listing_more listings) (headed head kept) refl)
      ∙ (λ i. Some (record { head = head; slot = kept.slot; listings = empty i ++ map fresh listings }));
  others = λ id other.
      more_found (with_head head composition) head.region id listings
      ∙ other_found (with_head head composition) head.region id (listing_more listings) other
      ∙ found_changed head.region (headed head) (λ kept same. refl) id composition.regions
      ∙ other_found composition head.region id (headed head) other;
}

-- ---- the ids

pub first_ids : (composition : Composition) (head : RegionHead) (slot : ℕ) (listings : List Listing)
    → map (λ (kept : KeptRegion). kept.head.region)
    (with_listings head.region listings (with_region head slot composition)).regions
    ≡ map (λ (kept : KeptRegion). kept.head.region) composition.regions ++ head.region ∷ []
first_ids composition head slot listings =
    ids_kept head.region (listing_more listings) (λ kept same. same) (with_region head slot composition).regions
    ∙ map-append id_of composition.regions (record { head = head; slot = slot; listings = [] } ∷ [])

pub again_ids : (composition : Composition) (head : RegionHead) (listings : List Listing)
    → map (λ (kept : KeptRegion). kept.head.region)
    (with_listings head.region listings (with_head head composition)).regions
    ≡ map (λ (kept : KeptRegion). kept.head.region) composition.regions
again_ids composition head listings =
    ids_kept head.region (listing_more listings) (λ kept same. same) (with_head head composition).regions
    ∙ ids_kept head.region (headed head) (λ kept same. refl) composition.regions
