-- A region that keeps its sides, and what is written through the listings that name an object.
use Rattle.std.proofs.Common.{◌≡◌, ◌∙◌, refl, sym, ap, subst, ℕ, ◌<◌, Bool, true, false, eqb, cond, List, [], ◌∷◌, Option, None}
use Rattle.std.specs.Option.{option_or}
use Rattle.sub_base.specs.Lists.{last_given}
use Rattle.stream_syntax.specs.declared.region.Listing.{Listing}
use Rattle.stream_syntax.specs.declared.region.RegionHead.{RegionHead}
use Rattle.decoder_model.specs.Pixels.{listings_naming}
use Rattle.decoder_model.proofs.Searches.{option_or-none}
use Rattle.pixel_store.specs.Regions.{Regions, KeepsOthers}
use Rattle.page_core.specs.Private.Painted.{HasRegion}

-- a region keeps its sides and depth
pub same_region : (head : RegionHead) (slot : ℕ) (old new : Regions) → KeepsOthers slot old new
    → HasRegion head slot old → HasRegion head slot new
same_region head slot old new keeps region = record {
  placed = subst (λ (n : ℕ). slot < n) (sym keeps.count) region.placed;
  sides =
      record {
        width = keeps.width ∙ region.sides.width;
        height = keeps.height
            ∙ region.sides.height;
        depth = keeps.depth ∙ region.sides.depth;
      };
}

-- the listings that name an object write what all listings do, of which the others write nothing
pub named_listings : (code_by : Listing → Option ℕ) (id : ℕ) (listings : List Listing)
    → last_given code_by (listings_naming id listings)
    ≡ last_given (λ listing. cond (eqb listing.object id) (code_by listing) None) listings
named_listings code_by id [] = refl
named_listings code_by id (listing ∷ listings) =
    one (eqb listing.object id)
    ∙ ap (λ found. option_or found (cond (eqb listing.object id) (code_by listing) None))
    (named_listings code_by id listings)
  where
    one : (named : Bool)
        → last_given code_by (cond named (listing ∷ listings_naming id listings) (listings_naming id listings))
        ≡ option_or (last_given code_by (listings_naming id listings)) (cond named (code_by listing) None)
    one true = refl
    one false = sym (option_or-none (last_given code_by (listings_naming id listings)))
