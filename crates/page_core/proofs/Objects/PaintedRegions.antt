-- The listings of a list behind an object that paints them.
use Rattle.std.proofs.Common.{◌≡◌, ◌∙◌, refl, ap, ℕ, Bool, true, false, cond, List, [], ◌∷◌, map, Option, Some, None, option_map}
use Rattle.std.specs.List.{cons_option}
use Rattle.std.specs.Option.{is_some, option_or}
use Rattle.std.proofs.lemmas.List.Elements.{All-map}
use Rattle.sub_base.specs.Lists.{last_given}
use Rattle.comp_pool.specs.declared.node.NodeId.{NodeId}
use Rattle.decoder_model.proofs.Searches.{option_or-none}
use Rattle.page_core.specs.Composition.{KeptListing}
use Rattle.page_core.specs.Private.Listings.{code_by_kept, painted_listing, code_by_node, code_by_pair, due_node, painted_node}
use Rattle.page_core.specs.Private.Lists.{with_changed}
use Rattle.page_core.specs.Private.Nodes.{kept_in, AreKind, listing_in, listing_kept}
use Rattle.page_core.specs.Private.Painted.{FieldRuns}
use Rattle.page_core.specs.declared.composition.listings.Painter.{Painter}
use Rattle.page_core.specs.declared.node.Node.{Node}
use Rattle.page_core.specs.declared.node.Node.TheVariants as node

-- ---- the listings of a list

-- what a node has as a listing
pub listing_of_node : (object : Painter) (item : Node)
    → listing_in (painted_node object item) ≡ option_map (painted_listing object) (listing_in item)
listing_of_node object (node.Entry entry) = refl
listing_of_node object (node.Region region) = refl
listing_of_node object (node.Listing kept) = by (due_node object kept)
  where
    by : (due : Bool)
        → Some (listing_kept (cond due (record { listing = kept.listing; painted = Some object.version }) kept))
        ≡ Some (cond due (record { listing = kept.listing; painted = Some object.version }) (listing_kept kept))
    by true = refl
    by false = refl
listing_of_node object (node.Clut clut) = refl
listing_of_node object (node.Colour place) = refl

pub listings_of_list : (object : Painter) (ps : List (NodeId × Node))
    → kept_in listing_in (map (with_changed (painted_node object)) ps)
    ≡ map (painted_listing object) (kept_in listing_in ps)
listings_of_list object [] = refl
listings_of_list object (p ∷ ps) =
    ap (λ (o : Option KeptListing). cons_option o (kept_in listing_in (map (with_changed (painted_node object)) ps)))
    (listing_of_node object p.1)
    ∙ ap (cons_option (option_map (painted_listing object) (listing_in p.1))) (listings_of_list object ps)
    ∙ by (listing_in p.1)
  where
    by : (o : Option KeptListing)
        → cons_option (option_map (painted_listing object) o) (map (painted_listing object) (kept_in listing_in ps))
        ≡ map (painted_listing object) (cons_option o (kept_in listing_in ps))
    by None = refl
    by (Some kept) = refl

-- each list has items of its kind
pub kinds_of : (object : Painter) (ps : List (NodeId × Node)) → AreKind listing_in ps
    → AreKind listing_in (map (with_changed (painted_node object)) ps)
kinds_of object ps kinds =
    All-map (λ (pair : NodeId × Node). is_some (listing_in pair.1) ≡ true) (with_changed (painted_node object)) ps
    (λ k d within. ap is_some (listing_of_node object _) ∙ still (listing_in _) (kinds k d within))
  where
    still : (o : Option KeptListing) → is_some o ≡ true → is_some (option_map (painted_listing object) o) ≡ true
    still None e = e
    still (Some kept) e = e

-- what is written through the nodes of a list is written through its listings
pub written_through : (object : Painter) (fields : FieldRuns) (x y : ℕ) (ps : List (NodeId × Node))
    → last_given (code_by_pair object fields x y) ps
    ≡ last_given (code_by_kept object fields x y) (kept_in listing_in ps)
written_through object fields x y [] = refl
written_through object fields x y (p ∷ ps) =
    ap (λ found. option_or found (code_by_pair object fields x y p)) (written_through object fields x y ps)
    ∙ by (listing_in p.1)
  where
    by : (o : Option KeptListing)
        → option_or (last_given (code_by_kept object fields x y) (kept_in listing_in ps))
        (code_by_node object fields x y o)
        ≡ last_given (code_by_kept object fields x y) (cons_option o (kept_in listing_in ps))
    by None = option_or-none (last_given (code_by_kept object fields x y) (kept_in listing_in ps))
    by (Some kept) = refl
