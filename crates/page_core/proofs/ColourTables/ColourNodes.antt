-- Lists of nodes of one kind.
use Rattle.std.proofs.Common.{◌≡◌, ◌∙◌, sym, ap, subst, ℕ, true, List, [], ◌∷◌, map, Option, Some, None, option_map, arith}
use Rattle.std.specs.Prelude.{MatchOption, drop, find}
use Rattle.std.specs.List.{cons_option}
use Rattle.std.specs.Option.{is_some}
use Rattle.std.proofs.lemmas.List.Elements.{All-head, All-tail}
use Rattle.comp_pool.specs.declared.node.NodeId.{NodeId}
use Rattle.comp_pool.specs.Pool.{PoolOf, list_of}
use Rattle.page_core.specs.Composition.{Composition, without_colour}
use Rattle.page_core.specs.Private.Lists.{IsPopped}
use Rattle.page_core.specs.Private.Nodes.{kept_in, AreKind, IsPoppedAs, IsSorted, IsIndexed, composition_of, region_kept, region_node, entry_in, clut_node, colour_in, listing_in, listings_list, place_kept, is_region_of, is_clut_of, node_of}
use Rattle.page_core.specs.declared.node.Node.{Node}
use Rattle.page_core.specs.declared.node.RegionNode.{RegionNode}
use Rattle.page_core.specs.declared.node.TablePlace.{TablePlace}

of_kind : {X : Type 0} (found : Option X) → is_some found ≡ true → found ≡ None → ⊥
of_kind (Some x) some none = cc
of_kind None some none = cc

-- the first node of a list of a kind is of that kind
pub popped_as : {X Y : Type 0} (kind : Node → Option X) (view : Y → X) (l : ℕ) (item : Node) (found : Option Y)
    (old new : PoolOf Node) → AreKind kind (list_of old l) → option_map view found ≡ kind item
    → IsPopped l item old new
    → MatchOption found ((list_of old l ≡ []) × (new ≡ old)) (λ y. IsPoppedAs kind l (view y) old new)
popped_as kind view l item (Some y) old new all is popped = (item, sym is, popped)
popped_as kind view l item None old new all is popped =
    let first =
    All-head (λ (pair : NodeId × Node). is_some (kind pair.1) ≡ true) (popped.node, item) (list_of new l)
    (subst (AreKind kind) popped.popped all) in
    absurd (of_kind (kind item) first (sym is))

-- the regions of a pool, where the lists of regions and of listings stay
pub same_regions : (old new : PoolOf Node) → list_of new 1 ≡ list_of old 1
    → ((id : ℕ) → list_of new (listings_list id) ≡ list_of old (listings_list id))
    → map (region_kept new) (kept_in region_node (list_of new 1))
    ≡ map (region_kept old) (kept_in region_node (list_of old 1))
same_regions old new regions listings =
    let same : (region : RegionNode) → region_kept new region ≡ region_kept old region =
    λ region i. record {
      head = region.head;
      slot = region.slot;
      listings = kept_in listing_in
          (listings region.head.region i);
    } in
    λ i. map (λ region. same region i) (kept_in region_node (regions i))

-- the first colour is no more there
pub popped_colour : (found : TablePlace) (old new : PoolOf Node) (region_nodes clut_nodes : List (Option NodeId))
    → IsSorted old → IsIndexed old region_nodes clut_nodes → IsPoppedAs colour_in 3 (place_kept found) old new
    → (IsSorted new × IsIndexed new region_nodes clut_nodes)
    × ((composition_of old).set_entries ≡ place_kept found ∷ (composition_of new).set_entries)
    × (composition_of new ≡ without_colour (composition_of old))
popped_colour found old new region_nodes clut_nodes sorted indexed (item, kind, popped) =
    let beside = popped.beside in
    let entries = beside.others 0 (λ e. absurd (omega arith)) in
    let regions = beside.others 1 (λ e. absurd (omega arith)) in
    let cluts = beside.others 2 (λ e. absurd (omega arith)) in
    let listings : (id : ℕ) → list_of new (listings_list id) ≡ list_of old (listings_list id) =
    λ id. beside.others (listings_list id) (λ e. absurd (omega arith)) in
    let before : kept_in colour_in (list_of old 3) ≡ place_kept found ∷ kept_in colour_in (list_of new 3) =
    ap (kept_in colour_in) popped.popped
    ∙ ap (λ (o : Option _). cons_option o (kept_in colour_in (list_of new 3))) kind in (
      (
        record {
          lists = beside.lists ∙ sorted.lists;
          entries = subst (AreKind entry_in) (sym entries) sorted.entries;
          regions = subst (AreKind region_node) (sym regions) sorted.regions;
          cluts = subst (AreKind clut_node) (sym cluts) sorted.cluts;
          colours =
              All-tail (λ (pair : NodeId × Node). is_some (colour_in pair.1) ≡ true) (popped.node, item)
              (list_of new 3) (subst (AreKind colour_in) popped.popped sorted.colours);
          listings = λ id low. subst (AreKind listing_in) (sym (listings id)) (sorted.listings id low);
        },
        record {
          regions =
              λ id low. indexed.regions id low
              ∙ ap (λ (ps : List (NodeId × Node)). option_map node_of (find (is_region_of id) ps)) (sym regions);
          cluts =
              λ id low. indexed.cluts id low
              ∙ ap (λ (ps : List (NodeId × Node)). option_map node_of (find (is_clut_of id) ps)) (sym cluts);
        },
      ),
      before,
      λ i. record {
        size = beside.count i;
        entries = kept_in entry_in (entries i);
        regions = same_regions old new regions listings i;
        cluts = kept_in clut_node (cluts i);
        set_entries = (sym (ap (drop 1) before)) i;
        free = popped.free i;
      },
    )

-- what a pool keeps is kept, whether there was a colour or not
pub kept_by_pop : (found : Option TablePlace) (old new : PoolOf Node) (region_nodes clut_nodes : List (Option NodeId))
    → IsSorted old × IsIndexed old region_nodes clut_nodes
    → MatchOption found ((list_of old 3 ≡ []) × (new ≡ old))
    (λ place. IsPoppedAs colour_in 3 (place_kept place) old new) → IsSorted new
    × IsIndexed new region_nodes clut_nodes
kept_by_pop None old new region_nodes clut_nodes kept (empty, same) =
    subst (λ (pool : PoolOf Node). IsSorted pool × IsIndexed pool region_nodes clut_nodes) (sym same) kept
kept_by_pop (Some found) old new region_nodes clut_nodes kept popped =
    (popped_colour found old new region_nodes clut_nodes kept.0 kept.1 popped).0

-- and so much was taken out
pub taken_by_pop : (found : Option TablePlace) (old new : PoolOf Node) (region_nodes clut_nodes : List (Option NodeId))
    (before : Composition) → composition_of old ≡ before → IsSorted old × IsIndexed old region_nodes clut_nodes
    → MatchOption found ((list_of old 3 ≡ []) × (new ≡ old))
    (λ place. IsPoppedAs colour_in 3 (place_kept place) old new)
    → MatchOption found ((before.set_entries ≡ []) × (composition_of new ≡ before))
    (λ place. (before.set_entries ≡ place_kept place ∷ (composition_of new).set_entries)
    × (composition_of new ≡ without_colour before))
taken_by_pop None old new region_nodes clut_nodes before is kept (empty, same) =
    (ap (λ (c : Composition). c.set_entries) (sym is) ∙ ap (kept_in colour_in) empty, ap composition_of same ∙ is)
taken_by_pop (Some found) old new region_nodes clut_nodes before is kept popped =
    let taken = popped_colour found old new region_nodes clut_nodes kept.0 kept.1 popped in
    (ap (λ (c : Composition). c.set_entries) (sym is) ∙ taken.1, taken.2 ∙ ap without_colour is)
