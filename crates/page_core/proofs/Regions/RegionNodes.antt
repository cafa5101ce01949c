-- The region of an id, by the table of nodes.
use Rattle.std.proofs.Common.{◌≡◌, ◌∙◌, ℕ, suc, ◌==◌, Bool, true, false, cond, List, [], ◌∷◌, find, map, Option, Some, None, option_map, Contains, refl, sym, ap, subst, arith}
use Rattle.std.specs.Prelude.{option_and_then, IfSome}
use Rattle.std.specs.List.{cons_option}
use Rattle.std.specs.Option.{option_map_or}
use Rattle.comp_pool.specs.declared.node.NodeId.{NodeId}
use Rattle.comp_pool.specs.Pool.{PoolOf, list_of, IsInList, NoneTwice, nodes_of}
use Rattle.comp_pool.proofs.PairLaws.{pair_node}
use Rattle.comp_pool.proofs.NodeLaws.{one_item}
use Rattle.page_core.specs.Composition.{Composition, KeptRegion, region_in}
use Rattle.page_core.specs.Private.Known.{IsRegionIn}
use Rattle.page_core.specs.Private.Nodes.{region_node, region_kept, kept_in, composition_of, is_region_of, node_of, IsRegionOf}
use Rattle.page_core.specs.declared.node.Node.{Node}
use Rattle.page_core.specs.declared.node.RegionNode.{RegionNode}

abbrev pub item_region : NodeId × Node → Option RegionNode
item_region pair = region_node pair.1

-- a search by id among regions is one among nodes
pub region_lookup : (pool : PoolOf Node) (id : ℕ) (pairs : List (NodeId × Node))
    → find (λ (kept : KeptRegion). kept.head.region == id) (map (region_kept pool) (kept_in region_node pairs))
    ≡ option_map (region_kept pool) (option_and_then item_region (find (is_region_of id) pairs))
region_lookup pool id [] = refl
region_lookup pool id (pair ∷ pairs) = by (region_lookup pool id pairs) (region_node pair.1) refl
  where
    by_hit : find (λ (kept : KeptRegion). kept.head.region == id)
        (map (region_kept pool) (kept_in region_node pairs))
        ≡ option_map (region_kept pool) (option_and_then item_region (find (is_region_of id) pairs))
        → (region : RegionNode) (hit : Bool) → (region.head.region == id) ≡ hit
        → region_node pair.1 ≡ Some region
        → cond hit (Some (region_kept pool region))
        (find (λ (kept : KeptRegion). kept.head.region == id) (map (region_kept pool) (kept_in region_node pairs)))
        ≡ option_map (region_kept pool)
        (option_and_then item_region (cond hit (Some pair) (find (is_region_of id) pairs)))
    by_hit rest region true is some = sym (ap (option_map (region_kept pool)) some)
    by_hit rest region false is some = rest

    by : find (λ (kept : KeptRegion). kept.head.region == id) (map (region_kept pool) (kept_in region_node pairs))
        ≡ option_map (region_kept pool) (option_and_then item_region (find (is_region_of id) pairs))
        → (found : Option RegionNode) → region_node pair.1 ≡ found
        → find (λ (kept : KeptRegion). kept.head.region == id)
        (map (region_kept pool) (kept_in region_node (pair ∷ pairs)))
        ≡ option_map (region_kept pool) (option_and_then item_region (find (is_region_of id) (pair ∷ pairs)))
    by rest None is =
        ap (λ (o : Option RegionNode). find (λ (kept : KeptRegion). kept.head.region == id)
        (map (region_kept pool) (cons_option o (kept_in region_node pairs)))) is
        ∙ rest
        ∙ sym (ap
        (λ (o : Option RegionNode). option_map (region_kept pool)
        (option_and_then item_region
        (cond (option_map_or (λ (region : RegionNode). region.head.region == id) o false) (Some pair)
        (find (is_region_of id) pairs)))) is)
    by rest (Some region) is =
        ap (λ (o : Option RegionNode). find (λ (kept : KeptRegion). kept.head.region == id)
        (map (region_kept pool) (cons_option o (kept_in region_node pairs)))) is
        ∙ by_hit rest region (region.head.region == id) refl is
        ∙ sym (ap
        (λ (o : Option RegionNode). option_map (region_kept pool)
        (option_and_then item_region
        (cond (option_map_or (λ (region : RegionNode). region.head.region == id) o false) (Some pair)
        (find (is_region_of id) pairs)))) is)

-- what is found is there
pub found_there : {X : Type 0} (test : X → Bool) (xs : List X) (x : X) → find test xs ≡ Some x → Contains xs x
    × (test x ≡ true)
found_there test [] x is = absurd (cc)
found_there {X} test (y ∷ ys) x is = by (found_there test ys x) (test y) refl is
  where
    by : (find test ys ≡ Some x → Contains ys x × (test x ≡ true)) → (hit : Bool) → test y ≡ hit
        → cond hit (Some y) (find test ys) ≡ Some x → Contains (y ∷ ys) x × (test x ≡ true)
    by more true at e = let same : y ≡ x = cc in ((0, omega arith, same), sym (ap test same) ∙ at)
    by more false at e = let rest = more e in ((suc rest.0.0, omega (arith, rest.0.1), rest.0.2), rest.1)

-- a node that the search finds is in the list
pub node_listed : (pool : PoolOf Node) (id : ℕ) (name : Option NodeId)
    → name ≡ option_map node_of (find (is_region_of id) (list_of pool 1))
    → IfSome name (λ node. IsInList pool 1 node)
unfolding IsInList
node_listed pool id name is =
    subst (λ (o : Option NodeId). IfSome o (λ node. Contains (nodes_of (list_of pool 1)) node)) (sym is)
    (by (find (is_region_of id) (list_of pool 1)) refl)
  where
    by : (found : Option (NodeId × Node)) → find (is_region_of id) (list_of pool 1) ≡ found
        → IfSome (option_map node_of found) (λ node. Contains (nodes_of (list_of pool 1)) node)
    by None is = tt
    by (Some pair) is =
        pair_node (list_of pool 1) pair.0 pair.1 (found_there (is_region_of id) (list_of pool 1) pair is).0

none_mapped : {X Y : Type 0} (f : X → Y) (o : Option X) → o ≡ None → option_map f o ≡ None
none_mapped f None is = refl
none_mapped f (Some x) is = absurd (cc)

is_region_some : (id : ℕ) (item : Node) (found : Option RegionNode) → region_node item ≡ found
    → option_map_or (λ (region : RegionNode). region.head.region == id) found false ≡ true
    → (region : RegionNode) × (found ≡ Some region)
is_region_some id item (Some region) is hit = (region, refl)
is_region_some id item None is hit = absurd (cc)

-- what the node of the table has is the region of the composition
pub region_is : (pool : PoolOf Node) (id : ℕ) (name : Option NodeId) (found : Option RegionNode)
    (value : Composition) → composition_of pool ≡ value
    → name ≡ option_map node_of (find (is_region_of id) (list_of pool 1))
    → NoneTwice pool → IsRegionOf pool name found → IsRegionIn value id found
region_is pool id name found value view is one has =
    subst (λ (c : Composition). IsRegionIn c id found) view
    (by (find (is_region_of id) (list_of pool 1)) refl
    (subst (λ (o : Option NodeId). IsRegionOf pool o found) is has))
  where
    by_item : (pair : NodeId × Node) (found' region : Option RegionNode)
        → find (is_region_of id) (list_of pool 1) ≡ Some pair → found' ≡ region
        → region_node pair.1 ≡ region → (r : RegionNode) × (region ≡ Some r)
        → IsRegionIn (composition_of pool) id found'
    by_item pair found' region at is_found node (r, some) =
        let there : region_in (composition_of pool) id ≡ Some (region_kept pool r) =
        region_lookup pool id (list_of pool 1)
        ∙ ap (λ (o : Option (NodeId × Node)). option_map (region_kept pool) (option_and_then item_region o))
        at ∙ ap (option_map (region_kept pool)) (node ∙ some) in
        subst (IsRegionIn (composition_of pool) id) (sym (is_found ∙ some))
        (region_kept pool r, there, record { head = refl; slot = refl })

    by : (pair : Option (NodeId × Node)) → find (is_region_of id) (list_of pool 1) ≡ pair
        → IsRegionOf pool (option_map node_of pair) found → IsRegionIn (composition_of pool) id found
    by None at none =
        subst (IsRegionIn (composition_of pool) id) (sym none)
        (region_lookup pool id (list_of pool 1)
        ∙ ap (λ (o : Option (NodeId × Node)). option_map (region_kept pool) (option_and_then item_region o)) at)
    by (Some pair) at (item, contains, is_found) =
        let there = found_there (is_region_of id) (list_of pool 1) pair at in
        let same : item ≡ pair.1 = one_item pool 1 1 pair.0 item pair.1 one contains there.0 in
        by_item pair found (region_node pair.1) at (is_found ∙ ap region_node same) refl
        (is_region_some id pair.1 (region_node pair.1) refl there.1)
