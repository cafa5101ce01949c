-- How many nodes the lists of a pool have.
use Rattle.std.proofs.Common.{◌≡◌, ◌∙◌, ℕ, zero, suc, ◌==◌, ◌≤◌, ◌<◌, ◌^◌, true, List, [], ◌∷◌, find, length, Option, Some, None, option_map, refl, sym, ap, subst, arith}
use Rattle.std.specs.Prelude.{option_and_then, sum_by, slice_index_or}
use Rattle.std.specs.List.{cons_option}
use Rattle.std.specs.Option.{is_some}
use Rattle.std.proofs.lemmas.Bool.{eqb-true}
use Rattle.std.proofs.lemmas.List.Elements.{All-head, All-tail}
use Rattle.std.proofs.lemmas.List.Sums.{sum_by-cons}
use Rattle.comp_pool.specs.declared.node.NodeId.{NodeId}
use Rattle.comp_pool.specs.Pool.{PoolOf, list_of, node_count}
use Rattle.page_core.specs.Composition.{Composition, KeptRegion, region_in}
use Rattle.page_core.specs.Private.Nodes.{AreKind, IsSorted, composition_of, entry_in, is_region_of, kept_in, listing_in, listings_list, region_kept}
use Rattle.page_core.specs.declared.node.Node.{Node}
use Rattle.page_core.specs.declared.node.RegionNode.{RegionNode}
use Rattle.page_core.proofs.Regions.RegionNodes.{found_there, item_region, region_lookup}

-- no list has more nodes than there are
pub sum_at_least : {X : Type 0} (lists : List (List X)) (l : ℕ)
    → length (slice_index_or lists l []) ≤ sum_by length lists
sum_at_least [] l = omega arith
sum_at_least (xs ∷ lists) zero = omega (arith, sum_by-cons length xs lists)
sum_at_least (xs ∷ lists) (suc l) = omega (arith, sum_by-cons length xs lists, sum_at_least lists l)

pub list_within : {T : Type 0} (pool : PoolOf T) (l : ℕ) → length (list_of pool l) ≤ node_count pool
list_within pool l = omega (arith, sum_at_least pool.lists l)

-- as many items as nodes, where all are of a kind
pub kind_counted : {X : Type 0} (kind : Node → Option X) (pairs : List (NodeId × Node)) → AreKind kind pairs
    → length (kept_in kind pairs) ≡ length pairs
kind_counted kind [] all = refl
kind_counted {X} kind (pair ∷ pairs) all =
    by (kind pair.1) refl (All-head of pair pairs all) (kind_counted kind pairs (All-tail of pair pairs all))
  where
    of : NodeId × Node → Type 0
    of p = is_some (kind p.1) ≡ true

    by : (found : Option X) → kind pair.1 ≡ found → is_some (kind pair.1) ≡ true
        → length (kept_in kind pairs) ≡ length pairs
        → length (cons_option (kind pair.1) (kept_in kind pairs)) ≡ suc (length pairs)
    by (Some x) is some rest = ap (λ (o : Option X). length (cons_option o (kept_in kind pairs))) is ∙ ap suc rest
    by None is some rest = absurd (let e = sym (ap is_some is) ∙ some in cc)

pub few_nodes_in : (pool : PoolOf Node) (value : Composition) → composition_of pool ≡ value
    → value.size < 2 ^ 31 → node_count pool < 2 ^ 31
few_nodes_in pool value view few = subst (λ (c : Composition). c.size < 2 ^ 31) (sym view) few

pub entries_counted : (pool : PoolOf Node) (value : Composition) (count : ℕ) → composition_of pool ≡ value
    → IsSorted pool → count ≡ length (list_of pool 0) → count ≡ length value.entries
entries_counted pool value count view sorted is =
    is ∙ sym (kind_counted entry_in (list_of pool 0) sorted.entries)
    ∙ ap (λ (c : Composition). length c.entries) view

kept_some : (pool : PoolOf Node) (o : Option RegionNode) (kept : KeptRegion)
    → option_map (region_kept pool) o ≡ Some kept → (region : RegionNode) × (region_kept pool region ≡ kept)
kept_some pool (Some region) kept is = (region, (let same : region_kept pool region ≡ kept = cc in same))
kept_some pool None kept is = absurd (cc)

pub listings_counted : (pool : PoolOf Node) (value : Composition) (id count : ℕ) → composition_of pool ≡ value
    → IsSorted pool → id < 256 → count ≡ length (list_of pool (listings_list id))
    → (kept : KeptRegion) → region_in value id ≡ Some kept → count ≡ length kept.listings
listings_counted pool value id count view sorted low is kept there =
    let here : region_in (composition_of pool) id ≡ Some kept =
    ap (λ (c : Composition). region_in c id) view ∙ there in
    let found =
    kept_some pool (option_and_then item_region (find (is_region_of id) (list_of pool 1))) kept
    (sym (region_lookup pool id (list_of pool 1)) ∙ here) in
    let of_id : kept.head.region ≡ id =
    eqb-true kept.head.region id
    (found_there (λ (one : KeptRegion). one.head.region == id) (composition_of pool).regions kept here).1 in
    let listings : kept.listings ≡ kept_in listing_in (list_of pool (listings_list id)) =
    ap (λ (one : KeptRegion). one.listings) (sym found.1)
    ∙ ap (λ n. kept_in listing_in (list_of pool (listings_list n)))
    (ap (λ (one : KeptRegion). one.head.region) found.1 ∙ of_id) in
    is ∙ sym (kind_counted listing_in (list_of pool (listings_list id)) (sorted.listings id low))
    ∙ ap length (sym listings)
