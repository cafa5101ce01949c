-- The composition of a pool whose listings of a region are changed.
use Rattle.std.proofs.Common.{◌≡◌, ◌≢◌, ◌∙◌, ℕ, suc, ◌+◌, ◌-◌, ◌==◌, ◌<◌, Bool, true, false, cond, List, [], ◌∷◌, ◌++◌, find, length, map, Option, Some, None, option_map, refl, sym, ap, subst, inl, inr, arith}
use Rattle.std.specs.List.{cons_option}
use Rattle.std.specs.Option.{is_some}
use Rattle.std.proofs.lemmas.Bool.{cases_eq, eqb-true, eq-eqb}
use Rattle.std.proofs.lemmas.List.{get_or-set_same, get_or-set_other, length-set}
use Rattle.std.proofs.lemmas.List.Elements.{All-nil, All-head, All-tail}
use Rattle.stream_syntax.specs.declared.region.Listing.{Listing}
use Rattle.comp_pool.specs.Changes.{cleared}
use Rattle.comp_pool.specs.Pool.{PoolOf, list_of, node_count}
use Rattle.comp_pool.specs.declared.node.NodeId.{NodeId}
use Rattle.page_core.specs.Composition.{Composition, KeptRegion, region_in}
use Rattle.page_core.specs.Private.Lists.{KeepsBeside}
use Rattle.page_core.specs.Private.Nodes.{AreKind, IsIndexed, IsSorted, clut_node, colour_in, composition_of, entry_in, is_clut_of, is_region_of, kept_in, listing_in, listings_list, node_of, region_kept, region_node}
use Rattle.page_core.specs.Private.PoolChanges.{HasListings}
use Rattle.page_core.specs.Private.RegionSteps.{bare, changed_at, count_kept, fresh, listing_more, with_listings, with_regions, without_listings}
use Rattle.page_core.specs.declared.node.Node.{Node}
use Rattle.page_core.specs.declared.node.RegionNode.{RegionNode}

-- as many items as nodes, where all are of a kind
pub kind_counted : {X : Type 0} (kind : Node → Option X) (pairs : List (NodeId × Node)) → AreKind kind pairs
    → length (kept_in kind pairs) ≡ length pairs
kind_counted kind [] all = refl
kind_counted {X} kind (pair ∷ pairs) all =
    by (kind pair.1) refl (All-head (λ (p : NodeId × Node). is_some (kind p.1) ≡ true) pair pairs all)
    (kind_counted kind pairs (All-tail (λ (p : NodeId × Node). is_some (kind p.1) ≡ true) pair pairs all))
  where
    by : (found : Option X) → kind pair.1 ≡ found → is_some (kind pair.1) ≡ true
        → length (kept_in kind pairs) ≡ length pairs
        → length (cons_option (kind pair.1) (kept_in kind pairs)) ≡ suc (length pairs)
    by (Some item) is some rest = ap (λ (o : Option X). length (cons_option o (kept_in kind pairs))) is ∙ ap suc rest
    by None is some rest = absurd (let e = sym (ap is_some is) ∙ some in cc)

-- the listings of a region that is found by its id are those of the list of the id
pub listings_found : (pool : PoolOf Node) (id : ℕ) (regions : List RegionNode) (kept : KeptRegion)
    → find (λ (kept : KeptRegion). kept.head.region == id) (map (region_kept pool) regions) ≡ Some kept
    → kept.listings ≡ kept_in listing_in (list_of pool (listings_list id))
listings_found pool id [] kept is = absurd (cc)
listings_found pool id (region ∷ regions) kept is =
    by (region.head.region == id) refl is (listings_found pool id regions kept)
  where
    by : (hit : Bool) → (region.head.region == id) ≡ hit
        → cond hit (Some (region_kept pool region))
        (find (λ (kept : KeptRegion). kept.head.region == id) (map (region_kept pool) regions)) ≡ Some kept
        → (find (λ (kept : KeptRegion). kept.head.region == id) (map (region_kept pool) regions) ≡ Some kept
        → kept.listings ≡ kept_in listing_in (list_of pool (listings_list id)))
        → kept.listings ≡ kept_in listing_in (list_of pool (listings_list id))
    by true same found rest =
        let here : region_kept pool region ≡ kept = cc in
        sym (ap (λ (k : KeptRegion). k.listings) here)
        ∙ ap (λ n. kept_in listing_in (list_of pool (listings_list n))) (eqb-true region.head.region id same)
    by false other found rest = rest found

module _ (old new : PoolOf Node) (id : ℕ) (beside : KeepsBeside (listings_list id) old new) where
  low : (k : ℕ) → k < 4 → list_of new k ≡ list_of old k
  low k below = beside.others k (λ e. absurd (omega (arith, e, below)))

  other_list : (k : ℕ) → k ≢ id → list_of new (listings_list k) ≡ list_of old (listings_list k)
  other_list k other = beside.others (listings_list k) (λ e. other (omega (arith, e)))

  -- ---- what is kept

  module _ (change : KeptRegion → KeptRegion)
      (here : (region : RegionNode) → region.head.region ≡ id
      → region_kept new region ≡ change (region_kept old region)) where
    one_changed : (region : RegionNode) → region_kept new region ≡ changed_at id change (region_kept old region)
    one_changed region = by (region.head.region == id) refl
      where
        other_id : (region.head.region == id) ≡ false → region.head.region ≢ id
        other_id miss same = let hit = eq-eqb region.head.region id same in cc

        by : (hit : Bool) → (region.head.region == id) ≡ hit
            → region_kept new region ≡ changed_at id change (region_kept old region)
        by true same =
            here region (eqb-true region.head.region id same)
            ∙ sym (ap (λ b. cond b (change (region_kept old region)) (region_kept old region)) same)
        by false other =
            (λ i. record {
              head = region.head;
              slot = region.slot;
              listings = kept_in listing_in
                  (other_list region.head.region (other_id other) i);
            })
            ∙ sym (ap (λ b. cond b (change (region_kept old region)) (region_kept old region)) other)

    all_changed : (regions : List RegionNode)
        → map (region_kept new) regions ≡ map (changed_at id change) (map (region_kept old) regions)
    all_changed [] = refl
    all_changed (region ∷ regions) = λ i. one_changed region i ∷ all_changed regions i

    pub composition_changed : (free : ℕ) → new.free ≡ free
        → composition_of new
        ≡ with_regions (map (changed_at id change) (composition_of old).regions) free (composition_of old)
    composition_changed free is =
        let regions : map (region_kept new) (kept_in region_node (list_of new 1))
        ≡ map (changed_at id change) (map (region_kept old) (kept_in region_node (list_of old 1))) =
        ap (λ (ps : List (NodeId × Node)). map (region_kept new) (kept_in region_node ps)) (low 1 (omega arith))
        ∙ all_changed (kept_in region_node (list_of old 1)) in
        λ i. record {
          size = beside.count i;
          entries = kept_in entry_in (low 0 (omega arith) i);
          regions = regions i;
          cluts = kept_in clut_node (low 2 (omega arith) i);
          set_entries = kept_in colour_in (low 3 (omega arith) i);
          free = is i;
        }

  -- each list has items of its kind, and the tables are valid
  pub listings_sorted : (region_nodes clut_nodes : List (Option NodeId))
      → AreKind listing_in (list_of new (listings_list id)) → IsSorted old × IsIndexed old region_nodes clut_nodes
      → IsSorted new × IsIndexed new region_nodes clut_nodes
  listings_sorted region_nodes clut_nodes kinds kept = (
    record {
      lists = beside.lists ∙ kept.0.lists;
      entries = subst (AreKind entry_in) (sym (low 0 (omega arith))) kept.0.entries;
      regions = subst (AreKind region_node) (sym (low 1 (omega arith))) kept.0.regions;
      cluts = subst (AreKind clut_node) (sym (low 2 (omega arith))) kept.0.cluts;
      colours = subst (AreKind colour_in) (sym (low 3 (omega arith))) kept.0.colours;
      listings = λ k below. elim (cases_eq k id) [
        | inl same ↦ subst (λ n. AreKind listing_in (list_of new (listings_list n))) (sym same) kinds
        | inr other ↦ subst (AreKind listing_in) (sym (other_list k other)) (kept.0.listings k below)
      ];
    },
    record {
      regions =
          λ k below. kept.1.regions k below
          ∙ ap (λ (ps : List (NodeId × Node)). option_map node_of (find (is_region_of k) ps))
          (sym (low 1 (omega arith)));
      cluts =
          λ k below. kept.1.cluts k below
          ∙ ap (λ (ps : List (NodeId × Node)). option_map node_of (find (is_clut_of k) ps))
          (sym (low 2 (omega arith)));
    },
  )

-- ---- listings out

-- a list is empty, and its nodes are free
pub record IsEmptied (l : ℕ) (old new : PoolOf Node) : Type 0 where
  pub beside : KeepsBeside l old new
  pub empty : list_of new l ≡ []
  pub free : new.free ≡ old.free + length (list_of old l)

pub emptied : (l : ℕ) (old new : PoolOf Node) → l < length old.lists → new ≡ cleared l old
    → node_count new ≡ node_count old → IsEmptied l old new
emptied l old new list is count = record {
  beside = record {
    lists = ap (λ (pool : PoolOf Node). length pool.lists) is ∙ length-set old.lists l [];
    others = λ k other. ap (λ (pool : PoolOf Node). list_of pool k) is ∙ get_or-set_other old.lists l k [] [] other;
    count = count;
  };
  empty = ap (λ (pool : PoolOf Node). list_of pool l) is ∙ get_or-set_same old.lists l [] [] list;
  free = ap (λ (pool : PoolOf Node). pool.free) is;
}

module _ (old new : PoolOf Node) (id : ℕ) (before : Composition) (view : composition_of old ≡ before)
    (region_nodes clut_nodes : List (Option NodeId)) (kept : IsSorted old × IsIndexed old region_nodes clut_nodes)
    (below : id < 256) where
  known_count : (found : Option KeptRegion) → region_in (composition_of old) id ≡ found → is_some found ≡ true
      → count_kept found ≡ length (list_of old (listings_list id))
  known_count None is some = absurd (cc)
  known_count (Some region) is some =
      ap length (listings_found old id (kept_in region_node (list_of old 1)) region is)
      ∙ kind_counted listing_in (list_of old (listings_list id)) (kept.0.listings id below)

  pub value_without_listings : is_some (region_in before id) ≡ true → IsEmptied (listings_list id) old new
      → composition_of new ≡ without_listings id before
  value_without_listings known out =
      let count : count_kept (region_in (composition_of old) id) ≡ length (list_of old (listings_list id)) =
      known_count (region_in (composition_of old) id) refl
      (ap (λ (c : Composition). is_some (region_in c id)) view ∙ known) in
      composition_changed old new id out.beside bare
      (λ region same
      i. record {
        head = region.head;
        slot = region.slot;
        listings = kept_in listing_in
            ((ap (λ n. list_of new (listings_list n)) same ∙ out.empty) i);
      })
      (old.free + count_kept (region_in (composition_of old) id)) (out.free ∙ ap (λ n. old.free + n) (sym count))
      ∙ ap (without_listings id) view

  pub sorted_without_listings : IsEmptied (listings_list id) old new → IsSorted new
      × IsIndexed new region_nodes clut_nodes
  sorted_without_listings out =
      listings_sorted old new id out.beside region_nodes clut_nodes
      (subst (AreKind listing_in) (sym out.empty)
      (All-nil (λ (pair : NodeId × Node). is_some (listing_in pair.1) ≡ true))) kept

  -- ---- listings in

  pub value_with_listings : (listings : List Listing) → HasListings (listings_list id) listings old new
      → composition_of new ≡ with_listings id listings before
  value_with_listings listings has =
      composition_changed old new id has.beside (listing_more listings)
      (λ region same i. record {
        head = region.head;
        slot = region.slot;
        listings =
            (ap (λ n. kept_in listing_in (list_of new (listings_list n))) same ∙ has.are
            ∙ ap (λ n. kept_in listing_in (list_of old (listings_list n)) ++ map fresh listings) (sym same)) i;
      })
      (old.free - length listings) (omega (arith, has.free))
      ∙ ap (with_listings id listings) view

  pub sorted_with_listings : (listings : List Listing) → HasListings (listings_list id) listings old new
      → IsSorted new × IsIndexed new region_nodes clut_nodes
  sorted_with_listings listings has =
      listings_sorted old new id has.beside region_nodes clut_nodes (has.kinds (kept.0.listings id below)) kept
