-- The composition of a pool in which a region has another head.
use Rattle.std.proofs.Common.{◌≡◌, ◌≢◌, ◌∙◌, ℕ, ◌==◌, ◌||◌, Bool, true, false, cond, List, [], ◌∷◌, ◌++◌, find, map, Option, Some, None, option_map, refl, sym, ap, subst, arith}
use Rattle.std.specs.Prelude.{option_and_then}
use Rattle.std.specs.List.{cons_option, list_any}
use Rattle.std.specs.Option.{is_some, option_map_or}
use Rattle.std.proofs.lemmas.Bool.{eqb-true, eq-eqb}
use Rattle.std.proofs.lemmas.List.{map-append}
use Rattle.std.proofs.lemmas.List.Elements.{All-cons, All-head, All-tail, filter_map-append}
use Rattle.comp_pool.specs.Pool.{PoolOf, list_of, IsInList}
use Rattle.comp_pool.specs.declared.node.NodeId.{NodeId}
use Rattle.comp_pool.proofs.ItemLaws.{in_list_from_item}
use Rattle.comp_pool.proofs.WalkLaws.{set_split}
use Rattle.page_core.specs.Composition.{AreIdsApart, Composition, KeptRegion, region_in}
use Rattle.page_core.specs.Private.Lists.{KeepsBeside}
use Rattle.page_core.specs.Private.Nodes.{AreKind, IsIndexed, IsSorted, clut_node, colour_in, composition_of, entry_in, is_clut_of, is_region_of, kept_in, listing_in, listings_list, node_of, region_kept, region_node}
use Rattle.page_core.specs.Private.PoolChanges.{IsItemSet, IsRegionSet}
use Rattle.page_core.specs.Private.RegionSteps.{changed_at, headed, slot_in, with_head}
use Rattle.page_core.specs.declared.node.Node.{Node}
use Rattle.page_core.specs.declared.node.Node.TheVariants as node
use Rattle.page_core.specs.declared.node.RegionNode.{RegionNode}
use Rattle.page_core.proofs.Regions.RegionLaws.{either_false}
use Rattle.page_core.proofs.Regions.RegionNodes.{found_there, region_lookup}
use Rattle.page_core.proofs.Objects.Rewriting.{keeps_set}

-- ---- a list with what is found in it

-- what is found, with what is before it and behind it; nothing before it passes the test
pub record IsFoundIn {X : Type 0} (test : X → Bool) (xs : List X) (x : X) : Type 0 where
  pub before : List X
  pub behind : List X
  pub is : xs ≡ before ++ x ∷ behind
  pub first : list_any test before ≡ false
  pub passes : test x ≡ true

pub found_in : {X : Type 0} (test : X → Bool) (xs : List X) (x : X) → find test xs ≡ Some x
    → IsFoundIn test xs x
found_in test [] x is = absurd (cc)
found_in {X} test (y ∷ ys) x is = by (test y) refl is (found_in test ys x)
  where
    by : (hit : Bool) → test y ≡ hit → cond hit (Some y) (find test ys) ≡ Some x
        → (find test ys ≡ Some x → IsFoundIn test ys x) → IsFoundIn test (y ∷ ys) x
    by true here found rest =
        let same : y ≡ x = cc in
        record {
          before = [];
          behind = ys;
          is = ap (λ (z : X). z ∷ ys) same;
          first = refl;
          passes = sym
              (ap test same) ∙ here;
        }
    by false here found rest =
        let more = rest found in
        record {
          before = y
              ∷ more.before;
          behind = more.behind;
          is = ap (λ zs. y ∷ zs) more.is;
          first = ap
              (λ b. b || list_any test more.before) here ∙ more.first;
          passes = more.passes;
        }

-- ---- regions of other ids

pub region_of_id : (id : ℕ) (item : Node) (found : Option RegionNode) → region_node item ≡ found
    → option_map_or (λ (region : RegionNode). region.head.region == id) found false ≡ true
    → (region : RegionNode) × (region_node item ≡ Some region) × (region.head.region ≡ id)
region_of_id id item None is hit = absurd (cc)
region_of_id id item (Some region) is hit = (region, is, eqb-true region.head.region id hit)

module _ (pool : PoolOf Node) where
  regions_in : List (NodeId × Node) → List KeptRegion
  regions_in pairs = map (region_kept pool) (kept_in region_node pairs)

  -- ids are apart among nodes as they are among regions
  pub any_region : (id : ℕ) (pairs : List (NodeId × Node))
      → list_any (λ (kept : KeptRegion). kept.head.region == id)
      (map (region_kept pool) (kept_in region_node pairs)) ≡ list_any (is_region_of id) pairs
  any_region id [] = refl
  any_region id (pair ∷ pairs) = by (region_node pair.1) (any_region id pairs)
    where
      by : (found : Option RegionNode)
          → list_any (λ (kept : KeptRegion). kept.head.region == id)
          (map (region_kept pool) (kept_in region_node pairs)) ≡ list_any (is_region_of id) pairs
          → list_any (λ (kept : KeptRegion). kept.head.region == id)
          (map (region_kept pool) (cons_option found (kept_in region_node pairs)))
          ≡ (option_map_or (λ (region : RegionNode). region.head.region == id) found false
          || list_any (is_region_of id) pairs)
      by None rest = rest
      by (Some region) rest = ap (λ b. (region.head.region == id) || b) rest

  -- no node behind one has a region of its id
  pub none_behind : (before : List (NodeId × Node)) (pair : NodeId × Node) (behind : List (NodeId × Node))
      (region : RegionNode) → region_node pair.1 ≡ Some region
      → AreIdsApart (map (region_kept pool) (kept_in region_node (before ++ pair ∷ behind)))
      → list_any (is_region_of region.head.region) behind ≡ false
  none_behind [] pair behind region is apart =
      let here : AreIdsApart (map (region_kept pool) (cons_option (Some region) (kept_in region_node behind))) =
      subst (λ (o : Option RegionNode). AreIdsApart
      (map (region_kept pool) (cons_option o (kept_in region_node behind)))) is apart in
      sym (any_region region.head.region behind) ∙ here.0
  none_behind (p ∷ before) pair behind region is apart =
      by (region_node p.1) apart (none_behind before pair behind region is)
    where
      by : (found : Option RegionNode)
          → AreIdsApart (map (region_kept pool) (cons_option found (kept_in region_node (before ++ pair ∷ behind))))
          → (AreIdsApart (map (region_kept pool) (kept_in region_node (before ++ pair ∷ behind)))
          → list_any (is_region_of region.head.region) behind ≡ false)
          → list_any (is_region_of region.head.region) behind ≡ false
      by None apart rest = rest apart
      by (Some other) apart rest = rest apart.1

  -- regions of other ids are not changed
  pub others_same : (id : ℕ) (change : KeptRegion → KeptRegion) (pairs : List (NodeId × Node))
      → list_any (is_region_of id) pairs ≡ false
      → map (changed_at id change) (map (region_kept pool) (kept_in region_node pairs))
      ≡ map (region_kept pool) (kept_in region_node pairs)
  others_same id change [] none = refl
  others_same id change (pair ∷ pairs) none =
      let parts = either_false (is_region_of id pair) (list_any (is_region_of id) pairs) none in
      by (region_node pair.1) parts.0 (others_same id change pairs parts.1)
    where
      by : (found : Option RegionNode)
          → option_map_or (λ (region : RegionNode). region.head.region == id) found false ≡ false
          → map (changed_at id change) (map (region_kept pool) (kept_in region_node pairs))
          ≡ map (region_kept pool) (kept_in region_node pairs)
          → map (changed_at id change) (map (region_kept pool) (cons_option found (kept_in region_node pairs)))
          ≡ map (region_kept pool) (cons_option found (kept_in region_node pairs))
      by None miss rest = rest
      by (Some region) miss rest =
          λ i. cond (miss i) (change (region_kept pool region)) (region_kept pool region) ∷ rest i

-- ---- another head

module _ (old new : PoolOf Node) (region : RegionNode) (pair : NodeId × Node)
    (set : IsItemSet (node.Region region) old new pair.0)
    (found : find (is_region_of region.head.region) (list_of old 1) ≡ Some pair) where
  in_list : IsFoundIn (is_region_of region.head.region) (list_of old 1) pair
  in_list = found_in (is_region_of region.head.region) (list_of old 1) pair found

  was : (region' : RegionNode) × (region_node pair.1 ≡ Some region') × (region'.head.region ≡ region.head.region)
  was = region_of_id region.head.region pair.1 (region_node pair.1) refl in_list.passes

  listed : IsInList old 1 pair.0
  listed =
      in_list_from_item old 1 pair.0 pair.1 (found_there (is_region_of region.head.region) (list_of old 1) pair found).0

  pub beside_head : KeepsBeside 1 old new
  beside_head = keeps_set old new 1 pair.0 (node.Region region) set.set set.distinct listed set.count

  list_new : list_of new 1 ≡ in_list.before ++ (pair.0, node.Region region) ∷ in_list.behind
  list_new =
      set_split old 1 set.distinct in_list.before in_list.behind pair.0 pair.1 in_list.is new (node.Region region)
      set.set

  other : (k : ℕ) → k ≢ 1 → list_of new k ≡ list_of old k
  other k ne = beside_head.others k ne

  same_kept : (r : RegionNode) → region_kept new r ≡ region_kept old r
  same_kept r i =
      record {
        head = r.head;
        slot = r.slot;
        listings = kept_in listing_in
            (other (listings_list r.head.region) (λ e. absurd (omega (arith, e))) i);
      }

  all_same : (regions : List RegionNode) → map (region_kept new) regions ≡ map (region_kept old) regions
  all_same [] = refl
  all_same (r ∷ regions) = λ i. same_kept r i ∷ all_same regions i

  -- the regions before and behind, and the region
  parts : (p : NodeId × Node) (r : RegionNode) → region_node p.1 ≡ Some r
      → map (region_kept old) (kept_in region_node (in_list.before ++ p ∷ in_list.behind))
      ≡ map (region_kept old) (kept_in region_node in_list.before) ++ region_kept old r
      ∷ map (region_kept old) (kept_in region_node in_list.behind)
  parts p r is =
      ap (map (region_kept old))
      (filter_map-append (λ (q : NodeId × Node). region_node q.1) in_list.before (p ∷ in_list.behind)
      ∙ ap (λ (o : Option RegionNode). kept_in region_node in_list.before
      ++ cons_option o (kept_in region_node in_list.behind)) is)
      ∙ map-append (region_kept old) (kept_in region_node in_list.before) (r ∷ kept_in region_node in_list.behind)

  regions_new : AreIdsApart (map (region_kept old) (kept_in region_node (list_of old 1))) → was.0.slot ≡ region.slot
      → map (region_kept new) (kept_in region_node (list_of new 1))
      ≡ map (changed_at region.head.region (headed region.head))
      (map (region_kept old) (kept_in region_node (list_of old 1)))
  regions_new apart slot =
      let id = region.head.region in
      let change : KeptRegion → KeptRegion = changed_at id (headed region.head) in
      let before = map (region_kept old) (kept_in region_node in_list.before) in
      let behind = map (region_kept old) (kept_in region_node in_list.behind) in
      let none : list_any (is_region_of id) in_list.behind ≡ false =
      ap (λ n. list_any (is_region_of n) in_list.behind) (sym was.2)
      ∙ none_behind old in_list.before pair in_list.behind was.0 was.1
      (subst (λ (ps : List (NodeId × Node)). AreIdsApart (map (region_kept old) (kept_in region_node ps)))
      in_list.is apart) in
      let here : change (region_kept old was.0) ≡ region_kept old region =
      ap (λ b. cond b (headed region.head (region_kept old was.0)) (region_kept old was.0))
      (eq-eqb was.0.head.region id was.2)
      ∙ (λ i. record {
        head = region.head;
        slot = slot i;
        listings = kept_in listing_in
            (list_of old (listings_list (was.2 i)));
      }) in
      let left : map (region_kept new) (kept_in region_node (list_of new 1)) ≡ before ++ region_kept old region
      ∷ behind =
      all_same (kept_in region_node (list_of new 1))
      ∙ ap (λ (ps : List (NodeId × Node)). map (region_kept old) (kept_in region_node ps)) list_new
      ∙ parts (pair.0, node.Region region) region refl in
      let right : map change (map (region_kept old) (kept_in region_node (list_of old 1))) ≡ before
      ++ region_kept old region ∷ behind =
      ap (λ (ps : List (NodeId × Node)). map change (map (region_kept old) (kept_in region_node ps))) in_list.is
      ∙ ap (map change) (parts pair was.0 was.1)
      ∙ map-append change before (region_kept old was.0 ∷ behind)
      ∙ (λ i. others_same old id (headed region.head) in_list.before in_list.first i ++ here i
      ∷ others_same old id (headed region.head) in_list.behind none i) in
      left ∙ sym right

  slot_is : slot_in (composition_of old) region.head.region ≡ Some region.slot → was.0.slot ≡ region.slot
  slot_is slot =
      let there : region_in (composition_of old) region.head.region ≡ Some (region_kept old was.0) =
      region_lookup old region.head.region (list_of old 1)
      ∙ ap (λ (o : Option (NodeId × Node)). option_map (region_kept old)
      (option_and_then (λ (p : NodeId × Node). region_node p.1) o)) found
      ∙ ap (option_map (region_kept old)) was.1 in
      let same : Some was.0.slot ≡ Some region.slot =
      sym (ap (option_map (λ (kept : KeptRegion). kept.slot)) there) ∙ slot in
      cc

  pub value_with_head : (before : Composition) → composition_of old ≡ before → AreIdsApart before.regions
      → slot_in before region.head.region ≡ Some region.slot → composition_of new ≡ with_head region.head before
  value_with_head before view apart slot =
      let regions =
      regions_new (subst (λ (c : Composition). AreIdsApart c.regions) (sym view) apart)
      (slot_is (subst (λ (c : Composition). slot_in c region.head.region ≡ Some region.slot) (sym view) slot)) in
      (λ i. record {
        size = beside_head.count i;
        entries = kept_in entry_in (other 0 (λ e. absurd (omega (arith, e))) i);
        regions = regions i;
        cluts = kept_in clut_node (other 2 (λ e. absurd (omega (arith, e))) i);
        set_entries = kept_in colour_in (other 3 (λ e. absurd (omega (arith, e))) i);
        free = ap (λ (pool : PoolOf Node). pool.free) set.set i;
      })
      ∙ ap (with_head region.head) view

  -- ---- what the pool keeps to

  kinds_by : (before behind : List (NodeId × Node)) → AreKind region_node (before ++ pair ∷ behind)
      → AreKind region_node (before ++ (pair.0, node.Region region) ∷ behind)
  kinds_by [] behind all = let is_kind : NodeId × Node
      → Type 0 = λ p. is_some (region_node p.1)
      ≡ true in All-cons is_kind (pair.0, node.Region region) behind refl (All-tail is_kind pair behind all)
  kinds_by (p ∷ before) behind all =
      let is_kind : NodeId × Node → Type 0 = λ p. is_some (region_node p.1) ≡ true in
      All-cons is_kind p (before ++ (pair.0, node.Region region) ∷ behind)
      (All-head is_kind p (before ++ pair ∷ behind) all)
      (kinds_by before behind (All-tail is_kind p (before ++ pair ∷ behind) all))

  same_name : (k : ℕ) (before behind : List (NodeId × Node))
      → option_map node_of (find (is_region_of k) (before ++ pair ∷ behind))
      ≡ option_map node_of (find (is_region_of k) (before ++ (pair.0, node.Region region) ∷ behind))
  same_name k [] behind =
      let test : is_region_of k pair ≡ (region.head.region == k) =
      ap (λ (o : Option RegionNode). option_map_or (λ (r : RegionNode). r.head.region == k) o false) was.1
      ∙ ap (λ n. n == k) was.2 in
      ap (λ b. option_map node_of (cond b (Some pair) (find (is_region_of k) behind))) test
      ∙ by (region.head.region == k)
    where
      by : (hit : Bool)
          → option_map node_of (cond hit (Some pair) (find (is_region_of k) behind))
          ≡ option_map node_of (cond hit (Some (pair.0, node.Region region)) (find (is_region_of k) behind))
      by true = refl
      by false = refl
  same_name k (p ∷ before) behind = by (is_region_of k p) (same_name k before behind)
    where
      by : (hit : Bool)
          → option_map node_of (find (is_region_of k) (before ++ pair ∷ behind))
          ≡ option_map node_of (find (is_region_of k) (before ++ (pair.0, node.Region region) ∷ behind))
          → option_map node_of (cond hit (Some p) (find (is_region_of k) (before ++ pair ∷ behind)))
          ≡ option_map node_of
          (cond hit (Some p) (find (is_region_of k) (before ++ (pair.0, node.Region region) ∷ behind)))
      by true rest = refl
      by false rest = rest

  pub sorted_with_head : (region_nodes clut_nodes : List (Option NodeId)) → IsSorted old
      × IsIndexed old region_nodes clut_nodes → IsSorted new × IsIndexed new region_nodes clut_nodes
  sorted_with_head region_nodes clut_nodes kept = (
    record {
      lists = beside_head.lists ∙ kept.0.lists;
      entries = subst (AreKind entry_in) (sym (other 0 (λ e. absurd (omega (arith, e))))) kept.0.entries;
      regions =
          subst (AreKind region_node) (sym list_new)
          (kinds_by in_list.before in_list.behind (subst (AreKind region_node) in_list.is kept.0.regions));
      cluts = subst (AreKind clut_node) (sym (other 2 (λ e. absurd (omega (arith, e))))) kept.0.cluts;
      colours = subst (AreKind colour_in) (sym (other 3 (λ e. absurd (omega (arith, e))))) kept.0.colours;
      listings =
          λ k below. subst (AreKind listing_in) (sym (other (listings_list k) (λ e. absurd (omega (arith, e)))))
          (kept.0.listings k below);
    },
    record {
      regions =
          λ k below. kept.1.regions k below
          ∙ ap (λ (ps : List (NodeId × Node)). option_map node_of (find (is_region_of k) ps)) in_list.is
          ∙ same_name k in_list.before in_list.behind
          ∙ ap (λ (ps : List (NodeId × Node)). option_map node_of (find (is_region_of k) ps)) (sym list_new);
      cluts =
          λ k below. kept.1.cluts k below
          ∙ ap (λ (ps : List (NodeId × Node)). option_map node_of (find (is_clut_of k) ps))
          (sym (other 2 (λ e. absurd (omega (arith, e)))));
    },
  )

-- ---- whether there is a node or not

-- by the name in the table: what is kept, and the composition
pub head_set : (old new : PoolOf Node) (region : RegionNode) (name : Option NodeId) (before : Composition)
    (region_nodes clut_nodes : List (Option NodeId)) → composition_of old ≡ before
    → name ≡ option_map node_of (find (is_region_of region.head.region) (list_of old 1))
    → IsRegionSet name (node.Region region) old new → slot_in before region.head.region ≡ Some region.slot
    → AreIdsApart before.regions
    → IsSorted old × IsIndexed old region_nodes clut_nodes → (composition_of new ≡ with_head region.head before)
    × (IsSorted new × IsIndexed new region_nodes clut_nodes)
head_set old new region name before region_nodes clut_nodes view is set slot apart kept =
    by (find (is_region_of region.head.region) (list_of old 1)) refl
    (subst (λ (o : Option NodeId). IsRegionSet o (node.Region region) old new) is set)
  where
    by : (found : Option (NodeId × Node)) → find (is_region_of region.head.region) (list_of old 1) ≡ found
        → IsRegionSet (option_map node_of found) (node.Region region) old new
        → (composition_of new ≡ with_head region.head before)
        × (IsSorted new × IsIndexed new region_nodes clut_nodes)
    by None found same =
        let none : region_in (composition_of old) region.head.region ≡ None =
        region_lookup old region.head.region (list_of old 1)
        ∙ ap (λ (o : Option (NodeId × Node)). option_map (region_kept old)
        (option_and_then (λ (p : NodeId × Node). region_node p.1) o)) found in
        let no : None ≡ Some region.slot =
        sym (ap (option_map (λ (k : KeptRegion). k.slot)) none)
        ∙ subst (λ (c : Composition). slot_in c region.head.region ≡ Some region.slot) (sym view) slot in
        absurd (cc)
    by (Some pair) found set = (
      value_with_head old new region pair set found before view apart slot,
      sorted_with_head old new region pair set
          found region_nodes clut_nodes kept,
    )
