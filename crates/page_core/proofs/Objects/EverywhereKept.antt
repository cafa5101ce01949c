-- An object in all regions, in the words of what is kept.
use Rattle.std.proofs.Common.{◌≡◌, ◌∙◌, refl, sym, ap, subst, ℕ, zero, suc, Bool, true, false, ◌||◌, eqb, List, [], ◌∷◌, ◌++◌, map, find, All, Contains, Option, Some, None, option_map, arith}
use Rattle.std.specs.List.{list_any, cons_option}
use Rattle.std.proofs.lemmas.Bool.Decides.{nat_tests}
use Rattle.std.proofs.lemmas.List.Elements.{All-nil, All-cons, Contains-append_right}
use Rattle.sub_base.specs.Lists.{last_given}
use Rattle.stream_syntax.specs.Segments.{Object}
use Rattle.comp_pool.specs.declared.node.NodeId.{NodeId}
use Rattle.comp_pool.specs.Pool.{PoolOf, list_of}
use Rattle.decoder_model.specs.Readings.{Content}
use Rattle.pixel_store.specs.Regions.{Regions}
use Rattle.page_core.specs.Composition.{Composition, KeptRegion}
use Rattle.page_core.specs.Private.Everywhere.{HasRegionAt, painted_where, IsEverywhere, painted_kept, with_all_painted, HasNoFaults, AreApart, AreWritten, HaveRegions, AreIdsApart, AreKeptWritten}
use Rattle.page_core.specs.Private.Listings.{code_by_kept, code_by_pair, painted_listing}
use Rattle.page_core.specs.Private.Nodes.{kept_in, AreKind, entry_in, region_node, listing_in, clut_node, colour_in, listings_list, region_kept, composition_of, IsSorted, IsIndexed, is_region_of, is_clut_of, node_of}
use Rattle.page_core.specs.Private.ObjectFaults.{least_of, fault_in_kept}
use Rattle.page_core.specs.Private.Painted.{HasRegion, field_runs}
use Rattle.page_core.specs.declared.composition.listings.Painter.{Painter}
use Rattle.page_core.specs.declared.node.Node.{Node}
use Rattle.page_core.specs.declared.node.Node.TheVariants as node
use Rattle.page_core.specs.declared.node.RegionNode.{RegionNode}
use Rattle.page_core.proofs.Objects.ObjectRegions.{IsLeastOf, least_is, fault_of_region}
use Rattle.page_core.proofs.Objects.PaintedRegions.{listings_of_list, written_through, kinds_of}
use Rattle.block_painting.proofs.Written.{written_as}

-- ---- what holds of the regions of nodes

-- a region of a node is among those that are kept
kept_there : (pool : PoolOf Node) (ps : List (NodeId × Node)) (pair : NodeId × Node) (region : RegionNode)
    → Contains ps pair → region_node pair.1 ≡ Some region
    → Contains (map (region_kept pool) (kept_in region_node ps)) (region_kept pool region)
kept_there pool [] pair region there is = absurd (omega (arith, there.1))
kept_there pool (p ∷ ps) pair region (zero, short, e) is =
    subst (λ (o : Option RegionNode). Contains (map (region_kept pool) (cons_option o (kept_in region_node ps)))
    (region_kept pool region)) (sym (ap (λ (q : NodeId × Node). region_node q.1) e ∙ is))
    (zero, omega arith, refl)
kept_there pool (p ∷ ps) pair region (suc k, short, e) is =
    behind (region_node p.1) (kept_there pool ps pair region (k, omega (arith, short), e) is)
  where
    behind : (o : Option RegionNode)
        → Contains (map (region_kept pool) (kept_in region_node ps)) (region_kept pool region)
        → Contains (map (region_kept pool) (cons_option o (kept_in region_node ps))) (region_kept pool region)
    behind None there = there
    behind (Some other) there = (suc there.0, omega (arith, there.1), there.2)

pub all_at : {X : Type 0} (P : X → Type 0) (xs : List X) (x : X) → All P xs → Contains xs x → P x
all_at P xs x all (k, short, e) = subst P e (all k x short)

has_at : (pool : PoolOf Node) (store : Regions) (pair : NodeId × Node)
    → ((region : RegionNode) → region_node pair.1 ≡ Some region → HasRegion region.head region.slot store)
    → HasRegionAt pair.1 store
has_at pool store pair has = by pair.1 has
  where
    by : (item : Node)
        → ((region : RegionNode) → region_node item ≡ Some region → HasRegion region.head region.slot store)
        → HasRegionAt item store
    by (node.Entry entry) has = tt
    by (node.Region region) has = has region refl
    by (node.Listing kept) has = tt
    by (node.Clut clut) has = tt
    by (node.Colour place) has = tt

-- the slots of all regions have them
pub have_regions : (pool : PoolOf Node) (value : Composition) (store : Regions) → composition_of pool ≡ value
    → All (λ (kept : KeptRegion). HasRegion kept.head kept.slot store) value.regions → HaveRegions pool store
have_regions pool value store view all = λ pair there.
    has_at pool store pair (λ region is.
    all_at (λ (kept : KeptRegion). HasRegion kept.head kept.slot store)
    (map (region_kept pool) (kept_in region_node (list_of pool 1))) (region_kept pool region)
    (subst (λ (c : Composition). All (λ (kept : KeptRegion). HasRegion kept.head kept.slot store) c.regions)
    (sym view) all) (kept_there pool (list_of pool 1) pair region there is))

-- no fault among those that are kept is none among nodes
pub no_faults : (painter : Painter) (content : Content) (object : Object) (pool : PoolOf Node) (value : Composition)
    → composition_of pool ≡ value → least_of (fault_in_kept painter content object) value.regions ≡ None
    → HasNoFaults painter content object pool
no_faults painter content object pool value view none = λ pair region there is.
    fault_of_region pool painter content object region
    ∙ subst (IsLeastOf (fault_in_kept painter content object)
    (map (region_kept pool) (kept_in region_node (list_of pool 1))))
    (ap (λ (c : Composition). least_of (fault_in_kept painter content object) c.regions) view ∙ none)
    (least_is (fault_in_kept painter content object) (map (region_kept pool) (kept_in region_node (list_of pool 1))))
    (region_kept pool region) (kept_there pool (list_of pool 1) pair region there is)

or_false : (a b : Bool) → (a || b) ≡ false → (a ≡ false) × (b ≡ false)
or_false true b e = absurd (cc)
or_false false b e = (refl, e)

pub none_has : {X : Type 0} (t : X → Bool) (xs : List X) (x : X) → list_any t xs ≡ false → Contains xs x
    → t x ≡ false
none_has t [] x none there = absurd (omega (arith, there.1))
none_has t (y ∷ ys) x none (zero, short, e) = ap t (sym e) ∙ (or_false (t y) (list_any t ys) none).0
none_has t (y ∷ ys) x none (suc k, short, e) =
    none_has t ys x (or_false (t y) (list_any t ys) none).1 (k, omega (arith, short), e)

-- ids that are apart among those that are kept are apart among nodes
apart_in : (pool : PoolOf Node) (all before behind : List (NodeId × Node)) (pair : NodeId × Node)
    (region : RegionNode) → AreIdsApart (map (region_kept pool) (kept_in region_node all))
    → before ++ pair ∷ behind ≡ all
    → region_node pair.1 ≡ Some region → list_any (is_region_of region.head.region) before ≡ false
apart_in pool all [] behind pair region apart is has = refl
apart_in pool [] (p ∷ before) behind pair region apart is has = absurd (cc)
apart_in pool (q ∷ all) (p ∷ before) behind pair region apart is has =
    let first : p ≡ q = cc in
    let rest : before ++ pair ∷ behind ≡ all = cc in
    by (region_node q.1) (ap (λ (r : NodeId × Node). region_node r.1) first) apart rest
    (λ rest_apart. apart_in pool all before behind pair region rest_apart rest has)
  where
    there : before ++ pair ∷ behind ≡ all → Contains all pair
    there rest =
        subst (λ (ps : List (NodeId × Node)). Contains ps pair) rest
        (Contains-append_right before (pair ∷ behind) pair (zero, omega arith, refl))

    other_id : (other : RegionNode)
        → list_any (λ (kept : KeptRegion). eqb kept.head.region other.head.region)
        (map (region_kept pool) (kept_in region_node all)) ≡ false → before ++ pair ∷ behind ≡ all
        → eqb other.head.region region.head.region ≡ false
    other_id other none rest =
        let apart : eqb region.head.region other.head.region ≡ false
        = none_has (λ (kept : KeptRegion). eqb kept.head.region other.head.region)
        (map (region_kept pool) (kept_in region_node all)) (region_kept pool region) none
        (kept_there pool all pair region (there rest) has) in
        grind (arith, nat_tests)

    by : (o : Option RegionNode) → region_node p.1 ≡ o
        → AreIdsApart (map (region_kept pool) (cons_option o (kept_in region_node all)))
        → before ++ pair ∷ behind ≡ all
        → (AreIdsApart (map (region_kept pool) (kept_in region_node all))
        → list_any (is_region_of region.head.region) before ≡ false)
        → (is_region_of region.head.region p || list_any (is_region_of region.head.region) before) ≡ false
    by None is apart rest more = rw is (more apart)
    by (Some other) is apart rest more = rw is (rw (other_id other apart.0 rest) (more apart.1))

pub are_apart : (pool : PoolOf Node) (value : Composition) → composition_of pool ≡ value
    → AreIdsApart value.regions → AreApart pool
are_apart pool value view apart = λ before behind pair region is has.
    apart_in pool (list_of pool 1) before behind pair region
    (subst (λ (c : Composition). AreIdsApart c.regions) (sym view) apart) is has

-- what is written through the nodes is written through what is kept
pub kept_written : (painter : Painter) (content : Content) (pool : PoolOf Node) (regions : List RegionNode)
    (old new : Regions) → AreWritten painter content pool regions old new
    → AreKeptWritten painter content (map (region_kept pool) regions) old new
kept_written painter content pool [] old new same = same
kept_written painter content pool (region ∷ regions) old new (between, written, more) = (
  between,
  written_as region.slot
      (λ x y. last_given (code_by_pair painter (field_runs region.head.depth content.top content.bottom) x y)
      (list_of pool (listings_list region.head.region)))
      (λ x y. last_given (code_by_kept painter (field_runs region.head.depth content.top content.bottom) x y)
      (kept_in listing_in (list_of pool (listings_list region.head.region)))) old between
      (λ x y. written_through painter (field_runs region.head.depth content.top content.bottom) x y
      (list_of pool (listings_list region.head.region))) written,
  kept_written painter content pool regions between new more,
)

-- all that the object writes
pub all_written : (painter : Painter) (content : Content) (pool : PoolOf Node) (value : Composition) (old new : Regions)
    → composition_of pool ≡ value → AreWritten painter content pool (kept_in region_node (list_of pool 1)) old new
    → AreKeptWritten painter content value.regions old new
all_written painter content pool value old new view written =
    subst (λ (c : Composition). AreKeptWritten painter content c.regions old new) view
    (kept_written painter content pool (kept_in region_node (list_of pool 1)) old new written)

-- the slots of all regions have them still
still_has : (pool : PoolOf Node) (store : Regions) (ps : List (NodeId × Node))
    → ((pair : NodeId × Node) → Contains ps pair → HasRegionAt pair.1 store)
    → All (λ (kept : KeptRegion). HasRegion kept.head kept.slot store)
    (map (region_kept pool) (kept_in region_node ps))
still_has pool store [] has = All-nil (λ (kept : KeptRegion). HasRegion kept.head kept.slot store)
still_has pool store (p ∷ ps) has =
    by p.1 (has p (zero, omega arith, refl))
    (still_has pool store ps (λ pair there. has pair (suc there.0, omega (arith, there.1), there.2)))
  where
    by : (item : Node) → HasRegionAt item store
        → All (λ (kept : KeptRegion). HasRegion kept.head kept.slot store)
        (map (region_kept pool) (kept_in region_node ps))
        → All (λ (kept : KeptRegion). HasRegion kept.head kept.slot store)
        (map (region_kept pool) (cons_option (region_node item) (kept_in region_node ps)))
    by (node.Entry entry) here rest = rest
    by (node.Region region) here rest =
        All-cons (λ (kept : KeptRegion). HasRegion kept.head kept.slot store) (region_kept pool region)
        (map (region_kept pool) (kept_in region_node ps)) here rest
    by (node.Listing kept) here rest = rest
    by (node.Clut clut) here rest = rest
    by (node.Colour place) here rest = rest

pub regions_have : (pool : PoolOf Node) (value : Composition) (store : Regions) → composition_of pool ≡ value
    → HaveRegions pool store → All (λ (kept : KeptRegion). HasRegion kept.head kept.slot store) value.regions
regions_have pool value store view has =
    subst (λ (c : Composition). All (λ (kept : KeptRegion). HasRegion kept.head kept.slot store) c.regions) view
    (still_has pool store (list_of pool 1) has)

-- ---- the pool

module _ (painter : Painter) (old new : PoolOf Node) (painted : IsEverywhere painter old new) where
  listed_region : (region : RegionNode) (ps : List (NodeId × Node)) → Contains (kept_in region_node ps) region
      → list_any (is_region_of region.head.region) ps ≡ true
  listed_region region [] there = absurd (omega (arith, there.1))
  listed_region region (p ∷ ps) there = by (region_node p.1) refl there (λ more. listed_region region ps more)
    where
      self : (n : ℕ) → eqb n n ≡ true
      self n = grind (arith, nat_tests)

      or_true : (a b : Bool) → b ≡ true → (a || b) ≡ true
      or_true true b e = refl
      or_true false b e = e

      by : (o : Option RegionNode) → region_node p.1 ≡ o
          → Contains (cons_option o (kept_in region_node ps)) region
          → (Contains (kept_in region_node ps) region → list_any (is_region_of region.head.region) ps ≡ true)
          → (is_region_of region.head.region p || list_any (is_region_of region.head.region) ps) ≡ true
      by None is there more =
          or_true (is_region_of region.head.region p) (list_any (is_region_of region.head.region) ps) (more there)
      by (Some other) is (zero, short, e) more =
          rw is (rw (ap (λ (r : RegionNode). eqb r.head.region region.head.region) e ∙ self region.head.region) refl)
      by (Some other) is (suc k, short, e) more =
          or_true (is_region_of region.head.region p) (list_any (is_region_of region.head.region) ps)
          (more (k, omega (arith, short), e))

  region_is : (region : RegionNode) → list_any (is_region_of region.head.region) (list_of old 1) ≡ true
      → region_kept new region ≡ painted_kept painter (region_kept old region)
  region_is region listed =
      let listings : kept_in listing_in (list_of new (listings_list region.head.region))
      ≡ map (painted_listing painter) (kept_in listing_in (list_of old (listings_list region.head.region)))
      = ap (kept_in listing_in)
      (painted.listings region.head.region
      ∙ ap (λ (b : Bool). painted_where painter b (list_of old (listings_list region.head.region))) listed)
      ∙ listings_of_list painter (list_of old (listings_list region.head.region)) in
      λ i. record { head = region.head; slot = region.slot; listings = listings i }

  regions_are : (regions : List RegionNode)
      → ((region : RegionNode) → Contains regions region
      → list_any (is_region_of region.head.region) (list_of old 1) ≡ true)
      → map (region_kept new) regions ≡ map (painted_kept painter) (map (region_kept old) regions)
  regions_are [] listed = refl
  regions_are (region ∷ regions) listed =
      ap (λ (r : KeptRegion). r ∷ map (region_kept new) regions)
      (region_is region (listed region (zero, omega arith, refl)))
      ∙ ap (λ (rs : List KeptRegion). painted_kept painter (region_kept old region) ∷ rs)
      (regions_are regions (λ other there. listed other (suc there.0, omega (arith, there.1), there.2)))

  -- the composition behind the object
  pub everywhere_composition : (value : Composition) → composition_of old ≡ value
      → composition_of new ≡ with_all_painted painter value
  everywhere_composition value view =
      let regions : map (region_kept new) (kept_in region_node (list_of new 1))
      ≡ map (painted_kept painter) (map (region_kept old) (kept_in region_node (list_of old 1)))
      = ap (λ (ps : List (NodeId × Node)). map (region_kept new) (kept_in region_node ps))
      (painted.low 1 (omega arith))
      ∙ regions_are (kept_in region_node (list_of old 1))
      (λ region there. listed_region region (list_of old 1) there) in
      let same : composition_of new ≡ with_all_painted painter (composition_of old) = λ i. record {
        size = painted.count i;
        entries = kept_in entry_in (painted.low 0 (omega arith) i);
        regions = regions i;
        cluts = kept_in clut_node (painted.low 2 (omega arith) i);
        set_entries = kept_in colour_in (painted.low 3 (omega arith) i);
        free = painted.free i;
      } in
      same ∙ ap (with_all_painted painter) view

  -- each list has items of its kind
  pub everywhere_kept : (region_nodes clut_nodes : List (Option NodeId)) → IsSorted old
      × IsIndexed old region_nodes clut_nodes → IsSorted new × IsIndexed new region_nodes clut_nodes
  everywhere_kept region_nodes clut_nodes kept = (
    record {
      lists = painted.lists ∙ kept.0.lists;
      entries = subst (AreKind entry_in) (sym (painted.low 0 (omega arith))) kept.0.entries;
      regions = subst (AreKind region_node) (sym (painted.low 1 (omega arith))) kept.0.regions;
      cluts = subst (AreKind clut_node) (sym (painted.low 2 (omega arith))) kept.0.cluts;
      colours = subst (AreKind colour_in) (sym (painted.low 3 (omega arith))) kept.0.colours;
      listings =
          λ id low. subst (AreKind listing_in) (sym (painted.listings id))
          (kinds (list_any (is_region_of id) (list_of old 1)) (list_of old (listings_list id))
          (kept.0.listings id low));
    },
    record {
      regions =
          λ n low. kept.1.regions n low
          ∙ ap (λ (ps : List (NodeId × Node)). option_map node_of (find (is_region_of n) ps))
          (sym (painted.low 1 (omega arith)));
      cluts =
          λ n low. kept.1.cluts n low
          ∙ ap (λ (ps : List (NodeId × Node)). option_map node_of (find (is_clut_of n) ps))
          (sym (painted.low 2 (omega arith)));
    },
  )
    where
      kinds : (b : Bool) (ps : List (NodeId × Node)) → AreKind listing_in ps
          → AreKind listing_in (painted_where painter b ps)
      kinds true ps all = kinds_of painter ps all
      kinds false ps all = all
