-- A CLUT that is known gets its further entries, in the nodes of a pool.
use Rattle.std.proofs.Common.{◌≡◌, ◌∙◌, ℕ, ◌-◌, ◌==◌, Bool, true, false, cond, List, [], ◌∷◌, ◌++◌, find, map, Option, Some, None, option_map, refl, sym, ap, subst, arith}
use Rattle.std.specs.Prelude.{option_and_then}
use Rattle.std.specs.List.{cons_option}
use Rattle.std.specs.Option.{is_some, option_or, option_map_or}
use Rattle.std.proofs.lemmas.Bool.{eqb-true}
use Rattle.std.proofs.lemmas.List.Elements.{All-nil, All-cons, All-head, All-tail, All-append, filter_map-append}
use Rattle.std.proofs.lemmas.List.Folds.{find-append}
use Rattle.comp_pool.specs.declared.node.NodeId.{NodeId}
use Rattle.comp_pool.specs.Changes.{replaced, with_item}
use Rattle.comp_pool.specs.Pool.{PoolOf, list_of, IsInList, NoneTwice, node_count}
use Rattle.comp_pool.proofs.ItemLaws.{in_list_from_item, list_after_set}
use Rattle.comp_pool.proofs.PairLaws.{AtOne, off_before, off_after, replaced_split}
use Rattle.page_core.specs.Private.ClutSteps.{with_clut, with_cluts, with_version}
use Rattle.page_core.specs.Composition.{Composition, KeptClut, clut_in}
use Rattle.page_core.specs.Private.Lists.{KeepsBeside}
use Rattle.page_core.specs.Private.Nodes.{AreKind, IsIndexed, IsSorted, clut_node, colour_in, composition_of, entry_in, is_clut_of, is_region_of, kept_in, listing_in, listings_list, node_of, region_node}
use Rattle.page_core.specs.declared.node.Node.{Node}
use Rattle.page_core.proofs.ColourTables.ColourNodes.{same_regions}
use Rattle.page_core.proofs.Regions.RegionNodes.{found_there}
use Rattle.page_core.proofs.Objects.Rewriting.{keeps_set}
use Rattle.page_core.proofs.ColourTables.ClutNodes.{kind_of, item_clut, clut_lookup, clut_item, is_of_id, first_named}

-- ---- a CLUT that is known

-- a list with what is before the first item that passes a test
record IsFoundAt {X : Type 0} (test : X → Bool) (xs : List X) (x : X) : Type 0 where
  before : List X
  behind : List X
  is : xs ≡ before ++ x ∷ behind
  none : find test before ≡ None
  hit : test x ≡ true

found_at : {X : Type 0} (test : X → Bool) (xs : List X) (x : X) → find test xs ≡ Some x → IsFoundAt test xs x
found_at test [] x is = absurd (cc)
found_at {X} test (y ∷ ys) x is = by (found_at test ys x) (test y) refl is
  where
    by : (find test ys ≡ Some x → IsFoundAt test ys x) → (hit : Bool) → test y ≡ hit
        → cond hit (Some y) (find test ys) ≡ Some x → IsFoundAt test (y ∷ ys) x
    by more true at e =
        let same : y
        ≡ x = cc in
        record { before = []; behind = ys; is = ap (λ z. z ∷ ys) same; none = refl; hit = sym (ap test same) ∙ at }
    by more false at e =
        let rest = more e in
        record {
          before = y
              ∷ rest.before;
          behind = rest.behind;
          is = ap (λ zs. y ∷ zs) rest.is;
          none = ap
              (λ b. cond b (Some y) (find test rest.before)) at ∙ rest.none;
          hit = rest.hit;
        }

-- the version changes at the first CLUT of the id
changed_at : (id version : ℕ) (before behind : List KeptClut) (kept : KeptClut)
    → find (is_of_id id) before ≡ None → (kept.clut == id) ≡ true
    → with_version id version (before ++ kept ∷ behind) ≡ before ++ record { clut = id; version = version }
    ∷ behind
changed_at id version [] behind kept none hit = rw hit refl
changed_at id version (k ∷ before) behind kept none hit =
    by (k.clut == id) refl none (changed_at id version before behind kept)
  where
    by : (b : Bool) → (k.clut == id) ≡ b → cond b (Some k) (find (is_of_id id) before) ≡ None
        → (find (is_of_id id) before ≡ None → (kept.clut == id) ≡ true
        → with_version id version (before ++ kept ∷ behind) ≡ before ++ record { clut = id; version = version }
        ∷ behind)
        → with_version id version ((k ∷ before) ++ kept ∷ behind) ≡ (k ∷ before)
        ++ record { clut = id; version = version } ∷ behind
    by true is none rest = absurd (cc)
    by false is none rest = rw is (ap (λ ks. k ∷ ks) (rest none hit))

none_kept : (id : ℕ) (pairs : List (NodeId × Node)) → find (is_clut_of id) pairs ≡ None
    → find (is_of_id id) (kept_in clut_node pairs) ≡ None
none_kept id pairs none = clut_lookup id pairs ∙ ap (option_and_then item_clut) none

clut_some : (id : ℕ) (item : Node) (found : Option KeptClut) → clut_node item ≡ found
    → option_map_or (is_of_id id) found false ≡ true → (kept : KeptClut) × (clut_node item ≡ Some kept)
    × ((kept.clut == id) ≡ true)
clut_some id item (Some kept) is hit = (kept, is, hit)
clut_some id item None is hit = absurd (cc)

module _ (id version : ℕ) (name : NodeId) (old new : PoolOf Node) (one : NoneTwice old)
    (is : new ≡ replaced name (clut_item id version) old) (count : node_count new ≡ node_count old)
    (found : NodeId × Node) (at : find (is_clut_of id) (list_of old 2) ≡ Some found) (named : found.0 ≡ name) where
  split : IsFoundAt (is_clut_of id) (list_of old 2) found
  split = found_at (is_clut_of id) (list_of old 2) found at

  pair_was : found ≡ (name, found.1)
  pair_was = ap (λ (m : NodeId). let q : NodeId × Node = (m, found.1) in q) named

  was : list_of old 2 ≡ split.before ++ (name, found.1) ∷ split.behind
  was = split.is ∙ ap (λ (q : NodeId × Node). split.before ++ q ∷ split.behind) pair_was

  listed : IsInList old 2 name
  listed =
      subst (IsInList old 2) named
      (in_list_from_item old 2 found.0 found.1 (found_there (is_clut_of id) (list_of old 2) found at).0)

  at_one : AtOne name (split.before ++ (name, found.1) ∷ split.behind)
  at_one = subst (AtOne name) was (λ i j e f. (one 2 2 i j name e f).1)

  list_now : list_of new 2 ≡ split.before ++ (name, clut_item id version) ∷ split.behind
  list_now =
      list_after_set old new 2 name (clut_item id version) is ∙ ap (map (with_item name (clut_item id version))) was
      ∙ replaced_split name found.1 (clut_item id version) split.before split.behind
      (off_before name found.1 split.before split.behind at_one)
      (off_after name found.1 split.before split.behind at_one)

  beside : KeepsBeside 2 old new
  beside = keeps_set old new 2 name (clut_item id version) is one listed count

  known : (kept : KeptClut) × (clut_node found.1 ≡ Some kept) × ((kept.clut == id) ≡ true)
  known = clut_some id found.1 (clut_node found.1) refl split.hit

  -- by another id it is found as it was
  found_as_before : (other : ℕ)
      → option_map node_of (find (is_clut_of other) (list_of new 2))
      ≡ option_map node_of (find (is_clut_of other) (list_of old 2))
  found_as_before other =
      ap (λ (ps : List (NodeId × Node)). option_map node_of (find (is_clut_of other) ps)) list_now
      ∙ ap (option_map node_of)
      (find-append (is_clut_of other) split.before ((name, clut_item id version) ∷ split.behind))
      ∙ by (find (is_clut_of other) split.before) (id == other)
      (ap (λ (o : Option KeptClut). option_map_or (is_of_id other) o false) known.1
      ∙ ap (λ n. n == other) (eqb-true known.0.clut id known.2))
      ∙ sym (ap (λ (ps : List (NodeId × Node)). option_map node_of (find (is_clut_of other) ps)) was
      ∙ ap (option_map node_of) (find-append (is_clut_of other) split.before ((name, found.1) ∷ split.behind)))
    where
      by : (first : Option (NodeId × Node)) (hit : Bool) → is_clut_of other (name, found.1) ≡ hit
          → option_map node_of
          (option_or first (cond hit (Some (name, clut_item id version)) (find (is_clut_of other) split.behind)))
          ≡ option_map node_of
          (option_or first
          (cond (is_clut_of other (name, found.1)) (Some (name, found.1)) (find (is_clut_of other) split.behind)))
      by (Some p) hit is = refl
      by None true is = rw is refl
      by None false is = rw is refl

  pub clut_replaced_kept : (region_nodes clut_nodes : List (Option NodeId)) → IsSorted old
      × IsIndexed old region_nodes clut_nodes → IsSorted new × IsIndexed new region_nodes clut_nodes
  clut_replaced_kept region_nodes clut_nodes (sorted, indexed) =
      let entries = beside.others 0 (λ e. absurd (omega arith)) in
      let regions = beside.others 1 (λ e. absurd (omega arith)) in
      let colours = beside.others 3 (λ e. absurd (omega arith)) in
      let before =
      kinds_before split.before ((name, found.1) ∷ split.behind) (subst (AreKind clut_node) was sorted.cluts) in
      let all = All-append (kind_of clut_node) split.before ((name, clut_item id version) ∷ split.behind) before.0
      (All-cons (kind_of clut_node) (name, clut_item id version) split.behind refl
      (All-tail (kind_of clut_node) (name, found.1) split.behind before.1)) in (
        record {
          lists = beside.lists ∙ sorted.lists;
          entries = subst (AreKind entry_in) (sym entries) sorted.entries;
          regions = subst (AreKind region_node) (sym regions) sorted.regions;
          cluts = subst (AreKind clut_node) (sym list_now) all;
          colours = subst (AreKind colour_in) (sym colours) sorted.colours;
          listings =
              λ other low. subst (AreKind listing_in)
              (sym (beside.others (listings_list other) (λ e. absurd (omega arith)))) (sorted.listings other low);
        },
        record {
          regions =
              λ other low. indexed.regions other low
              ∙ ap (λ (ps : List (NodeId × Node)). option_map node_of (find (is_region_of other) ps)) (sym regions);
          cluts = λ other low. indexed.cluts other low ∙ sym (found_as_before other);
        },
      )
    where
      kinds_before : (us vs : List (NodeId × Node)) → AreKind clut_node (us ++ vs) → AreKind clut_node us
          × AreKind clut_node vs
      kinds_before [] vs all = (All-nil (kind_of clut_node), all)
      kinds_before (u ∷ us) vs all =
          let rest = kinds_before us vs (All-tail (kind_of clut_node) u (us ++ vs) all) in
          (All-cons (kind_of clut_node) u us (All-head (kind_of clut_node) u (us ++ vs) all) rest.0, rest.1)

  pub clut_replaced_is : (before : Composition) → composition_of old ≡ before
      → composition_of new ≡ with_clut id version before
  clut_replaced_is before view =
      let entries = beside.others 0 (λ e. absurd (omega arith)) in
      let regions = beside.others 1 (λ e. absurd (omega arith)) in
      let colours = beside.others 3 (λ e. absurd (omega arith)) in
      let listings : (other : ℕ) → list_of new (listings_list other) ≡ list_of old (listings_list other) =
      λ other. beside.others (listings_list other) (λ e. absurd (omega arith)) in
      let kept : KeptClut = record { clut = id; version = version } in
      let as_clut : NodeId × Node → Option KeptClut = λ p. clut_node p.1 in
      let cluts_were : (composition_of old).cluts ≡ kept_in clut_node split.before ++ known.0
      ∷ kept_in clut_node split.behind =
      ap (kept_in clut_node) was ∙ filter_map-append as_clut split.before ((name, found.1) ∷ split.behind)
      ∙ ap (λ (o : Option KeptClut). kept_in clut_node split.before
      ++ cons_option o (kept_in clut_node split.behind)) known.1 in
      let cluts_are : kept_in clut_node (list_of new 2) ≡ with_version id version (composition_of old).cluts =
      ap (kept_in clut_node) list_now
      ∙ filter_map-append as_clut split.before ((name, clut_item id version) ∷ split.behind)
      ∙ sym (ap (with_version id version) cluts_were
      ∙ changed_at id version (kept_in clut_node split.before) (kept_in clut_node split.behind) known.0
      (none_kept id split.before split.none) known.2) in
      let now : composition_of new
      ≡ with_cluts (with_version id version (composition_of old).cluts) old.free (composition_of old) =
      (λ i. record {
        size = beside.count i;
        entries = kept_in entry_in (entries i);
        regions = same_regions old new regions listings i;
        cluts = cluts_are i;
        set_entries = kept_in colour_in (colours i);
        free = (ap (λ (pool : PoolOf Node). pool.free) is) i;
      }) in
      let some : is_some (clut_in (composition_of old) id) ≡ true =
      ap is_some (first_named id old (Some found) at ∙ known.1) in
      now ∙ sym
      (ap (λ b. cond b
      (with_cluts (with_version id version (composition_of old).cluts) old.free (composition_of old))
      (cond (old.free == 0) (composition_of old)
      (with_cluts ((composition_of old).cluts ++ kept ∷ []) (old.free - 1) (composition_of old)))) some)
      ∙ ap (with_clut id version) view

-- ---- by the node of the table

mapped_some : {X Y : Type 0} (f : X → Y) (o : Option X) (y : Y) → Some y ≡ option_map f o → (x : X)
    × (o ≡ Some x) × (f x ≡ y)
mapped_some f (Some x) y is = (x, refl, (let same : y ≡ f x = cc in sym same))
mapped_some f None y is = absurd (cc)

pub mapped_none : {X Y : Type 0} (f : X → Y) (o : Option X) → None ≡ option_map f o → o ≡ None
mapped_none f None is = refl
mapped_none f (Some x) is = absurd (cc)

pub replaced_kept : (id version : ℕ) (name : NodeId) (old new : PoolOf Node)
    (region_nodes clut_nodes : List (Option NodeId)) → NoneTwice old
    → new ≡ replaced name (clut_item id version) old → node_count new ≡ node_count old
    → Some name ≡ option_map node_of (find (is_clut_of id) (list_of old 2)) → IsSorted old
    × IsIndexed old region_nodes clut_nodes → IsSorted new × IsIndexed new region_nodes clut_nodes
replaced_kept id version name old new region_nodes clut_nodes one is count at kept =
    let found =
    mapped_some node_of (find (is_clut_of id) (list_of old 2)) name at in clut_replaced_kept id version name old new
    one is count found.0 found.1 found.2 region_nodes clut_nodes kept

pub replaced_is : (id version : ℕ) (name : NodeId) (old new : PoolOf Node) (before : Composition) → NoneTwice old
    → new ≡ replaced name (clut_item id version) old → node_count new ≡ node_count old
    → Some name ≡ option_map node_of (find (is_clut_of id) (list_of old 2)) → composition_of old ≡ before
    → composition_of new ≡ with_clut id version before
replaced_is id version name old new before one is count at view =
    let found =
    mapped_some node_of (find (is_clut_of id) (list_of old 2)) name at in clut_replaced_is id version name old new
    one is count found.0 found.1 found.2 before view
