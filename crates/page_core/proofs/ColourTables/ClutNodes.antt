-- CLUTs and table entries that are set, in a pool.
use Rattle.std.proofs.Common.{◌≡◌, ◌∙◌, inl, inr, Result, Ok, Err, ℕ, ◌-◌, ◌==◌, ◌<◌, Bool, true, false, cond, List, [], ◌∷◌, ◌++◌, find, length, Contains, Option, Some, None, option_map, refl, sym, ap, subst, arith}
use Rattle.std.specs.Prelude.{◌↔◌, IsErr, IfSome, MatchOption, option_and_then, slice_index_or}
use Rattle.std.specs.List.{cons_option}
use Rattle.std.specs.Option.{is_some, option_or, option_map_or}
use Rattle.std.proofs.lemmas.Bool.{cases_eq, eq-eqb, eqb-true, ne_eqb}
use Rattle.std.proofs.lemmas.List.Elements.{All-nil, All-cons, All-append, filter_map-append}
use Rattle.std.proofs.lemmas.List.Folds.{find-append}
use Rattle.comp_pool.specs.declared.fault.Full.{Full}
use Rattle.comp_pool.specs.declared.node.NodeId.{NodeId}
use Rattle.comp_pool.specs.Changes.{pushed}
use Rattle.comp_pool.specs.Pool.{PoolOf, list_of, nodes_of, IsInList, NoneTwice, node_count}
use Rattle.comp_pool.proofs.ItemLaws.{list_after_push, list_beside_push, list_count_after_push}
use Rattle.comp_pool.proofs.NodeLaws.{one_item}
use Rattle.comp_pool.proofs.PairLaws.{pair_node}
use Rattle.page_core.specs.Private.ClutSteps.{IsPushed, IsVersionOf, with_clut, with_cluts, with_colour, with_version}
use Rattle.page_core.specs.Composition.{Composition, KeptClut, clut_in}
use Rattle.page_core.specs.Private.Nodes.{AreKind, IsIndexed, IsSorted, clut_node, colour_in, composition_of, entry_in, is_clut_of, is_region_of, kept_in, listing_in, listings_list, node_of, place_kept, region_node}
use Rattle.page_core.specs.declared.node.Node.{Node}
use Rattle.page_core.specs.declared.node.Node.TheVariants as node
use Rattle.page_core.specs.declared.node.TablePlace.{TablePlace}
use Rattle.page_core.proofs.ColourTables.ColourNodes.{same_regions}
use Rattle.page_core.proofs.Regions.RegionNodes.{found_there}

-- ---- a push

pub pushed_is : {T : Type 0} (l : ℕ) (pair : NodeId × T) (old new : PoolOf T) → new ≡ pushed l pair old
    → l < length old.lists → node_count new ≡ node_count old → IsPushed l pair old new
pushed_is {T} l pair old new is low count = record {
  beside =
      record {
        lists = list_count_after_push old new l pair is;
        others = λ k other. list_beside_push old new l pair k
            is other;
        count = count;
      };
  list = list_after_push old new l pair is low;
  free = ap (λ (pool : PoolOf T). pool.free) is;
}

abbrev pub kind_of : {X : Type 0} → (Node → Option X) → NodeId × Node → Type 0
kind_of kind pair = is_some (kind pair.1) ≡ true

-- ---- one more table entry

module _ (place : TablePlace) (name : NodeId) (old new : PoolOf Node)
    (is : IsPushed 3 (name, node.Colour place) old new) where
  pub colour_pushed_kept : (region_nodes clut_nodes : List (Option NodeId)) → IsSorted old
      × IsIndexed old region_nodes clut_nodes → IsSorted new × IsIndexed new region_nodes clut_nodes
  colour_pushed_kept region_nodes clut_nodes (sorted, indexed) =
      let entries = is.beside.others 0 (λ e. absurd (omega arith)) in
      let regions = is.beside.others 1 (λ e. absurd (omega arith)) in
      let cluts = is.beside.others 2 (λ e. absurd (omega arith)) in
      let pair : NodeId × Node = (name, node.Colour place) in (
        record {
          lists = is.beside.lists ∙ sorted.lists;
          entries = subst (AreKind entry_in) (sym entries) sorted.entries;
          regions = subst (AreKind region_node) (sym regions) sorted.regions;
          cluts = subst (AreKind clut_node) (sym cluts) sorted.cluts;
          colours =
              subst (AreKind colour_in) (sym is.list)
              (All-append (kind_of colour_in) (list_of old 3) (pair ∷ []) sorted.colours
              (All-cons (kind_of colour_in) pair [] refl (All-nil (kind_of colour_in))));
          listings =
              λ id low. subst (AreKind listing_in)
              (sym (is.beside.others (listings_list id) (λ e. absurd (omega arith)))) (sorted.listings id low);
        },
        record {
          regions =
              λ id low. indexed.regions id low
              ∙ ap (λ (ps : List (NodeId × Node)). option_map node_of (find (is_region_of id) ps)) (sym regions);
          cluts =
              λ id low. indexed.cluts id low
              ∙ ap (λ (ps : List (NodeId × Node)). option_map node_of (find (is_clut_of id) ps)) (sym cluts);
        },
      )

  pub colour_pushed_is : (before : Composition) → composition_of old ≡ before
      → composition_of new ≡ with_colour (place_kept place) before
  colour_pushed_is before view =
      let pair : NodeId × Node = (name, node.Colour place) in
      let entries = is.beside.others 0 (λ e. absurd (omega arith)) in
      let regions = is.beside.others 1 (λ e. absurd (omega arith)) in
      let cluts = is.beside.others 2 (λ e. absurd (omega arith)) in
      let listings : (id : ℕ) → list_of new (listings_list id) ≡ list_of old (listings_list id) =
      λ id. is.beside.others (listings_list id) (λ e. absurd (omega arith)) in
      let now : composition_of new ≡ with_colour (place_kept place) (composition_of old) =
      (λ i. record {
        size = is.beside.count i;
        entries = kept_in entry_in (entries i);
        regions = same_regions old new regions listings i;
        cluts = kept_in clut_node (cluts i);
        set_entries =
            (ap (kept_in colour_in) is.list
            ∙ filter_map-append (λ (p : NodeId × Node). colour_in p.1) (list_of old 3) (pair ∷ [])) i;
        free = is.free i;
      }) in
      now ∙ ap (with_colour (place_kept place)) view

-- ---- CLUTs by their ids

abbrev pub item_clut : NodeId × Node → Option KeptClut
item_clut pair = clut_node pair.1

-- a search by id among CLUTs is one among nodes
pub clut_lookup : (id : ℕ) (pairs : List (NodeId × Node))
    → find (λ (kept : KeptClut). kept.clut == id) (kept_in clut_node pairs)
    ≡ option_and_then item_clut (find (is_clut_of id) pairs)
clut_lookup id [] = refl
clut_lookup id (pair ∷ pairs) = by (clut_lookup id pairs) (clut_node pair.1) refl
  where
    by_hit : find (λ (kept : KeptClut). kept.clut == id) (kept_in clut_node pairs)
        ≡ option_and_then item_clut (find (is_clut_of id) pairs) → (kept : KeptClut) (hit : Bool)
        → (kept.clut == id) ≡ hit → clut_node pair.1 ≡ Some kept
        → cond hit (Some kept) (find (λ (kept : KeptClut). kept.clut == id) (kept_in clut_node pairs))
        ≡ option_and_then item_clut (cond hit (Some pair) (find (is_clut_of id) pairs))
    by_hit rest kept true is some = sym some
    by_hit rest kept false is some = rest

    by : find (λ (kept : KeptClut). kept.clut == id) (kept_in clut_node pairs)
        ≡ option_and_then item_clut (find (is_clut_of id) pairs) → (found : Option KeptClut)
        → clut_node pair.1 ≡ found
        → find (λ (kept : KeptClut). kept.clut == id) (kept_in clut_node (pair ∷ pairs))
        ≡ option_and_then item_clut (find (is_clut_of id) (pair ∷ pairs))
    by rest None is =
        ap (λ (o : Option KeptClut). find (λ (kept : KeptClut). kept.clut == id)
        (cons_option o (kept_in clut_node pairs))) is
        ∙ rest
        ∙ sym (ap
        (λ (o : Option KeptClut). option_and_then item_clut
        (cond (option_map_or (λ (kept : KeptClut). kept.clut == id) o false) (Some pair)
        (find (is_clut_of id) pairs))) is)
    by rest (Some kept) is =
        ap (λ (o : Option KeptClut). find (λ (kept : KeptClut). kept.clut == id)
        (cons_option o (kept_in clut_node pairs))) is
        ∙ by_hit rest kept (kept.clut == id) refl is
        ∙ sym (ap
        (λ (o : Option KeptClut). option_and_then item_clut
        (cond (option_map_or (λ (kept : KeptClut). kept.clut == id) o false) (Some pair)
        (find (is_clut_of id) pairs))) is)

-- a node that the search finds is in the list
pub clut_listed : (pool : PoolOf Node) (id : ℕ) (name : Option NodeId)
    → name ≡ option_map node_of (find (is_clut_of id) (list_of pool 2))
    → IfSome name (λ node. IsInList pool 2 node)
unfolding IsInList
clut_listed pool id name is =
    subst (λ (o : Option NodeId). IfSome o (λ node. Contains (nodes_of (list_of pool 2)) node)) (sym is)
    (by (find (is_clut_of id) (list_of pool 2)) refl)
  where
    by : (found : Option (NodeId × Node)) → find (is_clut_of id) (list_of pool 2) ≡ found
        → IfSome (option_map node_of found) (λ node. Contains (nodes_of (list_of pool 2)) node)
    by None is = tt
    by (Some pair) is =
        pair_node (list_of pool 2) pair.0 pair.1 (found_there (is_clut_of id) (list_of pool 2) pair is).0

abbrev pub version_of : KeptClut → ℕ
version_of kept = kept.version

-- what the node of the table has is the version of the CLUT
pub version_is : (pool : PoolOf Node) (id : ℕ) (name : Option NodeId) (found : Option ℕ) (value : Composition)
    → composition_of pool ≡ value → name ≡ option_map node_of (find (is_clut_of id) (list_of pool 2))
    → NoneTwice pool → IsVersionOf pool name found → found ≡ option_map version_of (clut_in value id)
version_is pool id name found value view is one has =
    by (find (is_clut_of id) (list_of pool 2)) refl (subst (λ (o : Option NodeId). IsVersionOf pool o found) is has)
    ∙ ap (λ (c : Composition). option_map version_of (clut_in c id)) view
  where
    by : (pair : Option (NodeId × Node)) → find (is_clut_of id) (list_of pool 2) ≡ pair
        → IsVersionOf pool (option_map node_of pair) found
        → found ≡ option_map version_of (clut_in (composition_of pool) id)
    by None at none =
        none ∙ sym
        (ap (option_map version_of) (clut_lookup id (list_of pool 2) ∙ ap (option_and_then item_clut) at))
    by (Some pair) at (item, contains, is_found) =
        let there = found_there (is_clut_of id) (list_of pool 2) pair at in
        let same : item ≡ pair.1 = one_item pool 2 2 pair.0 item pair.1 one contains there.0 in
        is_found ∙ ap (λ (n : Node). option_map version_of (clut_node n)) same
        ∙ sym (ap (option_map version_of) (clut_lookup id (list_of pool 2) ∙ ap (option_and_then item_clut) at))

-- ---- a push that may find no node

not_none : (n : ℕ) → (n ≡ 0 → ⊥) → 0 < n
not_none n some = elim (cases_eq n 0) [
  | inl none ↦ absurd (some none)
  | inr other ↦ omega (arith, other)
]

pub room_for_push : (free : ℕ) (name : NodeId) (answer : Result NodeId Full) → answer ≡ Ok name
    → IsErr answer ↔ (free ≡ 0) → 0 < free
room_for_push free name (Ok other) is full = not_none free (λ none. let bad = full.1 none in absurd (cc))
room_for_push free name (Err other) is full = absurd (cc)

-- what a pool keeps is kept by one more table entry, whether there was a node or not
pub kept_by_colour : (place : TablePlace) (found : Option NodeId) (old new : PoolOf Node)
    (region_nodes clut_nodes : List (Option NodeId)) → IsSorted old × IsIndexed old region_nodes clut_nodes
    → MatchOption found ((old.free ≡ 0) × (new ≡ old))
    (λ name. (0 < old.free) × IsPushed 3 (name, node.Colour place) old new) → IsSorted new
    × IsIndexed new region_nodes clut_nodes
kept_by_colour place None old new region_nodes clut_nodes kept (full, same) =
    subst (λ (pool : PoolOf Node). IsSorted pool × IsIndexed pool region_nodes clut_nodes) (sym same) kept
kept_by_colour place (Some name) old new region_nodes clut_nodes kept (room, is) =
    colour_pushed_kept place name old new is region_nodes clut_nodes kept

pub set_by_colour : (place : TablePlace) (found : Option NodeId) (old new : PoolOf Node) (before : Composition)
    → composition_of old ≡ before
    → MatchOption found ((old.free ≡ 0) × (new ≡ old))
    (λ name. (0 < old.free) × IsPushed 3 (name, node.Colour place) old new)
    → MatchOption found ((before.free ≡ 0) × (composition_of new ≡ before))
    (λ name. (0 < before.free) × (composition_of new ≡ with_colour (place_kept place) before))
set_by_colour place None old new before view (full, same) =
    (ap (λ (c : Composition). c.free) (sym view) ∙ full, ap composition_of same ∙ view)
set_by_colour place (Some name) old new before view (room, is) =
    (subst (λ (c : Composition). 0 < c.free) view room, colour_pushed_is place name old new is before view)

-- ---- one more CLUT

abbrev pub clut_item : ℕ → ℕ → Node
clut_item id version = node.Clut (record { clut = id; version = version })

abbrev pub is_of_id : ℕ → KeptClut → Bool
is_of_id id kept = kept.clut == id

pub first_named : (id : ℕ) (pool : PoolOf Node) (found : Option (NodeId × Node))
    → find (is_clut_of id) (list_of pool 2) ≡ found
    → clut_in (composition_of pool) id ≡ option_and_then item_clut found
first_named id pool found is = clut_lookup id (list_of pool 2) ∙ ap (option_and_then item_clut) is

module _ (id version : ℕ) (name : NodeId) (old new : PoolOf Node)
    (is : IsPushed 2 (name, clut_item id version) old new) (none : find (is_clut_of id) (list_of old 2) ≡ None) where
  pub clut_pushed_kept : (region_nodes clut_nodes new_nodes : List (Option NodeId)) → IsSorted old
      × IsIndexed old region_nodes clut_nodes
      → ((other : ℕ) → other < 256
      → slice_index_or new_nodes other None
      ≡ cond (id == other) (Some name) (slice_index_or clut_nodes other None)) → IsSorted new
      × IsIndexed new region_nodes new_nodes
  clut_pushed_kept region_nodes clut_nodes new_nodes (sorted, indexed) set =
      let entries = is.beside.others 0 (λ e. absurd (omega arith)) in
      let regions = is.beside.others 1 (λ e. absurd (omega arith)) in
      let colours = is.beside.others 3 (λ e. absurd (omega arith)) in (
        record {
          lists = is.beside.lists ∙ sorted.lists;
          entries = subst (AreKind entry_in) (sym entries) sorted.entries;
          regions = subst (AreKind region_node) (sym regions) sorted.regions;
          cluts =
              subst (AreKind clut_node) (sym is.list)
              (All-append (kind_of clut_node) (list_of old 2) ((name, clut_item id version) ∷ []) sorted.cluts
              (All-cons (kind_of clut_node) (name, clut_item id version) [] refl (All-nil (kind_of clut_node))));
          colours = subst (AreKind colour_in) (sym colours) sorted.colours;
          listings =
              λ other low. subst (AreKind listing_in)
              (sym (is.beside.others (listings_list other) (λ e. absurd (omega arith)))) (sorted.listings other low);
        },
        record {
          regions =
              λ other low. indexed.regions other low
              ∙ ap (λ (ps : List (NodeId × Node)). option_map node_of (find (is_region_of other) ps)) (sym regions);
          cluts = λ other low.
              set other low ∙ by other (id == other) refl (indexed.cluts other low)
              ∙ ap (option_map node_of)
              (sym (ap (find (is_clut_of other)) is.list
              ∙ find-append (is_clut_of other) (list_of old 2) ((name, clut_item id version) ∷ [])));
        },
      )
    where
      right : (o : Option (NodeId × Node)) → option_or o None ≡ o
      right None = refl
      right (Some p) = refl

      by : (other : ℕ) (hit : Bool) → (id == other) ≡ hit
          → slice_index_or clut_nodes other None ≡ option_map node_of (find (is_clut_of other) (list_of old 2))
          → cond (id == other) (Some name) (slice_index_or clut_nodes other None)
          ≡ option_map node_of
          (option_or (find (is_clut_of other) (list_of old 2))
          (cond (id == other) (Some (name, clut_item id version)) None))
      by other true same was =
          rw same (ap
          (λ (o : Option (NodeId × Node)). option_map node_of (option_or o (Some (name, clut_item id version))))
          (sym (ap (λ n. find (is_clut_of n) (list_of old 2)) (sym (eqb-true id other same)) ∙ none)))
      by other false differs was =
          rw differs (was ∙ ap (option_map node_of) (sym (right (find (is_clut_of other) (list_of old 2)))))

  pub clut_pushed_is : (before : Composition) → 0 < old.free → composition_of old ≡ before
      → composition_of new ≡ with_clut id version before
  clut_pushed_is before room view =
      let entries = is.beside.others 0 (λ e. absurd (omega arith)) in
      let regions = is.beside.others 1 (λ e. absurd (omega arith)) in
      let colours = is.beside.others 3 (λ e. absurd (omega arith)) in
      let listings : (other : ℕ) → list_of new (listings_list other) ≡ list_of old (listings_list other) =
      λ other. is.beside.others (listings_list other) (λ e. absurd (omega arith)) in
      let kept : KeptClut = record { clut = id; version = version } in
      let now : composition_of new
      ≡ with_cluts ((composition_of old).cluts ++ kept ∷ []) (old.free - 1) (composition_of old) =
      (λ i. record {
        size = is.beside.count i;
        entries = kept_in entry_in (entries i);
        regions = same_regions old new regions listings i;
        cluts =
            (ap (kept_in clut_node) is.list
            ∙ filter_map-append (λ (p : NodeId × Node). clut_node p.1) (list_of old 2)
            ((name, clut_item id version) ∷ [])) i;
        set_entries = kept_in colour_in (colours i);
        free = is.free i;
      }) in
      let unknown : is_some (clut_in (composition_of old) id) ≡ false = ap is_some (first_named id old None none) in
      let some : (old.free == 0) ≡ false = ne_eqb old.free 0 (λ e. omega arith) in
      now ∙ sym
      (ap (λ b. cond b
      (with_cluts (with_version id version (composition_of old).cluts) old.free (composition_of old))
      (cond (old.free == 0) (composition_of old)
      (with_cluts ((composition_of old).cluts ++ kept ∷ []) (old.free - 1) (composition_of old)))) unknown
      ∙ ap (λ b. cond b (composition_of old)
      (with_cluts ((composition_of old).cluts ++ kept ∷ []) (old.free - 1) (composition_of old))) some)
      ∙ ap (with_clut id version) view

-- no node is free for it
pub clut_left_out : (id version : ℕ) (old new : PoolOf Node) (before : Composition)
    → find (is_clut_of id) (list_of old 2) ≡ None → old.free ≡ 0 → new ≡ old
    → composition_of old ≡ before → composition_of new ≡ with_clut id version before
clut_left_out id version old new before none full same view =
    let kept : KeptClut = record { clut = id; version = version } in
    let unknown : is_some (clut_in (composition_of old) id) ≡ false = ap is_some (first_named id old None none) in
    let no_room : (old.free == 0) ≡ true = eq-eqb old.free 0 full in
    ap composition_of same
    ∙ sym (ap
    (λ b. cond b (with_cluts (with_version id version (composition_of old).cluts) old.free (composition_of old))
    (cond (old.free == 0) (composition_of old)
    (with_cluts ((composition_of old).cluts ++ kept ∷ []) (old.free - 1) (composition_of old)))) unknown
    ∙ ap (λ b. cond b (composition_of old)
    (with_cluts ((composition_of old).cluts ++ kept ∷ []) (old.free - 1) (composition_of old))) no_room)
    ∙ ap (with_clut id version) view
