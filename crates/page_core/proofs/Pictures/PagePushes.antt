-- The entries of a page put into a pool, one after another.
use Rattle.std.proofs.Common.{◌≡◌, ◌≢◌, ◌∙◌, ℕ, zero, suc, ◌+◌, ◌-◌, ◌<◌, ◌≤◌, true, List, [], ◌∷◌, ◌++◌, length, map, take, Option, Some, None, Result, Ok, Err, refl, sym, ap, subst, arith}
use Rattle.std.specs.Prelude.{IfOk, IsErr, ◌↔◌}
use Rattle.std.specs.List.{slice_get, cons_option}
use Rattle.std.specs.Option.{is_some}
use Rattle.std.proofs.lemmas.List.{get_or-set_same, get_or-set_other, length-set}
use Rattle.std.proofs.lemmas.List.Elements.{All-nil, All-cons, All-head, All-tail, All-append, filter_map-append}
use Rattle.stream_syntax.specs.declared.page.PageEntry.{PageEntry}
use Rattle.comp_pool.specs.Pool.{PoolOf, list_of, node_count}
use Rattle.comp_pool.specs.Changes.{pushed, cleared}
use Rattle.comp_pool.specs.declared.fault.Full.{Full}
use Rattle.comp_pool.specs.declared.node.NodeId.{NodeId}
use Rattle.page_core.specs.Composition.{Composition, with_entries}
use Rattle.page_core.specs.Private.Lists.{KeepsBeside}
use Rattle.page_core.specs.Private.Nodes.{AreKind, IsSorted, clut_node, colour_in, composition_of, entry_in, kept_in, listing_in, listings_list, region_kept, region_node}
use Rattle.page_core.specs.Private.PageEntries.{HasEntries}
use Rattle.page_core.specs.declared.node.Node.{Node}
use Rattle.page_core.specs.declared.node.Node.TheVariants as node
use Rattle.page_core.specs.declared.node.RegionNode.{RegionNode}

pub take_one : {X : Type 0} (xs : List X) (i : ℕ) (x : X) → slice_get xs i ≡ Some x
    → take (i + 1) xs ≡ take i xs ++ x ∷ []
take_one [] i x is = absurd (cc)
take_one (y ∷ ys) zero x is = ap (λ z. z ∷ []) (let same : y ≡ x = cc in same)
take_one (y ∷ ys) (suc i) x is =
    ap (λ n. take n (y ∷ ys)) (let same : suc i + 1 ≡ suc (i + 1) = omega arith in same)
    ∙ ap (λ zs. y ∷ zs) (take_one ys i x is)

-- how far the entries are put in
pub record HasSome (entries : List PageEntry) (count : ℕ) (old new : PoolOf Node) : Type 0 where
  pub beside : KeepsBeside 0 old new
  pub list : 0 < length new.lists
  pub kinds : AreKind entry_in (list_of new 0)
  pub are : kept_in entry_in (list_of new 0) ≡ take count entries
  pub free : new.free + count ≡ old.free

pub none_yet : (entries : List PageEntry) (pool : PoolOf Node) → 0 < length pool.lists → list_of pool 0 ≡ []
    → HasSome entries 0 pool pool
none_yet entries pool list empty = record {
  beside = record { lists = refl; others = λ k other. refl; count = refl };
  list = list;
  kinds =
      subst (AreKind entry_in) (sym empty) (All-nil (λ (pair : NodeId × Node). is_some (entry_in pair.1) ≡ true));
  are = ap (kept_in entry_in) empty;
  free = omega arith;
}

one_more : (entries : List PageEntry) (i : ℕ) (entry : PageEntry) (name : NodeId) (old now new : PoolOf Node)
    → slice_get entries i ≡ Some entry → new ≡ pushed 0 (name, node.Entry entry) now
    → node_count new ≡ node_count now → 0 < now.free
    → HasSome entries i old now → HasSome entries (i + 1) old new
one_more entries i entry name old now new is put count room has =
    let pair : NodeId × Node = (name, node.Entry entry) in
    let list : list_of new 0 ≡ list_of now 0 ++ pair ∷ [] =
    ap (λ (pool : PoolOf Node). list_of pool 0) put
    ∙ get_or-set_same now.lists 0 (list_of now 0 ++ pair ∷ []) [] has.list in
    let kind : NodeId × Node → Type 0 = λ p. is_some (entry_in p.1) ≡ true in
    let lists : length new.lists ≡ length now.lists =
    ap (λ (pool : PoolOf Node). length pool.lists) put ∙ length-set now.lists 0 (list_of now 0 ++ pair ∷ []) in
    let free : new.free ≡ now.free - 1 = ap (λ (pool : PoolOf Node). pool.free) put in
    record {
      beside = record {
        lists = lists ∙ has.beside.lists;
        others =
            λ k other. ap (λ (pool : PoolOf Node). list_of pool k) put
            ∙ get_or-set_other now.lists 0 k (list_of now 0 ++ pair ∷ []) [] other ∙ has.beside.others k other;
        count = count ∙ has.beside.count;
      };
      list = omega (arith, lists, has.list);
      kinds =
          subst (AreKind entry_in) (sym list)
          (All-append kind (list_of now 0) (pair ∷ []) has.kinds (All-cons kind pair [] refl (All-nil kind)));
      are =
          ap (kept_in entry_in) list
          ∙ filter_map-append (λ (p : NodeId × Node). entry_in p.1) (list_of now 0) (pair ∷ [])
          ∙ ap (λ found. found ++ entry ∷ []) has.are ∙ sym (take_one entries i entry is);
      free = omega (arith, free, room, has.free);
    }

-- one more entry is put in, as a node is free
pub pushed_entry : (entries : List PageEntry) (i : ℕ) (entry : PageEntry) (old now new : PoolOf Node)
    (answer : Result NodeId Full) → slice_get entries i ≡ Some entry → i < length entries
    → length entries ≤ old.free
    → IfOk answer (λ name. new ≡ pushed 0 (name, node.Entry entry) now) → IsErr answer ↔ (now.free ≡ 0)
    → node_count new ≡ node_count now → HasSome entries i old now → HasSome entries (i + 1) old new
pushed_entry entries i entry old now new (Ok name) is low room put full count has =
    one_more entries i entry name old now new is put count (omega (arith, has.free)) has
pushed_entry entries i entry old now new (Err fault) is low room put full count has =
    absurd (let none : now.free ≡ 0 = full.0 refl in omega (arith, has.free))

-- ---- in place of those that were there

-- list 0 is empty and its nodes are free, and nothing else is changed
pub record IsEmptied (old new : PoolOf Node) : Type 0 where
  pub beside : KeepsBeside 0 old new
  pub empty : list_of new 0 ≡ []
  pub free : new.free ≡ old.free + length (list_of old 0)

pub cleared_first : (old new : PoolOf Node) → 0 < length old.lists → new ≡ cleared 0 old
    → node_count new ≡ node_count old → IsEmptied old new
cleared_first old new list is count = record {
  beside = record {
    lists = ap (λ (pool : PoolOf Node). length pool.lists) is ∙ length-set old.lists 0 [];
    others = λ k other. ap (λ (pool : PoolOf Node). list_of pool k) is ∙ get_or-set_other old.lists 0 k [] [] other;
    count = count;
  };
  empty = ap (λ (pool : PoolOf Node). list_of pool 0) is ∙ get_or-set_same old.lists 0 [] [] list;
  free = ap (λ (pool : PoolOf Node). pool.free) is;
}

-- an empty list has no entries
pub no_entries : (pool : PoolOf Node) → list_of pool 0 ≡ [] → HasEntries [] pool pool
no_entries pool empty = record {
  beside = record { lists = refl; others = λ k other. refl; count = refl };
  kinds =
      subst (AreKind entry_in) (sym empty) (All-nil (λ (pair : NodeId × Node). is_some (entry_in pair.1) ≡ true));
  are = ap (kept_in entry_in) empty;
  free = omega arith;
}

-- as many entries as nodes, where all are entries
pub entries_counted : (pairs : List (NodeId × Node)) → AreKind entry_in pairs
    → length (kept_in entry_in pairs) ≡ length pairs
entries_counted [] all = refl
entries_counted (pair ∷ pairs) all =
    by (entry_in pair.1) refl (All-head kind pair pairs all) (entries_counted pairs (All-tail kind pair pairs all))
  where
    kind : NodeId × Node → Type 0
    kind p = is_some (entry_in p.1) ≡ true

    by : (found : Option PageEntry) → entry_in pair.1 ≡ found → is_some (entry_in pair.1) ≡ true
        → length (kept_in entry_in pairs) ≡ length pairs
        → length (cons_option (entry_in pair.1) (kept_in entry_in pairs)) ≡ suc (length pairs)
    by (Some entry) is some rest =
        ap (λ (o : Option PageEntry). length (cons_option o (kept_in entry_in pairs))) is ∙ ap suc rest
    by None is some rest = absurd (let e = sym (ap is_some is) ∙ some in cc)

-- the pool has the entries of a page in the place of those that were there
pub value_with_entries : (entries : List PageEntry) (old mid new : PoolOf Node) (before : Composition)
    → composition_of old ≡ before → IsSorted old → IsEmptied old mid → HasEntries entries mid new
    → composition_of new ≡ with_entries entries before
value_with_entries entries old mid new before view sorted emptied has =
    let same : (k : ℕ) → k ≢ 0 → list_of new k ≡ list_of old k =
    λ k other. has.beside.others k other ∙ emptied.beside.others k other in
    let regions = same 1 (λ e. absurd (omega arith)) in
    let cluts = same 2 (λ e. absurd (omega arith)) in
    let colours = same 3 (λ e. absurd (omega arith)) in
    let counted = entries_counted (list_of old 0) sorted.entries in
    let free : new.free ≡ old.free + length (kept_in entry_in (list_of old 0)) - length entries =
    omega (arith, has.free, emptied.free, counted) in
    let region : (r : RegionNode) → region_kept new r ≡ region_kept old r =
    λ r i. record {
      head = r.head;
      slot = r.slot;
      listings = kept_in listing_in
          (same (listings_list r.head.region) (λ e. absurd (omega arith)) i);
    } in
    (λ i. record {
      size = (has.beside.count ∙ emptied.beside.count) i;
      entries = has.are i;
      regions = map (λ r. region r i) (kept_in region_node (regions i));
      cluts = kept_in clut_node (cluts i);
      set_entries = kept_in colour_in (colours i);
      free = free i;
    }) ∙ ap (with_entries entries) view

-- there is room for as many entries as are free or were there
pub room_for : (count : ℕ) (old mid : PoolOf Node) (before : Composition) → composition_of old ≡ before
    → IsSorted old → IsEmptied old mid → count ≤ before.free + length before.entries → count ≤ mid.free
room_for count old mid before view sorted emptied room =
    let counted = entries_counted (list_of old 0) sorted.entries in
    let free : before.free ≡ old.free = ap (λ (c : Composition). c.free) (sym view) in
    let entries : length before.entries ≡ length (kept_in entry_in (list_of old 0)) =
    ap (λ (c : Composition). length c.entries) (sym view) in
    omega (arith, counted, free, entries, emptied.free, room)

pub has_list : (pool : PoolOf Node) → IsSorted pool → 0 < length pool.lists
has_list pool sorted = omega (arith, sorted.lists)
