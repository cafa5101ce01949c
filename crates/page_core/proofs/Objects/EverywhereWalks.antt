-- The walk of an object over all regions, in the nodes of a composition.
use Rattle.std.proofs.Common.{◌≡◌, ◌∙◌, refl, sym, ap, subst, inl, inr, ℕ, ◌<◌, Bool, true, false, ◌||◌, cond, eqb, List, [], ◌∷◌, ◌++◌, length, map, Contains, Option, Some, None, arith, append_assoc}
use Rattle.std.specs.Prelude.{slice_get}
use Rattle.std.specs.List.{list_any}
use Rattle.std.specs.Option.{option_map_or, ForSome}
use Rattle.std.proofs.lemmas.Bool.{cases_eq, eqb-true}
use Rattle.std.proofs.lemmas.Bool.Decides.{nat_tests}
use Rattle.comp_pool.specs.declared.node.NodeId.{NodeId}
use Rattle.comp_pool.specs.Places.{first_of, behind, rest_from}
use Rattle.comp_pool.specs.Pool.{PoolOf, list_of, nodes_of, IsInList, NoneTwice, node_count}
use Rattle.comp_pool.proofs.NodeLaws.{in_list_first, in_list_behind}
use Rattle.comp_pool.proofs.WalkLaws.{walk_start, walk_step}
use Rattle.page_core.specs.Private.Everywhere.{IsPaintedAt, painted_where, IsEverywhere}
use Rattle.page_core.specs.Private.Listings.{due_node, painted_node}
use Rattle.page_core.specs.Private.Lists.{with_changed, IsRewritten}
use Rattle.page_core.specs.Private.Nodes.{region_node, is_region_of, listings_list}
use Rattle.page_core.specs.declared.composition.listings.Painter.{Painter}
use Rattle.page_core.specs.declared.node.Node.{Node}
use Rattle.page_core.specs.declared.node.Node.TheVariants as node
use Rattle.page_core.specs.declared.node.RegionNode.{RegionNode}

-- ---- no node twice

nodes_changed : (change : Node → Node) (ps : List (NodeId × Node))
    → nodes_of (map (with_changed change) ps) ≡ nodes_of ps
nodes_changed change [] = refl
nodes_changed change (p ∷ ps) = ap (λ (rest : List NodeId). p.0 ∷ rest) (nodes_changed change ps)

nodes_kept : (l : ℕ) (change : Node → Node) (old new : PoolOf Node) → IsRewritten l change old new → (k : ℕ)
    → nodes_of (list_of new k) ≡ nodes_of (list_of old k)
nodes_kept l change old new is k = elim (cases_eq k l) [
  | inl e ↦ subst (λ (m : ℕ). nodes_of (list_of new m) ≡ nodes_of (list_of old m)) (sym e)
      (ap (λ (ps : List (NodeId × Node)). nodes_of ps) is.list ∙ nodes_changed change (list_of old l))
  | inr ne ↦ ap (λ (ps : List (NodeId × Node)). nodes_of ps) (is.beside.others k ne)
]

still_distinct : (l : ℕ) (change : Node → Node) (old new : PoolOf Node) → IsRewritten l change old new
    → NoneTwice old → NoneTwice new
still_distinct l change old new is one = λ k m i j node e f.
    one k m i j node (sym (ap (λ (ns : List NodeId). slice_get ns i) (nodes_kept l change old new is k)) ∙ e)
    (sym (ap (λ (ns : List NodeId). slice_get ns j) (nodes_kept l change old new is m)) ∙ f)

-- ---- what is painted twice

painted_twice : (painter : Painter) (item : Node)
    → painted_node painter (painted_node painter item) ≡ painted_node painter item
painted_twice painter (node.Entry entry) = refl
painted_twice painter (node.Region region) = refl
painted_twice painter (node.Listing kept) = by (due_node painter kept) refl
  where
    same : (due : Bool)
        → node.Listing
        (cond due (record { listing = kept.listing; painted = Some painter.version })
        (record { listing = kept.listing; painted = Some painter.version }))
        ≡ node.Listing (record { listing = kept.listing; painted = Some painter.version })
    same true = refl
    same false = refl

    by : (due : Bool) → due_node painter kept ≡ due
        → painted_node painter
        (node.Listing (cond due (record { listing = kept.listing; painted = Some painter.version }) kept))
        ≡ node.Listing (cond due (record { listing = kept.listing; painted = Some painter.version }) kept)
    by true e = same (due_node painter (record { listing = kept.listing; painted = Some painter.version }))
    by false e =
        ap (λ (due : Bool). node.Listing
        (cond due (record { listing = kept.listing; painted = Some painter.version }) kept)) e
painted_twice painter (node.Clut clut) = refl
painted_twice painter (node.Colour place) = refl

list_twice : (painter : Painter) (ps : List (NodeId × Node))
    → map (with_changed (painted_node painter)) (map (with_changed (painted_node painter)) ps)
    ≡ map (with_changed (painted_node painter)) ps
list_twice painter [] = refl
list_twice painter (p ∷ ps) = λ i. (p.0, painted_twice painter p.1 i) ∷ list_twice painter ps i

where_twice : (painter : Painter) (a b : Bool) (ps : List (NodeId × Node))
    → painted_where painter b (painted_where painter a ps) ≡ painted_where painter (a || b) ps
where_twice painter true true ps = list_twice painter ps
where_twice painter true false ps = refl
where_twice painter false b ps = refl

any_end : {X : Type 0} (test : X → Bool) (xs : List X) (x : X)
    → list_any test (xs ++ x ∷ []) ≡ (list_any test xs || test x)
any_end test [] x = by (test x)
  where
    by : (hit : Bool) → (hit || false) ≡ hit
    by true = refl
    by false = refl
any_end test (y ∷ xs) x = ap (λ (rest : Bool). test y || rest) (any_end test xs x) ∙ by (test y)
  where
    by : (hit : Bool) → (hit || (list_any test xs || test x)) ≡ ((hit || list_any test xs) || test x)
    by true = refl
    by false = refl

-- ---- one node

-- what changes at a node
record Changes (painter : Painter) (item : Node) (old new : PoolOf Node) : Type 0 where
  pub distinct : NoneTwice new
  pub lists : length new.lists ≡ length old.lists
  pub count : node_count new ≡ node_count old
  pub free : new.free ≡ old.free
  pub low : (k : ℕ) → k < 4 → list_of new k ≡ list_of old k
  pub listings : (id : ℕ)
      → list_of new (listings_list id)
      ≡ painted_where painter
      (option_map_or (λ (region : RegionNode). eqb region.head.region id) (region_node item) false)
      (list_of old (listings_list id))

unchanged : (painter : Painter) (item : Node) (old new : PoolOf Node) → region_node item ≡ None
    → NoneTwice old → new ≡ old → Changes painter item old new
unchanged painter item old new none one same =
    subst (λ (pool : PoolOf Node). Changes painter item old pool) (sym same)
    (record {
      distinct = one;
      lists = refl;
      count = refl;
      free = refl;
      low = λ k below. refl;
      listings =
          λ id. sym
          (ap (λ (o : Option RegionNode). painted_where painter
          (option_map_or (λ (region : RegionNode). eqb region.head.region id) o false)
          (list_of old (listings_list id))) none);
    })

changed_at : (painter : Painter) (item : Node) (old new : PoolOf Node) → NoneTwice old
    → IsPaintedAt painter item old new → Changes painter item old new
changed_at painter (node.Entry entry) old new one is = unchanged painter (node.Entry entry) old new refl one is
changed_at painter (node.Region region) old new one is = record {
  distinct = still_distinct (listings_list region.head.region) (painted_node painter) old new is one;
  lists = is.beside.lists;
  count = is.beside.count;
  free = is.free;
  low = λ k below. is.beside.others k (λ e. omega (arith, e));
  listings = λ id. by id (eqb region.head.region id) refl;
} where
  by : (id : ℕ) (hit : Bool) → eqb region.head.region id ≡ hit
      → list_of new (listings_list id) ≡ painted_where painter hit (list_of old (listings_list id))
  by id true e =
      subst (λ (n : ℕ). list_of new (listings_list n)
      ≡ map (with_changed (painted_node painter)) (list_of old (listings_list n)))
      (eqb-true region.head.region id e) is.list
  by id false e = is.beside.others (listings_list id) (λ same. grind (arith, nat_tests))
changed_at painter (node.Listing kept) old new one is = unchanged painter (node.Listing kept) old new refl one is
changed_at painter (node.Clut clut) old new one is = unchanged painter (node.Clut clut) old new refl one is
changed_at painter (node.Colour place) old new one is = unchanged painter (node.Colour place) old new refl one is

-- ---- on the way

-- the regions before a node are painted, and those from it on are not
pub record IsPaintingAll (painter : Painter) (begin : PoolOf Node) (place : Option NodeId)
    (now : PoolOf Node) : Type 0 where
  pub before : List (NodeId × Node)
  pub all : before ++ rest_from place (list_of begin 1) ≡ list_of begin 1
  pub listed : ForSome place (IsInList now 1)
  pub distinct : NoneTwice now
  pub lists : length now.lists ≡ length begin.lists
  pub count : node_count now ≡ node_count begin
  pub free : now.free ≡ begin.free
  pub low : (k : ℕ) → k < 4 → list_of now k ≡ list_of begin k
  pub listings : (id : ℕ)
      → list_of now (listings_list id)
      ≡ painted_where painter (list_any (is_region_of id) before) (list_of begin (listings_list id))

pub all_begin : (painter : Painter) (pool : PoolOf Node) (place : Option NodeId) → NoneTwice pool
    → place ≡ first_of (list_of pool 1) → IsPaintingAll painter pool place pool
all_begin painter pool place one first = record {
  before = [];
  all = walk_start pool 1 place first;
  listed = λ node is. in_list_first pool 1 node place first is;
  distinct = one;
  lists = refl;
  count = refl;
  free = refl;
  low = λ k below. refl;
  listings = λ id. refl;
}

-- the walk from a node on
pub from_node : (painter : Painter) (begin : PoolOf Node) (place : Option NodeId) (now : PoolOf Node) (node : NodeId)
    (item : Node) (answer : Option NodeId) → IsPaintingAll painter begin place now → place ≡ Some node
    → Contains (list_of now 1) (node, item) → answer ≡ behind node (list_of now 1)
    → rest_from place (list_of begin 1) ≡ (node, item) ∷ rest_from answer (list_of begin 1)
from_node painter begin place now node item answer on is there behind_is =
    let same : list_of now 1 ≡ list_of begin 1 = on.low 1 (omega arith) in
    ap (λ (o : Option NodeId). rest_from o (list_of begin 1)) is
    ∙ subst (λ (ps : List (NodeId × Node)). let pair : NodeId
    × Node = (node, item) in rest_from (Some node) ps ≡ pair ∷ rest_from answer ps) same
    (walk_step now 1 on.distinct node item answer there behind_is)

listed_still : (old new : PoolOf Node) (node : NodeId) → list_of new 1 ≡ list_of old 1 → IsInList old 1 node
    → IsInList new 1 node
unfolding IsInList
listed_still old new node same listed =
    subst (λ (ps : List (NodeId × Node)). Contains (nodes_of ps) node) (sym same) listed

pub all_go_on : (painter : Painter) (begin : PoolOf Node) (place : Option NodeId) (now new : PoolOf Node)
    (node : NodeId) (item : Node) (answer : Option NodeId) → IsPaintingAll painter begin place now
    → place ≡ Some node
    → Contains (list_of now 1) (node, item) → answer ≡ behind node (list_of now 1)
    → IsPaintedAt painter item now new → IsPaintingAll painter begin answer new
all_go_on painter begin place now new node item answer on is there behind_is painted =
    let changes = changed_at painter item now new on.distinct painted in
    let pair : NodeId × Node = (node, item) in
    let rest = from_node painter begin place now node item answer on is there behind_is in
    record {
      before = on.before ++ pair ∷ [];
      all =
          append_assoc on.before (pair ∷ []) (rest_from answer (list_of begin 1))
          ∙ ap (λ (ps : List (NodeId × Node)). on.before ++ ps) (sym rest) ∙ on.all;
      listed =
          λ next here. listed_still now new next (changes.low 1 (omega arith))
          (in_list_behind now 1 node next answer behind_is here);
      distinct = changes.distinct;
      lists = changes.lists ∙ on.lists;
      count = changes.count ∙ on.count;
      free = changes.free ∙ on.free;
      low = λ k below. changes.low k below ∙ on.low k below;
      listings = λ id.
          changes.listings id
          ∙ ap (painted_where painter (is_region_of id pair)) (on.listings id)
          ∙ where_twice painter (list_any (is_region_of id) on.before) (is_region_of id pair)
          (list_of begin (listings_list id))
          ∙ ap (λ (hit : Bool). painted_where painter hit (list_of begin (listings_list id)))
          (sym (any_end (is_region_of id) on.before pair));
    }

pub all_end : (painter : Painter) (begin : PoolOf Node) (place : Option NodeId) (now : PoolOf Node)
    → IsPaintingAll painter begin place now → place ≡ None → IsEverywhere painter begin now
all_end painter begin place now on none =
    let whole : on.before ≡ list_of begin 1 =
    sym (no_more on.before) ∙ ap (λ (o : Option NodeId). on.before ++ rest_from o (list_of begin 1)) (sym none)
    ∙ on.all in
    record {
      lists = on.lists;
      count = on.count;
      free = on.free;
      low = on.low;
      listings =
          λ id. on.listings id
          ∙ ap (λ (ps : List (NodeId × Node)). painted_where painter (list_any (is_region_of id) ps)
          (list_of begin (listings_list id))) whole;
    }
  where
    no_more : (qs : List (NodeId × Node)) → qs ++ [] ≡ qs
    no_more [] = refl
    no_more (q ∷ qs) = ap (λ (more : List (NodeId × Node)). q ∷ more) (no_more qs)
