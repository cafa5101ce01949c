use Rattle.std.proofs.Common.{◌≡◌, ◌≢◌, ◌∙◌, refl, sym, ap, subst, inl, inr, ℕ, ◌<◌, ◌⊎◌, List, length, get_or, Contains, Option, Some}
use Rattle.std.specs.Option.{option_map}
use Rattle.std.proofs.lemmas.List.{get_or_default}
use Rattle.std.proofs.lemmas.Option.{slice_get-get_or, slice_get-map}
use Rattle.comp_pool.specs.declared.node.NodeId.{NodeId}
use Rattle.comp_pool.specs.Pool.{PoolOf, list_of, nodes_of, IsInList, IsAt, IsInSomeList, NoneTwice, empty_pool}
use Rattle.comp_pool.specs.Places.{first_of, behind}
use Rattle.comp_pool.specs.Changes.{pushed, unlinked, replaced, cleared, emptied}
use Rattle.comp_pool.proofs.PairLaws.{first_in_list, behind_in_list, nodes_replaced}
use Rattle.comp_pool.proofs.ItemLaws.{in_list_from_item, item_in_list, in_list_within, item_pushed, item_after_push, item_before_push, item_after_unlink, item_beside_unlink, item_before_unlink, item_after_clear, item_before_clear, list_after_set, no_item_when_empty, no_item_after_reset}

-- Laws for crates above: which list a node is in after each call, and that it is at one place.

pub in_list_pushed : {T : Type 0} (old new : PoolOf T) (l : ℕ) (node : NodeId) (item : T)
    → new ≡ pushed l (node, item) old → l < length old.lists →
    IsInList new l node
in_list_pushed old new l node item is within =
    in_list_from_item new l node item (item_pushed old new l (node, item) is within)

module _ {T : Type 0} (old new : PoolOf T) (l k : ℕ) (m : NodeId) where
  pub in_list_after_push : (pair : NodeId × T) → new ≡ pushed l pair old → IsInList old k m → IsInList new k m
  in_list_after_push pair is listed =
      let q =
      item_in_list old k m listed in in_list_from_item new k m q.0
      (item_after_push old new l k (m, q.0) pair is q.1)

  pub in_list_before_push : (pair : NodeId × T) → new ≡ pushed l pair old → l < length old.lists
      → IsInList new k m →
      IsInList old k m ⊎ ((k ≡ l) × (pair.0 ≡ m))
  in_list_before_push pair is within listed =
      let q = item_in_list new k m listed in
      elim (item_before_push old new l k (m, q.0) pair is within q.1) [
        | inl before ↦ inl (in_list_from_item old k m q.0 before)
        | inr last ↦ inr (last.0, ap (λ (p : NodeId × T). p.0) last.1)
      ]

  pub in_list_after_unlink : (node : NodeId) → new ≡ unlinked l node old → m ≢ node → IsInList old k m
      → IsInList new k m
  in_list_after_unlink node is other listed =
      let q =
      item_in_list old k m listed in in_list_from_item new k m q.0
      (item_after_unlink old new l k (m, q.0) node is other q.1)

  pub in_list_beside_unlink : (node : NodeId) → new ≡ unlinked l node old → k ≢ l → IsInList old k m
      → IsInList new k m
  in_list_beside_unlink node is beside listed =
      let q =
      item_in_list old k m listed in in_list_from_item new k m q.0
      (item_beside_unlink old new l k (m, q.0) node is beside q.1)

  pub in_list_before_unlink : (node : NodeId) → new ≡ unlinked l node old → l < length old.lists
      → IsInList new k m →
      IsInList old k m × ((k ≢ l) ⊎ (m ≢ node))
  in_list_before_unlink node is within listed =
      let q = item_in_list new k m listed in
      let was =
      item_before_unlink old new l k (m, q.0) node is within q.1 in (in_list_from_item old k m q.0 was.0, was.1)

  pub in_list_after_clear : new ≡ cleared l old → k ≢ l → IsInList old k m → IsInList new k m
  in_list_after_clear is beside listed =
      let q =
      item_in_list old k m listed in in_list_from_item new k m q.0
      (item_after_clear old new l k (m, q.0) is beside q.1)

  pub in_list_before_clear : new ≡ cleared l old → l < length old.lists → IsInList new k m → IsInList old k m
      × (k ≢ l)
  in_list_before_clear is within listed =
      let q = item_in_list new k m listed in
      let was = item_before_clear old new l k (m, q.0) is within q.1 in (in_list_from_item old k m q.0 was.0, was.1)

-- the same nodes are in the list, in the same order after `set_item`
pub nodes_after_set : {T : Type 0} (old new : PoolOf T) (k : ℕ) (node : NodeId) (item : T)
    → new ≡ replaced node item old →
    nodes_of (list_of new k) ≡ nodes_of (list_of old k)
nodes_after_set {T} old new k node item is =
    ap (λ (ps : List (NodeId × T)). nodes_of ps) (list_after_set old new k node item is)
    ∙ nodes_replaced node item (list_of old k)

pub in_list_after_set : {T : Type 0} (old new : PoolOf T) (k : ℕ) (m node : NodeId) (item : T)
    → new ≡ replaced node item old → IsInList old k m → IsInList new k m
unfolding IsInList
in_list_after_set old new k m node item is listed =
    subst (λ (ms : List NodeId). Contains ms m) (sym (nodes_after_set old new k node item is)) listed

pub in_list_before_set : {T : Type 0} (old new : PoolOf T) (k : ℕ) (m node : NodeId) (item : T)
    → new ≡ replaced node item old → IsInList new k m → IsInList old k m
unfolding IsInList
in_list_before_set old new k m node item is listed =
    subst (λ (ms : List NodeId). Contains ms m) (nodes_after_set old new k node item is) listed

-- no node is in a list after `make` and after `reset`

pub none_in_list_when_empty : {T : Type 0} (pool : PoolOf T) (lists nodes k : ℕ) (m : NodeId)
    → pool ≡ empty_pool lists nodes → IsInList pool k m → ⊥
none_in_list_when_empty pool lists nodes k m is listed =
    let q = item_in_list pool k m listed in no_item_when_empty pool lists nodes k (m, q.0) is q.1

pub none_in_list_after_reset : {T : Type 0} (old new : PoolOf T) (k : ℕ) (m : NodeId) → new ≡ emptied old
    → IsInList new k m → ⊥
none_in_list_after_reset old new k m is listed =
    let q = item_in_list new k m listed in no_item_after_reset old new k (m, q.0) is q.1

-- what `first` and `next` answer is in the list
pub in_list_first : {T : Type 0} (pool : PoolOf T) (l : ℕ) (node : NodeId) (answer : Option NodeId)
    → answer ≡ first_of (list_of pool l) → answer ≡ Some node →
    IsInList pool l node
unfolding IsInList
in_list_first pool l node answer is some = first_in_list (list_of pool l) node (sym is ∙ some)

pub in_list_behind : {T : Type 0} (pool : PoolOf T) (l : ℕ) (node behind_it : NodeId) (answer : Option NodeId)
    → answer ≡ behind node (list_of pool l) →
    answer ≡ Some behind_it → IsInList pool l behind_it
unfolding IsInList
in_list_behind pool l node behind_it answer is some = behind_in_list node (list_of pool l) behind_it (sym is ∙ some)

-- A node is in one list, with one item.

in_list_at : {T : Type 0} (pool : PoolOf T) (l : ℕ) (node : NodeId) → IsInList pool l node → (i : ℕ)
    × IsAt pool l i node
unfolding IsInList
in_list_at pool l node (i, short, e) =
    (i, slice_get-get_or (nodes_of (list_of pool l)) i node short ∙ ap (λ (m : NodeId). Some m) e)

pub one_list : {T : Type 0} (pool : PoolOf T) (l k : ℕ) (node : NodeId) → NoneTwice pool → IsInList pool l node
    → IsInList pool k node → l ≡ k
one_list pool l k node one s t =
    let p = in_list_at pool l node s in
    let q = in_list_at pool k node t in (one l k p.0 q.0 node p.1 q.1).0

pub one_item : {T : Type 0} (pool : PoolOf T) (l k : ℕ) (node : NodeId) (x y : T) → NoneTwice pool
    → Contains (list_of pool l) (node, x) →
    Contains (list_of pool k) (node, y) → x ≡ y
one_item {T} pool l k node x y one (i, i_in, e) (j, j_in, f) =
    let node_of : NodeId × T → NodeId = λ p. p.0 in
    let at : (m h : ℕ) (z : T) → h < length (list_of pool m) → get_or (list_of pool m) h (node, z) ≡ (node, z)
    → IsAt pool m h node =
    λ m h z short is.
    slice_get-map node_of (list_of pool m) h
    ∙ ap (λ (o : Option (NodeId × T)). option_map node_of o)
    (slice_get-get_or (list_of pool m) h (node, z) short ∙ ap (λ (p : NodeId × T). Some p) is) in
    let same = one l k i j node (at l i x i_in e) (at k j y j_in f) in
    let there : get_or (list_of pool k) j (node, x) ≡ get_or (list_of pool l) i (node, x) =
    ap (λ (m : ℕ). get_or (list_of pool m) j (node, x)) (sym same.0)
    ∙ ap (λ (h : ℕ). get_or (list_of pool l) h (node, x)) (sym same.1) in
    ap (λ (p : NodeId × T). p.1)
    (sym e ∙ sym there ∙ get_or_default (list_of pool k) j (node, x) (node, y) j_in ∙ f)

-- a node that was unlinked is in no list
pub gone_after_unlink : {T : Type 0} (old new : PoolOf T) (l : ℕ) (node : NodeId) → new ≡ unlinked l node old
    → NoneTwice old → IsInList old l node →
    IsInSomeList new node → ⊥
unfolding IsInSomeList
gone_after_unlink old new l node is one listed (k, there) =
    let was = in_list_before_unlink old new l k node node is (in_list_within old l node listed) there in
    elim was.1 [
      | inl beside ↦ beside (one_list old k l node one was.0 listed)
      | inr other ↦ other refl
    ]

-- The same of nodes in some list, whichever it is.

pub in_some_list : {T : Type 0} (pool : PoolOf T) (l : ℕ) (node : NodeId) → IsInList pool l node
    → IsInSomeList pool node
unfolding IsInSomeList
in_some_list pool l node listed = (l, listed)

pub some_list_of : {T : Type 0} (pool : PoolOf T) (node : NodeId) → IsInSomeList pool node → (l : ℕ)
    × IsInList pool l node
unfolding IsInSomeList
some_list_of pool node there = there

module _ {T : Type 0} (old new : PoolOf T) (m : NodeId) where
  pub in_some_list_pushed : (l : ℕ) (item : T) → new ≡ pushed l (m, item) old → l < length old.lists
      → IsInSomeList new m
  unfolding IsInSomeList
  in_some_list_pushed l item is within = (l, in_list_pushed old new l m item is within)

  pub in_some_list_after_push : (l : ℕ) (pair : NodeId × T) → new ≡ pushed l pair old → IsInSomeList old m
      → IsInSomeList new m
  unfolding IsInSomeList
  in_some_list_after_push l pair is (k, listed) = (k, in_list_after_push old new l k m pair is listed)

  pub in_some_list_after_unlink : (l : ℕ) (node : NodeId) → new ≡ unlinked l node old → m ≢ node
      → IsInSomeList old m → IsInSomeList new m
  unfolding IsInSomeList
  in_some_list_after_unlink l node is other (k, listed) = (k, in_list_after_unlink old new l k m node is other listed)

  pub in_some_list_after_set : (node : NodeId) (item : T) → new ≡ replaced node item old → IsInSomeList old m
      → IsInSomeList new m
  unfolding IsInSomeList
  in_some_list_after_set node item is (k, listed) = (k, in_list_after_set old new k m node item is listed)
