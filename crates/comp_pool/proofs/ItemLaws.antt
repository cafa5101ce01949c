use Rattle.std.proofs.Common.{◌≡◌, ◌≢◌, ◌∙◌, refl, sym, ap, subst, inl, inr, ℕ, zero, suc, ◌<◌, ◌⊎◌, List, [], ◌∷◌, ◌++◌, length, map, get_or, set, replicate, Contains, arith}
use Rattle.std.proofs.lemmas.List.{length-set, length-map, length-replicate, get_or-set_same, get_or-set_other}
use Rattle.std.proofs.Math.ListN.{get_or-map as map_at}
use Rattle.std.proofs.lemmas.Bool.{cases_eq}
use Rattle.std.proofs.lemmas.List.Elements.{Contains-push, Contains-append_left, Contains-push_cases}
use Rattle.comp_pool.specs.declared.node.NodeId.{NodeId}
use Rattle.comp_pool.specs.Pool.{PoolOf, list_of, nodes_of, IsInList, empty_pool}
use Rattle.comp_pool.specs.Changes.{pushed, unlinked, without, replaced, with_item, cleared, emptied}
use Rattle.comp_pool.proofs.PairLaws.{pair_node, node_pair, kept_without, was_without, nodes_replaced, item_replaced, item_kept, item_was}

-- Laws for crates above: the lists after each call that changes a pool, and which items are in them. The call's clause
-- is a premise of each law.

map_empty : {X Y : Type 0} (f : List X → List Y) (xss : List (List X)) (l : ℕ) → f [] ≡ []
    → get_or (map f xss) l [] ≡ f (get_or xss l [])
map_empty f xss l none = subst (λ d. get_or (map f xss) l d ≡ f (get_or xss l [])) none (map_at f xss l [])

none_in : {X : Type 0} (n l : ℕ) → get_or (replicate n (let none : List X = [] in none)) l [] ≡ []
none_in zero l = refl
none_in (suc n) zero = refl
none_in (suc n) (suc l) = none_in n l

lists_within : {T : Type 0} (lists : List (List (NodeId × T))) (l : ℕ) (node : NodeId)
    → Contains (nodes_of (get_or lists l [])) node → l < length lists
lists_within [] l node (k, short, e) = absurd (omega (arith, short))
lists_within (ps ∷ lists) zero node listed = omega arith
lists_within (ps ∷ lists) (suc l) node listed = let within = lists_within lists l node listed in omega (arith, within)

-- a list with a node in it is one of the pool's
pub in_list_within : {T : Type 0} (pool : PoolOf T) (l : ℕ) (node : NodeId) → IsInList pool l node
    → l < length pool.lists
unfolding IsInList
in_list_within pool l node listed = lists_within pool.lists l node listed

-- a node with an item is in the list, and a node in the list has an item
pub in_list_from_item : {T : Type 0} (pool : PoolOf T) (l : ℕ) (node : NodeId) (item : T)
    → Contains (list_of pool l) (node, item) → IsInList pool l node
unfolding IsInList
in_list_from_item pool l node item there = pair_node (list_of pool l) node item there

pub item_in_list : {T : Type 0} (pool : PoolOf T) (l : ℕ) (node : NodeId) → IsInList pool l node → (item : T)
    × Contains (list_of pool l) (node, item)
unfolding IsInList
item_in_list pool l node listed = node_pair (list_of pool l) node listed

-- The lists after each call.

module _ {T : Type 0} (old new : PoolOf T) (l : ℕ) where
  here : (pairs : List (NodeId × T)) → new.lists ≡ set old.lists l pairs → l < length old.lists
      → list_of new l ≡ pairs
  here pairs is within =
      ap (λ (ls : List (List (NodeId × T))). get_or ls l []) is ∙ get_or-set_same old.lists l pairs [] within

  beside : (pairs : List (NodeId × T)) (k : ℕ) → new.lists ≡ set old.lists l pairs → k ≢ l
      → list_of new k ≡ list_of old k
  beside pairs k is ne =
      ap (λ (ls : List (List (NodeId × T))). get_or ls k []) is ∙ get_or-set_other old.lists l k pairs [] ne

  count : (pairs : List (NodeId × T)) → new.lists ≡ set old.lists l pairs → length new.lists ≡ length old.lists
  count pairs is = ap length is ∙ length-set old.lists l pairs

  lists_of_new : (wanted : PoolOf T) → new ≡ wanted → new.lists ≡ wanted.lists
  lists_of_new wanted is = ap (λ (pool : PoolOf T). pool.lists) is

  pub list_after_push : (pair : NodeId × T) → new ≡ pushed l pair old → l < length old.lists
      → list_of new l ≡ list_of old l ++ pair ∷ []
  list_after_push pair is within = here (list_of old l ++ pair ∷ []) (lists_of_new (pushed l pair old) is) within

  pub list_beside_push : (pair : NodeId × T) (k : ℕ) → new ≡ pushed l pair old → k ≢ l
      → list_of new k ≡ list_of old k
  list_beside_push pair k is ne = beside (list_of old l ++ pair ∷ []) k (lists_of_new (pushed l pair old) is) ne

  pub list_count_after_push : (pair : NodeId × T) → new ≡ pushed l pair old
      → length new.lists ≡ length old.lists
  list_count_after_push pair is = count (list_of old l ++ pair ∷ []) (lists_of_new (pushed l pair old) is)

  pub list_after_unlink : (node : NodeId) → new ≡ unlinked l node old → l < length old.lists
      → list_of new l ≡ without node (list_of old l)
  list_after_unlink node is within = here (without node (list_of old l)) (lists_of_new (unlinked l node old) is) within

  pub list_beside_unlink : (node : NodeId) (k : ℕ) → new ≡ unlinked l node old → k ≢ l
      → list_of new k ≡ list_of old k
  list_beside_unlink node k is ne = beside (without node (list_of old l)) k (lists_of_new (unlinked l node old) is) ne

  pub list_count_after_unlink : (node : NodeId) → new ≡ unlinked l node old
      → length new.lists ≡ length old.lists
  list_count_after_unlink node is = count (without node (list_of old l)) (lists_of_new (unlinked l node old) is)

  pub list_after_clear : new ≡ cleared l old → l < length old.lists → list_of new l ≡ []
  list_after_clear is within = here [] (lists_of_new (cleared l old) is) within

  pub list_beside_clear : (k : ℕ) → new ≡ cleared l old → k ≢ l → list_of new k ≡ list_of old k
  list_beside_clear k is ne = beside [] k (lists_of_new (cleared l old) is) ne

  pub list_count_after_clear : new ≡ cleared l old → length new.lists ≡ length old.lists
  list_count_after_clear is = count [] (lists_of_new (cleared l old) is)

  pub list_after_set : (node : NodeId) (item : T) → new ≡ replaced node item old
      → list_of new l ≡ map (with_item node item) (list_of old l)
  list_after_set node item is =
      ap (λ (ls : List (List (NodeId × T))). get_or ls l []) (lists_of_new (replaced node item old) is)
      ∙ map_empty (λ pairs. map (with_item node item) pairs) old.lists l refl

  pub list_after_reset : new ≡ emptied old → list_of new l ≡ []
  list_after_reset is =
      ap (λ (ls : List (List (NodeId × T))). get_or ls l []) (lists_of_new (emptied old) is)
      ∙ none_in (length old.lists) l

pub list_count_after_set : {T : Type 0} (old new : PoolOf T) (node : NodeId) (item : T)
    → new ≡ replaced node item old → length new.lists ≡ length old.lists
list_count_after_set {T} old new node item is =
    ap (λ (pool : PoolOf T). length pool.lists) is ∙ length-map old.lists (λ pairs. map (with_item node item) pairs)

pub list_count_after_reset : {T : Type 0} (old new : PoolOf T) → new ≡ emptied old
    → length new.lists ≡ length old.lists
list_count_after_reset {T} old new is =
    let none : List (NodeId × T) = [] in
    ap (λ (pool : PoolOf T). length pool.lists) is ∙ length-replicate (length old.lists) none

-- Which items are in the lists after each call.

pub item_pushed : {T : Type 0} (old new : PoolOf T) (l : ℕ) (q : NodeId × T) → new ≡ pushed l q old
    → l < length old.lists → Contains (list_of new l) q
item_pushed {T} old new l q is within =
    let Q : List (NodeId × T) → Type 0 = λ ps. Contains ps q in
    subst Q (sym (list_after_push old new l q is within)) (Contains-push (list_of old l) q)

module _ {T : Type 0} (old new : PoolOf T) (l k : ℕ) (q : NodeId × T) where
  along : (ps qs : List (NodeId × T)) → ps ≡ qs → Contains ps q → Contains qs q
  along ps qs e there = let Q : List (NodeId × T) → Type 0 = λ xs. Contains xs q in subst Q e there

  to_here : (pool : PoolOf T) → k ≡ l → Contains (list_of pool k) q → Contains (list_of pool l) q
  to_here pool same there = subst (λ (m : ℕ). Contains (list_of pool m) q) same there

  from_here : (pool : PoolOf T) → k ≡ l → Contains (list_of pool l) q → Contains (list_of pool k) q
  from_here pool same there = subst (λ (m : ℕ). Contains (list_of pool m) q) (sym same) there

  within : Contains (list_of old l) q → l < length old.lists
  within there = in_list_within old l q.0 (in_list_from_item old l q.0 q.1 there)

  pub item_after_push : (pair : NodeId × T) → new ≡ pushed l pair old → Contains (list_of old k) q
      → Contains (list_of new k) q
  item_after_push pair is there = elim (cases_eq k l) [
    | inl same ↦
        let old_here = to_here old same there in
        from_here new same (along _ _ (sym (list_after_push old new l pair is (within old_here)))
        (Contains-append_left (list_of old l) (pair ∷ []) q old_here))
    | inr ne ↦ along _ _ (sym (list_beside_push old new l pair k is ne)) there
  ]

  pub item_before_push : (pair : NodeId × T) → new ≡ pushed l pair old → l < length old.lists
      → Contains (list_of new k) q →
      Contains (list_of old k) q ⊎ ((k ≡ l) × (pair ≡ q))
  item_before_push pair is short there = elim (cases_eq k l) [
    | inl same ↦ elim
        (Contains-push_cases (list_of old l) pair q
        (along _ _ (list_after_push old new l pair is short) (to_here new same there))) [
          | inl before ↦ inl (from_here old same before)
          | inr last ↦ inr (same, last)
        ]
    | inr ne ↦ inl (along _ _ (list_beside_push old new l pair k is ne) there)
  ]

  pub item_after_unlink : (node : NodeId) → new ≡ unlinked l node old → q.0 ≢ node
      → Contains (list_of old k) q → Contains (list_of new k) q
  item_after_unlink node is other there = elim (cases_eq k l) [
    | inl same ↦
        let old_here = to_here old same there in
        from_here new same (along _ _ (sym (list_after_unlink old new l node is (within old_here)))
        (kept_without node (list_of old l) q other old_here))
    | inr ne ↦ along _ _ (sym (list_beside_unlink old new l node k is ne)) there
  ]

  pub item_beside_unlink : (node : NodeId) → new ≡ unlinked l node old → k ≢ l → Contains (list_of old k) q
      → Contains (list_of new k) q
  item_beside_unlink node is ne there = along _ _ (sym (list_beside_unlink old new l node k is ne)) there

  pub item_before_unlink : (node : NodeId) → new ≡ unlinked l node old → l < length old.lists
      → Contains (list_of new k) q →
      Contains (list_of old k) q × ((k ≢ l) ⊎ (q.0 ≢ node))
  item_before_unlink node is short there = elim (cases_eq k l) [
    | inl same ↦
        let was =
        was_without node (list_of old l) q
        (along _ _ (list_after_unlink old new l node is short) (to_here new same there)) in
        (from_here old same was.0, inr was.1)
    | inr ne ↦ (along _ _ (list_beside_unlink old new l node k is ne) there, inl ne)
  ]

  pub item_after_clear : new ≡ cleared l old → k ≢ l → Contains (list_of old k) q → Contains (list_of new k) q
  item_after_clear is ne there = along _ _ (sym (list_beside_clear old new l k is ne)) there

  pub item_before_clear : new ≡ cleared l old → l < length old.lists → Contains (list_of new k) q
      → Contains (list_of old k) q × (k ≢ l)
  item_before_clear is short there = elim (cases_eq k l) [
    | inl same ↦ let place =
        along _ _ (list_after_clear old new l is short) (to_here new same there) in absurd (omega (arith, place.1))
    | inr ne ↦ (along _ _ (list_beside_clear old new l k is ne) there, ne)
  ]

in_replaced : {T : Type 0} (node : NodeId) (item : T) (ps : List (NodeId × T)) → Contains (nodes_of ps) node
    → Contains (map (with_item node item) ps) (node, item)
in_replaced {T} node item ps listed =
    let Q : List NodeId → Type 0 = λ ms. Contains ms node in
    let there = node_pair (map (with_item node item) ps) node (subst Q (sym (nodes_replaced node item ps)) listed) in
    let R : T → Type 0 = λ x. Contains (map (with_item node item) ps) (node, x) in
    subst R (item_replaced node item ps there.0 there.1) there.1

-- after `set_item` the node has this item, and every other node the one that it had

module _ {T : Type 0} (old new : PoolOf T) (k : ℕ) (node : NodeId) (item : T)
    (is : new ≡ replaced node item old) where
  pub item_set : IsInList old k node → Contains (list_of new k) (node, item)
  unfolding IsInList
  item_set listed =
      let Q : List (NodeId × T) → Type 0 = λ ps. Contains ps (node, item) in
      subst Q (sym (list_after_set old new k node item is)) (in_replaced node item (list_of old k) listed)

  pub item_of_set : (x : T) → Contains (list_of new k) (node, x) → x ≡ item
  item_of_set x there =
      let Q : List (NodeId × T) → Type 0 = λ ps. Contains ps (node, x) in
      item_replaced node item (list_of old k) x (subst Q (list_after_set old new k node item is) there)

  pub item_after_set : (q : NodeId × T) → q.0 ≢ node → Contains (list_of old k) q → Contains (list_of new k) q
  item_after_set q other there =
      let Q : List (NodeId × T) → Type 0 = λ ps. Contains ps q in
      subst Q (sym (list_after_set old new k node item is)) (item_kept node item (list_of old k) q.0 q.1 other there)

  pub item_before_set : (q : NodeId × T) → q.0 ≢ node → Contains (list_of new k) q → Contains (list_of old k) q
  item_before_set q other there =
      let Q : List (NodeId × T) → Type 0 = λ ps. Contains ps q in
      item_was node item (list_of old k) q.0 q.1 other (subst Q (list_after_set old new k node item is) there)

-- no item is in a list after `make` and after `reset`

pub no_item_when_empty : {T : Type 0} (pool : PoolOf T) (lists nodes k : ℕ) (q : NodeId × T)
    → pool ≡ empty_pool lists nodes →
    Contains (list_of pool k) q → ⊥
no_item_when_empty {T} pool lists nodes k q is there =
    let empty = ap (λ (p : PoolOf T). list_of p k) is ∙ none_in lists k in
    let Q : List (NodeId × T) → Type 0 = λ ps. Contains ps q in
    let place = subst Q empty there in absurd (omega (arith, place.1))

pub no_item_after_reset : {T : Type 0} (old new : PoolOf T) (k : ℕ) (q : NodeId × T) → new ≡ emptied old
    → Contains (list_of new k) q → ⊥
no_item_after_reset {T} old new k q is there =
    let Q : List (NodeId × T) → Type 0 = λ ps. Contains ps q in
    let place = subst Q (list_after_reset old new k is) there in absurd (omega (arith, place.1))
