use Rattle.std.proofs.Common.{◌≡◌, ◌∙◌, refl, sym, ap, subst, ℕ, ◌+◌, List, ◌∷◌, ◌++◌, length, map, Contains, Option, Some, length-append, arith}
use Rattle.std.proofs.lemmas.List.Elements.{Contains-append_right}
use Rattle.comp_pool.specs.declared.node.NodeId.{NodeId}
use Rattle.comp_pool.specs.Pool.{PoolOf, list_of, IsInList, NoneTwice}
use Rattle.comp_pool.specs.Places.{first_of, behind, rest_from}
use Rattle.comp_pool.specs.Changes.{unlinked, without, replaced, with_item}
use Rattle.comp_pool.proofs.PairLaws.{Off, AtOne, IsSplit, split_at, off_before, off_after, without_split, replaced_split, behind_split, rest_from_first, rest_from_split, rest_from_behind}
use Rattle.comp_pool.proofs.ItemLaws.{in_list_from_item, in_list_within, list_after_unlink, list_after_set}
use Rattle.comp_pool.proofs.NodeLaws.{one_item}

-- Laws for crates above: a list as what is before a node, the node with its item, and what is behind it.

-- a walk begins with the whole list
pub walk_start : {T : Type 0} (pool : PoolOf T) (l : ℕ) (answer : Option NodeId)
    → answer ≡ first_of (list_of pool l) →
    rest_from answer (list_of pool l) ≡ list_of pool l
walk_start pool l answer is =
    ap (λ (m : Option NodeId). rest_from m (list_of pool l)) is ∙ rest_from_first (list_of pool l)

-- a node in a list, with what is before it and behind it
pub in_list_split : {T : Type 0} (pool : PoolOf T) (l : ℕ) (node : NodeId) → IsInList pool l node
    → IsSplit (list_of pool l) node
unfolding IsInList
in_list_split pool l node listed = split_at (list_of pool l) node listed

module _ {T : Type 0} (pool : PoolOf T) (l : ℕ) (one : NoneTwice pool) where
  at_one : (us vs : List (NodeId × T)) (node : NodeId) (item : T) → list_of pool l ≡ us ++ (node, item) ∷ vs
      → (m : NodeId) → AtOne m (us ++ (node, item) ∷ vs)
  at_one us vs node item is m =
      let Q : List (NodeId × T) → Type 0 = λ ps. AtOne m ps in subst Q is (λ i j e f. (one l l i j m e f).1)

  in_split : (us vs : List (NodeId × T)) (node : NodeId) (item : T) → list_of pool l ≡ us ++ (node, item) ∷ vs
      → Contains (list_of pool l) (node, item)
  in_split us vs node item is =
      let Q : List (NodeId × T) → Type 0 = λ ps. Contains ps (node, item) in
      subst Q (sym is) (Contains-append_right us ((node, item) ∷ vs) (node, item) (0, omega arith, refl))

  module _ (us vs : List (NodeId × T)) (node : NodeId) (item : T)
      (is : list_of pool l ≡ us ++ (node, item) ∷ vs) where
    before : Off node us
    before = off_before node item us vs (at_one us vs node item is node)

    after : Off node vs
    after = off_after node item us vs (at_one us vs node item is node)

    -- what `next` answers
    pub next_split : behind node (list_of pool l) ≡ first_of vs
    next_split = ap (λ (ps : List (NodeId × T)). behind node ps) is ∙ behind_split node item us vs before

    -- the list without the node
    pub unlinked_split : (new : PoolOf T) → new ≡ unlinked l node pool → list_of new l ≡ us ++ vs
    unlinked_split new left =
        list_after_unlink pool new l node left
        (in_list_within pool l node (in_list_from_item pool l node item (in_split us vs node item is)))
        ∙ ap (λ (ps : List (NodeId × T)). without node ps) is ∙ without_split node item us vs before after

    -- the list with another item at the node
    pub set_split : (new : PoolOf T) (x : T) → new ≡ replaced node x pool
        → list_of new l ≡ us ++ (node, x) ∷ vs
    set_split new x set =
        list_after_set pool new l node x set ∙ ap (λ (ps : List (NodeId × T)). map (with_item node x) ps) is
        ∙ replaced_split node item x us vs before after

    rest_of : rest_from (Some node) (list_of pool l) ≡ (node, item) ∷ vs
    rest_of = ap (λ (ps : List (NodeId × T)). rest_from (Some node) ps) is ∙ rest_from_split node item us vs before

    rest_behind : rest_from (behind node (list_of pool l)) (list_of pool l) ≡ vs
    rest_behind =
        ap (λ (m : Option NodeId). rest_from m (list_of pool l)) next_split
        ∙ ap (λ (ps : List (NodeId × T)). rest_from (first_of vs) ps) is
        ∙ rest_from_behind node item us vs (at_one us vs node item is)

  -- a step of a walk: the node with its item, and then what is behind it
  pub walk_step : (node : NodeId) (item : T) (answer : Option NodeId) → Contains (list_of pool l) (node, item)
      → answer ≡ behind node (list_of pool l) →
      rest_from (Some node) (list_of pool l) ≡ (node, item) ∷ rest_from answer (list_of pool l)
  unfolding IsInList
  walk_step node item answer there is =
      let split = split_at (list_of pool l) node (in_list_from_item pool l node item there) in
      let same : split.item ≡ item =
      one_item pool l l node split.item item one (in_split split.before split.after node split.item split.is) there in
      rest_of split.before split.after node split.item split.is
      ∙ ap (λ (ps : List (NodeId × T)). (node, split.item) ∷ ps)
      (sym (rest_behind split.before split.after node split.item split.is))
      ∙ ap (λ (x : T). let pair : NodeId
      × T = (node, x) in pair ∷ rest_from (behind node (list_of pool l)) (list_of pool l)) same
      ∙ ap (λ (m : Option NodeId). let pair : NodeId × T = (node, item) in pair ∷ rest_from m (list_of pool l))
      (sym is)

  -- one fewer in the list
  pub unlinked_shorter : (new : PoolOf T) (node : NodeId) → new ≡ unlinked l node pool → IsInList pool l node →
      length (list_of new l) + 1 ≡ length (list_of pool l)
  unfolding IsInList
  unlinked_shorter new node left listed =
      let split = split_at (list_of pool l) node listed in
      omega (
        arith,
        ap length split.is,
        ap length (unlinked_split split.before split.after node split.item split.is new left),
        length-append split.before ((node, split.item) ∷ split.after),
        length-append split.before split.after,
      )
