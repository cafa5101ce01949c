-- The first node of a list taken out.
use Rattle.std.proofs.Common.{◌≡◌, ◌∙◌, refl, sym, ap, subst, ℕ, suc, true, false, ◌<◌, List, [], ◌∷◌, length, Contains, Option, Some, None, arith}
use Rattle.std.specs.Prelude.{slice_get}
use Rattle.std.proofs.lemmas.List.{get_or-set_same, get_or-set_other, length-set}
use Rattle.comp_pool.specs.declared.node.NodeId.{NodeId}
use Rattle.comp_pool.specs.Pool.{PoolOf, list_of, nodes_of, NoneTwice, node_count}
use Rattle.comp_pool.specs.Places.{is_node, first_of}
use Rattle.comp_pool.specs.Changes.{unlinked, without}
use Rattle.comp_pool.proofs.PairLaws.{is_node_same, is_node_other}
use Rattle.comp_pool.proofs.NodeLaws.{one_item}
use Rattle.page_core.specs.Private.Lists.{KeepsBeside, IsPopped}

module _ {T : Type 0} where
  -- a node that is not there is not taken out
  pub without_none : (node : NodeId) (ps : List (NodeId × T))
      → ((i : ℕ) → slice_get (nodes_of ps) i ≡ Some node → ⊥) → without node ps ≡ ps
  without_none node [] nowhere = refl
  without_none node (p ∷ ps) nowhere =
      let other : is_node p.0 node ≡ false = is_node_other p.0 node (λ same. nowhere 0 (ap Some same)) in
      rw other (ap (λ (qs : List (NodeId × T)). p ∷ qs) (without_none node ps (λ i there. nowhere (suc i) there)))

  beside_front : (l : ℕ) (node : NodeId) (old new : PoolOf T) → new ≡ unlinked l node old
      → node_count new ≡ node_count old → KeepsBeside l old new
  beside_front l node old new is count = record {
    lists = ap (λ (pool : PoolOf T). length pool.lists) is ∙ length-set old.lists l (without node (list_of old l));
    others =
        λ k other. ap (λ (pool : PoolOf T). list_of pool k) is
        ∙ get_or-set_other old.lists l k (without node (list_of old l)) [] other;
    count = count;
  }

  by_list : (old new : PoolOf T) (l : ℕ) (node : NodeId) (item : T) (ps : List (NodeId × T))
      → list_of old l ≡ ps → l < length old.lists → NoneTwice old → first_of ps ≡ Some node →
      new ≡ unlinked l node old → Contains ps (node, item)
      → ((x : T) → Contains (list_of old l) (node, x) → x ≡ item) → node_count new ≡ node_count old
      → IsPopped l item old new
  by_list old new l node item [] is low one first taken there same count = absurd (cc)
  by_list old new l node item (p ∷ ps) is low one first taken there same count =
      let here : p.0 ≡ node = cc in
      let hit : is_node p.0 node ≡ true = ap (λ (m : NodeId). is_node m node) here ∙ is_node_same node in
      let nowhere : (i : ℕ) → slice_get (nodes_of ps) i ≡ Some node → ⊥ = λ i at.
      (let twice = one l l 0 (suc i) node
      (ap (λ (qs : List (NodeId × T)). slice_get (nodes_of qs) 0) is ∙ ap Some here)
      (ap (λ (qs : List (NodeId × T)). slice_get (nodes_of qs) (suc i)) is ∙ at) in omega (arith, twice.1)) in
      let rest : without node (p ∷ ps) ≡ ps = rw hit (without_none node ps nowhere) in
      let pair : p ≡ (node, item) =
      pair_is p here
      (same p.1
      (subst (λ (qs : List (NodeId × T)). Contains qs (node, p.1)) (sym is)
      (0, omega arith, ap (λ (m : NodeId). let q : NodeId × T = (m, p.1) in q) here))) in
      record {
        beside = beside_front l node old new taken count;
        node = node;
        popped =
            is ∙ ap (λ (q : NodeId × T). q ∷ ps) pair
            ∙ ap (λ (qs : List (NodeId × T)). let q : NodeId × T = (node, item) in q ∷ qs)
            (sym (ap (λ (pool : PoolOf T). list_of pool l) taken
            ∙ get_or-set_same old.lists l (without node (list_of old l)) [] low ∙ ap (without node) is
            ∙ rest));
        free = ap (λ (pool : PoolOf T). pool.free) taken;
      }
    where
      pair_is : (p : NodeId × T) → p.0 ≡ node → p.1 ≡ item → p ≡ (node, item)
      pair_is p a b =
          ap (λ (m : NodeId). let q : NodeId × T = (m, p.1) in q) a
          ∙ ap (λ (x : T). let q : NodeId × T = (node, x) in q) b

  -- the first node of a list, taken out, was its first
  pub popped : (old new : PoolOf T) (l : ℕ) (node : NodeId) (item : T) (answer : Option NodeId)
      → l < length old.lists → NoneTwice old → answer ≡ first_of (list_of old l) → answer ≡ Some node →
      new ≡ unlinked l node old → Contains (list_of old l) (node, item) → node_count new ≡ node_count old
      → IsPopped l item old new
  popped old new l node item answer low one first some taken there count =
      by_list old new l node item (list_of old l) refl low one (sym first ∙ some) taken there
      (λ x also. one_item old l l node x item one also there) count

-- a list without a first node is empty
pub empty_list : {T : Type 0} (ps : List (NodeId × T)) (answer : Option NodeId) → answer ≡ first_of ps
    → answer ≡ None → ps ≡ []
empty_list [] answer first none = refl
empty_list (p ∷ ps) answer first none = absurd (cc)
