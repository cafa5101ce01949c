-- The items of a list that are changed one after another.
use Rattle.std.proofs.Common.{◌≡◌, ◌≢◌, ◌∙◌, refl, sym, ap, subst, ℕ, zero, suc, ◌<◌, Bool, true, false, List, [], ◌∷◌, ◌++◌, length, map, Contains, Option, Some, None, append_assoc, arith}
use Rattle.std.proofs.lemmas.List.{length-map, map-append}
use Rattle.std.proofs.lemmas.List.Elements.{Contains-append_right}
use Rattle.comp_pool.specs.declared.node.NodeId.{NodeId}
use Rattle.comp_pool.specs.Pool.{PoolOf, list_of, nodes_of, IsInList, NoneTwice, node_count}
use Rattle.comp_pool.specs.Places.{is_node, first_of, behind, rest_from}
use Rattle.comp_pool.specs.Changes.{replaced, with_item}
use Rattle.comp_pool.proofs.PairLaws.{AtOne, off_before, behind_split, is_node_other}
use Rattle.comp_pool.proofs.ItemLaws.{in_list_from_item, list_after_set, list_count_after_set}
use Rattle.comp_pool.proofs.NodeLaws.{one_item, one_list, nodes_after_set}
use Rattle.comp_pool.proofs.WalkLaws.{set_split, walk_step}
use Rattle.page_core.specs.Private.Lists.{KeepsBeside, with_changed, IsRewritten}

module _ {T : Type 0} where
  -- ---- other lists

  untouched : (node : NodeId) (item : T) (ps : List (NodeId × T))
      → ((p : NodeId × T) → Contains ps p → p.0 ≢ node) → map (with_item node item) ps ≡ ps
  untouched node item [] nowhere = refl
  untouched node item (p ∷ ps) nowhere =
      let other : is_node p.0 node ≡ false = is_node_other p.0 node (nowhere p (zero, omega arith, refl)) in
      rw other (ap (λ (qs : List (NodeId × T)). p ∷ qs)
      (untouched node item ps (λ q there. nowhere q (suc there.0, omega (arith, there.1), there.2))))

  beside_set : (old new : PoolOf T) (l k : ℕ) (node : NodeId) (item : T) → new ≡ replaced node item old
      → NoneTwice old → IsInList old l node → k ≢ l → list_of new k ≡ list_of old k
  beside_set old new l k node item is one listed other =
      list_after_set old new k node item is
      ∙ untouched node item (list_of old k) (λ p there same.
      other (sym
      (one_list old l k node one listed
      (subst (λ (m : NodeId). IsInList old k m) same (in_list_from_item old k p.0 p.1 there)))))

  pub keeps_set : (old new : PoolOf T) (l : ℕ) (node : NodeId) (item : T) → new ≡ replaced node item old
      → NoneTwice old → IsInList old l node → node_count new ≡ node_count old → KeepsBeside l old new
  keeps_set old new l node item is one listed count =
      record {
        lists = list_count_after_set old new node item is;
        others = λ k other. beside_set old new l k node item
            is one listed other;
        count = count;
      }

  -- ---- on the way

  -- some of the items are changed, and the others are behind them
  pub record IsRewriting (l : ℕ) (change : T → T) (begin : PoolOf T) (rest : List (NodeId × T))
      (place : Option NodeId) (now : PoolOf T) : Type 0 where
    pub before : List (NodeId × T)
    pub all : before ++ rest ≡ list_of begin l
    pub list : list_of now l ≡ map (with_changed change) before ++ rest
    pub at : place ≡ first_of rest
    pub distinct : NoneTwice now
    pub beside : KeepsBeside l begin now
    pub free : now.free ≡ begin.free

  pub rewriting_begins : (l : ℕ) (change : T → T) (pool : PoolOf T) (place : Option NodeId) → NoneTwice pool
      → place ≡ first_of (list_of pool l) → IsRewriting l change pool (list_of pool l) place pool
  rewriting_begins l change pool place one first =
      record {
        before = [];
        all = refl;
        list = refl;
        at = first;
        distinct = one;
        beside = record { lists = refl; others = λ k other. refl; count = refl };
        free = refl;
      }

  module _ (l : ℕ) (change : T → T) (begin : PoolOf T) (p : NodeId × T) (vs : List (NodeId × T))
      (place : Option NodeId) (now : PoolOf T) (on : IsRewriting l change begin (p ∷ vs) place now) where
    us : List (NodeId × T)
    us = map (with_changed change) on.before

    there : Contains (list_of now l) p
    there =
        subst (λ (ps : List (NodeId × T)). Contains ps p) (sym on.list)
        (Contains-append_right (map (with_changed change) on.before) (p ∷ vs) p (zero, omega arith, refl))

    -- the node that comes is in the list, and its item was there from the beginning
    pub node_comes : IsInList now l p.0
    node_comes = in_list_from_item now l p.0 p.1 there

    pub item_comes : (item : T) → Contains (list_of now l) (p.0, item) → item ≡ p.1
    item_comes item here = one_item now l l p.0 item p.1 on.distinct here there

    next_is : behind p.0 (list_of now l) ≡ first_of vs
    next_is =
        let at_one : AtOne p.0 (map (with_changed change) on.before ++ p ∷ vs) =
        subst (λ (ps : List (NodeId × T)). AtOne p.0 ps) on.list (λ i j e f. (on.distinct l l i j p.0 e f).1) in
        ap (behind p.0) on.list
        ∙ behind_split p.0 p.1 (map (with_changed change) on.before) vs
        (off_before p.0 p.1 (map (with_changed change) on.before) vs at_one)

    -- behind it the walk goes on
    pub rewriting_goes_on : (answer : Option NodeId) (new : PoolOf T) → answer ≡ behind p.0 (list_of now l)
        → new ≡ replaced p.0 (change p.1) now → NoneTwice new → node_count new ≡ node_count now
        → IsRewriting l change begin vs answer new
    rewriting_goes_on answer new answer_is is one count = record {
      before = on.before ++ p ∷ [];
      all = append_assoc on.before (p ∷ []) vs ∙ on.all;
      list =
          set_split now l on.distinct (map (with_changed change) on.before) vs p.0 p.1 on.list new (change p.1) is
          ∙ sym (append_assoc (map (with_changed change) on.before) (with_changed change p ∷ []) vs)
          ∙ ap (λ (qs : List (NodeId × T)). qs ++ vs) (sym (map-append (with_changed change) on.before (p ∷ [])));
      at = answer_is ∙ next_is;
      distinct = one;
      beside =
          let set = keeps_set now new l p.0 (change p.1) is on.distinct node_comes count in
          record {
            lists = set.lists ∙ on.beside.lists;
            others = λ k other. set.others k other ∙ on.beside.others k other;
            count = set.count ∙ on.beside.count;
          };
      free = ap (λ (pool : PoolOf T). pool.free) is ∙ on.free;
    }

  -- nothing is left
  pub rewriting_ends : (l : ℕ) (change : T → T) (begin : PoolOf T) (rest : List (NodeId × T))
      (place : Option NodeId) (now : PoolOf T) → IsRewriting l change begin rest place now → place ≡ None
      → IsRewritten l change begin now × (rest ≡ [])
  rewriting_ends l change begin [] place now on none = (
    record {
      beside = on.beside;
      free = on.free;
      list = on.list
          ∙ ap (λ (qs : List (NodeId × T)). map (with_changed change) qs ++ [])
          (sym (no_more on.before) ∙ on.all) ∙ no_more (map (with_changed change) (list_of begin l));
    },
    refl,
  )
    where
      no_more : (qs : List (NodeId × T)) → qs ++ [] ≡ qs
      no_more [] = refl
      no_more (q ∷ qs) = ap (λ (more : List (NodeId × T)). q ∷ more) (no_more qs)
  rewriting_ends l change begin (p ∷ rest) place now on none = let at = on.at in absurd (cc)

  -- ---- how far it is

  same_nodes : (place : Option NodeId) (ps qs : List (NodeId × T)) → nodes_of ps ≡ nodes_of qs
      → length (rest_from place ps) ≡ length (rest_from place qs)
  same_nodes None ps qs same = refl
  same_nodes (Some node) [] [] same = refl
  same_nodes (Some node) [] (q ∷ qs) same = absurd (cc)
  same_nodes (Some node) (p ∷ ps) [] same = absurd (cc)
  same_nodes (Some node) (p ∷ ps) (q ∷ qs) same =
      let first : p.0 ≡ q.0 = cc in
      let others : nodes_of ps ≡ nodes_of qs = cc in
      by (is_node p.0 node) refl (ap (λ (m : NodeId). is_node m node) (sym first))
      (same_nodes (Some node) ps qs others) (ap length_of others)
    where
      length_of : List NodeId → ℕ
      length_of ms = length ms

      by : (hit : Bool) → is_node p.0 node ≡ hit → is_node q.0 node ≡ is_node p.0 node
          → length (rest_from (Some node) ps) ≡ length (rest_from (Some node) qs)
          → length (nodes_of ps) ≡ length (nodes_of qs)
          → length (rest_from (Some node) (p ∷ ps)) ≡ length (rest_from (Some node) (q ∷ qs))
      by true is also behind count =
          let there : is_node q.0 node ≡ true =
          also ∙ is in rw (is, there)
          (omega (
            arith,
            count,
            length-map ps (λ (pair : NodeId × T). pair.0),
            length-map qs
                (λ (pair : NodeId × T). pair.0),
          ))
      by false is also behind count = let there : is_node q.0 node ≡ false = also ∙ is in rw (is, there) behind

  pub walk_shorter : (old new : PoolOf T) (l : ℕ) (node : NodeId) (item changed : T) (answer : Option NodeId)
      → NoneTwice old → Contains (list_of old l) (node, item) → answer ≡ behind node (list_of old l)
      → new ≡ replaced node changed old
      → length (rest_from answer (list_of new l)) < length (rest_from (Some node) (list_of old l))
  walk_shorter old new l node item changed answer one there is set =
      omega (
        arith,
        ap length (walk_step old l one node item answer there is),
        same_nodes answer (list_of new l)
            (list_of old l) (nodes_after_set old new l node changed set),
      )
