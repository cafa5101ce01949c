use Rattle.std.proofs.Common.{◌≡◌, ◌∙◌, refl, sym, ap, subst, inl, inr, ℕ, zero, suc, ◌+◌, ◌<◌, ◌≢◌, List, [], ◌∷◌, length, map, get_or, Some, Contains, arith}
use Rattle.std.specs.Prelude.{slice_get}
use Rattle.std.proofs.Math.ListN.{get_or-map}
use Rattle.std.proofs.lemmas.List.{length-map, get_or_default}
use Rattle.std.proofs.lemmas.Option.{slice_get_within, get_or_from_slice_get}
use Rattle.std.proofs.lemmas.Bool.{cases_eq}
use Rattle.comp_pool.specs.declared.node.NodeId.{NodeId}
use Rattle.comp_pool.specs.Private.Links.{Chain, AllNodes, lists_of, list_at, IsLinked}
use Rattle.comp_pool.specs.Pool.{nodes_of, list_of, IsAt, NoneTwice}
use Rattle.comp_pool.specs.Private.View.{pool_of, pool_of_lists}
use Rattle.comp_pool.proofs.Chains.{Off, Apart, Split-at, Chain-split, Nodes-split, apart, elsewhere}
use Rattle.comp_pool.proofs.Views.{list_of-pool, named, nodes-pairs}
use Rattle.comp_pool.proofs.Calls.{index-within}

-- In the value of linked lists no node is twice.

Off-at : (n : ℕ) (xs : List ℕ) (j : ℕ) → Off n xs → j < length xs → get_or xs j 0 ≢ n
Off-at n [] j off short = absurd (omega arith)
Off-at n (x ∷ xs) zero off short = off.0
Off-at n (x ∷ xs) (suc j) off short = Off-at n xs j off.1 (omega arith)

Apart-at : (xs : List ℕ) (i j : ℕ) → Apart xs → i < length xs → j < length xs
    → get_or xs i 0 ≡ get_or xs j 0 → i ≡ j
Apart-at [] i j A p q e = absurd (omega arith)
Apart-at (x ∷ xs) zero zero A p q e = refl
Apart-at (x ∷ xs) zero (suc j) A p q e = absurd (Off-at x xs j A.0 (omega arith) (sym e))
Apart-at (x ∷ xs) (suc i) zero A p q e = absurd (Off-at x xs i A.0 (omega arith) e)
Apart-at (x ∷ xs) (suc i) (suc j) A p q e = ap suc (Apart-at xs i j A.1 (omega arith) (omega arith) e)

-- a node of one list is no node of another
other_list : (count : ℕ) (N P : List ℕ) (lists : List (List ℕ)) (l k i : ℕ) → IsLinked count N P lists
    → l < length lists → k < length lists →
    i < length (list_at lists l) → l ≢ k → Off (get_or (list_at lists l) i 0) (list_at lists k)
other_list count N P lists l k i linked l_in k_in i_in ne =
    let f : ℕ → ℕ = λ i. get_or N i 0 in
    let g : ℕ → ℕ = λ i. get_or P i 0 in
    let n = get_or (list_at lists l) i 0 in
    let ring = linked.rings l l_in in
    let other = linked.rings k k_in in
    let split = Split-at n (list_at lists l) i i_in (get_or_default (list_at lists l) i n 0 i_in) in
    let parts =
    Chain-split f g (count + l) split.front n split.back (count + l)
    (subst (λ (zs : List ℕ). Chain f g (count + l) zs (count + l)) split.is ring.chain) in
    let nodes = Nodes-split count split.front n split.back (subst (AllNodes count) split.is ring.nodes) in
    elsewhere f g count n split.back (count + l) (count + k) (list_at lists k) nodes.2 other.nodes (omega arith)
    (omega arith)
    (λ e. ne (omega (arith, e))) parts.1 other.chain

one_place : (count : ℕ) (N P : List ℕ) (lists : List (List ℕ)) (l k i j : ℕ) → IsLinked count N P lists
    → l < length lists → k < length lists →
    i < length (list_at lists l) → j < length (list_at lists k)
    → get_or (list_at lists l) i 0 ≡ get_or (list_at lists k) j 0 → (l ≡ k) × (i ≡ j)
one_place count N P lists l k i j linked l_in k_in i_in j_in e = elim (cases_eq l k) [
  | inr ne ↦ absurd
      (Off-at (get_or (list_at lists l) i 0) (list_at lists k) j
      (other_list count N P lists l k i linked l_in k_in i_in ne) j_in (sym e))
  | inl same ↦
      let ring = linked.rings l l_in in
      let A =
      apart (λ i. get_or N i 0) (λ i. get_or P i 0) count (count + l) (list_at lists l) (count + l) ring.nodes
      (omega arith) ring.chain in
      let Q : ℕ → Type 0 = λ m. j < length (list_at lists m)
      → get_or (list_at lists l) i 0 ≡ get_or (list_at lists m) j 0 → i ≡ j in
      (same, subst Q same (λ j_in e. Apart-at (list_at lists l) i j A i_in j_in e) j_in e)
]

-- a node is in one list
pub one_list : (count : ℕ) (N P : List ℕ) (lists : List (List ℕ)) (a b n : ℕ) → IsLinked count N P lists
    → a < length lists → b < length lists →
    Contains (list_at lists a) n → Contains (list_at lists b) n → a ≡ b
one_list count N P lists a b n linked a_in b_in (i, i_in, p) (j, j_in, q) =
    (one_place count N P lists a b i j linked a_in b_in i_in j_in
    (get_or_default (list_at lists a) i 0 n i_in ∙ p ∙ sym q
    ∙ sym (get_or_default (list_at lists b) j 0 n j_in))).0

numbered : (xs : List ℕ) (i : ℕ) (node : NodeId) → slice_get (map named xs) i ≡ Some node → (i < length xs)
    × (get_or xs i 0 ≡ node.number)
numbered xs i node is =
    let short : i < length xs = omega (arith, slice_get_within (map named xs) i node is, length-map xs named) in
    let here : get_or (map named xs) i node ≡ node = get_or_from_slice_get (map named xs) i node node is in (
      short,
      get_or_default xs i 0 node.number short
          ∙ ap (λ (m : NodeId). m.number) (sym (get_or-map named xs i node.number) ∙ here),
    )

-- where a node of the value is, in the linked lists
place : {T : Type 0} (filler : T) (items : List T) (lists : List (List ℕ)) (l i : ℕ) (node : NodeId)
    → IsAt (pool_of_lists filler items lists) l i node →
    (i < length (list_at lists (l + 1))) × (get_or (list_at lists (l + 1)) i 0 ≡ node.number)
place {T} filler items lists l i node listed =
    let P : List NodeId → Type 0 = λ ms. slice_get ms i ≡ Some node in
    let shown : nodes_of (list_of (pool_of_lists filler items lists) l) ≡ map named (list_at lists (l + 1)) =
    ap (λ (ps : List (NodeId × T)). nodes_of ps) (list_of-pool filler items l lists)
    ∙ nodes-pairs filler items (list_at lists (l + 1)) in
    numbered (list_at lists (l + 1)) i node (subst P shown listed)

pub none_twice : {T : Type 0} (filler : T) (items : List T) (count : ℕ) (N P : List ℕ)
    → IsLinked count N P (lists_of count N) → NoneTwice (pool_of count N filler items)
none_twice {T} filler items count N P linked l k i j node at_l at_k =
    let lists = lists_of count N in
    let p = place filler items lists l i node at_l in
    let q = place filler items lists k j node at_k in
    let r =
    one_place count N P lists (l + 1) (k + 1) i j linked (index-within lists (l + 1) i p.0)
    (index-within lists (k + 1) j q.0) p.0 q.0
    (p.1 ∙ sym q.1) in
    (omega (arith, r.0), r.1)
