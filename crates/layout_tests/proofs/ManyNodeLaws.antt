use Rattle.std.proofs.Common.{◌≡◌, ◌≢◌, ◌∙◌, refl, sym, ap, subst, inl, inr, ℕ, zero, suc, ◌<◌, ◌⊎◌, List, [], ◌∷◌, ◌++◌, length, Contains, Some}
use Rattle.std.specs.Prelude.{slice_get}
use Rattle.comp_pool.specs.declared.node.NodeId.{NodeId}
use Rattle.comp_pool.specs.Pool.{PoolOf, NoneTwice, list_of}
use Rattle.comp_pool.specs.Changes.{pushed, unlinked}
use Rattle.layout_tests.specs.Private.ManyNodes.{HasIndex}
use Rattle.comp_pool.proofs.ItemLaws.{item_pushed, item_after_push, item_after_unlink}
use Rattle.comp_pool.proofs.NodeLaws.{one_item}

slice_get-push : {X : Type 0} (xs : List X) (x : X) (k : ℕ) (y : X) → slice_get (xs ++ x ∷ []) k ≡ Some y →
    (slice_get xs k ≡ Some y) ⊎ ((k ≡ length xs) × (x ≡ y))
slice_get-push [] x zero y e = inr (refl, cc)
slice_get-push [] x (suc k) y e = absurd cc
slice_get-push (z ∷ xs) x zero y e = inl e
slice_get-push (z ∷ xs) x (suc k) y e = elim (slice_get-push xs x k y e) [
  | inl before ↦ inl before
  | inr last ↦ inr (ap suc last.0, last.1)
]

-- one more node, with its index, is pushed
pub one_more : (old new : PoolOf ℕ) (nodes : List NodeId) (node : NodeId) (i : ℕ)
    → ((k : ℕ) → HasIndex old nodes k) →
    new ≡ pushed 0 (node, i) old → i ≡ length nodes → 0 < length old.lists → (k : ℕ)
    → HasIndex new (nodes ++ node ∷ []) k
one_more old new nodes node i have is index a_list k m at = elim (slice_get-push nodes node k m at) [
  | inl before ↦ item_after_push old new 0 0 (m, k) (node, i) is (have k m before)
  | inr last ↦
      let pair : ℕ → NodeId → NodeId × ℕ = λ j n. (n, j) in
      let same : pair i node ≡ pair k m =
      ap (λ (j : ℕ). pair j node) (index ∙ sym last.0) ∙ ap (λ (n : NodeId). pair k n) last.1 in
      let Q : NodeId × ℕ → Type 0 = λ q. Contains (list_of new 0) q in
      subst Q same (item_pushed old new 0 (node, i) is a_list)
]

-- the others still have their indices after one was taken out
pub others_stay : (old new : PoolOf ℕ) (nodes : List NodeId) (index : ℕ) (taken : NodeId) → NoneTwice old
    → new ≡ unlinked 0 taken old →
    slice_get nodes index ≡ Some taken → HasIndex old nodes index → (k : ℕ) → k ≢ index
    → HasIndex old nodes k → HasIndex new nodes k
others_stay old new nodes index taken one is at has k other have m there =
    let Q : NodeId → Type 0 = λ n. Contains (list_of old 0) (n, k) in
    item_after_unlink old new 0 0 (m, k) taken is
    (λ same. other (one_item old 0 0 taken k index one (subst Q same (have m there)) (has taken at)))
    (have m there)
