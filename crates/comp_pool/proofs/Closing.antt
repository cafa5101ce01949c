use Rattle.std.proofs.Common.{◌≡◌, ◌∙◌, sym, subst, inl, inr, ℕ, ◌+◌, ◌-◌, ◌<◌, ◌≤◌, ◌⊎◌, List, [], ◌∷◌, length, get_or, arith}
use Rattle.std.proofs.lemmas.Bool.{cases_lt}
use Rattle.comp_pool.specs.Private.Links.{Chain, AllNodes, IsLinked, IsClosed, IsLast, list_at, next_when_free, back_when_free}
use Rattle.comp_pool.proofs.Making.{next_other, back_other}

-- Ends that are linked with themselves again, when a pool is reset.

last_node : (f g : ℕ → ℕ) (count x : ℕ) (xs : List ℕ) (b : ℕ) → x < count → AllNodes count xs
    → Chain f g x xs b → (n : ℕ) × (n < count) × (f n ≡ b)
last_node f g count x [] b below A c = (x, below, c.0)
last_node f g count x (y ∷ ys) b below A c = last_node f g count y ys b A.0 A.1 c.2

-- the end of an empty list is linked with itself, and that of another one is what its last node is linked to
closed_or_last : (N P : List ℕ) (count e : ℕ) (xs : List ℕ) → AllNodes count xs
    → Chain (λ i. get_or N i 0) (λ i. get_or P i 0) e xs e →
    IsClosed N P e ⊎ IsLast N count 0 e
closed_or_last N P count e [] A c = inl (c.0, c.1)
closed_or_last N P count e (x ∷ xs) A c =
    let last = last_node (λ i. get_or N i 0) (λ i. get_or P i 0) count x xs e A.0 A.1 c.2 in
    inr (last.0, omega arith, last.1, last.2)

pub each_end : (count : ℕ) (N P : List ℕ) (lists : List (List ℕ)) → IsLinked count N P lists → (e : ℕ)
    → count ≤ e → e < length N →
    IsClosed N P e ⊎ IsLast N count 0 e
each_end count N P lists linked e le lt =
    let same : count + (e - count) ≡ e = omega arith in
    let ring = linked.rings (e - count) (omega (arith, linked.ends)) in
    let Q : ℕ → Type 0 = λ m. IsClosed N P m ⊎ IsLast N count 0 m in
    subst Q same (closed_or_last N P count (count + (e - count)) (list_at lists (e - count)) ring.nodes ring.chain)

-- links that are free below the first end, and closed from there on, are free

pub free_forward : (count : ℕ) (N : List ℕ) (k : ℕ)
    → (k < count + 1 → get_or N k 0 ≡ next_when_free count k) → (count + 1 ≤ k → get_or N k 0 ≡ k) →
    get_or N k 0 ≡ next_when_free count k
free_forward count N k below above = elim (cases_lt k (count + 1)) [
  | inl lt ↦ below lt
  | inr ge ↦ above ge ∙ sym (next_other count k (omega (arith, ge)))
]

pub free_backward : (count : ℕ) (P : List ℕ) (k : ℕ)
    → (k < count + 1 → get_or P k 0 ≡ back_when_free count k) → (count + 1 ≤ k → get_or P k 0 ≡ k) →
    get_or P k 0 ≡ back_when_free count k
free_backward count P k below above = elim (cases_lt k (count + 1)) [
  | inl lt ↦ below lt
  | inr ge ↦ above ge ∙ sym (back_other count k (omega (arith, ge)))
]
