use Rattle.std.proofs.Common.{◌≡◌, ◌∙◌, refl, ap, subst, ℕ, zero, suc, ◌+◌, ◌-◌, ◌<◌, ◌≤◌, ◌^◌, inl, inr, true, false, ltb, eqb, List, [], ◌∷◌, length, map, get_or, replicate, sum_by, arith}
use Rattle.std.specs.List.{range_with_len}
use Rattle.std.proofs.lemmas.Bool.{ne_eqb, eq-eqb, lt-ltb, le-ltb, cases_eq, cases_lt}
use Rattle.std.proofs.lemmas.List.{length-map, get_or-replicate, length-replicate}
use Rattle.std.proofs.lemmas.List.FromFn.{length-range_with_len}
use Rattle.std.proofs.lemmas.List.Sums.{sum_by-cons}
use Rattle.std.proofs.lemmas.List.Folds.{sum_by-replicate}
use Rattle.comp_pool.specs.declared.node.NodeId.{NodeId}
use Rattle.comp_pool.specs.Private.Links.{Chain, AllNodes, list_at, IsRing, IsLinked, next_when_free, back_when_free}
use Rattle.comp_pool.specs.Private.View.{pairs, pool_of, pool_of_lists}
use Rattle.comp_pool.proofs.Lists.{lists_of-is}

made_chain : (f g : ℕ → ℕ) (count a j m : ℕ) → j + m ≡ count → f a ≡ j → g j ≡ a
    → ((k : ℕ) → k < count → f k ≡ k + 1) →
    ((k : ℕ) → k < count → g (k + 1) ≡ k) → Chain f g a (range_with_len j m) count
made_chain f g count a j zero is fa gj F G =
    let same : j ≡ count = omega (arith, is) in
    (fa ∙ same, subst (λ (z : ℕ). g z ≡ a) same gj)
made_chain f g count a j (suc m) is fa gj F G = (
  fa,
  gj,
  made_chain f g count j (j + 1) m (omega (arith, is)) (F j (omega (arith, is))) (G j (omega (arith, is))) F
      G,
)

made_nodes : (count j m : ℕ) → j + m ≤ count → AllNodes count (range_with_len j m)
made_nodes count j zero le = tt
made_nodes count j (suc m) le = (omega arith, made_nodes count (j + 1) m (omega arith))

next_node : (count k : ℕ) → k < count → next_when_free count k ≡ k + 1
next_node count k lt = let t : ltb k count ≡ true = lt-ltb k count lt in rw t refl

next_end : (count : ℕ) → next_when_free count count ≡ 0
next_end count =
    let t : ltb count count ≡ false = le-ltb count count (omega arith) in
    let e : eqb count count ≡ true = eq-eqb count count refl in rw t (rw e refl)

pub next_other : (count k : ℕ) → count < k → next_when_free count k ≡ k
next_other count k lt =
    let t : ltb k count ≡ false = le-ltb k count (omega arith) in
    let e : eqb k count ≡ false = ne_eqb k count (λ h. absurd (omega (arith, h))) in rw t (rw e refl)

back_node : (count k : ℕ) → k < count → back_when_free count (k + 1) ≡ k
back_node count k lt =
    let e : eqb (k + 1) 0 ≡ false = ne_eqb (k + 1) 0 (λ h. absurd (omega (arith, h))) in
    let t : ltb count (k + 1) ≡ false = le-ltb count (k + 1) (omega arith) in rw e (rw t (omega arith))

pub back_other : (count k : ℕ) → count < k → back_when_free count k ≡ k
back_other count k lt =
    let e : eqb k 0 ≡ false = ne_eqb k 0 (λ h. absurd (omega (arith, h))) in
    let t : ltb count k ≡ true = lt-ltb count k lt in rw e (rw t refl)

next_inside : (count k m : ℕ) → k < m → count < m → next_when_free count k < m
next_inside count k m short ends = elim (cases_lt k count) [
  | inl lt ↦ omega (arith, next_node count k lt)
  | inr ge ↦ elim (cases_eq k count) [
    | inl e ↦ omega (arith, ap (λ (i : ℕ). next_when_free count i) e, next_end count)
    | inr ne ↦ elim (cases_lt count k) [
      | inl gt ↦ omega (arith, next_other count k gt)
      | inr le ↦ absurd (ne (omega (arith, ge, le)))
    ]
  ]
]

-- all nodes in list 0, and n other lists
abbrev pub free_lists : ℕ → ℕ → List (List ℕ)
free_lists count n = range_with_len 0 count ∷ replicate n []

pub made : (count n : ℕ) (N P : List ℕ) → length N ≡ count + 1 + n → length P ≡ length N
    → length N < 2 ^ 64 →
    ((k : ℕ) → k < length N → get_or N k 0 ≡ next_when_free count k)
    → ((k : ℕ) → k < length P → get_or P k 0 ≡ back_when_free count k) →
    IsLinked count N P (free_lists count n)
made count n N P long both few F G = record {
  few = few;
  ends = omega (arith, long, length-replicate n (let none : List ℕ = [] in none));
  both = both;
  inside = λ k short. omega (arith, F k short, next_inside count k (length N) short (omega (arith, long)));
  rings = λ l short. made_ring l short;
  whole =
      sum_by-cons length (range_with_len 0 count) (replicate n [])
      ∙ omega (arith, length-range_with_len 0 count, sum_by-replicate {X = List ℕ} length n []);
} where
  made_ring : (l : ℕ) → l < length (free_lists count n)
      → IsRing count N P (count + l) (list_at (free_lists count n) l)
  made_ring zero short =
      let here : count + 0 ≡ count = omega arith in
      rw here (record {
        chain = made_chain (λ i. get_or N i 0) (λ i. get_or P i 0) count count 0 count (omega arith)
            (F count (omega (arith, long)) ∙ next_end count) (G 0 (omega (arith, long, both)))
            (λ k lt. F k (omega (arith, long)) ∙ next_node count k lt)
            (λ k lt. G (k + 1) (omega (arith, long, both)) ∙ back_node count k lt);
        nodes = made_nodes count 0 count (omega arith);
      })
  made_ring (suc l) short =
      let within : l < n = omega (arith, short, length-replicate n (let none : List ℕ = [] in none)) in
      let none : List ℕ = [] in
      let empty : get_or (replicate n none) l none ≡ none = get_or-replicate n l none none within in
      rw empty (record {
        chain = (
          F (count + suc l) (omega (arith, long)) ∙ next_other count (count + suc l) (omega arith),
          G (count + suc l) (omega (arith, long, both)) ∙ back_other count (count + suc l) (omega arith),
        );
        nodes = tt;
      })

map-empty : {T : Type 0} (filler : T) (items : List T) (n : ℕ)
    → map (pairs filler items) (replicate n []) ≡ replicate n []
map-empty filler items zero = refl
map-empty {T} filler items (suc n) = ap (λ (ls : List (List (NodeId × T))). [] ∷ ls) (map-empty filler items n)

pub made_pool : {T : Type 0} (filler : T) (items : List T) (count n : ℕ) (N P : List ℕ)
    → IsLinked count N P (free_lists count n) →
    pool_of count N filler items ≡ record { lists = replicate n []; free = count }
made_pool {T} filler items count n N P linked =
    ap (pool_of_lists filler items) (lists_of-is count N P (free_lists count n) linked)
    ∙ (λ i. record { lists = map-empty filler items n i; free = length-range_with_len 0 count i })

-- a value's nodes and its free nodes are all
pub pool_whole : {T : Type 0} (filler : T) (items : List T) (count : ℕ) (lists : List (List ℕ))
    → 0 < length lists → sum_by length lists ≡ count →
    (pool_of_lists filler items lists).free + sum_by length (pool_of_lists filler items lists).lists ≡ count
pool_whole {T} filler items count [] some_list is = absurd (omega arith)
pool_whole {T} filler items count (free ∷ lists) some_list is =
    omega (arith, is, sum_by-cons length free lists, sum_pairs lists) where
      sum_pairs : (ls : List (List ℕ)) → sum_by length (map (pairs filler items) ls) ≡ sum_by length ls
      sum_pairs [] = refl
      sum_pairs (x ∷ ls) =
          let f : ℕ → NodeId × T = λ n. (record { number = n }, get_or items n filler) in
          omega (
            arith,
            sum_by-cons length x ls,
            sum_by-cons length (pairs filler items x)
                (map (pairs filler items) ls),
            length-map x f,
            sum_pairs ls,
          )

pub length-lists : {T : Type 0} (filler : T) (items : List T) (lists : List (List ℕ)) → 0 < length lists →
    length (pool_of_lists filler items lists).lists ≡ length lists - 1
length-lists filler items [] some_list = absurd (omega arith)
length-lists filler items (free ∷ lists) some_list = omega (arith, length-map lists (pairs filler items))
