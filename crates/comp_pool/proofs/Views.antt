use Rattle.std.proofs.Common.{◌≡◌, ◌∙◌, refl, sym, ap, ℕ, zero, suc, ◌+◌, ◌-◌, ◌<◌, ◌≤◌, Bool, true, false, not, ◌==◌, cond, List, [], ◌∷◌, ◌++◌, length, map, filter, get_or, set, add-one, arith}
use Rattle.std.proofs.lemmas.List.{map-set, map-append, get_or-set_same, get_or-set_other, length_push}
use Rattle.std.proofs.Math.ListN.{get_or-map}
use Rattle.comp_pool.specs.declared.node.NodeId.{NodeId}
use Rattle.comp_pool.specs.Private.Links.{Chain, AllNodes, list_at, dropping, removed, appended}
use Rattle.comp_pool.specs.Pool.{list_of, nodes_of}
use Rattle.comp_pool.specs.Changes.{without, pushed, unlinked}
use Rattle.comp_pool.specs.Private.View.{pairs, pool_of_lists}
use Rattle.comp_pool.proofs.Chains.{Off}

-- what the link forward from the near end of a chain says: past the nodes where the chain is empty, else its first node
pub data Ahead (count m : ℕ) (xs : List ℕ) : Type 0 where
  none : xs ≡ [] → count ≤ m → Ahead count m xs
  some : (ys : List ℕ) → xs ≡ m ∷ ys → m < count → Ahead count m xs

pub ahead : (f g : ℕ → ℕ) (count a : ℕ) (xs : List ℕ) (b : ℕ) → AllNodes count xs → count ≤ b
    → Chain f g a xs b → Ahead count (f a) xs
ahead f g count a [] b A hb c = none refl (omega (arith, c.0))
ahead f g count a (x ∷ xs) b A hb c = some xs (ap (λ (z : ℕ). z ∷ xs) (sym c.0)) (omega (arith, c.0, A.0))

-- an item of a node that is not in the list makes no difference
pub pairs-set : {T : Type 0} (filler : T) (items : List T) (n : ℕ) (item : T) (xs : List ℕ) → Off n xs →
    pairs filler (set items n item) xs ≡ pairs filler items xs
pairs-set filler items n item [] o = refl
pairs-set {T} filler items n item (x ∷ xs) o =
    let this : get_or (set items n item) x filler ≡ get_or items x filler =
    get_or-set_other items n x item filler o.0 in
    rw (this, pairs-set filler items n item xs o.1) refl

all_pairs-set : {T : Type 0} (filler : T) (items : List T) (n : ℕ) (item : T) (lists : List (List ℕ)) →
    ((k : ℕ) → k < length lists → Off n (get_or lists k [])) →
    map (pairs filler (set items n item)) lists ≡ map (pairs filler items) lists
all_pairs-set filler items n item [] off = refl
all_pairs-set filler items n item (xs ∷ lists) off =
    rw (
      pairs-set filler items n item xs (off zero (omega arith)),
      all_pairs-set filler items n item lists (λ k short. off (suc k) (omega (arith, short))),
    ) refl

pub pairs-dropping : {T : Type 0} (filler : T) (items : List T) (n : ℕ) (xs : List ℕ) →
    pairs filler items (dropping n xs) ≡ without (record { number = n }) (pairs filler items xs)
pairs-dropping filler items n [] = refl
pairs-dropping {T} filler items n (x ∷ xs) =
    let Same : Bool → Type 0 = λ t. pairs filler items (cond t (x ∷ dropping n xs) (dropping n xs))
    ≡ cond t ((record { number = x }, get_or items x filler)
    ∷ filter (λ p. not (p.0.number == n)) (pairs filler items xs))
    (filter (λ p. not (p.0.number == n)) (pairs filler items xs)) in
    let rest = pairs-dropping filler items n xs in
    elim (not (x == n)) as Same [
      | true ↦ ap (λ (ps : List (NodeId × T)). (record { number = x }, get_or items x filler) ∷ ps) rest
      | false ↦ rest
    ]

-- the node of that number
abbrev pub named : ℕ → NodeId
named n = record { number = n }

pub nodes-pairs : {T : Type 0} (filler : T) (items : List T) (xs : List ℕ)
    → nodes_of (pairs filler items xs) ≡ map named xs
nodes-pairs filler items [] = refl
nodes-pairs filler items (x ∷ xs) = ap (λ (ms : List NodeId). named x ∷ ms) (nodes-pairs filler items xs)

pub pushed_view : {T : Type 0} (filler : T) (items : List T) (item : T) (n l : ℕ) (lists : List (List ℕ)) →
    l + 1 < length lists → n < length items →
    ((k : ℕ) → k < length (removed n 0 lists) → Off n (list_at (removed n 0 lists) k)) →
    length (dropping n (list_at lists 0)) ≡ length (list_at lists 0) - 1 →
    pool_of_lists filler (set items n item) (appended n (l + 1) (removed n 0 lists))
    ≡ pushed l (record { number = n }, item) (pool_of_lists filler items lists)
pushed_view filler items item n l [] short within off fewer = absurd (omega arith)
pushed_view {T} filler items item n l (free ∷ lists) short within off fewer =
    rw (add-one, fewer)
    (let others : map (pairs filler (set items n item)) lists ≡ map (pairs filler items) lists =
    all_pairs-set filler items n item lists (λ k few. off (suc k) (omega (arith, few))) in
    let here : pairs filler (set items n item) (get_or lists l []) ≡ pairs filler items (get_or lists l []) =
    pairs-set filler items n item (get_or lists l []) (off (suc l) (omega (arith, short))) in
    let itself : get_or (set items n item) n filler ≡ item = get_or-set_same items n item filler within in
    let shown : map (pairs filler (set items n item)) (set lists l (get_or lists l [] ++ n ∷ []))
    ≡ set (map (pairs filler items) lists) l
    (get_or (map (pairs filler items) lists) l [] ++ (record { number = n }, item) ∷ []) =
    map-set (pairs filler (set items n item)) lists l (get_or lists l [] ++ n ∷ [])
    ∙ ap (λ (ps : List (NodeId × T)). set (map (pairs filler (set items n item)) lists) l ps)
    (map-append (λ x. (record { number = x }, get_or (set items n item) x filler)) (get_or lists l []) (n ∷ [])
    ∙ ap (λ (ps : List (NodeId × T)). ps ++ (record { number = n }, get_or (set items n item) n filler) ∷ [])
    (here ∙ sym (get_or-map (pairs filler items) lists l []))
    ∙ ap (λ (y : T). get_or (map (pairs filler items) lists) l [] ++ (record { number = n }, y) ∷ []) itself)
    ∙ ap (λ (ls : List (List (NodeId × T))). set ls l
    (get_or (map (pairs filler items) lists) l [] ++ (record { number = n }, item) ∷ [])) others
    in ap (λ (ls : List (List (NodeId × T))). record { lists = ls; free = length free - 1 }) shown)

pub unlinked_view : {T : Type 0} (filler : T) (items : List T) (n l : ℕ) (lists : List (List ℕ))
    → l + 1 < length lists →
    pool_of_lists filler items (appended n 0 (removed n (l + 1) lists))
    ≡ unlinked l (record { number = n }) (pool_of_lists filler items lists)
unlinked_view filler items n l [] short = absurd (omega arith)
unlinked_view {T} filler items n l (free ∷ lists) short =
    rw (add-one, length_push)
    (let shown : map (pairs filler items) (set lists l (dropping n (get_or lists l [])))
    ≡ set (map (pairs filler items) lists) l (without (named n) (get_or (map (pairs filler items) lists) l [])) =
    map-set (pairs filler items) lists l (dropping n (get_or lists l []))
    ∙ ap (λ (ps : List (NodeId × T)). set (map (pairs filler items) lists) l ps)
    (pairs-dropping filler items n (get_or lists l [])
    ∙ ap (λ (ps : List (NodeId × T)). without (named n) ps) (sym (get_or-map (pairs filler items) lists l [])))
    in ap (λ (ls : List (List (NodeId × T))). record { lists = ls; free = length free + 1 }) shown)

-- list l as the pool's value shows it
pub list_of-pool : {T : Type 0} (filler : T) (items : List T) (l : ℕ) (lists : List (List ℕ)) →
    list_of (pool_of_lists filler items lists) l ≡ pairs filler items (list_at lists (l + 1))
list_of-pool filler items l [] = refl
list_of-pool filler items l (free ∷ lists) = rw add-one (get_or-map (pairs filler items) lists l [])
