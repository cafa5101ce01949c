use Rattle.std.proofs.Common.{◌≡◌, ◌∙◌, refl, sym, ap, subst, inl, inr, ℕ, zero, suc, ◌+◌, ◌-◌, ◌<◌, ◌≤◌, List, [], ◌∷◌, ◌++◌, length, map, drop, true, false, eqb, Some, None, get_or, set, Contains, arith}
use Rattle.std.proofs.lemmas.List.{length-map, get_or_default, get_or-map as map_at, get_or-set_same, get_or-set_other}
use Rattle.std.proofs.Math.ListN.{get_or-map}
use Rattle.std.proofs.lemmas.Bool.{ne_eqb, eq-eqb, cases_eq}
use Rattle.comp_pool.specs.declared.node.NodeId.{NodeId}
use Rattle.comp_pool.specs.Private.Links.{Chain, AllNodes, lists_of, list_at, IsLinked, dropping, removed, appended}
use Rattle.comp_pool.specs.Pool.{PoolOf, list_of, nodes_of, IsInList}
use Rattle.comp_pool.specs.Places.{first_of, behind}
use Rattle.comp_pool.specs.Changes.{pushed, unlinked, with_item, replaced}
use Rattle.comp_pool.specs.Private.View.{pairs, pool_of, pool_of_lists}
use Rattle.comp_pool.proofs.Chains.{Off, Apart, Split-from_Contains, Chain-split, Nodes-split, Apart-split, apart, dropping-split}
use Rattle.comp_pool.proofs.Moves.{detached, node_of}
use Rattle.comp_pool.proofs.Lists.{lists_of-is}
use Rattle.comp_pool.proofs.Views.{Ahead, none, some, ahead, pushed_view, unlinked_view, list_of-pool, named, nodes-pairs}

-- the first free node, or none
pub free_ahead : (count : ℕ) (N P : List ℕ) (lists : List (List ℕ)) → IsLinked count N P lists
    → 0 < length lists →
    Ahead count (get_or N count 0) (list_at lists 0)
free_ahead count N P lists linked some_list =
    let ring = linked.rings 0 some_list in
    let here : count + 0 ≡ count = omega arith in
    subst (λ (i : ℕ). Ahead count (get_or N i 0) (list_at lists 0)) here
    (ahead (λ i. get_or N i 0) (λ i. get_or P i 0) count (count + 0) (list_at lists 0) (count + 0) ring.nodes
    (omega arith) ring.chain)

pub Contains-ahead : (count m : ℕ) (xs : List ℕ) → m < count → Ahead count m xs → Contains xs m
Contains-ahead count m xs below a = elim a [
  | none e past ↦ absurd (omega arith)
  | some ys e lt ↦ subst (λ (zs : List ℕ). Contains zs m) (sym e) (zero, omega arith, refl)
]

pub empty-ahead : (count m : ℕ) (xs : List ℕ) → count ≤ m → Ahead count m xs → length xs ≡ 0
empty-ahead count m xs past a = elim a [
  | none e _ ↦ ap length e
  | some ys e lt ↦ absurd (omega arith)
]

fewer : (count m : ℕ) (xs : List ℕ) → m < count → Apart xs → Ahead count m xs
    → length (dropping m xs) ≡ length xs - 1
fewer count m xs below A a = elim a [
  | none e past ↦ absurd (omega arith)
  | some ys e lt ↦
      let off : Apart (m ∷ ys) = subst Apart e A in
      rw e (ap length (dropping-split m [] ys tt off.0) ∙ omega arith)
]

pub pushed_pool : {T : Type 0} (filler item : T) (items : List T) (count : ℕ) (N P N' P' : List ℕ) (l n : ℕ) →
    IsLinked count N P (lists_of count N) → length items ≡ count → n ≡ get_or N count 0 → n < count
    → l + 1 < length (lists_of count N) →
    IsLinked count N' P' (appended n (l + 1) (removed n 0 (lists_of count N))) →
    pool_of count N' filler (set items n item) ≡ pushed l (record { number = n }, item) (pool_of count N filler items)
pushed_pool filler item items count N P N' P' l n linked full is below short linked' =
    let a : Ahead count n (list_at (lists_of count N) 0) =
    subst (λ (m : ℕ). Ahead count m (list_at (lists_of count N) 0)) (sym is)
    (free_ahead count N P (lists_of count N) linked (omega arith)) in
    let split =
    Split-from_Contains n (list_at (lists_of count N) 0)
    (Contains-ahead count n (list_at (lists_of count N) 0) below a) in
    let out = detached count N P (lists_of count N) linked n 0 (omega arith) split in
    let ring = linked.rings 0 (omega arith) in
    ap (pool_of_lists filler (set items n item)) (lists_of-is count N' P' _ linked')
    ∙ pushed_view filler items item n l (lists_of count N) short (omega (arith, full, below)) out.off
    (fewer count n (list_at (lists_of count N) 0) below
    (apart (λ i. get_or N i 0) (λ i. get_or P i 0) count (count + 0) (list_at (lists_of count N) 0) (count + 0)
    ring.nodes (omega arith) ring.chain) a)

pub unlinked_pool : {T : Type 0} (filler : T) (items : List T) (count : ℕ) (N N' P' : List ℕ) (l n : ℕ)
    → l + 1 < length (lists_of count N) →
    IsLinked count N' P' (appended n 0 (removed n (l + 1) (lists_of count N))) →
    pool_of count N' filler items ≡ unlinked l (record { number = n }) (pool_of count N filler items)
unlinked_pool filler items count N N' P' l n short linked' =
    ap (pool_of_lists filler items) (lists_of-is count N' P' _ linked')
    ∙ unlinked_view filler items n l (lists_of count N) short

-- as many lists as the value has, and one of the free nodes
pub length-pool : {T : Type 0} (filler : T) (items : List T) (lists : List (List ℕ)) (l : ℕ) →
    l < length (pool_of_lists filler items lists).lists → l + 1 < length lists
length-pool filler items [] l short = absurd (omega arith)
length-pool filler items (free ∷ lists) l short = omega (arith, short, length-map lists (pairs filler items))

Contains-named : (xs : List ℕ) (node : NodeId) → Contains (map named xs) node → Contains xs node.number
Contains-named xs node (k, short, e) = (
  k,
  omega (arith, short, length-map xs named),
  ap (λ (m : NodeId). m.number)
      (sym (get_or-map named xs k node.number) ∙ e),
)

pub Contains-pool : {T : Type 0} (filler : T) (items : List T) (lists : List (List ℕ)) (l : ℕ) (node : NodeId) →
    IsInList (pool_of_lists filler items lists) l node → Contains (list_at lists (l + 1)) node.number
unfolding IsInList
Contains-pool {T} filler items lists l node listed =
    let P : List NodeId → Type 0 = λ ms. Contains ms node in
    let shown : nodes_of (list_of (pool_of_lists filler items lists) l) ≡ map named (list_at lists (l + 1)) =
    ap (λ (ps : List (NodeId × T)). nodes_of ps) (list_of-pool filler items l lists)
    ∙ nodes-pairs filler items (list_at lists (l + 1)) in
    Contains-named (list_at lists (l + 1)) node (subst P shown listed)

pub index-within : (lists : List (List ℕ)) (l i : ℕ) → i < length (list_at lists l) → l < length lists
index-within [] l i short = absurd (omega (arith, short))
index-within (xs ∷ lists) zero i short = omega arith
index-within (xs ∷ lists) (suc l) i short = let within = index-within lists l i short in omega (arith, within)

-- a list with a node in it is one of the pool's
pub IsInList-within : {T : Type 0} (filler : T) (items : List T) (lists : List (List ℕ)) (l : ℕ) (node : NodeId) →
    IsInList (pool_of_lists filler items lists) l node → l + 1 < length lists
IsInList-within filler items lists l node listed =
    let place = Contains-pool filler items lists l node listed in index-within lists (l + 1) place.0 place.1

-- a node in a list of the value is one of the nodes
pub IsInList-below : {T : Type 0} (filler : T) (items : List T) (count : ℕ) (N P : List ℕ) (l : ℕ)
    (node : NodeId) →
    IsLinked count N P (lists_of count N) → IsInList (pool_of count N filler items) l node → node.number < count
IsInList-below filler items count N P l node linked listed =
    node_of count N P (lists_of count N) linked node.number (l + 1)
    (IsInList-within filler items (lists_of count N) l node listed)
    (Contains-pool filler items (lists_of count N) l node listed)

first-ahead : {T : Type 0} (filler : T) (items : List T) (count m : ℕ) (xs : List ℕ) → m < count
    → Ahead count m xs →
    Some (record { number = m }) ≡ first_of (pairs filler items xs)
first-ahead filler items count m xs below a = elim a [
  | none e past ↦ absurd (omega arith)
  | some ys e lt ↦ rw e refl
]

none-ahead : {T : Type 0} (filler : T) (items : List T) (count m : ℕ) (xs : List ℕ) → count ≤ m
    → Ahead count m xs →
    None ≡ first_of (pairs filler items xs)
none-ahead filler items count m xs past a = elim a [
  | none e _ ↦ rw e refl
  | some ys e lt ↦ absurd (omega arith)
]

list_ahead : (count : ℕ) (N P : List ℕ) (lists : List (List ℕ)) (l : ℕ) → IsLinked count N P lists
    → l < length lists →
    Ahead count (get_or N (count + l) 0) (list_at lists l)
list_ahead count N P lists l linked short =
    let ring = linked.rings l short in
    ahead (λ i. get_or N i 0) (λ i. get_or P i 0) count (count + l) (list_at lists l) (count + l) ring.nodes
    (omega arith) ring.chain

pub first_some : {T : Type 0} (filler : T) (items : List T) (count : ℕ) (N P : List ℕ) (l m : ℕ)
    → IsLinked count N P (lists_of count N) →
    m ≡ get_or N (count + (l + 1)) 0 → m < count → l < length (pool_of count N filler items).lists →
    Some (record { number = m }) ≡ first_of (list_of (pool_of count N filler items) l)
first_some filler items count N P l m linked is below short =
    rw (list_of-pool filler items l (lists_of count N))
    (first-ahead filler items count m (list_at (lists_of count N) (l + 1)) below
    (rw is (list_ahead count N P (lists_of count N) (l + 1) linked
    (length-pool filler items (lists_of count N) l short))))

pub first_none : {T : Type 0} (filler : T) (items : List T) (count : ℕ) (N P : List ℕ) (l m : ℕ)
    → IsLinked count N P (lists_of count N) →
    m ≡ get_or N (count + (l + 1)) 0 → count ≤ m → l < length (pool_of count N filler items).lists →
    None ≡ first_of (list_of (pool_of count N filler items) l)
first_none filler items count N P l m linked is past short =
    rw (list_of-pool filler items l (lists_of count N))
    (none-ahead filler items count m (list_at (lists_of count N) (l + 1)) past
    (rw is (list_ahead count N P (lists_of count N) (l + 1) linked
    (length-pool filler items (lists_of count N) l short))))

behind-split : {T : Type 0} (filler : T) (items : List T) (node : NodeId) (us vs : List ℕ) → Off node.number us →
    behind node (pairs filler items (us ++ node.number ∷ vs)) ≡ first_of (pairs filler items vs)
behind-split filler items node [] vs off =
    let same : eqb node.number node.number ≡ true = eq-eqb node.number node.number refl in rw same refl
behind-split filler items node (u ∷ us) vs off =
    let differ : eqb u node.number ≡ false =
    ne_eqb u node.number off.0 in rw differ (behind-split filler items node us vs off.1)

-- what is behind a node in its list
pub next_is_behind : {T : Type 0} (filler : T) (items : List T) (count : ℕ) (N P : List ℕ) (l : ℕ)
    (node : NodeId) → IsLinked count N P (lists_of count N) →
    IsInList (pool_of count N filler items) l node →
    (vs : List ℕ) × Ahead count (get_or N node.number 0) vs
    × (behind node (list_of (pool_of count N filler items) l) ≡ first_of (pairs filler items vs))
next_is_behind {T} filler items count N P l node linked listed =
    let in_lists = IsInList-within filler items (lists_of count N) l node listed in
    let xs = list_at (lists_of count N) (l + 1) in
    let s = count + (l + 1) in
    let f : ℕ → ℕ = λ i. get_or N i 0 in
    let g : ℕ → ℕ = λ i. get_or P i 0 in
    let hs : count ≤ s = omega arith in
    let ring = linked.rings (l + 1) in_lists in
    let split = Split-from_Contains node.number xs (Contains-pool filler items (lists_of count N) l node listed) in
    let parts =
    Chain-split f g s split.front node.number split.back s
    (subst (λ (zs : List ℕ). Chain f g s zs s) split.is ring.chain) in
    let nodes = Nodes-split count split.front node.number split.back (subst (AllNodes count) split.is ring.nodes) in
    let off =
    Apart-split node.number split.front split.back
    (subst Apart split.is (apart f g count s xs s ring.nodes hs ring.chain)) in (
      split.back,
      ahead f g count node.number split.back s nodes.2 hs parts.1,
      ap (behind node) (list_of-pool filler items l (lists_of count N))
          ∙ ap (λ (zs : List ℕ). behind node (pairs filler items zs)) split.is
          ∙ behind-split filler items node split.front split.back off.0,
    )

pub next_some : {T : Type 0} (filler : T) (items : List T) (count : ℕ) (N P : List ℕ) (node : NodeId) (m : ℕ)
    → IsLinked count N P (lists_of count N) →
    m ≡ get_or N node.number 0 → m < count →
    (l : ℕ) → IsInList (pool_of count N filler items) l node →
    Some (record { number = m }) ≡ behind node (list_of (pool_of count N filler items) l)
next_some filler items count N P node m linked is below l listed =
    let b = next_is_behind filler items count N P l node linked listed in
    first-ahead filler items count m b.0 below (rw is b.1) ∙ sym b.2

pub next_none : {T : Type 0} (filler : T) (items : List T) (count : ℕ) (N P : List ℕ) (node : NodeId) (m : ℕ)
    → IsLinked count N P (lists_of count N) →
    m ≡ get_or N node.number 0 → count ≤ m →
    (l : ℕ) → IsInList (pool_of count N filler items) l node →
    None ≡ behind node (list_of (pool_of count N filler items) l)
next_none filler items count N P node m linked is past l listed =
    let b = next_is_behind filler items count N P l node linked listed in
    none-ahead filler items count m b.0 past (rw is b.1) ∙ sym b.2

Contains-pairs : {T : Type 0} (filler : T) (items : List T) (node : NodeId) (item : T) (xs : List ℕ)
    → item ≡ get_or items node.number filler →
    Contains xs node.number → Contains (pairs filler items xs) (node, item)
Contains-pairs {T} filler items node item xs is (k, short, e) =
    let f : ℕ → NodeId × T = λ n. (record { number = n }, get_or items n filler) in (
      k,
      omega (arith, short, length-map xs f),
      map_at f xs k node.number (node, item) short ∙ ap f e
          ∙ ap (λ (x : T). let pair : NodeId × T = (node, x) in pair) (sym is),
    )

pub in_list_from_item : {T : Type 0} (filler : T) (items : List T) (count : ℕ) (N P : List ℕ) (node : NodeId)
    (item : T) → IsLinked count N P (lists_of count N) →
    length items ≡ count → item ≡ get_or items node.number item →
    (l : ℕ) → IsInList (pool_of count N filler items) l node →
    Contains (list_of (pool_of count N filler items) l) (node, item)
in_list_from_item filler items count N P node item linked full is l listed =
    let below = IsInList-below filler items count N P l node linked listed in
    let is_item : item ≡ get_or items node.number filler =
    is ∙ get_or_default items node.number item filler (omega (arith, below, full)) in
    rw (list_of-pool filler items l (lists_of count N))
    (Contains-pairs filler items node item (list_at (lists_of count N) (l + 1)) is_item
    (Contains-pool filler items (lists_of count N) l node listed))

pairs-replace : {T : Type 0} (filler : T) (items : List T) (node : NodeId) (item : T) (xs : List ℕ)
    → node.number < length items →
    pairs filler (set items node.number item) xs ≡ map (with_item node item) (pairs filler items xs)
pairs-replace filler items node item [] below = refl
pairs-replace {T} filler items node item (x ∷ xs) below =
    let rest = pairs-replace filler items node item xs below in
    let Pair : NodeId × T → NodeId × T = λ p. p in
    let this : Pair (record { number = x }, get_or (set items node.number item) x filler)
    ≡ with_item node item (record { number = x }, get_or items x filler) =
    elim (cases_eq x node.number) [
      | inl e ↦
          let same : eqb x node.number ≡ true = eq-eqb x node.number e in
          let is : get_or (set items node.number item) x filler ≡ item =
          ap (λ (k : ℕ). get_or (set items node.number item) k filler) e
          ∙ get_or-set_same items node.number item filler below in
          rw same (ap (λ (y : T). Pair (record { number = x }, y)) is)
      | inr ne ↦
          let differ : eqb x node.number ≡ false = ne_eqb x node.number ne in
          rw differ
          (ap (λ (y : T). Pair (record { number = x }, y)) (get_or-set_other items node.number x item filler ne))
    ] in
    ap (λ (p : NodeId × T). p ∷ pairs filler (set items node.number item) xs) this
    ∙ ap (λ (ps : List (NodeId × T)). with_item node item (record { number = x }, get_or items x filler) ∷ ps)
    rest

all_replaced : {T : Type 0} (filler : T) (items : List T) (node : NodeId) (item : T) (ls : List (List ℕ))
    → node.number < length items →
    map (pairs filler (set items node.number item)) ls
    ≡ map (λ ps. map (with_item node item) ps) (map (pairs filler items) ls)
all_replaced filler items node item [] below = refl
all_replaced {T} filler items node item (xs ∷ ls) below =
    ap (λ (ps : List (NodeId × T)). ps ∷ map (pairs filler (set items node.number item)) ls)
    (pairs-replace filler items node item xs below)
    ∙ ap (λ (pss : List (List (NodeId × T))). map (with_item node item) (pairs filler items xs) ∷ pss)
    (all_replaced filler items node item ls below)

pub replaced_view : {T : Type 0} (filler : T) (items : List T) (node : NodeId) (item : T) (lists : List (List ℕ))
    → node.number < length items →
    pool_of_lists filler (set items node.number item) lists ≡ replaced node item (pool_of_lists filler items lists)
replaced_view {T} filler items node item lists below =
    ap (λ (ls : List (List (NodeId × T))). let pool : PoolOf
    T = record { lists = ls; free = length (list_at lists 0) } in pool)
    (all_replaced filler items node item (drop 1 lists) below)
