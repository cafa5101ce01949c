use Rattle.std.proofs.Common.{◌≡◌, ◌∙◌, refl, sym, ap, subst, inl, inr, ℕ, ◌+◌, ◌<◌, ◌≤◌, ◌^◌, ◌≢◌, List, [], ◌∷◌, ◌++◌, length, get_or, set, sum_by, Contains, length-append, arith}
use Rattle.std.proofs.lemmas.Bool.{cases_eq}
use Rattle.std.proofs.lemmas.List.{length-set, get_or-set_same, get_or-set_other}
use Rattle.std.proofs.lemmas.List.Sums.{sum_by-set}
use Rattle.comp_pool.specs.Private.Links.{Chain, AllNodes, list_at, IsRing, IsLinked, dropping, removed}
use Rattle.comp_pool.proofs.Chains.{Off, Apart, Puts, Split, Before, the_end, a_node, kept, taken_out, apart, elsewhere, back_is, next_is, off_end, Chain-split, Nodes-split, Nodes-append, Split-node, Split-from_Contains, Before-left, Before-right, Off-append, dropping-split, Apart-split}

-- the state in which node n was taken out of its list and put into none
pub record IsWithout (count : ℕ) (nexts backs : List ℕ) (lists : List (List ℕ)) (n : ℕ) : Type 0 where
  pub few : length nexts < 2 ^ 64
  pub ends : length lists + count ≡ length nexts
  pub both : length backs ≡ length nexts
  pub inside : (k : ℕ) → k < length nexts → get_or nexts k 0 < length nexts
  pub rings : (l : ℕ) → l < length lists → IsRing count nexts backs (count + l) (list_at lists l)
  pub whole : sum_by length lists + 1 ≡ count
  pub node : n < count
  pub off : (l : ℕ) → l < length lists → Off n (list_at lists l)

pub Puts-set : (xs : List ℕ) (p q : ℕ) → p < length xs
    → Puts (λ i. get_or xs i 0) p q (λ i. get_or (set xs p q) i 0)
Puts-set xs p q short = record {
  hit = get_or-set_same xs p q 0 short;
  miss = λ i ne. get_or-set_other xs p i q 0 ne;
}

-- links that are numbers of links stay so
pub inside-set : (xs : List ℕ) (m p q : ℕ) → length xs ≡ m → q < m
    → ((k : ℕ) → k < length xs → get_or xs k 0 < m) →
    (k : ℕ) → k < length (set xs p q) → get_or (set xs p q) k 0 < m
inside-set xs m p q long below inside k short =
    let within : k < length xs = omega (arith, short, length-set xs p q) in
    elim (cases_eq k p) [
      | inl same ↦
          let is : get_or (set xs p q) k 0 ≡ q =
          ap (λ (i : ℕ). get_or (set xs p q) i 0) same
          ∙ get_or-set_same xs p q 0 (omega (arith, same, within)) in
          omega (arith, is, below)
      | inr ne ↦ omega (arith, get_or-set_other xs p k q 0 ne, inside k within)
    ]

-- what is before a place of a list is within the links
pub Before-below : (n a : ℕ) (xs : List ℕ) (count m : ℕ) → AllNodes count xs → count ≤ m → a < m
    → Before n a xs → n < m
Before-below n a xs count m A le lt b = elim b [
  | the_end e ↦ omega (arith, e)
  | a_node s ↦ omega (arith, Split-node count n xs A s)
]

-- and is not of another list
pub Before-off : (f g : ℕ → ℕ) (count n b c : ℕ) (xs ys : List ℕ) → AllNodes count xs
    → AllNodes count ys → count ≤ b → count ≤ c → b ≢ c →
    Chain f g b xs b → Chain f g c ys c → Before n b xs → Off n ys × (c ≢ n)
Before-off f g count n b c xs ys A B hb hc bc p q w = elim w [
  | the_end e ↦ (subst (λ (z : ℕ). Off z ys) (sym e) (off_end count b ys hb B), λ h. bc (sym (h ∙ e)))
  | a_node s ↦
      let p' = Chain-split f g b s.front n s.back b (subst (λ (zs : List ℕ). Chain f g b zs b) s.is p) in
      let A' = Nodes-split count s.front n s.back (subst (AllNodes count) s.is A) in
      (elsewhere f g count n s.back b c ys A'.2 B hb hc bc p'.1 q, λ h. absurd (omega (arith, h, A'.1)))
]

-- the lists with list a changed: each other list is as it was
pub at_changed : (lists : List (List ℕ)) (a l : ℕ) (zs : List ℕ) → a < length lists
    → (P : ℕ → List ℕ → Type 0) → P a zs →
    ((l ≢ a) → P l (get_or lists l [])) → P l (get_or (set lists a zs) l [])
at_changed lists a l zs short P here there = elim (cases_eq l a) [
  | inl e ↦ subst (λ (k : ℕ). P k (get_or (set lists a zs) k [])) (sym e)
      (rw (get_or-set_same lists a zs [] short) here)
  | inr ne ↦ rw (get_or-set_other lists a l zs [] ne) (there ne)
]

-- what is in a list is a node
pub node_of : (count : ℕ) (N P : List ℕ) (lists : List (List ℕ)) → IsLinked count N P lists → (n a : ℕ)
    → a < length lists →
    Contains (list_at lists a) n → n < count
node_of count N P lists linked n a in_lists listed =
    Split-node count n (list_at lists a) (linked.rings a in_lists).nodes
    (Split-from_Contains n (list_at lists a) listed)

module _ (count : ℕ) (N P : List ℕ) (lists : List (List ℕ)) (linked : IsLinked count N P lists) (n a : ℕ)
    (in_lists : a < length lists)
    (split : Split n (list_at lists a)) where
  abbrev f : ℕ → ℕ
  f = λ i. get_or N i 0

  abbrev g : ℕ → ℕ
  g = λ i. get_or P i 0

  abbrev s : ℕ
  s = count + a

  abbrev xs : List ℕ
  xs = list_at lists a

  hs : count ≤ s
  hs = omega arith

  ring : IsRing count N P s xs
  ring = linked.rings a in_lists

  parts : Chain f g s split.front n × Chain f g n split.back s
  parts =
      Chain-split f g s split.front n split.back s (subst (λ (zs : List ℕ). Chain f g s zs s) split.is ring.chain)

  node_parts : AllNodes count split.front × (n < count) × AllNodes count split.back
  node_parts = Nodes-split count split.front n split.back (subst (AllNodes count) split.is ring.nodes)

  off_parts : Off n split.front × Off n split.back × Apart (split.front ++ split.back)
  off_parts =
      Apart-split n split.front split.back (subst Apart split.is (apart f g count s xs s ring.nodes hs ring.chain))

  off_s : Off s (split.front ++ split.back)
  off_s =
      off_end count s (split.front ++ split.back) hs
      (Nodes-append count split.front split.back node_parts.0 node_parts.2)

  before_p : Before (g n) s xs
  before_p = subst (Before (g n) s) (sym split.is)
      (Before-left (g n) s split.front (n ∷ split.back) (back_is f g s split.front n parts.0))

  before_q : Before (f n) s xs
  before_q = subst (Before (f n) s) (sym split.is)
      (Before-right (f n) s split.front n split.back (next_is f g n split.back s parts.1))

  pub p_below : get_or P n 0 < length N
  p_below =
      Before-below (g n) s xs count (length N) ring.nodes (omega (arith, linked.ends)) (omega (arith, linked.ends))
      before_p

  pub q_below : get_or N n 0 < length N
  q_below =
      Before-below (f n) s xs count (length N) ring.nodes (omega (arith, linked.ends)) (omega (arith, linked.ends))
      before_q

  F : Puts f (g n) (f n) (λ i. get_or (set N (g n) (f n)) i 0)
  F = Puts-set N (g n) (f n) p_below

  G : Puts g (f n) (g n) (λ i. get_or (set P (f n) (g n)) i 0)
  G = Puts-set P (f n) (g n) (omega (arith, q_below, linked.both))

  left : dropping n xs ≡ split.front ++ split.back
  left = ap (dropping n) split.is ∙ dropping-split n split.front split.back off_parts.0 off_parts.1

  ring_left : IsRing count (set N (g n) (f n)) (set P (f n) (g n)) s (dropping n xs)
  ring_left = rw left (record {
    chain = taken_out f g _ _ n s split.front split.back s F G off_s off_parts.2 off_s parts.0 parts.1;
    nodes = Nodes-append count split.front split.back node_parts.0 node_parts.2;
  })

  ring_other : (l : ℕ) → l < length lists → l ≢ a
      → IsRing count (set N (g n) (f n)) (set P (f n) (g n)) (count + l) (list_at lists l)
  ring_other l short ne =
      let other = linked.rings l short in
      let apart_ends : s ≢ count + l = λ e. ne (omega (arith, e)) in
      let hl : count ≤ count + l = omega arith in
      let op =
      Before-off f g count (g n) s (count + l) xs (list_at lists l) ring.nodes other.nodes hs hl apart_ends
      ring.chain other.chain before_p in
      let oq =
      Before-off f g count (f n) s (count + l) xs (list_at lists l) ring.nodes other.nodes hs hl apart_ends
      ring.chain other.chain before_q in
      record {
        chain =
            kept f g _ _ (g n) (f n) (count + l) (list_at lists l) (count + l) F G (op.1, op.0) oq.0 oq.1 other.chain;
        nodes = other.nodes;
      }

  off_other : (l : ℕ) → l < length lists → l ≢ a → Off n (list_at lists l)
  off_other l short ne =
      let other = linked.rings l short in
      elsewhere f g count n split.back s (count + l) (list_at lists l) node_parts.2 other.nodes hs (omega arith)
      (λ e. ne (omega (arith, e))) parts.1 other.chain

  pub detached : IsWithout count (set N (get_or P n 0) (get_or N n 0)) (set P (get_or N n 0) (get_or P n 0))
      (removed n a lists) n
  detached =
      let same : length (removed n a lists) ≡ length lists = length-set lists a (dropping n xs) in
      record {
        few = omega (arith, linked.few, length-set N (g n) (f n));
        ends = omega (arith, linked.ends, length-set N (g n) (f n), same);
        both = omega (arith, linked.both, length-set N (g n) (f n), length-set P (f n) (g n));
        inside =
            λ k short. omega
            (arith, length-set N (g n) (f n), inside-set N (length N) (g n) (f n) refl q_below linked.inside k short);
        rings = λ l short. at_changed lists a l (dropping n xs) in_lists
            (λ k zs. IsRing count (set N (g n) (f n)) (set P (f n) (g n)) (count + k) zs) ring_left
            (ring_other l (omega (arith, same, short)));
        whole = omega (
          arith,
          linked.whole,
          sum_by-set length lists a (dropping n xs) [] in_lists,
          ap length split.is,
          ap length left,
          length-append split.front (n ∷ split.back),
          length-append split.front split.back,
        );
        node = node_parts.1;
        off = λ l short. at_changed lists a l (dropping n xs) in_lists (λ k zs. Off n zs)
            (rw left (Off-append n split.front split.back off_parts.0 off_parts.1))
            (off_other l (omega (arith, same, short)));
      }
