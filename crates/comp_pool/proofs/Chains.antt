use Rattle.std.proofs.Common.{◌≡◌, ◌∙◌, refl, sym, ap, subst, inl, inr, ℕ, zero, suc, ◌<◌, ◌≤◌, ◌≢◌, ◌⊎◌, true, false, ltb, eqb, List, [], ◌∷◌, ◌++◌, length, get_or, Contains, length-append, append_assoc, arith}
use Rattle.std.proofs.lemmas.Bool.{cases_eq, le-ltb, lt-ltb, ne_eqb, eq-eqb}
use Rattle.comp_pool.specs.Private.Links.{Chain, AllNodes, walk, dropping}

-- n is none of xs
abbrev pub Off : ℕ → List ℕ → Type 0
Off n [] = Unit {0}
Off n (x ∷ xs) = (x ≢ n) × Off n xs

abbrev pub Apart : List ℕ → Type 0
Apart [] = Unit {0}
Apart (x ∷ xs) = Off x xs × Apart xs

-- f' is f with q at p
pub record Puts (f : ℕ → ℕ) (p q : ℕ) (f' : ℕ → ℕ) : Type 0 where
  pub hit : f' p ≡ q
  pub miss : (i : ℕ) → i ≢ p → f' i ≡ f i

-- a chain that does not use p forward, nor q backward, is the same after p and q were joined
pub kept : (f g f' g' : ℕ → ℕ) (p q a : ℕ) (xs : List ℕ) (b : ℕ) → Puts f p q f' → Puts g q p g' →
    Off p (a ∷ xs) → Off q xs → b ≢ q → Chain f g a xs b → Chain f' g' a xs b
kept f g f' g' p q a [] b F G offp offq bq c = (F.miss a offp.0 ∙ c.0, G.miss b bq ∙ c.1)
kept f g f' g' p q a (x ∷ xs) b F G offp offq bq c =
    (F.miss a offp.0 ∙ c.0, G.miss x offq.0 ∙ c.1, kept f g f' g' p q x xs b F G offp.1 offq.1 bq c.2)

-- the step back from the far end is not to what is off the chain
back_off : (f g : ℕ → ℕ) (a : ℕ) (x : ℕ) (xs : List ℕ) (b : ℕ) → Off a (x ∷ xs)
    → Chain f g x xs b → a ≢ g b
back_off f g a x [] b off c = λ e. off.0 (sym (e ∙ c.1))
back_off f g a x (y ∷ ys) b off c = back_off f g a y ys b off.1 c.2

next_off : (f g : ℕ → ℕ) (a x : ℕ) (xs : List ℕ) (b : ℕ) → Off x xs → b ≢ x → Chain f g a xs b
    → x ≢ f a
next_off f g a x [] b off bx c = λ e. bx (sym (e ∙ c.0))
next_off f g a x (y ∷ ys) b off bx c = λ e. off.0 (sym (e ∙ c.0))

Off-right : (n : ℕ) (xs ys : List ℕ) → Off n (xs ++ ys) → Off n ys
Off-right n [] ys o = o
Off-right n (x ∷ xs) ys o = Off-right n xs ys o.1

Off-left : (n : ℕ) (xs ys : List ℕ) → Off n (xs ++ ys) → Off n xs
Off-left n [] ys o = tt
Off-left n (x ∷ xs) ys o = (o.0, Off-left n xs ys o.1)

-- the node n taken out of a chain
pub taken_out : (f g f' g' : ℕ → ℕ) (n a : ℕ) (xs ys : List ℕ) (b : ℕ) → Puts f (g n) (f n) f'
    → Puts g (f n) (g n) g' →
    Off a (xs ++ ys) → Apart (xs ++ ys) → Off b (xs ++ ys) → Chain f g a xs n → Chain f g n ys b
    → Chain f' g' a (xs ++ ys) b
taken_out f g f' g' n a [] [] b F G offa apart offb c d =
    let at : f' a ≡ f n = subst (λ (p : ℕ). f' p ≡ f n) c.1 F.hit in
    let back : g' b ≡ g n = subst (λ (q : ℕ). g' q ≡ g n) d.0 G.hit in
    (at ∙ d.0, back ∙ c.1)
taken_out f g f' g' n a [] (y ∷ ys) b F G offa apart offb c d =
    let at : f' a ≡ f n = subst (λ (p : ℕ). f' p ≡ f n) c.1 F.hit in
    let back : g' y ≡ g n = subst (λ (q : ℕ). g' q ≡ g n) d.0 G.hit in
    let F' : Puts f a y f' = subst (λ (p : ℕ). Puts f p y f') c.1 (subst (λ (q : ℕ). Puts f (g n) q f') d.0 F) in
    let G' : Puts g y a g' = subst (λ (p : ℕ). Puts g y p g') c.1 (subst (λ (q : ℕ). Puts g q (g n) g') d.0 G) in
    (at ∙ d.0, back ∙ c.1, kept f g f' g' a y y ys b F' G' offa apart.0 (λ e. offb.0 (sym e)) d.2)
taken_out f g f' g' n a (x ∷ xs) ys b F G offa apart offb c d =
    let a_off : a ≢ g n = back_off f g a x xs n (offa.0, Off-left a xs ys offa.1) c.2 in
    let x_off : x ≢ f n = next_off f g n x ys b (Off-right x xs ys apart.0) (λ e. offb.0 (sym e)) d in
    (F.miss a a_off ∙ c.0, G.miss x x_off ∙ c.1, taken_out f g f' g' n x xs ys b F G apart.0 apart.1 offb.1 c.2 d)

-- the node n put at the end of a chain: first its last node and n are joined, then n and the end
pub put_last : (f g f' g' f'' g'' : ℕ → ℕ) (n a : ℕ) (xs : List ℕ) (b : ℕ) →
    Puts f (g b) n f' → Puts g n (g b) g' → Puts f' n b f'' → Puts g' b n g'' →
    Off a xs → Off n xs → a ≢ n → b ≢ n → Apart xs → Off b xs →
    Chain f g a xs b → Chain f'' g'' a (xs ++ n ∷ []) b
put_last f g f' g' f'' g'' n a [] b F G F' G' offa offn an bn apart offb c =
    let at : f' a ≡ n = subst (λ (p : ℕ). f' p ≡ n) c.1 F.hit in
    (F'.miss a an ∙ at, G'.miss n (λ e. bn (sym e)) ∙ G.hit ∙ c.1, (F'.hit, G'.hit))
put_last f g f' g' f'' g'' n a (x ∷ xs) b F G F' G' offa offn an bn apart offb c =
    let a_off : a ≢ g b = back_off f g a x xs b offa c.2 in (
      F'.miss a an ∙ F.miss a a_off ∙ c.0,
      G'.miss x offb.0 ∙ G.miss x offn.0 ∙ c.1,
      put_last f g f' g' f'' g'' n x xs b F G F' G' apart.0 offn.1 offn.0 bn apart.1 offb.1 c.2,
    )

-- two chains from one node that end outside of the nodes are one
pub same_chain : (f g : ℕ → ℕ) (count n : ℕ) (xs ys : List ℕ) (b c : ℕ) → AllNodes count xs
    → AllNodes count ys →
    count ≤ b → count ≤ c → Chain f g n xs b → Chain f g n ys c → (xs ≡ ys) × (b ≡ c)
same_chain f g count n [] [] b c A B hb hc p q = (refl, sym p.0 ∙ q.0)
same_chain f g count n [] (y ∷ ys) b c A B hb hc p q = absurd (omega (arith, sym p.0 ∙ q.0))
same_chain f g count n (x ∷ xs) [] b c A B hb hc p q = absurd (omega (arith, sym p.0 ∙ q.0))
same_chain f g count n (x ∷ xs) (y ∷ ys) b c A B hb hc p q =
    let e : y ≡ x = sym q.0 ∙ p.0 in
    let r = same_chain f g count x xs ys b c A.1 B.1 hb hc p.2 (subst (λ (z : ℕ). Chain f g z ys c) e q.2) in
    (ap (λ (zs : List ℕ). x ∷ zs) r.0 ∙ ap (λ (z : ℕ). z ∷ ys) (sym e), r.1)

-- following the links gives the nodes of the chain
pub walk-chain : (f g : ℕ → ℕ) (count fuel a : ℕ) (xs : List ℕ) (b : ℕ) → AllNodes count xs
    → count ≤ b →
    length xs ≤ fuel → Chain f g a xs b → walk f count fuel (f a) ≡ xs
walk-chain f g count zero a [] b A hb short c = refl
walk-chain f g count (suc fuel) a [] b A hb short c =
    let past : ltb (f a) count ≡ false = le-ltb (f a) count (omega (arith, c.0)) in rw past refl
walk-chain f g count zero a (x ∷ xs) b A hb short c = absurd (omega arith)
walk-chain f g count (suc fuel) a (x ∷ xs) b A hb short c =
    rw c.0 (let within : ltb x count ≡ true = lt-ltb x count A.0 in
    rw within (ap (λ (zs : List ℕ). x ∷ zs) (walk-chain f g count fuel x xs b A.1 hb (omega arith) c.2)))

-- n is one of xs, with what is before and after it
pub record Split (n : ℕ) (xs : List ℕ) : Type 0 where
  pub front : List ℕ
  pub back : List ℕ
  pub is : xs ≡ front ++ n ∷ back

Split-cons : (n x : ℕ) (xs : List ℕ) → Split n xs → Split n (x ∷ xs)
Split-cons n x xs s = record { front = x ∷ s.front; back = s.back; is = ap (λ (zs : List ℕ). x ∷ zs) s.is }

Split-head : (n x : ℕ) (xs : List ℕ) → x ≡ n → Split n (x ∷ xs)
Split-head n x xs e = record { front = []; back = xs; is = ap (λ (z : ℕ). z ∷ xs) e }

pub Split-at : (n : ℕ) (xs : List ℕ) (k : ℕ) → k < length xs → get_or xs k n ≡ n → Split n xs
Split-at n [] k short e = absurd (omega arith)
Split-at n (x ∷ xs) zero short e = Split-head n x xs e
Split-at n (x ∷ xs) (suc k) short e = Split-cons n x xs (Split-at n xs k (omega arith) e)

pub Split-from_Contains : (n : ℕ) (xs : List ℕ) → Contains xs n → Split n xs
Split-from_Contains n xs (k, short, e) = Split-at n xs k short e

off_or_in : (n : ℕ) (xs : List ℕ) → Off n xs ⊎ Split n xs
off_or_in n [] = inl tt
off_or_in n (x ∷ xs) = elim (cases_eq x n) [
  | inl e ↦ inr (Split-head n x xs e)
  | inr ne ↦ elim (off_or_in n xs) [ inl off ↦ inl (ne, off) | inr s ↦ inr (Split-cons n x xs s) ]
]

pub Chain-split : (f g : ℕ → ℕ) (a : ℕ) (us : List ℕ) (n : ℕ) (vs : List ℕ) (b : ℕ)
    → Chain f g a (us ++ n ∷ vs) b →
    Chain f g a us n × Chain f g n vs b
Chain-split f g a [] n vs b c = ((c.0, c.1), c.2)
Chain-split f g a (u ∷ us) n vs b c =
    let r = Chain-split f g u us n vs b c.2 in ((c.0, c.1, r.0), r.1)

pub Nodes-split : (count : ℕ) (us : List ℕ) (n : ℕ) (vs : List ℕ) → AllNodes count (us ++ n ∷ vs) →
    AllNodes count us × (n < count) × AllNodes count vs
Nodes-split count [] n vs A = (tt, A.0, A.1)
Nodes-split count (u ∷ us) n vs A =
    let r = Nodes-split count us n vs A.1 in ((A.0, r.0), r.1, r.2)

pub Nodes-append : (count : ℕ) (us vs : List ℕ) → AllNodes count us → AllNodes count vs
    → AllNodes count (us ++ vs)
Nodes-append count [] vs A B = B
Nodes-append count (u ∷ us) vs A B = (A.0, Nodes-append count us vs A.1 B)

pub off_end : (count b : ℕ) (xs : List ℕ) → count ≤ b → AllNodes count xs → Off b xs
off_end count b [] hb A = tt
off_end count b (x ∷ xs) hb A = ((λ e. absurd (omega (arith, e, A.0))), off_end count b xs hb A.1)

-- no node is twice in a chain
pub apart : (f g : ℕ → ℕ) (count a : ℕ) (xs : List ℕ) (b : ℕ) → AllNodes count xs → count ≤ b
    → Chain f g a xs b → Apart xs
apart f g count a [] b A hb c = tt
apart f g count a (x ∷ xs) b A hb c =
    let rest = apart f g count x xs b A.1 hb c.2 in
    elim (off_or_in x xs) [
      | inl off ↦ (off, rest)
      | inr s ↦
          let c' = Chain-split f g x s.front x s.back b (subst (λ (zs : List ℕ). Chain f g x zs b) s.is c.2) in
          let A' = Nodes-split count s.front x s.back (subst (AllNodes count) s.is A.1) in
          let same = same_chain f g count x xs s.back b b A.1 A'.2 hb hb c.2 c'.1 in
          absurd (omega (arith, ap length s.is, ap length same.0, length-append s.front (x ∷ s.back)))
    ]

-- a node of one chain is in no chain with another end
pub elsewhere : (f g : ℕ → ℕ) (count n : ℕ) (vs : List ℕ) (b c : ℕ) (ys : List ℕ) → AllNodes count vs
    → AllNodes count ys →
    count ≤ b → count ≤ c → b ≢ c → Chain f g n vs b → Chain f g c ys c → Off n ys
elsewhere f g count n vs b c ys A B hb hc bc p q =
    elim (off_or_in n ys) [
      | inl off ↦ off
      | inr s ↦
          let q' = Chain-split f g c s.front n s.back c (subst (λ (zs : List ℕ). Chain f g c zs c) s.is q) in
          let B' = Nodes-split count s.front n s.back (subst (AllNodes count) s.is B) in
          absurd (bc (same_chain f g count n vs s.back b c A B'.2 hb hc p q'.1).1)
    ]

-- what comes before a place is the near end or a node of the chain
pub data Before (n a : ℕ) (xs : List ℕ) : Type 0 where
  the_end : n ≡ a → Before n a xs
  a_node : Split n xs → Before n a xs

pub back_is : (f g : ℕ → ℕ) (a : ℕ) (xs : List ℕ) (b : ℕ) → Chain f g a xs b → Before (g b) a xs
back_is f g a [] b c = the_end c.1
back_is f g a (x ∷ xs) b c = elim (back_is f g x xs b c.2) [
  | the_end e ↦ a_node (Split-head (g b) x xs (sym e))
  | a_node s ↦ a_node (Split-cons (g b) x xs s)
]

pub next_is : (f g : ℕ → ℕ) (a : ℕ) (xs : List ℕ) (b : ℕ) → Chain f g a xs b → Before (f a) b xs
next_is f g a [] b c = the_end c.0
next_is f g a (x ∷ xs) b c = a_node (Split-head (f a) x xs (sym c.0))

-- taking n out by its number
pub without_off : (n : ℕ) (xs : List ℕ) → Off n xs → dropping n xs ≡ xs
without_off n [] o = refl
without_off n (x ∷ xs) o =
    let differ : eqb x n ≡ false =
    ne_eqb x n o.0 in rw differ (ap (λ (zs : List ℕ). x ∷ zs) (without_off n xs o.1))

pub dropping-split : (n : ℕ) (us vs : List ℕ) → Off n us → Off n vs → dropping n (us ++ n ∷ vs) ≡ us ++ vs
dropping-split n [] vs o p = let same : eqb n n ≡ true = eq-eqb n n refl in rw same (without_off n vs p)
dropping-split n (u ∷ us) vs o p =
    let differ : eqb u n ≡ false =
    ne_eqb u n o.0 in rw differ (ap (λ (zs : List ℕ). u ∷ zs) (dropping-split n us vs o.1 p))

Off-middle : (u : ℕ) (us : List ℕ) (n : ℕ) (vs : List ℕ) → Off u (us ++ n ∷ vs) → n ≢ u
Off-middle u [] n vs o = o.0
Off-middle u (x ∷ us) n vs o = Off-middle u us n vs o.1

Off-skip : (u : ℕ) (us : List ℕ) (n : ℕ) (vs : List ℕ) → Off u (us ++ n ∷ vs) → Off u (us ++ vs)
Off-skip u [] n vs o = o.1
Off-skip u (x ∷ us) n vs o = (o.0, Off-skip u us n vs o.1)

-- in a list in which no node is twice, n is neither before nor after itself
pub Apart-split : (n : ℕ) (us vs : List ℕ) → Apart (us ++ n ∷ vs) → Off n us × Off n vs × Apart (us ++ vs)
Apart-split n [] vs A = (tt, A.0, A.1)
Apart-split n (u ∷ us) vs A =
    let r = Apart-split n us vs A.1 in
    let o : Off u (us ++ n ∷ vs) = A.0 in
    (((λ e. Off-middle u us n vs o (sym e)), r.0), r.1, (Off-skip u us n vs o, r.2))

pub Split-node : (count n : ℕ) (xs : List ℕ) → AllNodes count xs → Split n xs → n < count
Split-node count n xs A s = (Nodes-split count s.front n s.back (subst (AllNodes count) s.is A)).1

pub Before-left : (n a : ℕ) (us vs : List ℕ) → Before n a us → Before n a (us ++ vs)
Before-left n a us vs b = elim b [
  | the_end e ↦ the_end e
  | a_node s ↦ a_node (record {
    front = s.front;
    back = s.back ++ vs;
    is = ap (λ (zs : List ℕ). zs ++ vs) s.is ∙ append_assoc s.front (n ∷ s.back) vs;
  })
]

pub Before-right : (n a : ℕ) (us : List ℕ) (m : ℕ) (vs : List ℕ) → Before n a vs
    → Before n a (us ++ m ∷ vs)
Before-right n a us m vs b = elim b [
  | the_end e ↦ the_end e
  | a_node s ↦ a_node (record {
    front = us ++ m ∷ s.front;
    back = s.back;
    is = ap (λ (zs : List ℕ). us ++ m ∷ zs) s.is ∙ sym (append_assoc us (m ∷ s.front) (n ∷ s.back));
  })
]

pub Off-append : (n : ℕ) (us vs : List ℕ) → Off n us → Off n vs → Off n (us ++ vs)
Off-append n [] vs o p = p
Off-append n (u ∷ us) vs o p = (o.0, Off-append n us vs o.1 p)
