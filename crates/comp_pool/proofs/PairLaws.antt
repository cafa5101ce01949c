use Rattle.std.proofs.Common.{◌≡◌, ◌≢◌, ◌∙◌, refl, sym, ap, subst, inl, inr, ℕ, zero, suc, ◌⊎◌, true, false, List, [], ◌∷◌, ◌++◌, length, map, Contains, Some, append_assoc, arith}
use Rattle.std.specs.Prelude.{slice_get}
use Rattle.std.proofs.lemmas.Bool.{cases_eq, eq-eqb, ne_eqb}
use Rattle.comp_pool.specs.declared.node.NodeId.{NodeId}
use Rattle.comp_pool.specs.Pool.{nodes_of}
use Rattle.comp_pool.specs.Places.{is_node, first_of, behind, rest_from}
use Rattle.comp_pool.specs.Changes.{without, with_item}

-- Laws on one list of nodes with their items.

-- two names of nodes are one, or not
pub same_or_other : (a b : NodeId) → (a ≡ b) ⊎ (a ≢ b)
same_or_other a b = elim (cases_eq a.number b.number) [
  | inl e ↦ inl (let named : ℕ → NodeId = λ n. record { number = n } in ap named e)
  | inr ne ↦ inr (λ e. ne (ap (λ (node : NodeId). node.number) e))
]

pub is_node_same : (node : NodeId) → is_node node node ≡ true
is_node_same node = eq-eqb node.number node.number refl

pub is_node_other : (a b : NodeId) → a ≢ b → is_node a b ≡ false
is_node_other a b ne =
    ne_eqb a.number b.number (λ e. ne (let named : ℕ → NodeId = λ n. record { number = n } in ap named e))

in_rest : {X : Type 0} (p : X) (ps : List X) (q : X) → Contains ps q → Contains (p ∷ ps) q
in_rest p ps q (k, short, e) = (suc k, omega (arith, short), e)

module _ {T : Type 0} where
  pub pair_node : (ps : List (NodeId × T)) (node : NodeId) (item : T) → Contains ps (node, item)
      → Contains (nodes_of ps) node
  pair_node [] node item (k, short, e) = absurd (omega (arith, short))
  pair_node (p ∷ ps) node item (zero, short, e) = (zero, omega arith, ap (λ (q : NodeId × T). q.0) e)
  pair_node (p ∷ ps) node item (suc k, short, e) =
      in_rest p.0 (nodes_of ps) node (pair_node ps node item (k, omega (arith, short), e))

  pub node_pair : (ps : List (NodeId × T)) (node : NodeId) → Contains (nodes_of ps) node → (item : T)
      × Contains ps (node, item)
  node_pair [] node (k, short, e) = absurd (omega (arith, short))
  node_pair (p ∷ ps) node (zero, short, e) =
      (p.1, (zero, omega arith, ap (λ (m : NodeId). let pair : NodeId × T = (m, p.1) in pair) e))
  node_pair (p ∷ ps) node (suc k, short, e) =
      let rest = node_pair ps node (k, omega (arith, short), e) in (rest.0, in_rest p ps (node, rest.0) rest.1)

  -- what is taken out is gone, and all else stays

  without_same : (node : NodeId) (p : NodeId × T) (ps : List (NodeId × T)) → p.0 ≡ node
      → without node (p ∷ ps) ≡ without node ps
  without_same node p ps e =
      let same : is_node p.0 node ≡ true =
      ap (λ (m : NodeId). is_node m node) e ∙ is_node_same node in rw same refl

  without_other : (node : NodeId) (p : NodeId × T) (ps : List (NodeId × T)) → p.0 ≢ node
      → without node (p ∷ ps) ≡ p ∷ without node ps
  without_other node p ps ne = let other : is_node p.0 node ≡ false = is_node_other p.0 node ne in rw other refl

  pub kept_without : (node : NodeId) (ps : List (NodeId × T)) (q : NodeId × T) → q.0 ≢ node → Contains ps q
      → Contains (without node ps) q
  kept_without node [] q ne (k, short, e) = absurd (omega (arith, short))
  kept_without node (p ∷ ps) q ne (zero, short, e) =
      let differs : p.0 ≢ node = λ same. ne (sym (ap (λ (r : NodeId × T). r.0) e) ∙ same) in
      rw (without_other node p ps differs) (zero, omega arith, e)
  kept_without node (p ∷ ps) q ne (suc k, short, e) =
      let rest = kept_without node ps q ne (k, omega (arith, short), e) in
      elim (same_or_other p.0 node) [
        | inl same ↦ rw (without_same node p ps same) rest
        | inr differs ↦ rw (without_other node p ps differs) (in_rest p (without node ps) q rest)
      ]

  pub was_without : (node : NodeId) (ps : List (NodeId × T)) (q : NodeId × T) → Contains (without node ps) q
      → Contains ps q × (q.0 ≢ node)
  was_without node [] q (k, short, e) = absurd (omega (arith, short))
  was_without node (p ∷ ps) q there = elim (same_or_other p.0 node) [
    | inl same ↦
        let Q : List (NodeId × T) → Type 0 = λ qs. Contains qs q in
        let rest =
        was_without node ps q (subst Q (without_same node p ps same) there) in (in_rest p ps q rest.0, rest.1)
    | inr differs ↦
        let Q : List (NodeId × T) → Type 0 = λ qs. Contains qs q in
        was_cons node p ps q differs (was_without node ps q) (subst Q (without_other node p ps differs) there)
  ] where
    was_cons : (node : NodeId) (p : NodeId × T) (ps : List (NodeId × T)) (q : NodeId × T) → p.0 ≢ node →
        (Contains (without node ps) q → Contains ps q × (q.0 ≢ node)) →
        Contains (p ∷ without node ps) q → Contains (p ∷ ps) q × (q.0 ≢ node)
    was_cons node p ps q differs rest (zero, short, e) =
        ((zero, omega arith, e), (λ same. differs (ap (λ (r : NodeId × T). r.0) e ∙ same)))
    was_cons node p ps q differs rest (suc k, short, e) =
        let r = rest (k, omega (arith, short), e) in (in_rest p ps q r.0, r.1)

  -- an item that was replaced

  with_same : (node : NodeId) (item : T) (p : NodeId × T) → p.0 ≡ node → with_item node item p ≡ (node, item)
  with_same node item p e =
      let same : is_node p.0 node ≡ true = ap (λ (m : NodeId). is_node m node) e ∙ is_node_same node in
      rw same (ap (λ (m : NodeId). let pair : NodeId × T = (m, item) in pair) e)

  with_other : (node : NodeId) (item : T) (p : NodeId × T) → p.0 ≢ node → with_item node item p ≡ p
  with_other node item p ne = let other : is_node p.0 node ≡ false = is_node_other p.0 node ne in rw other refl

  same_node : (node : NodeId) (item : T) (p : NodeId × T) → (with_item node item p).0 ≡ p.0
  same_node node item p = elim (same_or_other p.0 node) [
    | inl same ↦ ap (λ (q : NodeId × T). q.0) (with_same node item p same) ∙ sym same
    | inr differs ↦ ap (λ (q : NodeId × T). q.0) (with_other node item p differs)
  ]

  pub nodes_replaced : (node : NodeId) (item : T) (ps : List (NodeId × T))
      → nodes_of (map (with_item node item) ps) ≡ nodes_of ps
  nodes_replaced node item [] = refl
  nodes_replaced node item (p ∷ ps) =
      ap (λ (ms : List NodeId). (with_item node item p).0 ∷ ms) (nodes_replaced node item ps)
      ∙ ap (λ (m : NodeId). m ∷ nodes_of ps) (same_node node item p)

  pub item_replaced : (node : NodeId) (item : T) (ps : List (NodeId × T)) (x : T)
      → Contains (map (with_item node item) ps) (node, x) → x ≡ item
  item_replaced node item [] x (k, short, e) = absurd (omega (arith, short))
  item_replaced node item (p ∷ ps) x (zero, short, e) =
      let there : p.0 ≡ node = sym (same_node node item p) ∙ ap (λ (q : NodeId × T). q.0) e in
      sym (ap (λ (q : NodeId × T). q.1) (sym (with_same node item p there) ∙ e))
  item_replaced node item (p ∷ ps) x (suc k, short, e) = item_replaced node item ps x (k, omega (arith, short), e)

  pub item_was : (node : NodeId) (item : T) (ps : List (NodeId × T)) (m : NodeId) (x : T) → m ≢ node
      → Contains (map (with_item node item) ps) (m, x) →
      Contains ps (m, x)
  item_was node item [] m x ne (k, short, e) = absurd (omega (arith, short))
  item_was node item (p ∷ ps) m x ne (zero, short, e) =
      let differs : p.0 ≢ node =
      λ same. ne (sym (ap (λ (q : NodeId × T). q.0) e) ∙ same_node node item p ∙ same) in
      (zero, omega arith, sym (with_other node item p differs) ∙ e)
  item_was node item (p ∷ ps) m x ne (suc k, short, e) =
      in_rest p ps (m, x) (item_was node item ps m x ne (k, omega (arith, short), e))

  pub item_kept : (node : NodeId) (item : T) (ps : List (NodeId × T)) (m : NodeId) (x : T) → m ≢ node
      → Contains ps (m, x) →
      Contains (map (with_item node item) ps) (m, x)
  item_kept node item [] m x ne (k, short, e) = absurd (omega (arith, short))
  item_kept node item (p ∷ ps) m x ne (zero, short, e) =
      let differs : p.0 ≢ node = λ same. ne (sym (ap (λ (q : NodeId × T). q.0) e) ∙ same) in
      (zero, omega arith, with_other node item p differs ∙ e)
  item_kept node item (p ∷ ps) m x ne (suc k, short, e) =
      in_rest (with_item node item p) (map (with_item node item) ps) (m, x)
      (item_kept node item ps m x ne (k, omega (arith, short), e))

  -- what first and next answer is in the list

  pub first_in_list : (ps : List (NodeId × T)) (node : NodeId) → first_of ps ≡ Some node
      → Contains (nodes_of ps) node
  first_in_list [] node e = absurd cc
  first_in_list (p ∷ ps) node e = (zero, omega arith, cc)

  pub behind_in_list : (m : NodeId) (ps : List (NodeId × T)) (node : NodeId) → behind m ps ≡ Some node
      → Contains (nodes_of ps) node
  behind_in_list m [] node e = absurd cc
  behind_in_list m (p ∷ ps) node e = elim (same_or_other p.0 m) [
    | inl same ↦
        let here : is_node p.0 m ≡ true = ap (λ (n : NodeId). is_node n m) same ∙ is_node_same m in
        in_rest p.0 (nodes_of ps) node (first_in_list ps node (rw here at e))
    | inr differs ↦
        let there : is_node p.0 m ≡ false = is_node_other p.0 m differs in
        in_rest p.0 (nodes_of ps) node (behind_in_list m ps node (rw there at e))
  ]

  -- A node that is at one index alone.

  abbrev pub Off : NodeId → List (NodeId × T) → Type 0
  Off node [] = Unit {0}
  Off node (p ∷ ps) = (p.0 ≢ node) × Off node ps

  without_off : (node : NodeId) (ps : List (NodeId × T)) → Off node ps → without node ps ≡ ps
  without_off node [] off = refl
  without_off node (p ∷ ps) off =
      without_other node p ps off.0 ∙ ap (λ (qs : List (NodeId × T)). p ∷ qs) (without_off node ps off.1)

  pub without_split : (node : NodeId) (item : T) (us vs : List (NodeId × T)) → Off node us → Off node vs →
      without node (us ++ (node, item) ∷ vs) ≡ us ++ vs
  without_split node item [] vs before after = without_same node (node, item) vs refl ∙ without_off node vs after
  without_split node item (u ∷ us) vs before after =
      without_other node u (us ++ (node, item) ∷ vs) before.0
      ∙ ap (λ (qs : List (NodeId × T)). u ∷ qs) (without_split node item us vs before.1 after)

  replaced_off : (node : NodeId) (item : T) (ps : List (NodeId × T)) → Off node ps
      → map (with_item node item) ps ≡ ps
  replaced_off node item [] off = refl
  replaced_off node item (p ∷ ps) off =
      ap (λ (q : NodeId × T). q ∷ map (with_item node item) ps) (with_other node item p off.0)
      ∙ ap (λ (qs : List (NodeId × T)). p ∷ qs) (replaced_off node item ps off.1)

  pub replaced_split : (node : NodeId) (x item : T) (us vs : List (NodeId × T)) → Off node us → Off node vs →
      map (with_item node item) (us ++ (node, x) ∷ vs) ≡ us ++ (node, item) ∷ vs
  replaced_split node x item [] vs before after =
      ap (λ (q : NodeId × T). q ∷ map (with_item node item) vs) (with_same node item (node, x) refl)
      ∙ ap (λ (qs : List (NodeId × T)). let pair : NodeId × T = (node, item) in pair ∷ qs)
      (replaced_off node item vs after)
  replaced_split node x item (u ∷ us) vs before after =
      ap (λ (q : NodeId × T). q ∷ map (with_item node item) (us ++ (node, x) ∷ vs))
      (with_other node item u before.0)
      ∙ ap (λ (qs : List (NodeId × T)). u ∷ qs) (replaced_split node x item us vs before.1 after)

  pub behind_split : (node : NodeId) (item : T) (us vs : List (NodeId × T)) → Off node us
      → behind node (us ++ (node, item) ∷ vs) ≡ first_of vs
  behind_split node item [] vs before = let here : is_node node node ≡ true = is_node_same node in rw here refl
  behind_split node item (u ∷ us) vs before =
      let there : is_node u.0 node ≡ false =
      is_node_other u.0 node before.0 in rw there (behind_split node item us vs before.1)

  -- a list with what is before a node, its item, and what is behind it
  pub record IsSplit (ps : List (NodeId × T)) (node : NodeId) : Type 0 where
    pub before : List (NodeId × T)
    pub item : T
    pub after : List (NodeId × T)
    pub is : ps ≡ before ++ (node, item) ∷ after

  pub split_at : (ps : List (NodeId × T)) (node : NodeId) → Contains (nodes_of ps) node → IsSplit ps node
  split_at [] node (k, short, e) = absurd (omega (arith, short))
  split_at (p ∷ ps) node (zero, short, e) = record {
    before = [];
    item = p.1;
    after = ps;
    is = ap (λ (m : NodeId). let pair : NodeId × T = (m, p.1) in pair ∷ ps) e;
  }
  split_at (p ∷ ps) node (suc k, short, e) =
      let rest = split_at ps node (k, omega (arith, short), e) in
      record {
        before = p
            ∷ rest.before;
        item = rest.item;
        after = rest.after;
        is = ap (λ (qs : List (NodeId × T)). p ∷ qs)
            rest.is;
      }

  -- the node is at one index at most
  abbrev pub AtOne : NodeId → List (NodeId × T) → Type 0
  AtOne node ps =
      (i j : ℕ) → slice_get (nodes_of ps) i ≡ Some node → slice_get (nodes_of ps) j ≡ Some node → i ≡ j

  one_in_rest : (node : NodeId) (p : NodeId × T) (ps : List (NodeId × T)) → AtOne node (p ∷ ps) → AtOne node ps
  one_in_rest node p ps one i j e f = let same = one (suc i) (suc j) e f in omega (arith, same)

  index_split : (node : NodeId) (item : T) (us vs : List (NodeId × T)) →
      slice_get (nodes_of (us ++ (node, item) ∷ vs)) (length us) ≡ Some node
  index_split node item [] vs = refl
  index_split node item (u ∷ us) vs = index_split node item us vs

  pub off_before : (node : NodeId) (item : T) (us vs : List (NodeId × T)) → AtOne node (us ++ (node, item) ∷ vs)
      → Off node us
  off_before node item [] vs one = tt
  off_before node item (u ∷ us) vs one = (
    (λ e. absurd
        (omega (arith, one zero (suc (length us)) (ap (λ (m : NodeId). Some m) e) (index_split node item us vs)))),
    off_before node item us vs (one_in_rest node u (us ++ (node, item) ∷ vs) one),
  )

  off_nowhere : (node : NodeId) (ps : List (NodeId × T))
      → ((j : ℕ) → slice_get (nodes_of ps) j ≡ Some node → ⊥) → Off node ps
  off_nowhere node [] nowhere = tt
  off_nowhere node (p ∷ ps) nowhere =
      ((λ e. nowhere zero (ap (λ (m : NodeId). Some m) e)), off_nowhere node ps (λ j. nowhere (suc j)))

  pub off_after : (node : NodeId) (item : T) (us vs : List (NodeId × T)) → AtOne node (us ++ (node, item) ∷ vs)
      → Off node vs
  off_after node item [] vs one = off_nowhere node vs (λ j e. absurd (omega (arith, one zero (suc j) refl e)))
  off_after node item (u ∷ us) vs one = off_after node item us vs (one_in_rest node u (us ++ (node, item) ∷ vs) one)

  -- walks

  pub rest_from_first : (ps : List (NodeId × T)) → rest_from (first_of ps) ps ≡ ps
  rest_from_first [] = refl
  rest_from_first (p ∷ ps) = let here : is_node p.0 p.0 ≡ true = is_node_same p.0 in rw here refl

  pub rest_from_split : (node : NodeId) (item : T) (us vs : List (NodeId × T)) → Off node us →
      rest_from (Some node) (us ++ (node, item) ∷ vs) ≡ (node, item) ∷ vs
  rest_from_split node item [] vs before = let here : is_node node node ≡ true = is_node_same node in rw here refl
  rest_from_split node item (u ∷ us) vs before =
      let there : is_node u.0 node ≡ false =
      is_node_other u.0 node before.0 in rw there (rest_from_split node item us vs before.1)

  pub rest_from_behind : (node : NodeId) (item : T) (us vs : List (NodeId × T))
      → ((m : NodeId) → AtOne m (us ++ (node, item) ∷ vs)) →
      rest_from (first_of vs) (us ++ (node, item) ∷ vs) ≡ vs
  rest_from_behind node item us [] one = refl
  rest_from_behind node item us (v ∷ vs) one =
      let longer : (us ++ (node, item) ∷ []) ++ v ∷ vs ≡ us ++ (node, item) ∷ v ∷ vs =
      append_assoc us ((node, item) ∷ []) (v ∷ vs) in
      let Q : List (NodeId × T) → Type 0 = λ ps. AtOne v.0 ps in
      let R : List (NodeId × T) → Type 0 = λ ps. rest_from (Some v.0) ps ≡ v ∷ vs in
      subst R longer (rest_from_split v.0 v.1 (us ++ (node, item) ∷ []) vs
      (off_before v.0 v.1 (us ++ (node, item) ∷ []) vs (subst Q (sym longer) (one v.0))))
