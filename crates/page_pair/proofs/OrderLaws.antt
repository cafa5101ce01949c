-- The objects of two languages in their order, one shared object after another.
use Rattle.std.proofs.Common.{◌≡◌, ◌∙◌, ◌+◌, ◌<◌, ◌≤◌, ℕ, eqb, true, false, cond, List, [], ◌∷◌, ◌++◌, length, get_or, drop, take, append-nil, append_assoc, sym, ap, subst}
use Rattle.std.proofs.lemmas.List.{drop_all, take_more, take_all}
use Rattle.page_pair.specs.PairSets.{CueObject, Paged, at_cue, before_cue, behind_cue, in_order, own}
use Rattle.page_pair.specs.declared.pages.TwoPages.{TwoPages}
use Rattle.page_pair.proofs.SharingLaws.{drop_at, drop_behind}
use Rattle.shown_plan.specs.NamedSets.{Names}

-- ---- where the object of a cue stands

-- no object before this place is of the cue
pub record NotBefore (cue : ℕ) (objects : List CueObject) (at : ℕ) : Type 0 where
  pub before : before_cue cue objects ≡ take at objects ++ before_cue cue (drop at objects)
  pub own : at_cue cue objects ≡ at_cue cue (drop at objects)
  pub behind : behind_cue cue objects ≡ behind_cue cue (drop at objects)

module _ (cue : ℕ) (objects : List CueObject) (at : ℕ) (so_far : NotBefore cue objects at) where
  pub place_here : (x : CueObject) → at < length objects → x ≡ get_or objects at x → eqb x.cue cue ≡ true
      → (before_cue cue objects ≡ take at objects) × (at_cue cue objects ≡ take 1 (drop at objects))
      × (behind_cue cue objects ≡ drop 1 (drop at objects))
  place_here x inside is same =
      let here = drop_at objects at x inside is in
      let behind = drop (at + 1) objects in (
        so_far.before ∙ ap (λ (left : List CueObject). take at objects ++ before_cue cue left) here
            ∙ ap (λ b. take at objects ++ cond b [] (x ∷ before_cue cue behind)) same ∙ append-nil (take at objects),
        so_far.own ∙ ap (at_cue cue) here ∙ ap (λ b. cond b (x ∷ []) (at_cue cue behind)) same
            ∙ sym (ap (take 1) here),
        so_far.behind ∙ ap (behind_cue cue) here ∙ ap (λ b. cond b behind (behind_cue cue behind)) same
            ∙ sym (ap (drop 1) here),
      )

  pub place_next : (x : CueObject) → at < length objects → x ≡ get_or objects at x → eqb x.cue cue ≡ false
      → NotBefore cue objects (at + 1)
  place_next x inside is other =
      let here = drop_at objects at x inside is in
      let behind = drop (at + 1) objects in
      record {
        before =
            so_far.before ∙ ap (λ (left : List CueObject). take at objects ++ before_cue cue left) here
            ∙ ap (λ b. take at objects ++ cond b [] (x ∷ before_cue cue behind)) other
            ∙ sym (append_assoc (take at objects) (x ∷ []) (before_cue cue behind))
            ∙ ap (λ (front : List CueObject). front ++ before_cue cue behind)
            (sym (take_more objects at x inside ∙ ap (λ y. take at objects ++ y ∷ []) (sym is)));
        own = so_far.own ∙ ap (at_cue cue) here ∙ ap (λ b. cond b (x ∷ []) (at_cue cue behind)) other;
        behind = so_far.behind ∙ ap (behind_cue cue) here ∙ ap (λ b. cond b behind (behind_cue cue behind)) other;
      }

  pub place_none : length objects ≤ at
      → (before_cue cue objects ≡ objects) × (at_cue cue objects ≡ []) × (behind_cue cue objects ≡ [])
  place_none all =
      let none = drop_all at objects all in (
        so_far.before ∙ ap (λ (left : List CueObject). take at objects ++ before_cue cue left) none
            ∙ append-nil (take at objects) ∙ take_all at objects all,
        so_far.own ∙ ap (at_cue cue) none,
        so_far.behind ∙ ap (behind_cue cue) none,
      )

-- the objects behind that of a cue, of those from a place on
pub left_behind : (objects behind : List CueObject) (from at own : ℕ)
    → behind ≡ drop own (drop at (drop from objects)) → drop (from + at + own) objects ≡ behind
left_behind objects behind from at own is =
    sym (is ∙ ap (drop own) (drop_behind objects from at) ∙ drop_behind objects (from + at) own)

pub left_of : (cue : ℕ) (objects left : List CueObject) (from at own : ℕ) → left ≡ drop from objects
    → behind_cue cue left ≡ drop own (drop at left)
    → drop (from + at + own) objects ≡ behind_cue cue (drop from objects)
left_of cue objects left from at own is cut =
    left_behind objects (behind_cue cue (drop from objects)) from at own
    (subst (λ (l : List CueObject). behind_cue cue l ≡ drop own (drop at l)) is cut)

-- ---- one shared object after another

module _ (pages : TwoPages) (first second : Names) (pairs : List (ℕ × ℕ)) where
  pub order_step : (start now : List Paged) (one two : List CueObject) (i : ℕ) (pair : ℕ × ℕ) → i < length pairs
      → pair ≡ get_or pairs i pair → start ≡ now ++ in_order pages first second (drop i pairs) one two
      → start
      ≡ (((now ++ own pages.first first (before_cue pair.0 one)) ++ own pages.second second (before_cue pair.1 two))
      ++ own pages.shared first (at_cue pair.0 one))
      ++ in_order pages first second (drop (i + 1) pairs) (behind_cue pair.0 one) (behind_cue pair.1 two)
  order_step start now one two i pair inside is so_far =
      let a = own pages.first first (before_cue pair.0 one) in
      let b = own pages.second second (before_cue pair.1 two) in
      let c = own pages.shared first (at_cue pair.0 one) in
      let rest =
      in_order pages first second (drop (i + 1) pairs) (behind_cue pair.0 one) (behind_cue pair.1 two) in
      so_far ∙ ap (λ (ps : List (ℕ × ℕ)). now ++ in_order pages first second ps one two)
      (drop_at pairs i pair inside is)
      ∙ sym (append_assoc now a (b ++ (c ++ rest))) ∙ sym (append_assoc (now ++ a) b (c ++ rest))
      ∙ sym (append_assoc ((now ++ a) ++ b) c rest)

  pub order_end : (start now : List Paged) (one two : List CueObject) (i : ℕ) → length pairs ≤ i
      → start ≡ now ++ in_order pages first second (drop i pairs) one two
      → start ≡ (now ++ own pages.first first one) ++ own pages.second second two
  order_end start now one two i all so_far =
      so_far ∙ ap (λ (ps : List (ℕ × ℕ)). now ++ in_order pages first second ps one two) (drop_all i pairs all)
      ∙ sym (append_assoc now (own pages.first first one) (own pages.second second two))
