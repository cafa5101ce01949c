-- The sets that have come whole to a receiver of a stream of which some packets are lost are kept at their own times.
use Rattle.std.proofs.Common.{◌≡◌, ◌∙◌, ℕ, ◌<◌, ◌⊎◌, inl, inr, true, List, [], ◌∷◌, ◌++◌, length, reverse, Option, Some, None, refl, sym, ap, subst, arith, append_assoc}
use Rattle.std.specs.Option.{option_or}
use Rattle.std.specs.Prelude.{slice_get}
use Rattle.std.proofs.lemmas.Bool.{cases_lt}
use Rattle.std.proofs.lemmas.List.{length-reverse}
use Rattle.sub_base.specs.declared.profile.Profile.{Profile}
use Rattle.page_epoch.specs.declared.planned_set.PlannedSet.{PlannedSet}
use Rattle.decoder_model.specs.Kept.{last_time, lifted_time}
use Rattle.decoder_model.specs.Readings.{Reading}
use Rattle.decoder_model.specs.Sets.{Delivery}
use Rattle.shown_stream.specs.KeptSets.{IsKept}
use Rattle.shown_stream.proofs.Shown.ComingSets.{turned_more}
use Rattle.stream_syntax.specs.Segments.{is_entry_state}

-- of sets, the latest first, all have come whole from one on that is not normal
abbrev pub HaveCome : (ℕ → PlannedSet → Type 0) → List PlannedSet → Type 0
HaveCome ComesWhole [] = ⊥
HaveCome ComesWhole (set ∷ plan) =
    ComesWhole (length (reverse plan)) set × ((is_entry_state set.state ≡ true) ⊎ HaveCome ComesWhole plan)

-- each of them that has come whole is kept, and shown where all have come whole so, up to it
abbrev pub AreKept : Profile → ℕ → (ℕ → PlannedSet → Type 0) → List (Delivery Reading) → List PlannedSet → Type 0
AreKept profile anchor ComesWhole past [] = Unit {0}
AreKept profile anchor ComesWhole past (set ∷ plan) =
    (ComesWhole (length (reverse plan)) set
    → IsKept profile anchor (λ time. HaveCome ComesWhole (set ∷ plan)) past set)
    × AreKept profile anchor ComesWhole past plan

-- whatever comes later, it stays so
still_kept : (profile : Profile) (anchor : ℕ) (IsShownAt : ℕ → Type 0) (more past : List (Delivery Reading))
    (set : PlannedSet) → IsKept profile anchor IsShownAt past set
    → IsKept profile anchor IsShownAt (more ++ past) set
still_kept profile anchor IsShownAt more past set is = record {
  later = more ++ is.later;
  delivery = is.delivery;
  before = is.before;
  placed =
      ap (λ all. more ++ all) is.placed ∙ sym (append_assoc more is.later (is.delivery ∷ is.before));
  lifted = is.lifted;
  shown = is.shown;
  kept = is.kept;
}

pub kept_over : (profile : Profile) (anchor : ℕ) (ComesWhole : ℕ → PlannedSet → Type 0)
    (more past : List (Delivery Reading)) (plan : List PlannedSet) → AreKept profile anchor ComesWhole past plan
    → AreKept profile anchor ComesWhole (more ++ past) plan
kept_over profile anchor ComesWhole more past [] kept = tt
kept_over profile anchor ComesWhole more past (set ∷ plan) kept = (
  λ own. still_kept profile anchor (λ time. HaveCome ComesWhole (set ∷ plan)) more past set (kept.0 own),
  kept_over profile anchor ComesWhole more past plan kept.1,
)

-- one of them
pub kept_among : (profile : Profile) (anchor : ℕ) (ComesWhole : ℕ → PlannedSet → Type 0)
    (past : List (Delivery Reading)) (later : List PlannedSet) (set : PlannedSet) (earlier : List PlannedSet)
    → AreKept profile anchor ComesWhole past (later ++ set ∷ earlier) → ComesWhole (length (reverse earlier)) set
    → IsKept profile anchor (λ time. HaveCome ComesWhole (set ∷ earlier)) past set
kept_among profile anchor ComesWhole past [] set earlier kept own = kept.0 own
kept_among profile anchor ComesWhole past (first ∷ later) set earlier kept own =
    kept_among profile anchor ComesWhole past later set earlier kept.1 own

-- ---- before the first of them

-- none of the first so many sets comes whole
abbrev pub NoneBefore : (ℕ → PlannedSet → Type 0) → List PlannedSet → ℕ → Type 0
NoneBefore ComesWhole sets n =
    (i : ℕ) (set : PlannedSet) → i < n → slice_get sets i ≡ Some set → ComesWhole i set → ⊥

none_of_both : (a b : Option ℕ) → option_or a b ≡ None → b ≡ None
none_of_both None b e = e
none_of_both (Some time) b e = absurd (cc)

-- behind a set that is kept there is a last time
no_last : (anchor : ℕ) (later : List (Delivery Reading)) (delivery : Delivery Reading)
    (before : List (Delivery Reading)) (time : ℕ) → lifted_time anchor before delivery ≡ Some time
    → last_time anchor (later ++ delivery ∷ before) ≡ None → ⊥
unfolding last_time
no_last anchor [] delivery before time lifted none =
    let no : Some time ≡ None = sym (ap (λ found. option_or found (last_time anchor before)) lifted) ∙ none in cc
no_last anchor (one ∷ later) delivery before time lifted none =
    no_last anchor later delivery before time lifted
    (none_of_both (lifted_time anchor (later ++ delivery ∷ before) one)
    (last_time anchor (later ++ delivery ∷ before)) none)

at_end : (front back : List PlannedSet) (set : PlannedSet) → slice_get (front ++ set ∷ back) (length front) ≡ Some set
at_end [] back set = refl
at_end (first ∷ front) back set = at_end front back set

-- where there is none, none of the sets has come whole
pub none_came : (profile : Profile) (anchor : ℕ) (ComesWhole : ℕ → PlannedSet → Type 0)
    (past : List (Delivery Reading)) (sets plan left : List PlannedSet) → sets ≡ reverse plan ++ left
    → AreKept profile anchor ComesWhole past plan → last_time anchor past ≡ None
    → NoneBefore ComesWhole sets (length (reverse plan))
none_came profile anchor ComesWhole past sets [] left parts kept none i one before found own = absurd (omega arith)
none_came profile anchor ComesWhole past sets (set ∷ plan) left parts kept none i one before found own =
    elim (cases_lt i (length (reverse plan))) [
      | inl earlier ↦
          none_came profile anchor ComesWhole past sets plan (set ∷ left) split kept.1 none i one earlier found own
      | inr later ↦
          let here : i ≡ length (reverse plan) =
          omega (arith, before, later, length-reverse plan, length-reverse (set ∷ plan)) in
          let there : Some one ≡ Some set =
          sym found ∙ (λ k. slice_get (split k) (here k)) ∙ at_end (reverse plan) left set in
          let same : one ≡ set = cc in
          let is = kept.0 (subst (λ (n : ℕ). ComesWhole n set) here (subst (ComesWhole i) same own)) in
          no_last anchor is.later is.delivery is.before set.pts is.lifted
          (sym (ap (last_time anchor) is.placed) ∙ none)
    ]
  where
    split : sets ≡ reverse plan ++ (set ∷ left)
    split = parts ∙ turned_more plan left set
