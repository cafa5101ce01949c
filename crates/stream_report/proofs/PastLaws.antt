-- What is told of a past, with one more set or loss.
use Rattle.std.proofs.Common.{◌≡◌, ◌∙◌, ℕ, ◌<◌, ◌≤◌, Bool, true, false, cond, List, [], ◌∷◌, ◌++◌, append-nil, append_assoc, Option, Some, None, refl, sym, ap, subst, arith}
use Rattle.std.specs.Prelude.{IfSome, nat_lt, option_and_then, unwrap_or}
use Rattle.std.specs.List.{AllByRecursion}
use Rattle.std.specs.Option.{is_some, option_or}
use Rattle.std.proofs.lemmas.Bool.Decides.{nat_tests}
use Rattle.std.proofs.lemmas.List.Concat.{flat_map-append}
use Rattle.decoder_model.specs.Kept.{ahead_of, last_time, lifted_behind, lifted_time, time_of}
use Rattle.decoder_model.specs.Readings.{Reading}
use Rattle.decoder_model.specs.Sets.{Delivery, lost}
use Rattle.decoder_model.specs.Shown.{standing_after, until_of, view_at}
use Rattle.decoder_model.specs.Verdict.{verdict_of}
use Rattle.decoder_model.specs.declared.set_end.SetEnd.{SetEnd}
use Rattle.decoder_model.specs.declared.set_end.SetEnd.TheVariants.{Broken, NotLater, Shown, Waiting}
use Rattle.decoder_model.proofs.Later.{lift_above}
use Rattle.decoder_model.proofs.Lists.{all-append}
use Rattle.decoder_model.proofs.Views.{view_before, view_without}
use Rattle.dump_text.specs.DumpText.{shown_text, view_text}
use Rattle.receiver.proofs.Turns.{clear_unless_shown}
use Rattle.set_receiver.specs.Taking.{AreLost}
use Rattle.sub_base.specs.declared.profile.Profile.{Profile}
use Rattle.stream_report.specs.PicturesText.{alone, end_before, ticks_of_sets, until_after}
use Rattle.stream_report.specs.Private.Picturing.{IsPicturedOf, IsUntil, IsUntilBy, IsWithin}

-- ---- lifted times

-- a tick is before the lifted time of a set, or the set is not kept
abbrev pub IsBefore : Option ℕ → ℕ → Type 0
IsBefore None tick = Unit {0}
IsBefore (Some time) tick = tick < time

-- a kept set is later than the last one
above_last : (anchor last at : ℕ) (time : Option ℕ)
    → option_and_then (lifted_behind anchor (Some last)) time ≡ Some at → last < at
above_last anchor last at None is = absurd (cc)
above_last anchor last at (Some time) is = lift_above last (ahead_of last time) at is

-- so a tick that is no later than the last kept set is before it
before_next : (anchor tick : ℕ) (last at time : Option ℕ)
    → option_and_then (lifted_behind anchor last) time ≡ at → IsWithin last tick → IsBefore at tick
before_next anchor tick last None time is within = tt
before_next anchor tick None (Some at) time is within = absurd within
before_next anchor tick (Some last) (Some at) time is within =
    let above : last < at = above_last anchor last at time is in omega (arith, within)

module _ (profile : Profile) (anchor : ℕ) (past : List (Delivery Reading)) (one : Delivery Reading) where
  abbrev pub lifted : Option ℕ
  lifted = lifted_time anchor past one

  -- the greatest lifted time with one more
  pub last_kept : (at : ℕ) → lifted ≡ Some at → last_time anchor (one ∷ past) ≡ Some at
  unfolding last_time
  last_kept at is = ap (λ (found : Option ℕ). option_or found (last_time anchor past)) is

  pub last_same : lifted ≡ None → last_time anchor (one ∷ past) ≡ last_time anchor past
  unfolding last_time
  last_same is = ap (λ (found : Option ℕ). option_or found (last_time anchor past)) is

  -- ---- views

  same_view : (at : Option ℕ) (tick : ℕ) → lifted ≡ at → IsBefore at tick
      → view_at profile anchor tick (one ∷ past) ≡ view_at profile anchor tick past
  same_view None tick is before = view_without profile anchor tick past one is
  same_view (Some at) tick is before = view_before profile anchor tick at past one is before

  -- the texts of ticks before the set stay
  same_texts : (at : Option ℕ) (ticks : List ℕ) → lifted ≡ at → AllByRecursion (IsBefore at) ticks
      → shown_text profile anchor (one ∷ past) ticks ≡ shown_text profile anchor past ticks
  same_texts at [] is before = refl
  same_texts at (tick ∷ ticks) is before =
      ap (λ (text : List ℕ). text ++ shown_text profile anchor (one ∷ past) ticks)
      (ap (view_text tick) (same_view at tick is before.0))
      ∙ ap (λ (text : List ℕ). view_text tick (view_at profile anchor tick past) ++ text)
      (same_texts at ticks is before.1)

  all_before : (at : Option ℕ) (ticks : List ℕ) → lifted ≡ at
      → AllByRecursion (IsWithin (last_time anchor past)) ticks → AllByRecursion (IsBefore at) ticks
  all_before at [] is within = tt
  all_before at (tick ∷ ticks) is within =
      (before_next anchor tick (last_time anchor past) at (time_of one) is within.0, all_before at ticks is within.1)

  -- ---- ticks

  -- ticks that are no later than the sets before are no later than the last one
  within_on : (at : Option ℕ) (ticks : List ℕ) → lifted ≡ at
      → AllByRecursion (IsWithin (last_time anchor past)) ticks
      → AllByRecursion (IsWithin (last_time anchor (one ∷ past))) ticks
  within_on None ticks is within =
      subst (λ (last : Option ℕ). AllByRecursion (IsWithin last) ticks) (sym (last_same is)) within
  within_on (Some at) ticks is within =
      subst (λ (last : Option ℕ). AllByRecursion (IsWithin last) ticks) (sym (last_kept at is))
      (by ticks (all_before (Some at) ticks is within))
    where
      by : (ticks : List ℕ) → AllByRecursion (IsBefore (Some at)) ticks → AllByRecursion (IsWithin (Some at)) ticks
      by [] before = tt
      by (tick ∷ ticks) before = (omega (arith, before.0), by ticks before.1)

  -- the end of a time-out that is told comes before the set
  end_early : (at until : Option ℕ) → AllByRecursion (IsBefore at) (end_before at until)
  end_early None until = tt
  end_early (Some at) None = tt
  end_early (Some at) (Some until) = by (nat_lt until at) refl
    where
      by : (sooner : Bool) → nat_lt until at ≡ sooner
          → AllByRecursion (IsBefore (Some at)) (cond sooner (until ∷ []) [])
      by true is = ((let less : until < at = grind (arith, nat_tests) in less), tt)
      by false is = tt

  -- and no earlier than the sets before it
  pub end_late : (at until : Option ℕ) → IfSome until (λ tick. unwrap_or (last_time anchor past) 0 ≤ tick)
      → AllByRecursion (λ tick. unwrap_or (last_time anchor past) 0 ≤ tick) (end_before at until)
  end_late None until late = tt
  end_late (Some at) None late = tt
  end_late (Some at) (Some until) late = by (nat_lt until at)
    where
      by : (sooner : Bool)
          → AllByRecursion (λ tick. unwrap_or (last_time anchor past) 0 ≤ tick) (cond sooner (until ∷ []) [])
      by true = (late, tt)
      by false = tt

  -- the set's own tick is its lifted time
  pub own_late : (at : Option ℕ) → lifted ≡ at
      → AllByRecursion (λ tick. unwrap_or (last_time anchor (one ∷ past)) 0 ≤ tick) (alone at)
  own_late None is = tt
  own_late (Some at) is = ((let same = last_kept at is in omega (arith, ap (λ last. unwrap_or last 0) same)), tt)

  ends_within : (at until : Option ℕ) → lifted ≡ at
      → AllByRecursion (IsWithin (last_time anchor (one ∷ past))) (end_before at until ++ alone at)
  ends_within None until is = tt
  ends_within (Some at) until is =
      subst (λ (last : Option ℕ). AllByRecursion (IsWithin last) (end_before (Some at) until ++ at ∷ []))
      (sym (last_kept at is))
      (all-append (IsWithin (Some at)) (end_before (Some at) until) (at ∷ [])
      (early (end_before (Some at) until) (end_early (Some at) until)) (omega arith, tt))
    where
      early : (ticks : List ℕ) → AllByRecursion (IsBefore (Some at)) ticks → AllByRecursion (IsWithin (Some at)) ticks
      early [] before = tt
      early (tick ∷ ticks) before = (omega (arith, before.0), early ticks before.1)

  -- ---- the end of a time-out

  -- a set that is not kept leaves it
  until_same : (until : Option ℕ) → lifted ≡ None → IsUntil profile anchor past until
      → IsUntil profile anchor (one ∷ past) until
  unfolding until_after
  until_same until is ends = record {
    at_end = ends.at_end
        ∙ ap (λ (found : Option ℕ). cond (is_some found)
        (option_and_then until_of (standing_after profile anchor (one ∷ past))) (until_after profile anchor past))
        (sym is);
    late =
        subst (λ (last : Option ℕ). IfSome until (λ tick. unwrap_or last 0 ≤ tick)) (sym (last_same is)) ends.late;
  }

  by_end : (at : ℕ) (end : SetEnd) (next : Option ℕ) → lifted ≡ Some at
      → Some end ≡ verdict_of profile anchor past one → IsUntilBy end profile anchor (one ∷ past) next
      → next ≡ option_and_then until_of (standing_after profile anchor (one ∷ past))
  by_end at Shown next is answer by = by.shown refl
  by_end at Waiting next is answer by =
      by.other (λ e. absurd (cc))
      ∙ sym (ap (option_and_then until_of)
      (clear_unless_shown profile anchor at past one Waiting is answer (λ e. absurd (cc))))
  by_end at (Broken fault) next is answer by =
      by.other (λ e. absurd (cc))
      ∙ sym (ap (option_and_then until_of)
      (clear_unless_shown profile anchor at past one (Broken fault) is answer (λ e. absurd (cc))))
  by_end at (NotLater last) next is answer by =
      by.other (λ e. absurd (cc))
      ∙ sym (ap (option_and_then until_of)
      (clear_unless_shown profile anchor at past one (NotLater last) is answer (λ e. absurd (cc))))

  -- and a kept set has its own
  until_kept : (at : ℕ) (end : SetEnd) (next : Option ℕ) → lifted ≡ Some at
      → Some end ≡ verdict_of profile anchor past one → IsUntilBy end profile anchor (one ∷ past) next
      → IsUntil profile anchor (one ∷ past) next
  unfolding until_after
  until_kept at end next is answer by = record {
    at_end = by_end at end next is answer by
        ∙ ap (λ (found : Option ℕ). cond (is_some found)
        (option_and_then until_of (standing_after profile anchor (one ∷ past))) (until_after profile anchor past))
        (sym is);
    late = by.late;
  }

  -- the next end of a time-out, whether the set is kept or not
  abbrev pub IsNextUntil : Option ℕ → Option ℕ → SetEnd → Option ℕ → Type 0
  IsNextUntil until None end next = next ≡ until
  IsNextUntil until (Some at) end next = IsUntilBy end profile anchor (one ∷ past) next

  pub next_until : (at until next : Option ℕ) (end : SetEnd) → lifted ≡ at
      → Some end ≡ verdict_of profile anchor past one → IsNextUntil until at end next
      → IsUntil profile anchor past until → IsUntil profile anchor (one ∷ past) next
  next_until None until next end is answer by ends =
      subst (IsUntil profile anchor (one ∷ past)) (sym by) (until_same until is ends)
  next_until (Some at) until next end is answer by ends = until_kept at end next is answer by

  -- ---- the text

  -- the texts that a set adds: of the end of the time-out before it, and of its own tick
  abbrev pub added : Option ℕ → Option ℕ → List ℕ
  added at until =
      shown_text profile anchor past (end_before at until) ++ shown_text profile anchor (one ∷ past) (alone at)

  ticks_more : (at until : Option ℕ) → lifted ≡ at → until ≡ until_after profile anchor past
      → ticks_of_sets profile anchor (one ∷ past)
      ≡ ticks_of_sets profile anchor past ++ (end_before at until ++ alone at)
  unfolding ticks_of_sets
  ticks_more at until is until_is =
      (λ i. ticks_of_sets profile anchor past
      ++ (end_before (is i) (sym until_is i) ++ alone (is i)))

  pub text_more : (at until : Option ℕ) (text : List ℕ) → lifted ≡ at
      → IsPicturedOf profile anchor until past text
      → text ++ added at until ≡ shown_text profile anchor (one ∷ past) (ticks_of_sets profile anchor (one ∷ past))
  text_more at until text is of =
      let show = λ (tick : ℕ). view_text tick (view_at profile anchor tick (one ∷ past)) in
      ap (λ (front : List ℕ). front ++ added at until) of.whole
      ∙ (λ i. sym (same_texts at (ticks_of_sets profile anchor past) is
      (all_before at (ticks_of_sets profile anchor past) is of.early)) i
      ++ (sym (same_texts at (end_before at until) is (end_early at until)) i
      ++ shown_text profile anchor (one ∷ past) (alone at)))
      ∙ ap (λ (rest : List ℕ). shown_text profile anchor (one ∷ past) (ticks_of_sets profile anchor past) ++ rest)
      (sym (flat_map-append show (end_before at until) (alone at)))
      ∙ sym (flat_map-append show (ticks_of_sets profile anchor past) (end_before at until ++ alone at))
      ∙ ap (shown_text profile anchor (one ∷ past)) (sym (ticks_more at until is of.ends.at_end))

  -- one more set or loss
  pub pictured_more : (at until next : Option ℕ) (text : List ℕ) → lifted ≡ at
      → IsUntil profile anchor (one ∷ past) next → IsPicturedOf profile anchor until past text
      → IsPicturedOf profile anchor next (one ∷ past) (text ++ added at until)
  pictured_more at until next text is ends of = record {
    ends = ends;
    early =
        subst (AllByRecursion (IsWithin (last_time anchor (one ∷ past)))) (sym (ticks_more at until is of.ends.at_end))
        (all-append (IsWithin (last_time anchor (one ∷ past))) (ticks_of_sets profile anchor past)
        (end_before at until ++ alone at) (within_on at (ticks_of_sets profile anchor past) is of.early)
        (ends_within at until is));
    whole = text_more at until text is of;
  }

  -- what is not kept adds nothing
  pub pictured_same : (until : Option ℕ) (text : List ℕ) → lifted ≡ None → IsPicturedOf profile anchor until past text
      → IsPicturedOf profile anchor until (one ∷ past) text
  pictured_same until text is of =
      subst (IsPicturedOf profile anchor until (one ∷ past)) (append-nil text)
      (pictured_more None until until text is (until_same until is of.ends) of)

-- losses add nothing
pub pictured_lost : (profile : Profile) (anchor : ℕ) (until : Option ℕ) (more past : List (Delivery Reading))
    (text : List ℕ) → AreLost more → IsPicturedOf profile anchor until past text
    → IsPicturedOf profile anchor until (more ++ past) text
pictured_lost profile anchor until [] past text are of = of
pictured_lost profile anchor until (one ∷ more) past text are of =
    subst (λ (delivery : Delivery Reading). IsPicturedOf profile anchor until (delivery ∷ (more ++ past)) text)
    (sym are.0)
    (pictured_same profile anchor (more ++ past) lost until text refl
    (pictured_lost profile anchor until more past text are.1 of))

-- nothing was taken
pub pictured_nothing : (profile : Profile) (anchor : ℕ) → IsPicturedOf profile anchor None [] []
unfolding until_after ticks_of_sets
pictured_nothing profile anchor = record {
  ends = record { at_end = refl; late = tt };
  early = tt;
  whole = refl;
}
