-- What was told, with one more set or loss.
use Rattle.std.proofs.Common.{◌≡◌, ◌∙◌, ℕ, ◌<◌, ◌≤◌, List, [], ◌∷◌, ◌++◌, length, take, get_or, Option, Some, None, ◌⊎◌, inl, inr, refl, sym, ap, subst, arith}
use Rattle.std.specs.Prelude.{unwrap_or}
use Rattle.std.specs.Option.{option_or}
use Rattle.std.proofs.lemmas.List.{get_or-take, length-take-le}
use Rattle.decoder_model.specs.Kept.{last_time, lifted_time}
use Rattle.decoder_model.specs.Readings.{Reading}
use Rattle.decoder_model.specs.Sets.{Delivery}
use Rattle.decoder_model.specs.Shown.{view_at}
use Rattle.decoder_model.proofs.Later.{IsPast, view_stays}
use Rattle.decoder_model.proofs.Views.{view_before}
use Rattle.sub_base.specs.declared.profile.Profile.{Profile}
use Rattle.dump_text.specs.DumpText.{shown_text, view_text}
use Rattle.dump_text.specs.Dumping.{AreBefore, AreFrom, IsSettled, IsToldOf, ticks_between}
use Rattle.dump_text.proofs.TextLaws.{same_texts, text_joined}

-- a settled tick is before the greatest lifted time
past_of : (anchor tick : ℕ) (past : List (Delivery Reading)) (last : Option ℕ) → last_time anchor past ≡ last
    → IsSettled last tick → IsPast anchor tick past
past_of anchor tick past None is settled = absurd settled
past_of anchor tick past (Some last) is settled = record { last = last; is_last = is; early = settled }

settled_in : (anchor tick : ℕ) (past : List (Delivery Reading)) → IsPast anchor tick past
    → IsSettled (last_time anchor past) tick
settled_in anchor tick past is = subst (λ (last : Option ℕ). IsSettled last tick) (sym is.is_last) is.early

module _ (profile : Profile) (anchor : ℕ) (ticks : List ℕ) (past : List (Delivery Reading))
    (one : Delivery Reading) where
  -- what is settled stays so
  settled_on : (tick : ℕ) → IsSettled (last_time anchor past) tick
      → IsSettled (last_time anchor (one ∷ past)) tick
      × (view_at profile anchor tick (one ∷ past) ≡ view_at profile anchor tick past)
  settled_on tick settled =
      let more =
      view_stays profile anchor tick (one ∷ []) past
      (past_of anchor tick past (last_time anchor past) refl settled) in
      (settled_in anchor tick (one ∷ past) more.0, more.1)

  -- the texts of settled ticks stay
  texts_stay : (told : ℕ) → told ≤ length ticks
      → ((k : ℕ) → k < told → IsSettled (last_time anchor past) (get_or ticks k 0))
      → shown_text profile anchor (one ∷ past) (take told ticks)
      ≡ shown_text profile anchor past (take told ticks)
  texts_stay told within settled =
      same_texts (λ (tick : ℕ). view_text tick (view_at profile anchor tick (one ∷ past)))
      (λ (tick : ℕ). view_text tick (view_at profile anchor tick past)) (take told ticks)
      (λ k inside.
      let below : k < told = omega (arith, inside, length-take-le told ticks within) in
      let here : get_or (take told ticks) k 0 ≡ get_or ticks k 0 = get_or-take told ticks k 0 below in
      subst (λ (tick : ℕ). view_text tick (view_at profile anchor tick (one ∷ past))
      ≡ view_text tick (view_at profile anchor tick past)) (sym here)
      (ap (view_text (get_or ticks k 0)) (settled_on (get_or ticks k 0) (settled k below)).1))

  last_kept : (lifted : ℕ) → lifted_time anchor past one ≡ Some lifted
      → last_time anchor (one ∷ past) ≡ Some lifted
  unfolding last_time
  last_kept lifted at = ap (λ (found : Option ℕ). option_or found (last_time anchor past)) at

  last_same : lifted_time anchor past one ≡ None → last_time anchor (one ∷ past) ≡ last_time anchor past
  unfolding last_time
  last_same at = ap (λ (found : Option ℕ). option_or found (last_time anchor past)) at

  -- a loss, or a set that is not kept
  pub told_same : (told : ℕ) (text : List ℕ) → told ≤ length ticks → lifted_time anchor past one ≡ None
      → IsToldOf profile anchor ticks told past text → IsToldOf profile anchor ticks told (one ∷ past) text
  told_same told text within at is = record {
    settled = λ k below. (settled_on (get_or ticks k 0) (is.settled k below)).0;
    later = subst (λ (last : Option ℕ). AreFrom (unwrap_or last 0) told ticks) (sym (last_same at)) is.later;
    whole = is.whole ∙ sym (texts_stay told within is.settled);
  }

  -- a kept set, which settles the ticks before its time
  pub told_kept : (told next lifted : ℕ) (text : List ℕ) → told ≤ next → next ≤ length ticks
      → lifted_time anchor past one ≡ Some lifted → AreBefore lifted told next ticks → AreFrom lifted next ticks
      → IsToldOf profile anchor ticks told past text
      → IsToldOf profile anchor ticks next (one ∷ past)
      (text ++ shown_text profile anchor past (ticks_between told next ticks))
  told_kept told next lifted text from within at before later is = record {
    settled = settled;
    later = subst (λ (last : Option ℕ). AreFrom (unwrap_or last 0) next ticks) (sym (last_kept lifted at)) later;
    whole = ap (λ (front : List ℕ). front ++ shown_text profile anchor past (ticks_between told next ticks)) is.whole
        ∙ sym (text_joined profile anchor past told next ticks from)
        ∙ same_texts (λ (tick : ℕ). view_text tick (view_at profile anchor tick past))
        (λ (tick : ℕ). view_text tick (view_at profile anchor tick (one ∷ past))) (take next ticks)
        (λ k inside.
        let below : k < next = omega (arith, inside, length-take-le next ticks within) in
        let here : get_or (take next ticks) k 0 ≡ get_or ticks k 0 = get_or-take next ticks k 0 below in
        subst (λ (tick : ℕ). view_text tick (view_at profile anchor tick past)
        ≡ view_text tick (view_at profile anchor tick (one ∷ past))) (sym here)
        (ap (view_text (get_or ticks k 0)) (shown_same k (compared k told) below)));
  }
    where
      compared : (a b : ℕ) → (a < b) ⊎ (b ≤ a)
      compared a b = grind arith

      shown_same : (k : ℕ) → (k < told) ⊎ (told ≤ k) → k < next
          → view_at profile anchor (get_or ticks k 0) past
          ≡ view_at profile anchor (get_or ticks k 0) (one ∷ past)
      shown_same k (inl below) less = sym (settled_on (get_or ticks k 0) (is.settled k below)).1
      shown_same k (inr behind) less =
          sym (view_before profile anchor (get_or ticks k 0) lifted past one at (before k behind less))

      settled_by : (k : ℕ) → (k < told) ⊎ (told ≤ k) → k < next
          → IsSettled (last_time anchor (one ∷ past)) (get_or ticks k 0)
      settled_by k (inl below) less = (settled_on (get_or ticks k 0) (is.settled k below)).0
      settled_by k (inr behind) less =
          subst (λ (last : Option ℕ). IsSettled last (get_or ticks k 0)) (sym (last_kept lifted at))
          (before k behind less)

      settled : (k : ℕ) → k < next → IsSettled (last_time anchor (one ∷ past)) (get_or ticks k 0)
      settled k less = settled_by k (compared k told) less
