-- Where the time of a set of a plan is a good tick, all sets have come whole, from one that is not normal up to it.
use Rattle.std.proofs.Common.{◌≡◌, ◌∙◌, ℕ, suc, ◌+◌, ◌<◌, ◌≤◌, inl, inr, true, List, [], ◌∷◌, ◌++◌, length, take, drop, reverse, Some, refl, sym, ap, subst, arith, append-nil}
use Rattle.std.specs.Prelude.{slice_get}
use Rattle.std.specs.List.{AllByRecursion}
use Rattle.std.specs.List.Sorted.{IsStrictlyIncreasing}
use Rattle.std.proofs.lemmas.List.{reverse-append, reverse-reverse, take-append-drop, length-take-le}
use Rattle.std.proofs.lemmas.List.Elements.{recursion_from_All}
use Rattle.std.proofs.lemmas.Option.{slice_get_within}
use Rattle.sub_base.specs.declared.profile.Profile.{Profile}
use Rattle.page_epoch.specs.declared.planned_set.PlannedSet.{PlannedSet}
use Rattle.schedule.specs.Slots.{Timetable}
use Rattle.decoder_model.specs.Readings.{Reading}
use Rattle.decoder_model.specs.Sets.{Delivery}
use Rattle.decoder_model.specs.Streams.{Sending, SentSet, IsReceived, IsGoodTick}
use Rattle.shown_stream.specs.KeptSets.{IsKept}
use Rattle.shown_stream.specs.SentSets.{sent_set, sent_from, sent_sets}
use Rattle.shown_stream.proofs.Late.LateTicks.{at_seam}
use Rattle.shown_stream.proofs.Lost.LostCompiled.{later_times, turned_more_count, comes_so}
use Rattle.shown_stream.proofs.Lost.LostFits.{above_first}
use Rattle.shown_stream.proofs.Lost.LostKept.{HaveCome, AreKept, kept_among}
use Rattle.shown_stream.proofs.Sent.PlannedOrder.{rest_rises}
use Rattle.shown_stream.proofs.Sent.PlannedTimes.{pts_of}
use Rattle.shown_stream.proofs.Shown.ComingSets.{turned_more}
use Rattle.shown_stream.proofs.Shown.EnteredRuns.{turned, turned_is}
use Rattle.shown_stream.proofs.Shown.EnteredTimes.{drop_found}
use Rattle.shown_stream.proofs.Shown.HeldSets.{front_earlier}

module _ (sendings : List Sending) (table : Timetable) where
  abbrev ComesWhole : ℕ → PlannedSet → Type 0
  ComesWhole number set = IsReceived sendings (sent_set table number set)

  abbrev IsReceivedBy : ℕ → SentSet → Type 0
  IsReceivedBy tick set = set.time ≤ tick → IsReceived sendings set

  -- where all have come whole so far, those up to a set come whole too
  come_on : (number : ℕ) (plan front back : List PlannedSet) (set : PlannedSet) → length (reverse plan) ≡ number
      → HaveCome ComesWhole plan → IsStrictlyIncreasing (pts_of (front ++ set ∷ back))
      → AllByRecursion (IsReceivedBy set.pts) (sent_from table number (front ++ set ∷ back))
      → HaveCome ComesWhole (set ∷ turned front plan)
  come_on number plan [] back set many so_far rise whole =
      (comes_so sendings table plan set number many (whole.0 (omega arith)), inr so_far)
  come_on number plan (first ∷ front) back set many so_far rise whole =
      let early = front_earlier front back first set rise in
      come_on (number + 1) (first ∷ plan) front back set (turned_more_count plan first number many)
      (comes_so sendings table plan first number many (whole.0 (omega (arith, early))), inr so_far)
      (rest_rises first.pts (pts_of (front ++ set ∷ back)) rise) whole.1

  -- and so they do from a set on that is not normal
  come_from : (number : ℕ) (plan front back : List PlannedSet) (set : PlannedSet) (before : List SentSet)
      (entry : SentSet) (after : List SentSet) → length (reverse plan) ≡ number
      → IsStrictlyIncreasing (pts_of (front ++ set ∷ back))
      → sent_from table number (front ++ set ∷ back) ≡ before ++ entry ∷ after → entry.is_entry ≡ true
      → entry.time ≤ set.pts → AllByRecursion (IsReceivedBy set.pts) (entry ∷ after)
      → HaveCome ComesWhole (set ∷ turned front plan)
  come_from number plan [] back set [] entry after many rise placed begins come whole =
      let head : sent_set table number set ≡ entry = cc in (
        comes_so sendings table plan set number many (subst (IsReceived sendings) (sym head) (whole.0 come)),
        inl (ap (λ (found : SentSet). found.is_entry) head ∙ begins),
      )
  come_from number plan [] back set (first ∷ before) entry after many rise placed begins come whole =
      let tail : sent_from table (number + 1) back ≡ before ++ entry ∷ after = cc in
      let above : set.pts < entry.time =
      at_seam (λ (later : SentSet). set.pts < later.time) before entry after
      (subst (AllByRecursion (λ (later : SentSet). set.pts < later.time)) tail
      (later_times table set.pts (number + 1) back (above_first set.pts back rise))) in
      absurd (omega (arith, above, come))
  come_from number plan (first ∷ front) back set [] entry after many rise placed begins come whole =
      let head : sent_set table number first ≡ entry = cc in
      let tail : sent_from table (number + 1) (front ++ set ∷ back) ≡ after = cc in
      come_on (number + 1) (first ∷ plan) front back set (turned_more_count plan first number many) (
        comes_so sendings table plan first number many (subst (IsReceived sendings) (sym head) (whole.0 come)),
        inl (ap (λ (found : SentSet). found.is_entry) head ∙ begins),
      )
      (rest_rises first.pts (pts_of (front ++ set ∷ back)) rise)
      (subst (AllByRecursion (IsReceivedBy set.pts)) (sym tail) whole.1)
  come_from number plan (first ∷ front) back set (other ∷ before) entry after many rise placed begins come whole =
      let tail : sent_from table (number + 1) (front ++ set ∷ back) ≡ before ++ entry ∷ after = cc in
      come_from (number + 1) (first ∷ plan) front back set before entry after (turned_more_count plan first number many)
      (rest_rises first.pts (pts_of (front ++ set ∷ back)) rise) tail begins come whole

  good_come : (front back : List PlannedSet) (set : PlannedSet)
      → IsStrictlyIncreasing (pts_of (front ++ set ∷ back))
      → IsGoodTick (sent_sets table (front ++ set ∷ back)) sendings set.pts
      → HaveCome ComesWhole (set ∷ reverse front)
  good_come front back set rise good =
      subst (λ (plan : List PlannedSet). HaveCome ComesWhole (set ∷ plan))
      (turned_is front [] ∙ append-nil (reverse front))
      (come_from 0 [] front back set good.before good.entry good.after refl rise good.placed good.begins good.come
      (recursion_from_All (IsReceivedBy set.pts) (good.entry ∷ good.after) good.whole))

  -- so each set of a plan that has come whole is kept, and shown where its time is a good tick
  pub kept_if_whole : (profile : Profile) (anchor : ℕ) (past : List (Delivery Reading)) (sets : List PlannedSet)
      → IsStrictlyIncreasing (pts_of sets) → AreKept profile anchor ComesWhole past (reverse sets) → (number : ℕ)
      (set : PlannedSet) → slice_get sets number ≡ Some set → IsReceived sendings (sent_set table number set)
      → IsKept profile anchor (IsGoodTick (sent_sets table sets) sendings) past set
  kept_if_whole profile anchor past sets rise kept number set found own = record {
    later = one.later;
    delivery = one.delivery;
    before = one.before;
    placed = one.placed;
    lifted = one.lifted;
    shown =
        λ good. one.shown (good_come front back set
        (subst (λ (all : List PlannedSet). IsStrictlyIncreasing (pts_of all)) parts rise)
        (subst (λ (all : List PlannedSet). IsGoodTick (sent_sets table all) sendings set.pts) parts good));
    kept = one.kept;
  }
    where
      front : List PlannedSet
      front = take number sets

      back : List PlannedSet
      back = drop (suc number) sets

      parts : sets ≡ front ++ set ∷ back
      parts =
          sym (take-append-drop number sets) ∙ ap (λ others. front ++ others) (drop_found number sets set found)

      many : length front ≡ number
      many =
          let within = slice_get_within sets number set found in
          length-take-le number sets (omega (arith, within))

      one : IsKept profile anchor (λ time. HaveCome ComesWhole (set ∷ reverse front)) past set
      one =
          kept_among profile anchor ComesWhole past (reverse back) set (reverse front)
          (subst (AreKept profile anchor ComesWhole past)
          (ap reverse parts ∙ reverse-append front (set ∷ back) ∙ turned_more back (reverse front) set) kept)
          (subst (λ (n : ℕ). ComesWhole n set) (sym (ap length (reverse-reverse front) ∙ many)) own)
