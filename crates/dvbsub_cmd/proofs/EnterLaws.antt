-- From the entry set on, the pictures of a generated script are shown.
use Rattle.std.proofs.Common.{◌≡◌, ◌∙◌, ℕ, zero, suc, ◌≤◌, List, [], ◌∷◌, drop, Option, Some, refl, sym, ap, subst, arith}
use Rattle.std.specs.Prelude.{slice_get}
use Rattle.std.specs.List.{AllByRecursion}
use Rattle.std.specs.List.Sorted.{IsStrictlyIncreasing}
use Rattle.std.proofs.lemmas.List.Elements.{All-from_recursion}
use Rattle.cue_list.specs.declared.script.Script.{Script}
use Rattle.decoder_model.specs.Streams.{SentSet, entry_set}
use Rattle.page_epoch.specs.declared.planned_set.PlannedSet.{PlannedSet}
use Rattle.shown_stream.proofs.Shown.EnteredTimes.{drop_found, drop_rises}
use Rattle.shown_stream.proofs.Sent.PlannedOrder.{all_above}
use Rattle.shown_stream.proofs.Sent.PlannedTimes.{pts_of}
use Rattle.shown_stream.specs.SentSets.{sent_set, sent_sets}
use Rattle.shown_stream.specs.Shows.{Shows, ShowsFrom, authored_view}
use Rattle.sub_base.specs.declared.profile.ProfileName.{ProfileName}
use Rattle.dvbsub_cmd.specs.Private.Entries.{HasEntry}
use Rattle.dvbsub_cmd.specs.GenText.{entry_time, generated_reception}
use Rattle.dvbsub_cmd.specs.Private.Generating.{AreOf, AreShown, AreTold}
use Rattle.dvbsub_cmd.specs.declared.generated.Generated.{Generated}

-- ---- times

drop_pts : (n : ℕ) (sets : List PlannedSet) → drop n (pts_of sets) ≡ pts_of (drop n sets)
drop_pts zero sets = refl
drop_pts (suc n) [] = refl
drop_pts (suc n) (set ∷ sets) = drop_pts n sets

module _ (times : List ℕ) (sets : List PlannedSet) (times_are : times ≡ pts_of sets) (number : ℕ)
    (set : PlannedSet) (found : slice_get sets number ≡ Some set) where
  -- the times from that of a set on
  times_behind : drop number times ≡ pts_of (set ∷ drop (suc number) sets)
  times_behind = ap (drop number) times_are ∙ drop_pts number sets ∙ ap pts_of (drop_found number sets set found)

  later_times : AreTold times → AllByRecursion (λ tick. set.pts ≤ tick) (drop number times)
  later_times told =
      let behind : IsStrictlyIncreasing (drop number times) =
      subst IsStrictlyIncreasing (sym (ap (drop number) times_are ∙ drop_pts number sets))
      (drop_rises number sets (subst IsStrictlyIncreasing times_are told.rising)) in
      let rising : IsStrictlyIncreasing (pts_of (set ∷ drop (suc number) sets)) =
      subst IsStrictlyIncreasing times_behind behind in
      subst (AllByRecursion (λ tick. set.pts ≤ tick)) (sym times_behind)
      (omega arith, all_above set.pts (pts_of (drop (suc number) sets)) rising)

-- ---- pictures

shown_late : (name : ProfileName) (script : Script) (packets : List (List ℕ)) (entry : SentSet) (ticks : List ℕ)
    → ((tick : ℕ)
    → ShowsFrom (generated_reception name) packets (Some entry) tick
    (authored_view script tick)) → AllByRecursion (λ tick. entry.time ≤ tick) ticks
    → AllByRecursion
    (λ tick. Shows (generated_reception name) packets tick
    (authored_view script tick)) ticks
shown_late name script packets entry [] shows late = tt
shown_late name script packets entry (tick ∷ ticks) shows late =
    let is = shows tick in (
      record { shown = is.shown; is_shown = is.is_shown; agrees = is.from_entry.1 late.0 },
      shown_late name script
          packets entry ticks shows late.1,
    )

module _ (name : ProfileName) (made : Generated) (packets : List (List ℕ)) (times : List ℕ)
    (of : AreOf name made packets times) (missed number : ℕ)
    (entry : HasEntry missed made.sent.table made.sent.sets (Some number)) where
  pub entry_shown : AreShown name made.script (drop missed packets) (drop number times)
  entry_shown =
      let sent : SentSet = sent_set made.sent.table number entry.0 in
      All-from_recursion
      (λ tick. Shows (generated_reception name) (drop missed packets) tick
      (authored_view made.script tick)) (drop number times)
      (shown_late name made.script (drop missed packets) sent (drop number times)
      (λ tick. subst
      (λ (one : Option SentSet). ShowsFrom (generated_reception name)
      (drop missed packets) one tick (authored_view made.script tick)) entry.2 (of.shown missed tick))
      (later_times times made.sent.sets of.times_are number entry.0 entry.1 of.told))

  -- the first of these is the time of the entry set
  pub entry_first : slice_get (drop number times) 0
      ≡ entry_time (entry_set missed (sent_sets made.sent.table made.sent.sets))
  entry_first =
      ap (λ (ticks : List ℕ). slice_get ticks 0)
      (times_behind times made.sent.sets of.times_are number entry.0 entry.1) ∙ sym (ap entry_time entry.2)
