-- The set with which a receiver enters, looked for from the first set on.
use Rattle.std.proofs.Common.{◌≡◌, ◌∙◌, ℕ, suc, ◌+◌, Bool, true, false, cond, List, ◌∷◌, length, drop, Some, None, ap, arith}
use Rattle.std.proofs.lemmas.List.{drop_all}
use Rattle.decoder_model.specs.Streams.{entry_set}
use Rattle.page_epoch.specs.declared.planned_set.PlannedSet.{PlannedSet}
use Rattle.schedule.specs.Slots.{Timetable, slots_of}
use Rattle.shown_stream.specs.SentSets.{sent_from, sent_set, sent_sets}
use Rattle.dvbsub_cmd.specs.Private.Entries.{is_entry}

-- the entry set is that among the sets from a number on
abbrev pub IsLeft : ℕ → Timetable → List PlannedSet → ℕ → Type 0
IsLeft missed table sets number =
    entry_set missed (sent_sets table sets) ≡ entry_set missed (sent_from table number (drop number sets))

module _ (missed number : ℕ) (table : Timetable) (set : PlannedSet) (sets : List PlannedSet)
    (here : drop number sets ≡ set ∷ drop (suc number) sets) (left : IsLeft missed table sets number) where
  split : entry_set missed (sent_sets table sets)
      ≡ cond (is_entry missed set (slots_of table number)) (Some (sent_set table number set))
      (entry_set missed (sent_from table (number + 1) (drop (suc number) sets)))
  split = left ∙ ap (λ (from : List PlannedSet). entry_set missed (sent_from table number from)) here

  -- it is the entry set
  pub entered_here : is_entry missed set (slots_of table number) ≡ true
      → entry_set missed (sent_sets table sets) ≡ Some (sent_set table number set)
  entered_here is =
      split ∙ ap
      (λ (enters : Bool). cond enters (Some (sent_set table number set))
      (entry_set missed (sent_from table (number + 1) (drop (suc number) sets)))) is

  -- it is not
  pub entered_later : is_entry missed set (slots_of table number) ≡ false → IsLeft missed table sets (number + 1)
  entered_later is =
      let next : suc number ≡ number + 1 = omega arith in
      split ∙ ap
      (λ (enters : Bool). cond enters (Some (sent_set table number set))
      (entry_set missed (sent_from table (number + 1) (drop (suc number) sets)))) is
      ∙ ap (λ (n : ℕ). entry_set missed (sent_from table (number + 1) (drop n sets))) next

-- no set is left
pub entered_nowhere : (missed number : ℕ) (table : Timetable) (sets : List PlannedSet) → length sets ≡ number
    → IsLeft missed table sets number → entry_set missed (sent_sets table sets) ≡ None
entered_nowhere missed number table sets all left =
    left ∙ ap (λ (from : List PlannedSet). entry_set missed (sent_from table number from))
    (drop_all number sets (omega (arith, all)))
