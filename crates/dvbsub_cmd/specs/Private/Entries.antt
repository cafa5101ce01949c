-- The set with which a receiver enters the packets of a plan, by its place in the plan.
use Rattle.std.specs.Prelude.{◌≡◌, ℕ, Bool, ◌&&◌, nat_le, List, slice_get, Option, Some, None}
use Rattle.std.specs.List.{list_all}
use Rattle.decoder_model.specs.Streams.{entry_set}
use Rattle.page_epoch.specs.declared.planned_set.PlannedSet.{PlannedSet}
use Rattle.schedule.specs.Slots.{Timetable}
use Rattle.shown_stream.specs.SentSets.{sent_set, sent_sets}
use Rattle.stream_syntax.specs.Segments.{is_entry_state}

-- none of the slots lies before that one
abbrev pub are_all_from : ℕ → List ℕ → Bool
are_all_from least slots = list_all (λ slot. nat_le least slot) slots

-- a receiver can enter with a set, which has these slots
abbrev pub is_entry : ℕ → PlannedSet → List ℕ → Bool
is_entry missed set slots = is_entry_state set.state && are_all_from missed slots

-- the set of that number is the entry set of a receiver that does not get the first so many packets; or there is
-- none
abbrev pub HasEntry : ℕ → Timetable → List PlannedSet → Option ℕ → Type 0
HasEntry missed table sets None = entry_set missed (sent_sets table sets) ≡ None
HasEntry missed table sets (Some number) =
    (set : PlannedSet) × (slice_get sets number ≡ Some set)
    × (entry_set missed (sent_sets table sets) ≡ Some (sent_set table number set))
