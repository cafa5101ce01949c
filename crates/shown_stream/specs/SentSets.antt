-- The display sets of a plan as they stand in the stream that is sent of them.
use Rattle.std.specs.Prelude.{ℕ, ◌+◌, ◌&&◌, nat_le, Bool, List, [], ◌∷◌, map, filter, unwrap_or}
use Rattle.std.specs.List.{list_all, list_any}
use Rattle.stream_syntax.specs.Segments.{is_entry_state}
use Rattle.page_epoch.specs.declared.planned_set.PlannedSet.{PlannedSet}
use Rattle.schedule.specs.Slots.{Timetable, slots_of}
use Rattle.sub_base.specs.Lists.{up_to_first}
use Rattle.decoder_model.specs.Streams.{Sending, SentSet, is_from, is_received_at}

-- a set of that number as it is sent: the places of its packets are their slots, as each slot has one packet
abbrev pub sent_set : Timetable → ℕ → PlannedSet → SentSet
sent_set table number set =
    record { time = set.pts; is_entry = is_entry_state set.state; places = slots_of table number }

-- sets as they are sent, where the first has that number
abbrev pub sent_from : Timetable → ℕ → List PlannedSet → List SentSet
sent_from table number [] = []
sent_from table number (set ∷ sets) = sent_set table number set ∷ sent_from table (number + 1) sets

-- all sets of a plan as they are sent
abbrev pub sent_sets : Timetable → List PlannedSet → List SentSet
sent_sets table sets = sent_from table 0 sets

-- the times of the sets of which a packet stands at that place or a later one
abbrev pub times_from : ℕ → List SentSet → List ℕ
times_from place sets =
    map (λ (set : SentSet). set.time) (filter (λ (set : SentSet). list_any (λ at. nat_le place at) set.places) sets)

-- the set has packets, and all of them stand at that place or a later one
abbrev pub comes_from : ℕ → SentSet → Bool
comes_from place set = list_any (λ at. nat_le place at) set.places && is_from place set

-- of the times of the sets of which a packet stands at that place or a later one those up to the first set of which all
-- do: a receiver that enters there lifts no later time by its anchor
abbrev pub first_times_from : ℕ → List SentSet → List ℕ
first_times_from place sets = times_from place (unwrap_or (up_to_first (comes_from place) sets) sets)

-- the times of the sets of which a packet is received
abbrev pub times_received : List Sending → List SentSet → List ℕ
times_received sendings sets =
    map (λ (set : SentSet). set.time) (filter (λ (set : SentSet). list_any (is_received_at sendings) set.places) sets)

-- the set has packets, and all of them are received
abbrev pub comes_whole : List Sending → SentSet → Bool
comes_whole sendings set =
    list_any (is_received_at sendings) set.places && list_all (is_received_at sendings) set.places

-- of the times of the sets of which a packet is received those up to the first set of which all are: a receiver that
-- loses packets lifts no later time by its anchor
abbrev pub first_times_received : List Sending → List SentSet → List ℕ
first_times_received sendings sets =
    times_received sendings (unwrap_or (up_to_first (comes_whole sendings) sets) sets)
