-- The records of the script that bring display sets.
use Rattle.std.specs.Prelude.{◌≡◌, ◌≢◌, ℕ, ◌≤◌, min, List, [], ◌∷◌, ◌++◌, map, All, Option, None, Some, MatchOption}
use Rattle.std.specs.List.Sorted.{IsStrictlyIncreasing}
use Rattle.std.specs.List.{flat_map, Contains}
use Rattle.cue_list.specs.declared.epoch.Epoch.{Epoch}
use Rattle.cue_list.specs.declared.epoch.Cue.{Cue}
use Rattle.page_epoch.specs.declared.events.Event.{Event}
use Rattle.page_epoch.specs.Instants.{named_ticks}

-- a tick that a record names
abbrev pub event : ℕ → ℕ → Event
event tick row = record { tick = tick; row = row }

-- the ticks that the record of a cue names: its start and its end
abbrev pub events_of_cue : Cue → List Event
events_of_cue cue = event cue.start cue.row ∷ event cue.end cue.row ∷ []

-- the ticks that the records of an epoch name, each with its record
abbrev pub events_of : Epoch → List Event
events_of epoch =
    event epoch.start epoch.row
    ∷ (map (λ row. event row.tick row.row) epoch.colours ++ flat_map events_of_cue epoch.cues)

-- the least of the records that name a tick
pub record IsLeastRow (events : List Event) (tick row : ℕ) : Type 0 where
  pub among : Contains events (event tick row)
  pub least : All (λ other. other.tick ≡ tick → row ≤ other.row) events

-- the lesser of the record that is known and another one
abbrev pub least_of : Option ℕ → ℕ → ℕ
least_of None row = row
least_of (Some known) row = min row known

-- a table has the least record of each tick that is named, and no other ticks
abbrev pub Noted : List Event → (ℕ → Option ℕ) → Type 0
Noted events table =
    (tick : ℕ) → MatchOption (table tick) (All (λ other. other.tick ≢ tick) events) (IsLeastRow events tick)

-- an entry of the table
abbrev pub least_event : ℕ × ℕ → Event
least_event (tick, row) = event tick row

-- the ticks that records name, each once and in order, with the least record of each
pub record AreLeastEvents (epochs : List Epoch) (least_events : List Event) : Type 0 where
  pub rise : IsStrictlyIncreasing (map (λ least_event. least_event.tick) least_events)
  pub rows : All (λ least_event. IsLeastRow (flat_map events_of epochs) least_event.tick least_event.row) least_events
  pub all : (tick : ℕ) → Contains (named_ticks epochs) tick
      → Contains (map (λ least_event. least_event.tick) least_events) tick
