-- What became of the unit that a packet ended.
use Rattle.std.specs.Prelude.{◌≡◌, ℕ, Bool, false, if◌then◌else◌, List, [], ◌∷◌, ◌++◌, length, reverse, Option, option_map}
use Rattle.std.specs.Option.{option_map_or}
use Rattle.stream_syntax.specs.Units.{event_at, unit_at}
use Rattle.decoder_model.specs.declared.pages.Pages.{Pages}
use Rattle.decoder_model.specs.Arrivals.{PesUnit, Arrival, arrival_of_unit, losses_at}
use Rattle.decoder_model.specs.PacketArrivals.{is_dropped, last_run, makes_ready}
use Rattle.decoder_model.specs.Sets.{Delivery, lost}
use Rattle.display_sets.specs.Standing.{drops, parts}
use Rattle.display_sets.specs.declared.hand.UnitEnd.{UnitEnd}

-- one loss, or none
abbrev pub lost_where : Bool → List (Delivery (List ℕ))
lost_where is_lost = if is_lost then lost ∷ [] else []

-- a packet ended a unit, and it was dropped
abbrev pub end_drops : Option UnitEnd → Bool
end_drops found = option_map_or drops found false

-- a packet ended a unit, and it made the set in hand ready before it
abbrev pub end_parts : Option UnitEnd → Bool
end_parts found = option_map_or parts found false

-- the answer says of the unit that a packet ended, behind that run, whether it is dropped, and whether it makes the set
-- in hand ready before it
pub record IsEndOf (coded : ℕ) (pages : Pages) (place : ℕ) (units : List PesUnit) (unit : Option (List ℕ))
    (answer : Option UnitEnd) : Type 0 where
  pub dropped : end_drops answer ≡ is_dropped coded units (option_map (arrival_of_unit pages place) unit)
  pub before : end_parts answer ≡ makes_ready coded units (option_map (arrival_of_unit pages place) unit)

-- the same of the unit that a packet ended behind others, by what arrived with those
abbrev pub IsEndBehind : ℕ → ℕ → ℕ → Pages → List (List ℕ) → List ℕ → List Arrival
    → Option UnitEnd → Type 0
IsEndBehind coded size pid pages before packet arrivals answer =
    IsEndOf coded pages (length before) (last_run (losses_at (event_at pid size before packet) ++ reverse arrivals))
    (unit_at pid size before packet) answer
