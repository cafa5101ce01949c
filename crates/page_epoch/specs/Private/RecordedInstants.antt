-- Instants with the records that bring them.
use Rattle.std.specs.Prelude.{◌≡◌, ℕ, ◌+◌, ◌*◌, ◌<◌, ◌≤◌, true, false, List, [], ◌∷◌, ◌++◌, map, length, All, ⊤}
use Rattle.std.specs.List.{range_with_len, flat_map, AllAdjacentBelow}
use Rattle.cue_list.specs.declared.epoch.Epoch.{Epoch}
use Rattle.page_epoch.specs.declared.instants.TheConstants.{REFRESH_ROOM}
use Rattle.page_epoch.specs.declared.instants.Instant.{Instant}
use Rattle.page_epoch.specs.Instants.{AreInstants, is_named}
use Rattle.page_epoch.specs.Rows.{events_of, IsLeastRow}

-- the ticks of instants
abbrev pub instant_ticks : List Instant → List ℕ
instant_ticks instants = map (λ instant. instant.tick) instants

-- a refresh, so many refreshes after a tick
abbrev pub refresh_at : ℕ → ℕ → ℕ → ℕ → Instant
refresh_at tick row refresh times = record { tick = tick + times * refresh; row = row; named = false }

-- the refreshes between a tick and the next one that is named are put behind
pub record HasRefreshes (old new : List Instant) (tick row next refresh : ℕ) : Type 0 where
  pub count : ℕ
  pub is : new ≡ old ++ map (refresh_at tick row refresh) (range_with_len 1 count)
  pub last : 1 ≤ count → tick + count * refresh + REFRESH_ROOM < next
  pub all : next ≤ tick + (count + 1) * refresh + REFRESH_ROOM

-- an instant has the record that brings it, and says whether a record names it
pub record IsRecordedInstant (epochs : List Epoch) (instant : Instant) : Type 0 where
  pub named : instant.named ≡ is_named epochs instant.tick
  pub row : instant.named ≡ true → IsLeastRow (flat_map events_of epochs) instant.tick instant.row

-- a refresh has the record of the instant before
abbrev pub KeepsRow : Instant → Instant → Type 0
KeepsRow before instant = instant.named ≡ false → instant.row ≡ before.row

-- the first instant is named
abbrev pub IsFirstNamed : List Instant → Type 0
IsFirstNamed [] = ⊤
IsFirstNamed (instant ∷ instants) = instant.named ≡ true

-- these are the instants of the script, with their records
pub record AreRecordedInstants (epochs : List Epoch) (refresh : ℕ) (instants : List Instant) : Type 0 where
  pub ticks : AreInstants epochs refresh (instant_ticks instants)
  pub each : All (IsRecordedInstant epochs) instants
  pub rows : AllAdjacentBelow KeepsRow instants (length instants)
  pub first : IsFirstNamed instants
