-- The instants at which display sets are shown: the ticks that the script's records name, and between them the
-- refreshes of a page that stays.
use Rattle.std.specs.Prelude.{◌≡◌, ℕ, ◌+◌, ◌*◌, ◌==◌, ◌<◌, ◌≤◌, ◌⊎◌, Bool, true, List, All}
use Rattle.std.specs.List.{flat_map, list_any, Contains}
use Rattle.std.specs.List.Sorted.{IsStrictlyIncreasing}
use Rattle.page_epoch.specs.declared.instants.TheConstants.{REFRESH_ROOM}
use Rattle.cue_list.specs.declared.epoch.Epoch.{Epoch}
use Rattle.cue_list.specs.Authored.{is_live}
use Rattle.cue_list.specs.Sound.{ticks_of}

-- the ticks that the records of all epochs name
abbrev pub named_ticks : List Epoch → List ℕ
named_ticks epochs = flat_map ticks_of epochs

-- some record names that tick
abbrev pub is_named : List Epoch → ℕ → Bool
is_named epochs tick = list_any (λ named. named == tick) (named_ticks epochs)

-- some cue is live at a tick
abbrev pub shows_cue : List Epoch → ℕ → Bool
shows_cue epochs tick = list_any (λ epoch. list_any (is_live tick) epoch.cues) epochs

-- two of these ticks, with none between them
pub record AreNeighbours (ticks : List ℕ) (first second : ℕ) : Type 0 where
  pub has_first : Contains ticks first
  pub has_second : Contains ticks second
  pub order : first < second
  pub between : All (λ tick. (tick ≤ first) ⊎ (second ≤ tick)) ticks

-- the page that is shown from a named tick on is sent again: a whole number of refreshes later, and more than 3,600
-- ticks before the next named tick
pub record IsRefresh (epochs : List Epoch) (refresh tick : ℕ) : Type 0 where
  pub last : ℕ
  pub next : ℕ
  pub times : ℕ
  pub neighbours : AreNeighbours (named_ticks epochs) last next
  pub shown : shows_cue epochs last ≡ true
  pub some : 1 ≤ times
  pub after : tick ≡ last + times * refresh
  pub room : tick + REFRESH_ROOM < next

-- a display set is shown at that tick
abbrev pub IsInstant : List Epoch → ℕ → ℕ → Type 0
IsInstant epochs refresh tick = Contains (named_ticks epochs) tick ⊎ IsRefresh epochs refresh tick

-- these are all instants of the script, in order, each once
pub record AreInstants (epochs : List Epoch) (refresh : ℕ) (ticks : List ℕ) : Type 0 where
  pub rise : IsStrictlyIncreasing ticks
  pub each : All (IsInstant epochs refresh) ticks
  pub all : (tick : ℕ) → IsInstant epochs refresh tick → Contains ticks tick
