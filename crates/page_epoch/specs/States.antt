-- How a set stands to the sets before it, which are given the latest first.
use Rattle.std.specs.Prelude.{ℕ, ◌+◌, ◌%◌, nat_le, Bool, false, not, ◌||◌, if◌then◌else◌, List, ◌∷◌, map, drop, reverse, Option, Some, None, find, count_by, take_while}
use Rattle.stream_syntax.specs.declared.page.State.{State}
use Rattle.stream_syntax.specs.declared.page.State.TheVariants.{Normal, Acquisition, ModeChange}
use Rattle.cue_list.specs.declared.epoch.Epoch.{Epoch}
use Rattle.page_epoch.specs.declared.planned_set.PlannedSet.{PlannedSet}
use Rattle.page_epoch.specs.Instants.{is_named}
use Rattle.stream_syntax.specs.Segments.{is_entry_state}

-- the last set before at which a receiver can begin
abbrev pub last_entry : List PlannedSet → Option PlannedSet
last_entry past = find (λ set. is_entry_state set.state) past

-- that set lies a refresh or more before this tick
abbrev pub is_due : ℕ → ℕ → Option PlannedSet → Bool
is_due refresh tick None = false
is_due refresh tick (Some set) = nat_le (set.pts + refresh) tick

-- the state of a set: a mode change where it begins an epoch; else an acquisition where no record names its tick, so
-- that it is a refresh, or where one is due; else normal
abbrev pub state_of : Bool → Bool → Bool → State
state_of starts named due = if starts then ModeChange else if not named || due then Acquisition else Normal

-- the instants of an epoch up to this one, the latest first
abbrev pub seen_of : ℕ → List PlannedSet → ℕ → List ℕ
seen_of start past tick = tick ∷ take_while (nat_le start) (map (λ set. set.pts) past)

-- the ticks of this set and of those before it in the script, the latest first
abbrev pub instants_of : List PlannedSet → ℕ → List ℕ
instants_of past tick = tick ∷ map (λ set. set.pts) past

-- the version of the page: how many of these instants of the script, but its first, are no refreshes, modulo 16
abbrev pub page_version : List Epoch → List ℕ → ℕ
page_version epochs instants = count_by (is_named epochs) (drop 1 (reverse instants)) % 16
