-- The text of `check` of a whole stream, as its schedule says.
use Rattle.std.specs.Prelude.{◌≡◌, ℕ, ◌≤◌, List, ◌++◌, map, None}
use Rattle.std.specs.List.{flat_map}
use Rattle.check_text.specs.CheckText.{breach_line, peak_line, set_line}
use Rattle.page_epoch.specs.declared.planned_set.PlannedSet.{PlannedSet}
use Rattle.received_level_laws.specs.ToldSets.{ToldDoneSet}
use Rattle.schedule.specs.Slots.{Timetable}

-- it has a line for each set of the plan, in their order and with their presentation times, each done at its tick of
-- the schedule; behind them stand a greatest level, which a buffer of so many bytes of coded data holds, and that there
-- is no breach
pub record TellsSchedule (coded : ℕ) (sets : List PlannedSet) (table : Timetable) (text : List ℕ) : Type 0 where
  pub told : List ToldDoneSet
  pub times : map (λ (one : ToldDoneSet). one.set.load.pts) told ≡ map (λ (set : PlannedSet). set.pts) sets
  pub dones : map (λ (one : ToldDoneSet). one.done) told ≡ table.dones
  pub peak : ℕ
  pub held : peak ≤ coded
  pub whole : text ≡ flat_map set_line told ++ (peak_line peak ++ breach_line None)
