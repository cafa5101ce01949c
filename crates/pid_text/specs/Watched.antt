-- The packets of a stream that were taken for all PIDs.
use Rattle.std.specs.Prelude.{◌≡◌, ℕ, ◌<◌, Bool, false, List, [], length, slice_index_or}
use Rattle.pid_text.specs.PidText.{PIDS}
use Rattle.pid_text.specs.Private.Telling.{no_slot}
use Rattle.pid_text.specs.Private.Watching.{IsSlot}
use Rattle.pid_text.specs.declared.watch.Slot.{Slot}

-- what is kept of each PID, and whether no memory was found for one
pub record PidsWatched : Type 0 where
  pub slots : List Slot
  pub is_wanting : Bool

-- each PID was watched in these packets, where no memory was wanting
pub record AreWatched (packets : List (List ℕ)) (pids : PidsWatched) : Type 0 where
  pub all : length pids.slots ≡ PIDS
  pub each : pids.is_wanting ≡ false → (pid : ℕ) → pid < PIDS
      → IsSlot pid packets (slice_index_or pids.slots pid no_slot)

-- and nothing was put out
pub record HasWatched (pids : PidsWatched) (packets : List (List ℕ)) (text : List ℕ) : Type 0 where
  pub watched : AreWatched packets pids
  pub nothing : text ≡ []
