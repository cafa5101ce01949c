use Rattle.std.proofs.Common.{◌≡◌, ◌<◌, ◌≤◌, ℕ, get_or, length}
use Rattle.std.specs.Vec.{vec_capacity}
use Rattle.pid_text.specs.Private.Telling.{no_slot}
use Rattle.pid_text.specs.declared.watch.Slot.{Slot}
use Rattle.pid_text.proofs.pids.empty_slots.Given as goal

abbrev pub invariant-loop-pid : goal.invariant-loop-pid
invariant-loop-pid l =
    record {
      many : length l.slots.items ≡ l.pid;
      room : 8192 ≤ vec_capacity l.slots;
      each : (k : ℕ) (d : Slot) → k < l.pid → get_or l.slots.items k d ≡ no_slot;
    }
