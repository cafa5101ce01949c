use Rattle.std.proofs.Common.{length, ◌-◌, ◌≡◌, ℕ, ◌+◌, ◌^◌, ◌≤◌, max}
use Rattle.schedule.specs.Packets.{sum_below, size_of}
use Rattle.sub_base.specs.Pace.{tick_of}
use Rattle.sub_base.specs.declared.profile.TheConstants.{LONGEST_STEP}
use Rattle.schedule.specs.Slots.{left_of}
use Rattle.schedule.specs.Private.Safe.{AreDone}
use Rattle.schedule.proofs.place.place.Given as goal

abbrev pub invariant-loop-gone : goal.invariant-loop-gone
invariant-loop-gone l =
    record {
      total : l.level + sum_below (size_of l.loads) l.gone
          ≡ l.fn.from.level + sum_below (size_of l.loads) l.fn.from.gone;
      level : l.level ≤ l.pace.coded;
      gone : AreDone l.dones l.gone (tick_of l.pace l.slot);
      after : l.fn.from.slot ≤ l.slot;
      near : tick_of l.pace l.slot ≤ max (tick_of l.pace l.fn.from.slot) (2 ^ 62 + LONGEST_STEP);
      least : (slot : ℕ) → l.fn.from.slot ≤ slot →
          l.fn.from.level + l.payload + sum_below (size_of l.loads) l.fn.from.gone
          ≤ l.pace.coded + sum_below (left_of l.loads l.dones (tick_of l.pace slot)) (length l.dones) →
          l.slot ≤ slot;
    }

abbrev pub decreases-loop-gone : goal.decreases-loop-gone
decreases-loop-gone l = length l.dones - l.gone
