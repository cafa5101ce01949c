use Rattle.std.proofs.Common.{◌≡◌, ℕ, ◌+◌, ◌<◌, length}
use Rattle.std.specs.Prelude.{slice_index}
use Rattle.schedule.specs.Private.Search.{IsWithin, sent_of}
use Rattle.schedule.proofs.send.send_unit.Given as goal

abbrev pub invariant-loop-packet : goal.invariant-loop-packet
invariant-loop-packet l =
    record {
      within : IsWithin l.loads l.pace l.slots.items l.dones (sent_of l.loads l.fn.slots.items l.dones + l.packet)
          l.search;
      kept : (n : ℕ) → n < length l.fn.slots.items
          → slice_index l.slots.items n ≡ slice_index l.fn.slots.items n;
    }
