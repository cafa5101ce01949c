use Rattle.std.proofs.Common.{◌≡◌, ℕ, ◌<◌, length}
use Rattle.std.specs.Prelude.{slice_index}
use Rattle.schedule.specs.Packets.{units_of}
use Rattle.schedule.specs.Private.Search.{IsWithin}
use Rattle.schedule.proofs.PacketLaws.{packets_before}
use Rattle.schedule.proofs.send.send_set.Given as goal

abbrev pub invariant-loop-size : goal.invariant-loop-size
invariant-loop-size l =
    record {
      within : IsWithin l.loads l.pace l.slots.items l.dones
          (packets_before (units_of l.loads (length l.dones)) l.size-index) l.search;
      kept : (n : ℕ) → n < length l.fn.slots.items
          → slice_index l.slots.items n ≡ slice_index l.fn.slots.items n;
    }
