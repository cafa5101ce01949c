use Rattle.std.proofs.Common.{◌≡◌, ◌-◌, ◌%◌, ◌≤◌, length}
use Rattle.sub_base.specs.Endpoints.{Wrote}
use Rattle.slot_stream.specs.Private.Frames.{AreNull}
use Rattle.slot_stream.specs.SlotStream.{packets_before}
use Rattle.slot_stream.specs.SlotWalk.{IsNextPlace}
use Rattle.slot_stream.proofs.frame.write_slots.Given as goal

abbrev pub invariant-loop-slot : goal.invariant-loop-slot
invariant-loop-slot g l =
    record {
      next : IsNextPlace l.slots l.next l.slot;
      pid : l.packetiser.pid ≡ l.fn.packetiser.pid;
      counter : l.packetiser.counter ≡ l.next % 16;
      within : l.slot ≤ l.count;
      room : 1 ≤ length l.room;
      null : AreNull l.room;
      written : Wrote (g.K.Sink.received l.fn.sink) (g.K.Sink.received l.sink)
          (packets_before l.fn.packetiser.pid l.pieces l.slots l.slot);
      kept : (g.K.Sink.received l.fn.sink).faults ≤ (g.K.Sink.received l.sink).faults;
    }

abbrev pub decreases-loop-slot : goal.decreases-loop-slot
decreases-loop-slot g l = l.count - l.slot
