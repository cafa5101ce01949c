use Rattle.std.proofs.Common.{◌≡◌, ◌≤◌, ◌-◌, false}
use Rattle.stream_syntax.specs.TransportPackets.{null_packet}
use Rattle.command_text.specs.Putting.{IsPutOut}
use Rattle.slot_stream.specs.KeptPackets.{packets_from}
use Rattle.slot_stream.specs.SlotWalk.{IsNextPlace}
use Rattle.slot_stream.proofs.kept.KeptPackets.write.Given as goal

abbrev pub invariant-loop-slot : goal.invariant-loop-slot
invariant-loop-slot g l =
    record {
      next : IsNextPlace l.self.slots l.next l.slot;
      null : l.null ≡ null_packet;
      low : l.from ≤ l.slot;
      high : l.slot ≤ l.until;
      good : l.buffer.failed ≡ false;
      out : IsPutOut (g.K.Sink.received l.fn.sink) (g.K.Sink.received l.sink) l.buffer
          (packets_from l.self l.from (l.slot - l.from));
    }
