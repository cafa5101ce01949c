use Rattle.std.proofs.Common.{◌≡◌, ◌%◌, ◌≤◌, length}
use Rattle.slot_stream.specs.SlotStream.{slot_packet}
use Rattle.slot_stream.proofs.FilledFrames.{IsFilling}
use Rattle.slot_stream.proofs.frame.fill.Given as goal

abbrev pub invariant-loop-number : goal.invariant-loop-number
invariant-loop-number l =
    record {
      low : l.next ≤ l.number;
      high : l.number ≤ l.end;
      pid : l.packetiser.pid ≡ l.fn.packetiser.pid;
      counter : l.packetiser.counter ≡ l.number % 16;
      long : length l.frame ≡ length l.fn.frame;
      filling : IsFilling (slot_packet l.fn.packetiser.pid l.pieces l.slots) l.slots l.next l.number l.from l.frame;
    }
