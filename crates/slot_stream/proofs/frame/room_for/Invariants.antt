use Rattle.std.proofs.Common.{◌≡◌, ◌≤◌, length}
use Rattle.stream_syntax.specs.TransportPackets.{null_packet}
use Rattle.slot_stream.specs.Private.Frames.{AreNull}
use Rattle.slot_stream.proofs.frame.room_for.Given as goal

abbrev pub invariant-loop : goal.invariant-loop
invariant-loop l =
    record {
      packet : l.null ≡ null_packet;
      some : 1 ≤ l.most;
      high : l.counter ≤ l.most;
      many : length l.room.items ≡ l.counter;
      null : AreNull l.room.items;
    }
