use Rattle.std.proofs.Common.{◌≡◌, ◌+◌, ◌%◌, take}
use Rattle.slot_stream.specs.KeptPackets.{numbered}
use Rattle.slot_stream.proofs.kept.packets_of.Given as goal

abbrev pub invariant-loop-piece : goal.invariant-loop-piece
invariant-loop-piece l =
    record {
      pid : l.packetiser.pid ≡ l.pid;
      counter : l.packetiser.counter ≡ (l.number + l.piece-index) % 16;
      are : l.packets.items ≡ numbered l.pid l.number (take l.piece-index l.pieces);
    }
