use Rattle.std.proofs.Common.{◌≡◌, ◌+◌, take}
use Rattle.packet_walk.specs.Told.{Tells}
use Rattle.dump_text.specs.Dumping.{HasDumped, IsSameDump}
use Rattle.dump_text.proofs.dump.Dump.take_packets.Given as goal

abbrev pub invariant-loop-packet : goal.invariant-loop-packet
invariant-loop-packet g l =
    record {
      place : l.place ≡ l.first + l.packet-index;
      same : IsSameDump l.fn.self l.self;
      told : Tells HasDumped l.fn.self.receiving.demux.pid
          (g.K.Sink.received l.fn.out)
          (g.K.Sink.received l.out)
          l.fn.self l.self l.fn.buffer l.buffer l.first (take l.packet-index l.packets);
    }
