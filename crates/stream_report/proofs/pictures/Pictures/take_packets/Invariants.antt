use Rattle.std.proofs.Common.{◌≡◌, ◌+◌, take}
use Rattle.packet_walk.specs.Told.{Tells}
use Rattle.receiver.specs.Receiving.{IsSame, reception}
use Rattle.stream_report.specs.Private.Picturing.{HasPictured}
use Rattle.stream_report.proofs.pictures.Pictures.take_packets.Given as goal

abbrev pub invariant-loop-packet : goal.invariant-loop-packet
invariant-loop-packet g l =
    record {
      place : l.place ≡ l.first + l.packet-index;
      same : IsSame l.fn.self.receiving l.self.receiving;
      told : Tells HasPictured (reception l.fn.self.receiving).pid
          (g.K.Sink.received l.fn.out)
          (g.K.Sink.received l.out)
          l.fn.self l.self l.fn.buffer l.buffer l.first (take l.packet-index l.packets);
    }
