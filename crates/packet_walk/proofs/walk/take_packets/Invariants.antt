use Rattle.std.proofs.Common.{◌≡◌, ◌+◌, take}
use Rattle.packet_walk.specs.Told.{HasTaken, Tells}
use Rattle.packet_walk.proofs.walk.take_packets.Given as goal

abbrev pub invariant-loop-packet : goal.invariant-loop-packet
invariant-loop-packet g l =
    record {
      place : l.place ≡ l.first + l.packet-index;
      taken : HasTaken g.T.PacketTeller.stands l.teller l.place;
      same : g.T.PacketTeller.kept l.teller ≡ g.T.PacketTeller.kept l.fn.teller;
      pid : g.T.PacketTeller.pid l.teller ≡ g.T.PacketTeller.pid l.fn.teller;
      told : Tells g.T.PacketTeller.stands (g.T.PacketTeller.pid l.fn.teller)
          (g.K.Sink.received l.fn.out)
          (g.K.Sink.received l.out)
          l.fn.teller l.teller l.fn.buffer l.buffer l.first (take l.packet-index l.packets);
    }
