use Rattle.std.proofs.Common.{◌≡◌, ◌+◌, ◌-◌, ◌≤◌}
use Rattle.packet_source.specs.InHand.{read_count}
use Rattle.packet_source.specs.declared.limits.TheConstants.{STREAM_LIMIT}
use Rattle.packet_walk.proofs.WalkLaws.{HasWalked}
use Rattle.packet_walk.proofs.walk.walk_packets.Given as goal

abbrev pub invariant-loop-end : goal.invariant-loop-end
invariant-loop-end g l =
    record {
      within : read_count l.packets ≤ STREAM_LIMIT;
      kept : (g.A.Source.supplied l.fn.stream).faults ≤ (g.A.Source.supplied l.stream).faults;
      same : g.T.PacketTeller.kept l.teller ≡ g.T.PacketTeller.kept l.fn.teller;
      pid : g.T.PacketTeller.pid l.teller ≡ g.T.PacketTeller.pid l.fn.teller;
      walked : HasWalked g.T.PacketTeller.stands (g.T.PacketTeller.pid l.fn.teller)
          (g.A.Source.supplied l.fn.stream)
          (g.A.Source.supplied l.stream)
          (g.K.Sink.received l.fn.out)
          (g.K.Sink.received l.out)
          l.teller l.buffer l.packets;
    }

abbrev pub decreases-loop-end : goal.decreases-loop-end
decreases-loop-end g l = STREAM_LIMIT + 1 - read_count l.packets
