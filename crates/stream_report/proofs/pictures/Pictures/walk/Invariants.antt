use Rattle.std.proofs.Common.{◌+◌, ◌-◌, ◌≤◌}
use Rattle.packet_source.specs.InHand.{read_count}
use Rattle.packet_source.specs.declared.limits.TheConstants.{STREAM_LIMIT}
use Rattle.packet_walk.proofs.WalkLaws.{HasWalked}
use Rattle.receiver.specs.Receiving.{IsSame, reception}
use Rattle.stream_report.specs.Private.Picturing.{HasPictured}
use Rattle.stream_report.proofs.pictures.Pictures.walk.Given as goal

abbrev pub invariant-loop-end : goal.invariant-loop-end
invariant-loop-end g l =
    record {
      within : read_count l.packets ≤ STREAM_LIMIT;
      kept : (g.A.Source.supplied l.fn.stream).faults ≤ (g.A.Source.supplied l.stream).faults;
      same : IsSame l.fn.self.receiving l.self.receiving;
      walked : HasWalked HasPictured (reception l.fn.self.receiving).pid
          (g.A.Source.supplied l.fn.stream)
          (g.A.Source.supplied l.stream)
          (g.K.Sink.received l.fn.out)
          (g.K.Sink.received l.out)
          l.self l.buffer l.packets;
    }

abbrev pub decreases-loop-end : goal.decreases-loop-end
decreases-loop-end g l = STREAM_LIMIT + 1 - read_count l.packets
