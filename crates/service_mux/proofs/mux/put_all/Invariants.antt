use Rattle.std.proofs.Common.{◌≡◌, ◌+◌, ◌-◌}
use Rattle.packet_source.specs.declared.limits.TheConstants.{STREAM_LIMIT}
use Rattle.sub_base.specs.Seen.{seen}
use Rattle.service_mux.specs.Private.Frames.{HaveJoined, HaveTurned}
use Rattle.service_mux.specs.Private.Lanes.{IsSound}
use Rattle.service_mux.proofs.mux.put_all.Given as goal

abbrev pub invariant-loop-mux : goal.invariant-loop-mux
invariant-loop-mux g l =
    record {
      sound : IsSound l.mux.one.lane × IsSound l.mux.two.lane;
      pair : l.mux.pair ≡ l.fn.mux.pair;
      turned : HaveTurned l.mux.pair l.mux l.frame;
      joined : HaveJoined l.fn.mux.pair
          (seen (g.A.Source.supplied l.fn.first) (g.B.Source.supplied l.fn.second) (g.K.Sink.received l.fn.out))
          (seen (g.A.Source.supplied l.first) (g.B.Source.supplied l.second) (g.K.Sink.received l.out))
          l.mux.one.lane l.mux.two.lane l.buffer l.frame;
    }

abbrev pub decreases-loop-mux : goal.decreases-loop-mux
decreases-loop-mux g l = STREAM_LIMIT + 1 - l.frame
