use Rattle.std.proofs.Common.{◌≡◌, ◌≤◌, ◌+◌, ◌-◌, true}
use Rattle.std.specs.Bool.{if◌then◌else◌}
use Rattle.packet_source.specs.InHand.{read_count}
use Rattle.packet_source.specs.declared.limits.TheConstants.{STREAM_LIMIT}
use Rattle.service_mux.specs.Private.Lanes.{IsSound, Keeps}
use Rattle.service_mux.proofs.lane.Lane.reach.Given as goal

abbrev pub invariant-loop-self : goal.invariant-loop-self
invariant-loop-self g l =
    record {
      keeps : Keeps (g.A.Source.supplied l.fn.source) (g.A.Source.supplied l.source) l.fn.self l.self;
      sound : IsSound l.self;
      ended : l.fn.self.is_ended ≡ true → l.self.is_ended ≡ true;
      kept : (g.A.Source.supplied l.fn.source).faults ≤ (g.A.Source.supplied l.source).faults;
    }

abbrev pub decreases-loop-self : goal.decreases-loop-self
decreases-loop-self g l = if l.self.is_ended then 0 else STREAM_LIMIT + 1 - read_count l.self.packets
