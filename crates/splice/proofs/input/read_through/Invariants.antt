-- The packets of the reads so far.
use Rattle.std.proofs.Common.{◌+◌, ◌-◌, ◌≤◌}
use Rattle.set_receiver.specs.Receiving.{reception}
use Rattle.packet_source.specs.InHand.{read_count}
use Rattle.packet_source.specs.declared.limits.TheConstants.{STREAM_LIMIT}
use Rattle.splice.proofs.InputLaws.{HasWalked}
use Rattle.splice.proofs.input.read_through.Given as goal

abbrev pub invariant-loop-end : goal.invariant-loop-end
invariant-loop-end g l = record {
  within : read_count l.packets ≤ STREAM_LIMIT;
  kept : (g.A.Source.supplied l.fn.source).faults ≤ (g.A.Source.supplied l.source).faults;
  walked : HasWalked (reception l.fn.receiver) l.part (g.A.Source.supplied l.fn.source)
      (g.A.Source.supplied l.source) l.fn.joined l.joined l.receiver l.survey l.packets;
}

abbrev pub decreases-loop-end : goal.decreases-loop-end
decreases-loop-end g l = STREAM_LIMIT + 1 - read_count l.packets
