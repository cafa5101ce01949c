use Rattle.std.proofs.Common.{sym, ap, length, arith}
use Rattle.schedule.specs.Packets.{packets_of}
use Rattle.schedule.proofs.SumLaws.{sum_below-zero}
use Rattle.script_stream.proofs.BehindLaws.{most_sets, set_slots}
use Rattle.script_stream.proofs.first.first_sets.Goals as goal

pub loop-set-init : goal.loop-set-init
loop-set-init c = record { packets = sym (sum_below-zero (packets_of c.args.loads.now)); few = omega arith }

pub overflow_add-with : goal.overflow_add-with
overflow_add-with c =
    let own = set_slots c.args.loads.now c.args.schedule.now c.loop-set.set c.loop-set-test.true c.requires in
    omega (arith, own.0, own.1, c.loop-set.invariant.packets, ap length c.slots_of.ensures)

pub loop-set-preserved : goal.loop-set-preserved
loop-set-preserved c =
    let own = set_slots c.args.loads.now c.args.schedule.now c.loop-set.set c.loop-set-test.true c.requires in
    record {
      packets = omega (arith, own.0, c.loop-set.invariant.packets, ap length c.slots_of.ensures);
      few = let most = c.if-with-most.false in omega arith;
    }

pub returns-then-with-most-clause-largest : goal.returns-then-with-most-clause-largest
returns-then-with-most-clause-largest c =
    let many = c.if-with-most.true in
    most_sets c.args.loads.now c.args.schedule.now c.loop-set.set c.args.most c.loop-set-test.true c.requires
    (omega (arith, c.loop-set.invariant.packets, ap length c.slots_of.ensures, many))
