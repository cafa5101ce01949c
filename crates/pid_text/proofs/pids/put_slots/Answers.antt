use Rattle.pid_text.proofs.PidsLaws.{none_put, slot_put}
use Rattle.pid_text.proofs.pids.put_slots.Goals as goal

pub loop-pid-init : goal.loop-pid-init
loop-pid-init g c = none_put _ c.args.buffer.now _

pub loop-pid-preserved : goal.loop-pid-preserved
loop-pid-preserved g c =
    slot_put _ _ _ c.args.buffer.now c.loop-pid.buffer c.put_slot.new.buffer c.args.slots.now c.loop-pid.pid
    c.index-slots-pid.result c.loop-pid-test.true c.index-slots-pid.is c.loop-pid.invariant c.put_slot.ensures
