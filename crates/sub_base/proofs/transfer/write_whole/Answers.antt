use Rattle.std.proofs.Common.{arith}
use Rattle.std.proofs.KnownBytes.{Appends-trans}
use Rattle.sub_base.proofs.TransferSteps.{within-step, front-step}
use Rattle.sub_base.proofs.transfer.write_whole.Goals as goal

pub loop-done-preserved : goal.loop-done-preserved
loop-done-preserved g c =
    record {
      within =
          within-step c.args.bytes.now c.loop-done.done c.in_ok-done.field-0 c.loop-done-test.true
          c.in_ok-done.ensures.bound;
      kept = omega arith;
      bytes =
          rw (← front-step c.args.bytes.now c.loop-done.done c.in_ok-done.field-0)
          (Appends-trans _ _ _ _ _ c.loop-done.invariant.bytes c.in_ok-done.ensures.bytes);
    }
