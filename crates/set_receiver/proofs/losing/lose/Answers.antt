-- A page memory to which losses came.
use Rattle.std.proofs.Common.{refl}
use Rattle.set_receiver.proofs.TakenSets.{loses_more, loses_none, same_core}
use Rattle.set_receiver.proofs.losing.lose.Goals as goal

pub loop-done-init : goal.loop-done-init
loop-done-init c = record {
  loses = loses_none c.args.core.now;
  same = record { profile = refl; page = refl; anchor = refl };
}

pub loop-done-preserved : goal.loop-done-preserved
loop-done-preserved c = record {
  loses = loses_more c.loop-done.done c.args.core.now c.loop-done.core c.lose.new.self c.loop-done.invariant.loses
      c.lose.ensures.stands;
  same = same_core c.args.core.now c.loop-done.core c.lose.new.self c.loop-done.invariant.same c.lose.ensures.same;
}
