-- The painting of a set.
use Rattle.std.proofs.Common.{arith}
use Rattle.segments.specs.Contents.{region_value}
use Rattle.page_core.proofs.Pictures.PaintedTimes.{all_painted, none_painted, one_painted}
use Rattle.page_core.proofs.painted_time.painting_time.Goals as goal

pub loop-next-preserved : goal.loop-next-preserved
loop-next-preserved c = (
  λ set are.
      let so_far = c.loop-next.invariant.0 set are in
      one_painted set so_far.left c.loop-next.ticks c.ticks_of-ticks.result (region_value c.in-Some.next.segment)
      c.in-Some.next.rest.now so_far.sum c.ticks_of-ticks.ensures.ticks
      (c.in-Some.ensures.next so_far.left so_far.are),
  (let shorter = c.in-Some.ensures.shorter in let few = c.ticks_of-ticks.ensures.few in
      let room = c.loop-next.invariant.1 in omega (arith, shorter, few, room)),
)

pub returns-clause-time : goal.returns-clause-time
returns-clause-time c set are =
    let so_far = c.loop-next.invariant.0 set are in
    all_painted set so_far.left c.loop-next.ticks so_far.sum (c.in_default.ensures.next so_far.left so_far.are)
