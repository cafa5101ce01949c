use Rattle.std.proofs.Common.{◌∷◌, [], ◌++◌, ◌+◌, arith}
use Rattle.set_coder.proofs.MeasureLaws.{first_more}
use Rattle.set_coder.proofs.set_sizes.measure.Goals as goal

pub loop-segment-preserved : goal.loop-segment-preserved
loop-segment-preserved c =
    let l = c.loop-segment in
    let next = c.in-Some.ensures.next in
    let few = l.invariant.few in
    let so_far = l.invariant.measured in
    record {
      can = next.measurable;
      few = (few.0 + 1, c.in_ok-take.ensures.few few.0 few.1, omega (arith, few.2, next.fewer));
      measured = (
        so_far.0 ++ c.in-Some.segment ∷ [],
        first_more c.args.script.now c.args.set.now l.segments c.next_size.new.self so_far.0 c.in-Some.segment so_far.1
            next,
        c.in_ok-take.ensures.measured so_far.0 so_far.2,
      );
    }
