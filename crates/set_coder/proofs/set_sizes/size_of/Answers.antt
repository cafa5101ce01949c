use Rattle.std.proofs.Common.{◌∷◌, [], ◌++◌, ◌+◌, ◌∙◌, arith}
use Rattle.std.specs.Prelude.{option_to_list}
use Rattle.set_coder.proofs.MeasureLaws.{first_more, first_all, sum_more, sized, some_size}
use Rattle.set_coder.proofs.SetSizeLaws.{one_set_size}
use Rattle.set_coder.proofs.set_sizes.size_of.Goals as goal

pub loop-segment-preserved : goal.loop-segment-preserved
loop-segment-preserved c =
    let l = c.loop-segment in
    let next = c.in-Some.ensures.next in
    let so_far = l.invariant.measured in
    let given = c.from-size.ensures ∙ c.unwrap_or.ensures in
    record {
      can = next.measurable;
      bytes = c.take.ensures.short;
      few = omega (arith, l.invariant.few, next.fewer, c.from-size.ensures, c.unwrap_or.type_inv);
      measured = (
        so_far.0 ++ c.in-Some.segment ∷ [],
        so_far.1 ++ option_to_list c.take.result,
        first_more c.args.script.now c.args.set.now l.segments c.next_size.new.self so_far.0 c.in-Some.segment so_far.2
            next,
        c.take.ensures.taken so_far.0 so_far.1 so_far.3,
        omega (arith, so_far.4, given, sum_more so_far.1 c.take.result),
      );
    }

pub returns-clause-size : goal.returns-clause-size
returns-clause-size c =
    let l = c.loop-segment in
    let so_far = l.invariant.measured in
    sized c.args.script.now c.args.set.now so_far.0 so_far.1 c.length.result l.size c.from.result
    (first_all c.args.script.now c.args.set.now l.segments so_far.0 so_far.2 c.in_default.ensures.last)
    (c.length.ensures.lengths so_far.0 so_far.1 so_far.3) so_far.4 (c.from.ensures ∙ c.unwrap_or-2.ensures)

pub returns-clause-some : goal.returns-clause-some
returns-clause-some c =
    let l = c.loop-segment in
    let so_far = l.invariant.measured in
    some_size c.args.script.now c.args.set.now (l.size + c.from.result)
    (sized c.args.script.now c.args.set.now so_far.0 so_far.1 c.length.result l.size c.from.result
    (first_all c.args.script.now c.args.set.now l.segments so_far.0 so_far.2 c.in_default.ensures.last)
    (c.length.ensures.lengths so_far.0 so_far.1 so_far.3) so_far.4 (c.from.ensures ∙ c.unwrap_or-2.ensures))

pub returns-clause-only_size : goal.returns-clause-only_size
returns-clause-only_size c = λ size other.
    let l = c.loop-segment in
    let so_far = l.invariant.measured in
    one_set_size c.args.script.now c.args.set.now (l.size + c.from.result) size
    (sized c.args.script.now c.args.set.now so_far.0 so_far.1 c.length.result l.size c.from.result
    (first_all c.args.script.now c.args.set.now l.segments so_far.0 so_far.2 c.in_default.ensures.last)
    (c.length.ensures.lengths so_far.0 so_far.1 so_far.3) so_far.4 (c.from.ensures ∙ c.unwrap_or-2.ensures)) other
