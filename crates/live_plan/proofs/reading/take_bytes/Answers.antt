use Rattle.std.proofs.Common.{◌∙◌, ◌-◌, ℕ, length, take, drop, Option, Ok, ap, arith, length-drop, subst}
use Rattle.std.proofs.lemmas.Result.{err_from_is_err_and}
use Rattle.sub_base.proofs.TransferSteps.{range_from}
use Rattle.live_plan.proofs.ReadLaws.{all_come, come_halted, one_come}
use Rattle.live_plan.specs.Private.RunningReads.{IsOneStep, IsOneTaken}
use Rattle.live_plan.proofs.reading.take_bytes.Goals as goal

pub returns-in_err-count-clause-taken : goal.returns-in_err-count-clause-taken
returns-in_err-count-clause-taken g c =
    λ begun earlier paid.
    let bytes = c.args.bytes.now in
    let done = c.loop-count.done in
    let come = c.loop-count.invariant.come begun earlier paid in
    let p = err_from_is_err_and c.from_residual.result c.from_residual.ensures.1 in
    rw (p.1, p.2)
    (come_halted begun earlier c.args.cutter.now bytes done c.loop-count.cutter come.further
    (take (length bytes - done) (drop done bytes)) (g.K.Sink.received c.take_one.new.out)
    (g.N.Sink.received c.take_one.new.notes) c.in_err-count.field-0.0 (range_from bytes done) come.joined
    (c.in_err-count.ensures.taken begun earlier come.further come.paid))

pub loop-count-preserved : goal.loop-count-preserved
loop-count-preserved g c =
    let bytes = c.args.bytes.now in
    let done = c.loop-count.done in
    let rest = take (length bytes - done) (drop done bytes) in
    let long = ap length (range_from bytes done) ∙ length-drop done bytes in
    let step =
    subst (IsOneStep (length rest) c.loop-count.run.count c.take_one.new.run.count) c.in-Some.is
    c.in_ok-count.ensures.step in
    record {
      within = omega (arith, long, step.1, c.loop-count.invariant.within);
      is_open = c.in_ok-count.ensures.open;
      counted = omega (arith, step.0, step.2, c.loop-count.invariant.counted);
      come = λ begun earlier paid.
          let out = g.K.Sink.received c.take_one.new.out in
          let notes = g.N.Sink.received c.take_one.new.notes in
          let come = c.loop-count.invariant.come begun earlier paid in
          one_come begun earlier c.args.cutter.now bytes done c.loop-count.cutter come.further rest out notes
          c.take_one.new.run c.take_one.new.cutter c.in-Some.count (range_from bytes done) come.joined
          (subst (λ (took : Option ℕ). IsOneTaken begun earlier come.further c.loop-count.cutter rest out notes
          c.take_one.new.run c.take_one.new.cutter (Ok took)) c.in-Some.is
          (c.in_ok-count.ensures.taken begun earlier come.further come.paid));
    }

pub returns-clause-taken : goal.returns-clause-taken
returns-clause-taken g c =
    λ begun earlier paid.
    let bytes = c.args.bytes.now in
    let done = c.loop-count.done in
    let rest = take (length bytes - done) (drop done bytes) in
    let out = g.K.Sink.received c.take_one.new.out in
    let notes = g.N.Sink.received c.take_one.new.notes in
    let come = c.loop-count.invariant.come begun earlier paid in
    all_come begun earlier c.args.cutter.now bytes done c.loop-count.cutter come.further rest out notes
    c.take_one.new.run c.take_one.new.cutter (range_from bytes done) come.joined
    (subst (λ (took : Option ℕ). IsOneTaken begun earlier come.further c.loop-count.cutter rest out notes
    c.take_one.new.run c.take_one.new.cutter (Ok took)) c.in_default.is
    (c.in_ok-count.ensures.taken begun earlier come.further come.paid))
