use Rattle.std.proofs.Common.{◌∙◌, refl}
use Rattle.check_text.proofs.SetLaws.{taken_both, taken_nothing}
use Rattle.check_text.proofs.calls.take_ready.Goals as goal

pub loop-out-init : goal.loop-out-init
loop-out-init g c = record {
  sets = taken_nothing _ c.args.receiver.now c.args.levels.now c.args.buffer.now;
  same = refl;
  pace = refl;
  last = refl;
}

pub take_next-requires-clause-next : goal.take_next-requires-clause-next
take_next-requires-clause-next g c ended packets given stands =
    let next = c.in-Some.ensures.next packets ended given stands in
    (next.0, next.1, next.2)

pub loop-out-preserved : goal.loop-out-preserved
loop-out-preserved g c = record {
  sets =
      taken_both _ _ _ c.args.receiver.now c.loop-out.receiver c.take_next.new.receiver c.args.levels.now
      c.loop-out.levels c.take_next.new.levels c.args.buffer.now c.loop-out.buffer c.take_next.new.buffer
      c.loop-out.invariant.sets c.take_next.ensures.sets;
  same =
      c.take_next.ensures.same ∙ c.loop-out.invariant.same;
  pace = c.take_next.ensures.pace ∙ c.loop-out.invariant.pace;
  last = c.take_next.ensures.last ∙ c.loop-out.invariant.last;
}

pub returns-clause-all : goal.returns-clause-all
returns-clause-all g c = λ fed ended given stands. c.in_default.ensures.all refl fed ended given stands
