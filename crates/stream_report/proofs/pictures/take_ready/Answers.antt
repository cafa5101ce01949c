use Rattle.std.proofs.Common.{◌∙◌, refl}
use Rattle.stream_report.proofs.PictureLaws.{on_both, on_nothing}
use Rattle.stream_report.proofs.pictures.take_ready.Goals as goal

pub loop-out-init : goal.loop-out-init
loop-out-init g c = record {
  pictures = on_nothing _ c.args.receiver.now c.args.until c.args.buffer.now;
  same = refl;
}

pub take_next-until-requires-clause-next : goal.take_next-until-requires-clause-next
take_next-until-requires-clause-next g c =
    λ _ _. λ ended packets given. λ stands. let next = c.in-Some.ensures.next packets ended given stands in
    (next.0, next.1, next.2)

pub loop-out-preserved : goal.loop-out-preserved
loop-out-preserved g c = record {
  pictures =
      on_both _ _ _ c.args.receiver.now c.loop-out.receiver c.take_next-until.new.receiver c.args.until
      c.loop-out.until c.take_next-until.result c.args.buffer.now c.loop-out.buffer c.take_next-until.new.buffer
      c.loop-out.invariant.pictures c.take_next-until.ensures.pictures;
  same = c.take_next-until.ensures.same ∙ c.loop-out.invariant.same;
}

pub returns-clause-all : goal.returns-clause-all
returns-clause-all g c packets ended given stands = c.in_default.ensures.all refl packets ended given stands
