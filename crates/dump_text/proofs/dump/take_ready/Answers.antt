use Rattle.std.proofs.Common.{◌∙◌, refl}
use Rattle.dump_text.proofs.DumpLaws.{dumps_both, dumps_nothing}
use Rattle.dump_text.proofs.dump.take_ready.Goals as goal

pub loop-out-init : goal.loop-out-init
loop-out-init g c = record {
  dumps = dumps_nothing _ c.args.receiver.now c.args.ticks.now c.args.told c.args.buffer.now;
  within = c.requires.within;
  same = refl;
}

pub take_next-told-requires-clause-next : goal.take_next-told-requires-clause-next
take_next-told-requires-clause-next g c =
    λ _ _. λ ended packets given. λ stands. let next = c.in-Some.ensures.next packets ended given stands in
    (next.0, next.1, next.2)

pub loop-out-preserved : goal.loop-out-preserved
loop-out-preserved g c = record {
  dumps =
      dumps_both _ _ _ c.args.receiver.now c.loop-out.receiver c.take_next-told.new.receiver c.args.ticks.now
      c.args.told c.loop-out.told c.take_next-told.result c.args.buffer.now c.loop-out.buffer
      c.take_next-told.new.buffer
      c.loop-out.invariant.dumps c.take_next-told.ensures.dumps;
  within = c.take_next-told.ensures.within;
  same = c.take_next-told.ensures.same ∙ c.loop-out.invariant.same;
}

pub returns-clause-all : goal.returns-clause-all
returns-clause-all g c packets ended given stands = c.in_default.ensures.all refl packets ended given stands
