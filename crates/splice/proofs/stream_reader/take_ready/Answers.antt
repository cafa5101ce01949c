use Rattle.std.proofs.Common.{◌∙◌, refl}
use Rattle.splice.proofs.ReadLaws.{takes_both, takes_none}
use Rattle.splice.proofs.stream_reader.take_ready.Goals as goal

pub loop-receiver-init : goal.loop-receiver-init
loop-receiver-init c = record {
  sets = takes_none c.args.part c.args.receiver.now c.args.found.now c.args.joined.now;
  same = refl;
}

pub take_next-requires-clause-next : goal.take_next-requires-clause-next
take_next-requires-clause-next c ended packets given stands =
    let next = c.in-Some.ensures.next packets ended given stands in
    (next.0, next.1, next.2)

pub loop-receiver-preserved : goal.loop-receiver-preserved
loop-receiver-preserved c = record {
  sets =
      takes_both c.args.part c.args.receiver.now c.loop-receiver.receiver c.take_next.new.receiver c.args.found.now
      c.loop-receiver.found c.take_next.new.found c.args.joined.now c.loop-receiver.joined c.take_next.new.joined
      c.loop-receiver.invariant.sets c.in_ok-take_next.ensures.sets;
  same = c.take_next.ensures.same ∙ c.loop-receiver.invariant.same;
}

pub returns-clause-all : goal.returns-clause-all
returns-clause-all c = λ fed ended given stands. c.in_default.ensures.all refl fed ended given stands
