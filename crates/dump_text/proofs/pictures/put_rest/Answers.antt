use Rattle.std.proofs.Common.{◌≡◌, length, subst, arith}
use Rattle.dump_text.specs.Dumping.{PutsBetween}
use Rattle.receiver.proofs.Asks.{keeps_both, keeps_itself}
use Rattle.dump_text.proofs.TextLaws.{puts_more, puts_none}
use Rattle.dump_text.proofs.pictures.put_rest.Goals as goal

pub loop-place-init : goal.loop-place-init
loop-place-init g c = record {
  next = omega arith;
  within = c.requires.within;
  keeps = keeps_itself c.args.receiver.now;
  puts =
      puts_none c.args.receiver.now (g.K.Sink.received c.args.out.now) c.args.buffer.now c.args.ticks.now c.args.first;
}

pub loop-place-preserved : goal.loop-place-preserved
loop-place-preserved g c = record {
  next = omega (arith, c.loop-place.invariant.next);
  within = omega (arith, c.loop-place-test.true);
  keeps =
      keeps_both c.args.receiver.now c.loop-place.receiver c.put_asked.new.receiver c.loop-place.invariant.keeps
      c.put_asked.ensures.keeps;
  puts =
      puts_more c.args.receiver.now c.loop-place.receiver _ _ _ c.args.buffer.now c.loop-place.buffer
      c.put_asked.new.buffer c.args.ticks.now c.args.first c.loop-place.place c.loop-place.invariant.keeps
      c.loop-place.invariant.next c.loop-place-test.true c.loop-place.invariant.puts c.put_asked.ensures.puts;
}

pub returns-clause-puts : goal.returns-clause-puts
returns-clause-puts g c =
    let last : c.loop-place.place ≡ length c.args.ticks.now =
    omega (arith, c.loop-place.invariant.within, c.loop-place-test.false) in
    subst (PutsBetween c.args.receiver.now (g.K.Sink.received c.args.out.now) (g.K.Sink.received c.loop-place.out)
    c.args.buffer.now c.loop-place.buffer c.args.ticks.now c.args.first) last
    c.loop-place.invariant.puts
