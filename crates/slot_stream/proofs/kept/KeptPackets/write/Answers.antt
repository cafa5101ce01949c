use Rattle.std.proofs.Common.{◌+◌, ◌≤◌, ℕ, List, sym, subst, ◌∙◌, arith}
use Rattle.command_text.specs.Putting.{IsPutOut}
use Rattle.command_text.proofs.PutOutLaws.{written_prefix}
use Rattle.slot_stream.proofs.KeptLaws.{packets_more, packets_rest}
use Rattle.slot_stream.proofs.kept.KeptPackets.write.Goals as goal

pub loop-slot-preserved : goal.loop-slot-preserved
loop-slot-preserved g c =
    let Holds : List ℕ
    → Type 0 = λ bytes. IsPutOut (g.K.Sink.received c.args.sink.now) (g.K.Sink.received c.put_slot-next.new.sink)
    c.put_slot-next.new.buffer bytes in
    record {
      next = c.put_slot-next.ensures.next;
      null = c.loop-slot.invariant.null;
      low = omega (arith, c.loop-slot.invariant.low);
      high = omega (arith, c.loop-slot-test.true);
      good = sym c.has_failed.ensures ∙ c.if-has_failed.false;
      out = subst Holds (sym (packets_more c.args.self.now c.args.from c.loop-slot.slot c.loop-slot.invariant.low))
          (c.put_slot-next.ensures.puts.extends _ _ c.loop-slot.invariant.out);
    }

pub returns-then-has_failed-clause-front : goal.returns-then-has_failed-clause-front
returns-then-has_failed-clause-front g c =
    let slot = c.loop-slot.slot in
    let Holds : List ℕ
    → Type 0 = λ bytes. IsPutOut (g.K.Sink.received c.args.sink.now) (g.K.Sink.received c.put_slot-next.new.sink)
    c.put_slot-next.new.buffer bytes in
    let low : c.args.from ≤ slot + 1 = omega (arith, c.loop-slot.invariant.low) in
    let high : slot + 1 ≤ c.args.until = omega (arith, c.loop-slot-test.true) in
    let rest = packets_rest c.args.self.now c.args.from (slot + 1) c.args.until low high in
    written_prefix _ _ _ _ rest.0 _
    (subst Holds (sym (packets_more c.args.self.now c.args.from slot c.loop-slot.invariant.low))
    (c.put_slot-next.ensures.puts.extends _ _ c.loop-slot.invariant.out))
    (sym c.has_failed.ensures ∙ c.if-has_failed.true) rest.1
