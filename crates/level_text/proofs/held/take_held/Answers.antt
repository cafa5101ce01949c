-- One packet that was held after the other.
use Rattle.std.proofs.Common.{◌≡◌, ◌∙◌, ◌+◌, ◌*◌, ℕ, List, [], None, ap, get_or, refl, sym, subst, take, arith}
use Rattle.std.proofs.lemmas.List.{take_more}
use Rattle.decoder_model.specs.Received.{Reception}
use Rattle.pcr_clock.specs.Arrivals.{tick_between}
use Rattle.pcr_clock.proofs.RunLaws.{between_first, between_rises}
use Rattle.set_receiver.specs.Receiving.{reception}
use Rattle.stream_syntax.specs.TransportPackets.{packet_fault}
use Rattle.sub_base.specs.Pace.{tick_of}
use Rattle.sub_base.specs.declared.pace.Pace.{Pace}
use Rattle.level_text.specs.Held.{TakesHeld, tick_in}
use Rattle.level_text.specs.declared.held.HeldPacket.{HeldPacket}
use Rattle.level_text.proofs.AnchorLaws.{taken_right}
use Rattle.level_text.proofs.HeldLaws.{between_up_to, first_held, last_until_end, none_taken, one_more_taken, until_end}
use Rattle.level_text.proofs.held.take_held.Goals as goal

pub loop-one-init : goal.loop-one-init
loop-one-init g c = record {
  same = refl;
  pace = refl;
  until = omega (arith, c.requires.later, last_until_end c.args.run.last c.args.run.next c.requires.behind);
  left = (
    c.args.run.since,
    omega (
      arith,
      c.requires.later,
      between_first c.args.run.last c.args.run.since c.args.run.next c.requires.behind,
    ),
    c.requires.held,
  );
  told = none_taken (g.K.Sink.received c.args.out.now) c.args.sets.now c.args.buffer.now c.args.run;
}

pub take-taken-requires-clause-later : goal.take-taken-requires-clause-later
take-taken-requires-clause-later g c =
    let d : HeldPacket = record { behind = 0; packet = [] } in
    let run = c.args.run in
    let left = c.loop-one.invariant.left in
    let first =
    first_held (reception c.args.sets.now.receiving).pid left.0 (run.since + run.count) c.loop-one.one-index
    c.args.held.now d c.loop-one-test.true left.2 in
    omega (
      arith,
      left.1,
      between_up_to run.last run.next left.0 (get_or c.args.held.now c.loop-one.one-index d).behind c.requires.behind
          first.0,
      c.tick_between-tick.ensures.tick,
      ap (λ (n : ℕ). tick_between run.last n run.next) c.from.ensures,
    )

-- slots are ticks
pub take-taken-requires-clause-tick : goal.take-taken-requires-clause-tick
take-taken-requires-clause-tick g c =
    let at : tick_of c.loop-one.sets.meter.pace c.tick_between-tick.result ≡ 0 + c.tick_between-tick.result * 1 =
    ap (λ (pace : Pace). tick_of pace c.tick_between-tick.result) c.loop-one.invariant.pace
    ∙ (λ i. c.requires.origin i + c.tick_between-tick.result * c.requires.step i) in
    omega (arith, at, c.tick_between-tick.ensures.small)

pub loop-one-preserved : goal.loop-one-preserved
loop-one-preserved g c =
    let d : HeldPacket = record { behind = 0; packet = [] } in
    let run = c.args.run in
    let one = get_or c.args.held.now c.loop-one.one-index d in
    let first =
    first_held (reception c.args.sets.now.receiving).pid c.loop-one.invariant.left.0 (run.since + run.count)
    c.loop-one.one-index c.args.held.now d c.loop-one-test.true c.loop-one.invariant.left.2 in
    let tick_is : c.tick_between-tick.result ≡ tick_in run one.behind =
    c.tick_between-tick.ensures.tick ∙ ap (λ (n : ℕ). tick_between run.last n run.next) c.from.ensures in
    let faultless : packet_fault (reception c.loop-one.sets.receiving).pid one.packet ≡ None =
    subst (λ (made : Reception). packet_fault made.pid one.packet ≡ None) (sym c.loop-one.invariant.same) first.2 in
    record {
      same = c.take-taken.ensures.same ∙ c.loop-one.invariant.same;
      pace = c.take-taken.ensures.pace ∙ c.loop-one.invariant.pace;
      until = omega (
        arith,
        c.take-taken.ensures.last,
        tick_is,
        until_end run.last run.next one.behind (run.since + run.count) c.requires.behind c.requires.within first.1,
      );
      left = (
        one.behind + 1,
        omega (
          arith,
          c.take-taken.ensures.last,
          tick_is,
          between_rises run.last one.behind run.next c.requires.behind,
        ),
        first.3,
      );
      told =
          subst (λ (held : List HeldPacket). TakesHeld (g.K.Sink.received c.args.out.now)
          (g.K.Sink.received c.take-taken.new.out) c.args.sets.now c.take-taken.new.self c.args.buffer.now
          c.take-taken.new.buffer run held)
          (sym (take_more c.args.held.now c.loop-one.one-index d c.loop-one-test.true))
          (one_more_taken (g.K.Sink.received c.args.out.now) (g.K.Sink.received c.loop-one.out)
          (g.K.Sink.received c.take-taken.new.out) c.args.sets.now c.loop-one.sets c.take-taken.new.self
          c.args.buffer.now c.loop-one.buffer c.take-taken.new.buffer run (take c.loop-one.one-index c.args.held.now)
          one c.loop-one.invariant.told
          (λ slot_of place at. taken_right c.take-taken.result
          (packet_fault (reception c.loop-one.sets.receiving).pid one.packet) c.take-taken.ensures.fault faultless
          c.take-taken.ensures.told slot_of place (at ∙ sym tick_is))
          c.loop-one.invariant.same (c.take-taken.ensures.same ∙ c.loop-one.invariant.same));
    }
