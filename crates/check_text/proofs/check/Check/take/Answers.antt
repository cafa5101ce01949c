-- What is told with one more packet.
use Rattle.std.proofs.Common.{◌∙◌, ap, refl, subst, arith}
use Rattle.std.proofs.lemmas.Result.{on_ok_weaker}
use Rattle.packet_walk.specs.Told.{TellsOne}
use Rattle.set_receiver.specs.Receiving.{reception}
use Rattle.check_text.specs.Checking.{Checking, HasMetered, own_slot}
use Rattle.check_text.proofs.CheckLaws.{one_checked, tick_small}
use Rattle.check_text.proofs.check.Check.take.Goals as goal

pub take-requires-clause-later : goal.take-requires-clause-later
take-requires-clause-later g c =
    let taken = c.requires.taken in
    let last = taken.told.last in
    let counted = taken.counted in
    omega (arith, last, counted, ap (λ (checking : Checking). checking.meter.last) c.self.view_is)

pub take-requires-clause-tick : goal.take-requires-clause-tick
take-requires-clause-tick g c = tick_small c.self.inside.sets.meter.pace c.args.place c.self.invariant c.requires.place

pub returns-clause-told : goal.returns-clause-told
returns-clause-told g c =
    on_ok_weaker c.take.result
    (λ told. one_checked (g.K.Sink.received c.args.out.now) (g.K.Sink.received c.take.new.out) c.args.self.now
    c.take.new.self c.args.buffer.now c.take.new.buffer c.args.place c.args.packet.now
    (subst
    (λ (checking : Checking). TellsOne (HasMetered own_slot) (g.K.Sink.received c.args.out.now)
    (g.K.Sink.received c.take.new.out) checking c.take.new.self c.args.buffer.now c.take.new.buffer c.args.place
    c.args.packet.now) c.self.view_is (told own_slot c.args.place refl))
    (c.take.ensures.same ∙ ap (λ (checking : Checking). reception checking.receiving) c.self.view_is)
    (c.take.ensures.pace ∙ ap (λ (checking : Checking). checking.meter.pace) c.self.view_is) c.take.ensures.last)
    c.take.ensures.told
