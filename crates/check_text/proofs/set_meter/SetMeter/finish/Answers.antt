-- What is told once the stream has ended.
use Rattle.std.proofs.Common.{ℕ, List, ◌++◌, true, subst}
use Rattle.command_text.specs.Putting.{PutsOut}
use Rattle.set_receiver.specs.Receiving.{reception}
use Rattle.check_text.specs.Checking.{Checking, HasMetered}
use Rattle.check_text.specs.Courses.{IsTextBy}
use Rattle.check_text.proofs.MeteredLaws.{end_metered}
use Rattle.check_text.proofs.set_meter.SetMeter.finish.Goals as goal

pub returns-clause-told : goal.returns-clause-told
returns-clause-told g c = λ slot_of.
    subst
    (λ (checking : Checking). (packets : List (List ℕ)) (text : List ℕ) → HasMetered slot_of checking packets text
    → (more : List ℕ)
    × IsTextBy (record { slot_of = slot_of; pace = checking.meter.pace }) (reception checking.receiving) true packets
    (text ++ more)
    × PutsOut (g.K.Sink.received c.args.out.now) (g.K.Sink.received c.put_end.new.out) c.args.buffer.now
    c.put_end.new.buffer more) c.self.view_is
    (end_metered c.self.inside.receiver c.finish.new.self c.take_ready.new.receiver c.self.inside.levels
    c.take_ready.new.levels _ _ _ c.args.buffer.now c.take_ready.new.buffer c.put_end.new.buffer
    c.finish.ensures.same (λ fed given stands. c.finish.ensures.stands fed given stands)
    c.take_ready.ensures.sets c.take_ready.ensures.all c.put_end.ensures slot_of)
