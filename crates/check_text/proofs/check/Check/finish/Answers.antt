-- What is told once the stream has ended.
use Rattle.std.proofs.Common.{ℕ, List, ◌++◌, true, subst}
use Rattle.command_text.specs.Putting.{PutsOut}
use Rattle.set_receiver.specs.Receiving.{reception}
use Rattle.check_text.specs.CheckText.{IsCheckText}
use Rattle.check_text.specs.Checking.{Checking, HasChecked, own_slot}
use Rattle.check_text.proofs.CheckLaws.{check_text_by}
use Rattle.check_text.proofs.check.Check.finish.Goals as goal

pub returns : goal.returns
returns g c =
    subst
    (λ (checking : Checking). (packets : List (List ℕ)) (text : List ℕ) → HasChecked checking packets text
    → (more : List ℕ) × IsCheckText (reception checking.receiving) true packets (text ++ more)
    × PutsOut (g.K.Sink.received c.args.out.now) (g.K.Sink.received c.finish.new.out) c.args.buffer.now
    c.finish.new.buffer more) c.self.view_is
    (λ packets text has.
    let told = c.finish.ensures.told own_slot packets text has.metered in (
      told.0,
      check_text_by c.self.inside.sets.meter.pace (reception c.self.inside.sets.receiving) true packets _ has.pace
          told.1,
      told.2,
    ))
