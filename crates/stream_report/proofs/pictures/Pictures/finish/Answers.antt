use Rattle.std.proofs.Common.{◌++◌, ℕ, List, true, subst}
use Rattle.command_text.specs.Putting.{PutsOut}
use Rattle.stream_report.specs.Private.Picturing.{HasPictured, Picturing, pictures_tell}
use Rattle.stream_report.proofs.PictureLaws.{pictured_whole}
use Rattle.stream_report.proofs.pictures.Pictures.finish.Goals as goal

pub returns : goal.returns
returns g c =
    subst
    (λ (old : Picturing). (packets : List (List ℕ)) (text : List ℕ) → HasPictured old packets text
    → (more : List ℕ) × pictures_tell old true packets (text ++ more)
    × PutsOut (g.K.Sink.received c.args.out.now) (g.K.Sink.received c.put_alone.new.out) c.args.buffer.now
    c.put_alone.new.buffer more)
    c.self.view_is
    (pictured_whole _ _ _ _ c.finish.new.self c.take_ready-self-inside.new.receiver c.take_ready-self-inside.result
    c.args.buffer.now c.take_ready-self-inside.new.buffer c.put_alone.new.buffer
    c.finish.ensures.stands c.finish.ensures.same c.take_ready-self-inside.ensures.pictures
    c.take_ready-self-inside.ensures.same c.take_ready-self-inside.ensures.all c.put_alone.ensures)
