use Rattle.std.proofs.Common.{ℕ, Option, sym, subst}
use Rattle.stream_report.specs.PicturesText.{alone}
use Rattle.stream_report.specs.Private.Picturing.{PutsTicks}
use Rattle.stream_report.proofs.TickLaws.{puts_one}
use Rattle.stream_report.proofs.pictures.put_alone.Goals as goal

pub returns-in-Some : goal.returns-in-Some
returns-in-Some g c =
    subst (λ (tick : Option ℕ). PutsTicks c.args.receiver.now (g.K.Sink.received c.args.out.now)
    (g.K.Sink.received c.put_shown.new.out) c.args.buffer.now c.put_shown.new.buffer (alone tick)) (sym c.in-Some.is)
    (puts_one c.args.receiver.now _ _ c.args.buffer.now c.put_shown.new.buffer c.in-Some.tick c.put_shown.ensures)
