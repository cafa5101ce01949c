use Rattle.std.proofs.Common.{ℕ, Option, Some, sym, subst}
use Rattle.stream_report.specs.PicturesText.{end_before}
use Rattle.stream_report.specs.Private.Picturing.{PutsTicks}
use Rattle.stream_report.proofs.TickLaws.{puts_sooner}
use Rattle.stream_report.proofs.pictures.put_sooner.Goals as goal

pub returns-then-until-time : goal.returns-then-until-time
returns-then-until-time g c =
    subst (λ (until : Option ℕ). PutsTicks c.args.receiver.now (g.K.Sink.received c.args.out.now)
    (g.K.Sink.received c.put_shown.new.out) c.args.buffer.now c.put_shown.new.buffer
    (end_before (Some c.args.time) until)) (sym c.in-Some.is)
    (puts_sooner c.args.receiver.now _ _ c.args.buffer.now c.put_shown.new.buffer c.args.time c.in-Some.until
    c.if-until-time.true c.put_shown.ensures)
