use Rattle.std.proofs.Common.{ℕ, Option, sym, subst}
use Rattle.stream_report.specs.PicturesText.{end_before}
use Rattle.stream_report.specs.Private.Picturing.{PutsTicks}
use Rattle.stream_report.proofs.pictures.put_end.Goals as goal

pub returns-in-Some : goal.returns-in-Some
returns-in-Some g c =
    subst (λ (time : Option ℕ). PutsTicks c.args.receiver.now (g.K.Sink.received c.args.out.now)
    (g.K.Sink.received c.put_sooner.new.out) c.args.buffer.now c.put_sooner.new.buffer
    (end_before time c.args.until)) (sym c.in-Some.is) c.put_sooner.ensures
