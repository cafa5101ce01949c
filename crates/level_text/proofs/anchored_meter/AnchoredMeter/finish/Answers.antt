-- The stream has not ended.
use Rattle.std.proofs.Common.{Bool, sym, subst}
use Rattle.level_text.specs.Anchoring.{FinishesTimed}
use Rattle.level_text.proofs.AnchorEndLaws.{unfinished}
use Rattle.level_text.proofs.anchored_meter.AnchoredMeter.finish.Goals as goal

pub returns-else-ended-clause-told : goal.returns-else-ended-clause-told
returns-else-ended-clause-told g c =
    subst (λ (ended : Bool). FinishesTimed ended (g.K.Sink.received c.args.out.now) (g.K.Sink.received c.args.out.now)
    c.args.self.now c.args.self.now c.args.buffer.now c.args.buffer.now) (sym c.if-ended.false)
    (unfinished c.args.self.now (g.K.Sink.received c.args.out.now) c.args.buffer.now)
