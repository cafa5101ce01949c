use Rattle.std.proofs.Common.{◌∙◌, ◌∷◌, [], sym}
use Rattle.live_plan.proofs.RunLaws.{put_let_in, put_passed_over, put_turned_away, put_untold, wanting}
use Rattle.live_plan.proofs.run.Run.put_in.Goals as goal

pub returns-in-Ok-clause-put : goal.returns-in-Ok-clause-put
returns-in-Ok-clause-put g c =
    λ begun earlier further out paid.
    put_let_in begun earlier further c.args.piece.now out (g.N.Sink.received c.args.notes.now) c.args.self.now
    c.row.new.self c.row.ensures.inserter c.row.ensures.sent paid c.in-Ok.ensures.answer

pub returns-then-is_memory-clause-put : goal.returns-then-is_memory-clause-put
returns-then-is_memory-clause-put g c =
    λ begun earlier further out paid.
    wanting begun earlier further (c.args.piece.now ∷ []) out (g.N.Sink.received c.args.notes.now) c.args.self.now paid

pub returns-then-is_without_record-clause-put : goal.returns-then-is_without_record-clause-put
returns-then-is_without_record-clause-put g c =
    λ begun earlier further out paid.
    put_passed_over begun earlier further c.args.piece.now out (g.N.Sink.received c.args.notes.now) c.args.self.now
    c.row.new.self c.row.ensures.inserter c.row.ensures.sent c.in-Err.fault paid c.in-Err.ensures.answer
    (sym c.is_without_record.ensures ∙ c.if-is_without_record.true)

pub returns-in-Ok-tell_refused-clause-put : goal.returns-in-Ok-tell_refused-clause-put
returns-in-Ok-tell_refused-clause-put g c =
    λ begun earlier further out paid.
    put_turned_away begun earlier further c.args.piece.now out (g.N.Sink.received c.args.notes.now) c.args.self.now
    c.row.new.self c.row.ensures.inserter c.row.ensures.sent c.in-Err.fault
    (g.N.Sink.received c.tell_refused.new.notes) paid c.in-Err.ensures.answer
    (sym c.is_memory.ensures ∙ c.if-is_memory.false)
    (sym c.is_without_record.ensures ∙ c.if-is_without_record.false) c.in-Ok-tell_refused.ensures.line
    c.tell_refused.ensures.kept

pub returns-in-Err-tell_refused-clause-put : goal.returns-in-Err-tell_refused-clause-put
returns-in-Err-tell_refused-clause-put g c =
    λ begun earlier further out paid.
    put_untold begun earlier further c.args.piece.now out (g.N.Sink.received c.args.notes.now) c.args.self.now
    c.row.new.self c.row.ensures.inserter c.row.ensures.sent c.in-Err.fault
    (g.N.Sink.received c.tell_refused.new.notes) paid c.in-Err.ensures.answer
    (sym c.is_memory.ensures ∙ c.if-is_memory.false)
    (sym c.is_without_record.ensures ∙ c.if-is_without_record.false) c.in-Err-tell_refused.ensures.prefix
    c.in-Err-tell_refused.ensures.cause
