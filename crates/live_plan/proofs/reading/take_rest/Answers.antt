use Rattle.std.proofs.Common.{◌∙◌, ◌==◌, List, [], ℕ, length, ap, sym, subst}
use Rattle.live_plan.proofs.ReadLaws.{no_rest, rest_taken}
use Rattle.live_plan.specs.Pieces.{rest_only}
use Rattle.live_plan.specs.Private.Running.{IsPaid, IsPieceEnd}
use Rattle.live_plan.proofs.reading.take_rest.Goals as goal

pub returns-then-is_empty-clause-taken : goal.returns-then-is_empty-clause-taken
returns-then-is_empty-clause-taken g c =
    λ begun earlier paid.
    subst (λ (rest : List ℕ). IsPaid begun earlier (rest_only rest) (g.K.Sink.received c.args.out.now)
    (g.N.Sink.received c.args.notes.now) c.args.run.now)
    (sym (no_rest c.piece-rest.result.now (sym c.is_empty.ensures ∙ c.if-is_empty.true)) ∙ c.piece-rest.ensures) paid

pub returns-clause-taken : goal.returns-clause-taken
returns-clause-taken g c =
    λ begun earlier paid.
    let out = g.K.Sink.received c.take_piece.new.out in
    let notes = g.N.Sink.received c.take_piece.new.notes in
    let some = sym c.is_empty.ensures ∙ c.if-is_empty.false in
    rest_taken begun earlier c.args.cutter.now out notes c.take_piece.new.self c.take_piece.result
    (ap (λ (rest : List ℕ). length rest == 0) (sym c.piece-rest.ensures) ∙ some)
    (subst (λ (rest : List ℕ). IsPieceEnd begun earlier [] rest out notes c.take_piece.new.self c.take_piece.result)
    c.piece-rest.ensures (c.take_piece.ensures.taken begun earlier [] paid))
