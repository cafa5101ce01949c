use Rattle.std.proofs.Common.{◌∷◌, [], ◌++◌, List, ℕ, subst}
use Rattle.std.proofs.lemmas.Result.{err_from_is_err_and}
use Rattle.live_plan.proofs.ReadLaws.{piece_halted}
use Rattle.live_plan.proofs.RunLaws.{wanting}
use Rattle.live_plan.specs.Private.Cutting.{IsTakenUp}
use Rattle.live_plan.specs.Private.Running.{IsHalted, IsPaid}
use Rattle.live_plan.specs.Private.RunningReads.{pieces_ahead}
use Rattle.live_plan.proofs.reading.take_one.Goals as goal

pub returns-in_err-count-clause-taken : goal.returns-in_err-count-clause-taken
returns-in_err-count-clause-taken g c =
    λ begun earlier further paid.
    let p = err_from_is_err_and c.from_residual.result c.from_residual.ensures.1 in
    rw (p.1, p.2)
    (wanting begun earlier further (pieces_ahead c.args.cutter.now c.args.bytes.now)
    (g.K.Sink.received c.args.out.now) (g.N.Sink.received c.args.notes.now) c.args.run.now paid)

pub returns-in_err-take_piece-clause-taken : goal.returns-in_err-take_piece-clause-taken
returns-in_err-take_piece-clause-taken g c =
    λ begun earlier further paid.
    let out = g.K.Sink.received c.take_piece.new.out in
    let notes = g.N.Sink.received c.take_piece.new.notes in
    let stop = c.in_err-take_piece.field-0.0 in
    let halted =
    subst (λ (piece : List ℕ). IsHalted begun earlier (further ++ piece ∷ []) out notes stop) c.piece.ensures
    (c.in_err-take_piece.ensures.taken begun earlier further paid) in
    let p =
    err_from_is_err_and c.from_residual-in_err-take_piece.result c.from_residual-in_err-take_piece.ensures.1 in
    rw (p.1, p.2)
    (piece_halted begun earlier further c.args.cutter.now c.args.bytes.now c.take.new.self c.in-Some.count out notes
    stop (subst (IsTakenUp c.args.cutter.now c.take.new.self c.args.bytes.now) c.in-Some.is c.in_ok-count.ensures.taken)
    halted)

pub returns-clause-taken : goal.returns-clause-taken
returns-clause-taken g c =
    λ begun earlier further paid.
    record {
      piece = c.take.new.self;
      ended = subst (IsTakenUp c.args.cutter.now c.take.new.self c.args.bytes.now) c.in-Some.is
          c.in_ok-count.ensures.taken;
      paid = subst (λ (piece : List ℕ). IsPaid begun earlier (further ++ piece ∷ [])
          (g.K.Sink.received c.take_piece.new.out) (g.N.Sink.received c.take_piece.new.notes)
          c.take_piece.new.self)
          c.piece.ensures (c.in_ok-take_piece.ensures.taken begun earlier further paid);
      anew = c.clear.ensures;
    }
