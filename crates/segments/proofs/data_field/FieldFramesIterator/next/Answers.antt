use Rattle.std.proofs.Common.{sym, ◌∙◌, ap, arith, length, refl}
use Rattle.stream_syntax.proofs.FrameLaws.{frames_ended}
use Rattle.segments.proofs.data_field.FieldFramesIterator.next.Goals as goal

pub returns-then-ends_segments-clause-steps : goal.returns-then-ends_segments-clause-steps
returns-then-ends_segments-clause-steps c =
    let none = frames_ended c.args.self.now.rest.now (sym c.ends_segments.ensures ∙ c.if-ends_segments.true) in
    (none, none)

pub returns-in-Ok-clause-steps : goal.returns-in-Ok-clause-steps
returns-in-Ok-clause-steps c = c.in-Ok.ensures.frame

pub returns-in-Ok-clause-goes : goal.returns-in-Ok-clause-goes
returns-in-Ok-clause-goes c =
    let fewer = ap length (returns-in-Ok-clause-steps c).first in
    record { on = λ _. (tt, tt, omega (arith, fewer)); keeps = tt; rests = λ _. tt }

pub returns-in-Err-clause-steps : goal.returns-in-Err-clause-steps
returns-in-Err-clause-steps c = (c.in-Err.ensures.fault, frames_ended _ refl)

pub returns-in-Err-clause-goes : goal.returns-in-Err-clause-goes
returns-in-Err-clause-goes c =
    let fewer = ap length (returns-in-Err-clause-steps c).0 in
    let none = ap length (returns-in-Err-clause-steps c).1 in
    record { on = λ _. (tt, tt, omega (arith, fewer, none)); keeps = tt; rests = λ _. tt }
