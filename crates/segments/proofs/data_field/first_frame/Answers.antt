use Rattle.std.proofs.Common.{arith, refl}
use Rattle.stream_syntax.proofs.FrameLaws.{frames_broken}
use Rattle.segments.proofs.Framing.{frame_is, first_frame}
use Rattle.segments.proofs.Shapes.{AreBytes}
use Rattle.segments.proofs.data_field.first_frame.Goals as goal

pub returns-in-Ok-clause-frame : goal.returns-in-Ok-clause-frame
returns-in-Ok-clause-frame c =
    let fits : AreBytes c.args.field.now = λ i. omega (arith, c.type_inv.field i) in
    let found = c.in-Ok.ensures in
    first_frame c.args.field.now _ c.in-Ok.frame
    (frame_is c.args.field.now c.in-Ok.frame fits found.fault found.kind found.page found.whole found.body)
    c.requires refl

pub returns-in-Err-clause-fault : goal.returns-in-Err-clause-fault
returns-in-Err-clause-fault c = frames_broken c.args.field.now c.in-Err.fault c.requires c.in-Err.ensures.fault
