-- The front of bytes by what the reader of heads says.
use Rattle.std.proofs.Common.{ℕ, ◌∙◌, sym, subst, take, arith}
use Rattle.segments.specs.Framing.{IsFrameOf}
use Rattle.segments.proofs.Framing.{frame_is, alone}
use Rattle.segments.proofs.Shapes.{AreBytes}
use Rattle.page_core.proofs.Sets.Fronts.{taken_front}
use Rattle.page_core.proofs.front.cut_front.Goals as goal

pub returns-clause-cut : goal.returns-clause-cut
returns-clause-cut c reading rest begins =
    let bytes = c.args.bytes.now in
    let frame = c.in-Ok.frame in
    let found = c.in-Ok.ensures in
    let fits : AreBytes bytes = λ i. omega (arith, c.type_inv.bytes i) in
    let framed = frame_is bytes frame fits found.fault found.kind found.page found.whole found.body in
    let taken = taken_front bytes rest reading frame.whole begins found.whole in
    record {
      segment = take frame.whole bytes;
      is_reading = taken.0;
      framed = subst (λ (n : ℕ). IsFrameOf (take n bytes) frame) (sym found.whole) (alone bytes frame framed).0;
      behind = c.split_at.ensures.back ∙ taken.1;
    }
