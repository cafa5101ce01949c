use Rattle.std.proofs.lemmas.List.Elements.{All-push}
use Rattle.slot_stream.specs.SlotStream.{IsPiece}
use Rattle.slot_stream.proofs.PieceLaws.{pieces-more}
use Rattle.slot_stream.proofs.pieces.push_pieces.Goals as goal

pub loop-number-preserved : goal.loop-number-preserved
loop-number-preserved c =
    record {
      each = rw c.in_ok-push.ensures.items (All-push IsPiece _ _ c.loop-number.invariant.each c.piece.ensures.fits);
      pieces =
          pieces-more c.args.unit.now c.args.pieces.now.items c.loop-number.pieces.items c.push.new.self.items
          c.piece.result c.loop-number.number c.loop-number.invariant.pieces c.in_ok-push.ensures.items
          c.piece.ensures.piece;
    }
