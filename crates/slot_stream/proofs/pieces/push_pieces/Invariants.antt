use Rattle.std.proofs.Common.{◌≡◌, ◌++◌, map, All}
use Rattle.std.specs.List.{range_with_len}
use Rattle.slot_stream.specs.SlotStream.{IsPiece, piece_of}
use Rattle.slot_stream.proofs.pieces.push_pieces.Given as goal

abbrev pub invariant-loop-number : goal.invariant-loop-number
invariant-loop-number l =
    record {
      each : All (λ piece. IsPiece piece) l.pieces.items;
      pieces : l.pieces.items ≡ l.fn.pieces.items ++ map (piece_of l.unit) (range_with_len 0 l.number);
    }
