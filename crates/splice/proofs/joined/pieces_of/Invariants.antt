use Rattle.std.proofs.Common.{◌≡◌, ℕ, List, take, All}
use Rattle.sub_base.specs.Lists.{all_of}
use Rattle.splice.specs.Private.JoinedSets.{AreCut}
use Rattle.slot_stream.specs.SlotStream.{IsPiece, all_pieces}
use Rattle.splice.proofs.joined.pieces_of.Given as goal

abbrev pub invariant-loop-i : goal.invariant-loop-i
invariant-loop-i l = record {
  pieces : (units : List (List (List ℕ))) → AreCut l.loads l.written units
      → l.pieces.items ≡ all_pieces (all_of (take l.i units));
  each : All IsPiece l.pieces.items;
}
