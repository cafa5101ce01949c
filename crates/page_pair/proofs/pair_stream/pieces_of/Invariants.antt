use Rattle.std.proofs.Common.{◌≡◌, take, All}
use Rattle.slot_stream.specs.SlotStream.{IsPiece, all_pieces}
use Rattle.page_pair.proofs.pair_stream.pieces_of.Given as goal

abbrev pub invariant-loop-unit : goal.invariant-loop-unit
invariant-loop-unit l = record {
  pieces : l.pieces.items ≡ all_pieces (take l.unit-index l.units);
  each : All IsPiece l.pieces.items;
}
