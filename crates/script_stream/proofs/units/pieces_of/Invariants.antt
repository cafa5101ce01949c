use Rattle.std.proofs.Common.{◌≡◌, ℕ, List, take, All}
use Rattle.script_stream.specs.Private.SetUnits.{AreCut}
use Rattle.shown_stream.specs.Compiled.{all_units}
use Rattle.slot_stream.specs.SlotStream.{IsPiece, all_pieces}
use Rattle.script_stream.proofs.units.pieces_of.Given as goal

abbrev pub invariant-loop-i : goal.invariant-loop-i
invariant-loop-i l = record {
  pieces : (units : List (List (List ℕ))) → AreCut l.loads l.written units
      → l.pieces.items ≡ all_pieces (all_units (take l.i units));
  each : All IsPiece l.pieces.items;
}
