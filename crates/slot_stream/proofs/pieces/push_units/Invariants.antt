use Rattle.std.proofs.Common.{◌≡◌, ℕ, ◌++◌, List, drop, All}
use Rattle.slot_stream.specs.UnitBytes.{AreUnitsOf}
use Rattle.slot_stream.specs.SlotStream.{IsPiece, all_pieces}
use Rattle.slot_stream.proofs.pieces.push_units.Given as goal

abbrev pub invariant-loop-length : goal.invariant-loop-length
invariant-loop-length l = record {
  units : (units : List (List ℕ)) → AreUnitsOf l.lengths l.bytes units
      → (rest : List (List ℕ)) × AreUnitsOf (drop l.length-index l.lengths) l.left rest
      × (l.initial.pieces.items ++ all_pieces units ≡ l.pieces.items ++ all_pieces rest);
  each : All (λ piece. IsPiece piece) l.pieces.items;
}
