-- The packets of the units so far, and the units that are left.
use Rattle.std.proofs.Common.{◌≡◌, ℕ, ◌++◌, List, map, drop}
use Rattle.std.specs.List.{concat}
use Rattle.splice.specs.Private.Sendings.{AreCutTo, packet_at}
use Rattle.splice.proofs.sending.append_units.Given as goal

abbrev pub invariant-loop-length : goal.invariant-loop-length
invariant-loop-length l =
    (units : List (List (List ℕ))) → AreCutTo l.segments l.lengths units
    → (rest : List (List (List ℕ))) × AreCutTo l.left (drop l.length-index l.lengths) rest
    × (l.initial.out.items ++ concat (map (packet_at l.time) units) ≡ l.out.items
    ++ concat (map (packet_at l.time) rest))
