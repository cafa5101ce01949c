use Rattle.std.proofs.Common.{◌≡◌, ℕ, ◌++◌, List, map, drop}
use Rattle.std.specs.List.{concat}
use Rattle.pixel_codes.specs.Lists.{Extends}
use Rattle.set_coder.specs.Private.UnitParts.{AreUnitParts, part_packet}
use Rattle.set_coder.proofs.set_packets.append_units.Given as goal

abbrev pub invariant-loop-length : goal.invariant-loop-length
invariant-loop-length l = record {
  parts : (parts : List (List ℕ)) → AreUnitParts l.segments l.lengths parts → (rest : List (List ℕ))
      × AreUnitParts l.left (drop l.length-index l.lengths) rest
      × (l.initial.out.items ++ concat (map (part_packet l.time) parts) ≡ l.out.items
      ++ concat (map (part_packet l.time) rest));
  extends : Extends l.initial.out.items l.out.items;
}
