-- Bytes that are cut into the segments of units.
use Rattle.std.specs.Prelude.{◌≡◌, ℕ, ◌+◌, ◌≤◌, List, length, map, All}
use Rattle.std.specs.List.{concat}
use Rattle.sub_base.specs.declared.load.TheConstants.{UNIT_ROOM}
use Rattle.stream_syntax.specs.DataField.{data_field}
use Rattle.stream_syntax.specs.Pes.{written_pes}
use Rattle.pes_packets.specs.declared.units.TheConstants.{OTHER_BYTES}

-- the parts that bytes are cut into for units of these lengths: each unit has the bytes of its part, and 17 more
pub record AreUnitParts (bytes lengths : List ℕ) (parts : List (List ℕ)) : Type 0 where
  pub whole : concat parts ≡ bytes
  pub each : map (λ part. OTHER_BYTES + length part) parts ≡ lengths
  pub few : All (λ part. length part ≤ UNIT_ROOM) parts

-- the PES packet at that time whose segments have these bytes
abbrev pub part_packet : ℕ → List ℕ → List ℕ
part_packet time part = written_pes time (data_field part)
