-- The PES packets in which a display set is sent, and their bytes.
use Rattle.std.specs.Prelude.{◌≡◌, ℕ, ◌≤◌, ◌==◌, ◌⊎◌, true, List, length, map, sum, All}
use Rattle.std.specs.List.{concat, list_any, sum_by}
use Rattle.sub_base.specs.Lists.{all_of}
use Rattle.sub_base.specs.declared.load.TheConstants.{UNIT_ROOM}
use Rattle.stream_syntax.specs.DataField.{data_field}
use Rattle.stream_syntax.specs.Pes.{written_pes}
use Rattle.pes_packets.specs.Units.{unit_length}
use Rattle.sent_sets.specs.RawSets.{RawSet, AreRawPackets}
use Rattle.splice.specs.SplicedSets.{IsLongest}
use Rattle.splice.specs.declared.sending.Sending.{Sending}

-- none of the lengths is greater, and it is 0 or one of them
pub record IsGreatest (lengths : List ℕ) (greatest : ℕ) : Type 0 where
  pub all : All (λ length. length ≤ greatest) lengths
  pub one : (greatest ≡ 0) ⊎ (list_any (λ length. length == greatest) lengths ≡ true)

-- bytes are cut into the segments of units: each unit has room for its segments, and has that length with them
pub record AreCutTo (bytes lengths : List ℕ) (units : List (List (List ℕ))) : Type 0 where
  pub whole : concat (all_of units) ≡ bytes
  pub are : map (unit_length length) units ≡ lengths
  pub fit : All (λ unit. sum_by length unit ≤ UNIT_ROOM) units

-- the PES packet of a unit, with that time
abbrev pub packet_at : ℕ → List (List ℕ) → List ℕ
packet_at time unit = written_pes time (data_field (concat unit))

-- a set is sent so
pub record IsSendingOf (set : RawSet) (sending : Sending) : Type 0 where
  pub packets : List (List ℕ)
  pub carried : AreRawPackets set packets
  pub units : sending.units.items ≡ map length packets
  pub size : sending.size ≡ sum sending.units.items
  pub some : 1 ≤ sending.size
  pub longest : IsLongest set.segments sending.longest
  pub bytes : sending.longest ≤ UNIT_ROOM → sending.bytes.items ≡ concat packets
