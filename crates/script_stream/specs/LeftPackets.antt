-- What is left of a script's packets, for a program that sends while records come.
use Rattle.std.specs.Prelude.{◌≡◌, ℕ, ◌-◌, ◌*◌, List, length, drop}
use Rattle.slot_stream.specs.KeptPackets.{HaveRisingSlots, packets_from}
use Rattle.stream_syntax.specs.declared.wire.TheConstants.{PACKET_LENGTH}
use Rattle.script_stream.specs.declared.left.PacketsLeft.{PacketsLeft}

-- of these packets, those behind so many slots are kept, and all their slots are counted
pub record ArePacketsLeft (packets : List ℕ) (sent : ℕ) (left : PacketsLeft) : Type 0 where
  pub whole : length packets ≡ PACKET_LENGTH * left.count
  pub behind : drop (PACKET_LENGTH * sent) packets ≡ packets_from left.kept sent (left.count - sent)
  pub kept : HaveRisingSlots left.kept
