-- What is left of a batch of packets, and how much of it is due.
use Rattle.std.specs.Prelude.{◌≡◌, ℕ, ◌-◌, ◌*◌, ◌≤◌, Bool, false, List, length, take, drop, Result, MatchResult}
use Rattle.std.specs.Io.KnownBytes.{Appends}
use Rattle.slot_stream.specs.KeptPackets.{SlottedPackets, packets_from}
use Rattle.stream_syntax.specs.declared.wire.TheConstants.{PACKET_LENGTH}
use Rattle.sub_base.specs.Counts.{HasRisen}
use Rattle.sub_base.specs.Endpoints.{AppendsPrefix, Received}
use Rattle.sub_base.specs.declared.faults.WriteFailed.{WriteFailed}

-- the packets of a batch that are kept, how many of its slots were written, how many are due, how many it has, and
-- whether nothing more is written, since a write failed or all was
pub record OutletState : Type 0 where
  pub kept : SlottedPackets
  pub sent : ℕ
  pub due : ℕ
  pub count : ℕ
  pub closed : Bool

-- of these packets the first ones are due, and those behind the slots that were written are kept
pub record IsOutletOf (packets due : List ℕ) (outlet : OutletState) : Type 0 where
  pub whole : length packets ≡ PACKET_LENGTH * outlet.count
  pub few : outlet.due ≤ outlet.count
  pub left : drop (PACKET_LENGTH * outlet.sent) packets
      ≡ packets_from outlet.kept outlet.sent (outlet.count - outlet.sent)
  pub is_due : due ≡ take (PACKET_LENGTH * outlet.due) packets

-- all of these bytes behind the slots that were written are written, or a prefix of them, and the sink's count of
-- faults rose
abbrev pub Writes : OutletState → Received → Received → List ℕ → Result Unit WriteFailed → Type 0
Writes old before now bytes answer =
    MatchResult answer
    (λ done. Appends before.written now.written (drop (PACKET_LENGTH * old.sent) bytes))
    (λ failed. AppendsPrefix before.written now.written (drop (PACKET_LENGTH * old.sent) bytes)
    × HasRisen before.faults now.faults)

-- what is due is written: whatever packets these are, it is left of them what lies behind
abbrev pub WritesDue : OutletState → OutletState → Received → Received → Result Unit WriteFailed → Type 0
WritesDue old new before now answer =
    (packets due : List ℕ) → IsOutletOf packets due old
    → Writes old before now due answer
    × (new.closed ≡ false → (new.sent ≡ old.due) × IsOutletOf packets due new)

-- all of the packets are written
abbrev pub Finishes : OutletState → Received → Received → Result Unit WriteFailed → Type 0
Finishes old before now answer =
    (packets due : List ℕ) → IsOutletOf packets due old → Writes old before now packets answer
