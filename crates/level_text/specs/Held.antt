-- Packets that stand one behind the other, of which it is not known yet when they arrive, and those of a receiver's PID
-- among them.
use Rattle.std.specs.Prelude.{◌≡◌, ◌==◌, ℕ, ◌+◌, ◌<◌, ◌≤◌, Bool, if◌then◌else◌, List, [], ◌∷◌, ◌++◌, length, Option, Some, None}
use Rattle.std.specs.List.{AllByRecursion}
use Rattle.check_text.specs.Checking.{Checking, HasMetered}
use Rattle.command_text.specs.Putting.{Buffered, PutsOut}
use Rattle.pcr_clock.specs.Arrivals.{last_tick, tick_between, tick_of_time}
use Rattle.pcr_clock.specs.declared.arrival.NextSample.{NextSample}
use Rattle.set_receiver.specs.Receiving.{reception}
use Rattle.set_receiver.specs.Taking.{AreAllBytes}
use Rattle.stream_syntax.specs.TransportPackets.{packet_fault, pid_of}
use Rattle.sub_base.specs.Endpoints.{Received}
use Rattle.level_text.specs.declared.held.HeldPacket.{HeldPacket}
use Rattle.level_text.specs.declared.held.Run.{Run}

-- ---- packets of the PID

-- those of the packets that are of the PID, each with how many packets it stands behind the last sample, or behind the
-- stream's begin; the first of all stands so many behind
abbrev pub held_of : ℕ → ℕ → List (List ℕ) → List HeldPacket
held_of pid behind [] = []
held_of pid behind (packet ∷ packets) =
    if pid_of packet == pid then record { behind = behind; packet = packet } ∷ held_of pid (behind + 1) packets
    else held_of pid (behind + 1) packets

-- those that are held with one packet more, which is of the PID or not, and stands so many behind
abbrev pub held_with : Bool → List HeldPacket → ℕ → List ℕ → List HeldPacket
held_with own held behind packet = if own then held ++ record { behind = behind; packet = packet } ∷ [] else held

-- each of these can be taken, stands behind the one before it, none less than so many behind, and all before the packet
-- that stands so many behind
abbrev pub AreHeld : (pid from end : ℕ) → List HeldPacket → Type 0
AreHeld pid from end [] = Unit {0}
AreHeld pid from end (one ∷ held) =
    (from ≤ one.behind) × (one.behind < end) × (packet_fault pid one.packet ≡ None)
    × AreHeld pid (one.behind + 1) end held

-- ---- packets without a sample

-- a packet of bytes that can be taken
pub record IsValidPacket (pid : ℕ) (packet : List ℕ) : Type 0 where
  pub bytes : AreAllBytes packet
  pub faultless : packet_fault pid packet ≡ None

-- each of these packets is of bytes and can be taken
abbrev pub AreValidPackets : ℕ → List (List ℕ) → Type 0
AreValidPackets pid packets = AllByRecursion (IsValidPacket pid) packets

-- so many packets, of which the first stands so many behind the last sample; and those of the PID among them
pub record IsRun (pid since count : ℕ) (held : List HeldPacket) (packets : List (List ℕ)) : Type 0 where
  pub counted : length packets ≡ count
  pub own : held ≡ held_of pid since packets
  pub sound : AreValidPackets pid packets

-- the tick up to which packets are held: that of the next sample, and of the last one where none is known
abbrev pub end_tick : Option ℕ → Option NextSample → ℕ
end_tick last None = last_tick last
end_tick last (Some next) = tick_of_time next.time

-- the tick of the packet that stands so many behind
abbrev pub tick_in : Run → ℕ → ℕ
tick_in run behind = tick_between run.last behind run.next

-- the packets of the PID of which these stand in a run were taken: whichever packets these are of, and whatever was
-- taken before, all of these packets were taken, each of which arrives at its tick, and this text was put out
pub record TakesHeld (before now : Received) (old new : Checking) (was is : Buffered) (run : Run)
    (held : List HeldPacket) : Type 0 where
  pub goes : (slot_of : ℕ → ℕ) (taken packets : List (List ℕ)) (text : List ℕ)
      → held ≡ held_of (reception old.receiving).pid run.since packets
      → AreValidPackets (reception old.receiving).pid packets
      → ((k : ℕ) → k < length packets → slot_of (length taken + k) ≡ tick_in run (run.since + k))
      → HasMetered slot_of old taken text
      → (more : List ℕ) × HasMetered slot_of new (taken ++ packets) (text ++ more) × PutsOut before now was is more
