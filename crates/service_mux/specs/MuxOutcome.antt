-- How `mux` ends: when it is done, which stream it refuses, and what the output has received.
use Rattle.std.specs.Prelude.{ℕ, ◌+◌, ◌<◌, ◌≤◌, ◌⊎◌, List, length, take, codes}
use Rattle.std.specs.List.{concat}
use Rattle.std.specs.Io.KnownBytes.{IsAtEnd}
use Rattle.packet_source.specs.Packets.{Gave, IsWithin}
use Rattle.packet_source.specs.declared.limits.TheConstants.{STREAM_LIMIT}
use Rattle.sub_base.specs.Endpoints.{Supplied, Wrote, WrotePrefix}
use Rattle.sub_base.specs.Seen.{Seen}
use Rattle.sub_base.specs.ToolOutcome.{Causes}
use Rattle.service_mux.specs.Multiplex.{frames_of, mux_of}
use Rattle.service_mux.specs.declared.mux_words.ServicePair.{ServicePair}
use Rattle.service_mux.specs.ServicesAgain.{GivesServicesAgain}
use Rattle.service_mux.specs.StreamReads.{HaveSync, IsRead, IsUnsynced}
use Rattle.service_mux.specs.declared.mux_fault.MuxFault.{MuxFault}
use Rattle.service_mux.specs.declared.mux_fault.MuxFault.TheVariants as mux
use Rattle.stream_syntax.specs.declared.wire.TheConstants.{PACKET_LENGTH}

-- the name of a fault
abbrev pub mux_fault_name : MuxFault → List ℕ
mux_fault_name (mux.FirstNoSync packet) = codes "FirstNoSync"
mux_fault_name (mux.SecondNoSync packet) = codes "SecondNoSync"

-- a stream gave a packet for each of so many frames; or it was read to its end, and fewer bytes than a packet has are
-- left over
abbrev pub AreEnough : Supplied → List (List ℕ) → List ℕ → ℕ → Type 0
AreEnough now packets rest frames = (frames ≤ length packets) ⊎ (IsAtEnd now.left × (length rest < PACKET_LENGTH))

-- both streams were read to their ends, and their multiplex was written, which gives each service again
pub record IsMuxed (pair : ServicePair) (before now : Seen) : Type 0 where
  pub first : List (List ℕ)
  pub second : List (List ℕ)
  pub first_read : IsRead before.first now.first first
  pub second_read : IsRead before.second now.second second
  pub synced : HaveSync first × HaveSync second
  pub written : Wrote before.out now.out (concat (mux_of pair first second))
  pub again : GivesServicesAgain pair first second

-- the first stream has a packet without the sync byte, and no packet of the second one in an earlier frame has none:
-- the second one was read as far as the frame before, or to its end. The frames before were written
pub record IsFirstUnsynced (pair : ServicePair) (before now : Seen) (place : ℕ) : Type 0 where
  pub first : List (List ℕ)
  pub unsynced : IsUnsynced before.first now.first place first
  pub second : List (List ℕ)
  pub rest : List ℕ
  pub gave : Gave before.second now.second second rest
  pub within : IsWithin second rest
  pub synced : HaveSync (take place second)
  pub enough : AreEnough now.second second rest place
  pub written : Wrote before.out now.out (concat (frames_of pair first (take place second) place))

-- the second stream has a packet without the sync byte, and no packet of the first one up to the same frame has none:
-- the first one was read as far as that frame, or to its end. The frames before were written
pub record IsSecondUnsynced (pair : ServicePair) (before now : Seen) (place : ℕ) : Type 0 where
  pub second : List (List ℕ)
  pub unsynced : IsUnsynced before.second now.second place second
  pub first : List (List ℕ)
  pub rest : List ℕ
  pub gave : Gave before.first now.first first rest
  pub within : IsWithin first rest
  pub synced : HaveSync (take (place + 1) first)
  pub enough : AreEnough now.first first rest (place + 1)
  pub written : Wrote before.out now.out (concat (frames_of pair (take place first) second place))

-- the streams gave these packets, all with the sync byte, and a prefix of their multiplex was written: each stream gave
-- a packet for each of the other one, or was read to its end
pub record IsMuxPrefix (pair : ServicePair) (before now : Seen) : Type 0 where
  pub first : List (List ℕ)
  pub second : List (List ℕ)
  pub first_rest : List ℕ
  pub second_rest : List ℕ
  pub first_gave : Gave before.first now.first first first_rest
  pub second_gave : Gave before.second now.second second second_rest
  pub synced : HaveSync first × HaveSync second
  pub first_enough : AreEnough now.first first first_rest (length second)
  pub second_enough : AreEnough now.second second second_rest (length first)
  pub written : WrotePrefix before.out now.out (concat (mux_of pair first second))

-- a fault is that of the stream which has the packet of that place without the sync byte
abbrev pub IsMuxRefused : ServicePair → Seen → Seen → MuxFault → Type 0
IsMuxRefused pair before now (mux.FirstNoSync packet) = IsFirstUnsynced pair before now packet
IsMuxRefused pair before now (mux.SecondNoSync packet) = IsSecondUnsynced pair before now packet

-- the causes of the statuses of `mux`
abbrev pub mux_causes : ServicePair → Seen → Seen → Causes MuxFault
mux_causes pair before now = record {
  IsDone = IsMuxed pair before now;
  IsRefused = IsMuxRefused pair before now;
  IsStopped = IsMuxPrefix pair before now;
  limit = STREAM_LIMIT;
}
