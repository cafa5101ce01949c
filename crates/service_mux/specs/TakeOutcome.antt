-- How `take` ends, and what its output has received then.
use Rattle.std.specs.Prelude.{◌≡◌, ℕ, false, List, [], None, codes}
use Rattle.std.specs.List.{concat}
use Rattle.std.specs.Option.{is_none}
use Rattle.std.specs.Io.KnownBytes.{Appends}
use Rattle.packet_source.specs.Packets.{Gave}
use Rattle.packet_source.specs.declared.limits.TheConstants.{STREAM_LIMIT}
use Rattle.sub_base.specs.Endpoints.{AppendsPrefix}
use Rattle.sub_base.specs.Seen.{Seen}
use Rattle.sub_base.specs.ToolOutcome.{Causes}
use Rattle.service_mux.specs.StreamReads.{HaveSync, IsRead, IsUnsynced}
use Rattle.service_mux.specs.Taken.{subtitles_of, taken_of}
use Rattle.service_mux.specs.declared.take_fault.TakeFault.{TakeFault}
use Rattle.service_mux.specs.declared.take_fault.TakeFault.TheVariants as fault

-- the name of a fault in the notes
abbrev pub take_fault_name : TakeFault → List ℕ
take_fault_name (fault.NoSync packet) = codes "NoSync"
take_fault_name (fault.NoService number) = codes "NoService"

-- the stream was read to its end, it has the service's subtitles, and the output has received their packets
pub record IsTakenWhole (service : ℕ) (before now : Seen) : Type 0 where
  pub packets : List (List ℕ)
  pub read : IsRead before.first now.first packets
  pub synced : HaveSync packets
  pub found : is_none (subtitles_of service packets) ≡ false
  pub written : Appends before.out.written now.out.written (concat (taken_of service packets))

-- the output has received a prefix of the packets taken out of those that the source gave
pub record IsTakenFront (service : ℕ) (before now : Seen) : Type 0 where
  pub packets : List (List ℕ)
  pub rest : List ℕ
  pub gave : Gave before.first now.first packets rest
  pub synced : HaveSync packets
  pub written : AppendsPrefix before.out.written now.out.written (concat (taken_of service packets))

-- the stream was read to its end and has no subtitles of the service; nothing was written
pub record IsUnserved (service : ℕ) (before now : Seen) : Type 0 where
  pub packets : List (List ℕ)
  pub read : IsRead before.first now.first packets
  pub synced : HaveSync packets
  pub none : subtitles_of service packets ≡ None
  pub nothing : Appends before.out.written now.out.written []

-- the packet at that place is the first without the sync byte, and the output has received those taken before it
pub record IsTakeUnsynced (service : ℕ) (before now : Seen) (place : ℕ) : Type 0 where
  pub packets : List (List ℕ)
  pub unsynced : IsUnsynced before.first now.first place packets
  pub written : Appends before.out.written now.out.written (concat (taken_of service packets))

-- a fault is that of the first packet without the sync byte, or of the service of which the stream has no subtitles
abbrev pub IsTakeRefused : ℕ → Seen → Seen → TakeFault → Type 0
IsTakeRefused service before now (fault.NoSync packet) = IsTakeUnsynced service before now packet
IsTakeRefused service before now (fault.NoService number) = (number ≡ service) × IsUnserved service before now

-- what `take` says of its statuses
abbrev pub take_causes : ℕ → Seen → Seen → Causes TakeFault
take_causes service before now = record {
  IsDone = IsTakenWhole service before now;
  IsRefused = IsTakeRefused service before now;
  IsStopped = IsTakenFront service before now;
  limit = STREAM_LIMIT;
}
