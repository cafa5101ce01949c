-- How `splice` ends: when it is done, why it refuses its streams, and what the output has received.
use Rattle.std.specs.Prelude.{◌≡◌, ◌≢◌, ℕ, ◌+◌, ◌≤◌, ◌⊎◌, Bool, true, false, List, length, All, Some, None, codes}
use Rattle.std.specs.List.{AllZip, concat}
use Rattle.sub_base.specs.Endpoints.{Received, WasRead, Wrote, WrotePrefix, WroteNothing}
use Rattle.sub_base.specs.Seen.{Seen}
use Rattle.sub_base.specs.ToolOutcome.{Causes}
use Rattle.sub_base.specs.declared.load.WriteLoad.{WriteLoad}
use Rattle.sub_base.specs.declared.status.ToolStatus.{ToolStatus}
use Rattle.sub_base.specs.declared.status.ToolStatus.TheVariants as tool
use Rattle.packet_source.specs.InHand.{whole_packets}
use Rattle.stream_syntax.specs.declared.transport.PacketFault.{PacketFault}
use Rattle.schedule.specs.Refusals.{IsScheduleCause}
use Rattle.schedule.specs.declared.fault.ScheduleFault.{ScheduleFault}
use Rattle.schedule.specs.declared.fault.ScheduleFault.TheVariants.{Memory}
use Rattle.splice.specs.SplicedSets.{Streams, IsLoadOf, first_reception, second_reception, splice_pace, spliced_sets}
use Rattle.splice.specs.SplicedStream.{AreBothTaken, AreGood, AreWhole, CanBeJoined, IsLastBefore, IsShownAsBefore, IsSplicedTo}
use Rattle.splice.specs.StreamTests.{AreSetsShown, CanBeTaken, BeginsAnew, IsFirstLost, IsFirstRefused, IsFirstUnshown, IsLossless}
use Rattle.splice.specs.declared.limits.TheConstants.{SPLICE_LIMIT, TOO_CLOSE, TOO_FAR}
use Rattle.splice.specs.declared.splice_fault.SpliceFault.{SpliceFault}
use Rattle.splice.specs.declared.splice_fault.SpliceFault.TheVariants as splice
use Rattle.splice.specs.declared.splice_words.Splicing.{Splicing}

-- the name of a fault
abbrev pub splice_fault_name : SpliceFault → List ℕ
splice_fault_name (splice.Packet second packet fault) = codes "Packet"
splice_fault_name (splice.Lost second packet) = codes "Lost"
splice_fault_name (splice.NotShown second set) = codes "NotShown"
splice_fault_name splice.NoModeChange = codes "NoModeChange"
splice_fault_name (splice.CutTooClose last) = codes "CutTooClose"
splice_fault_name (splice.CutTooFar last) = codes "CutTooFar"
splice_fault_name (splice.Schedule fault) = codes "Schedule"

-- ---- what was read

-- both sources were read to their ends, within the limit, and had these packets, each perhaps with bytes behind them
-- that are no packet
pub record AreStreamsRead (before now : Seen) (streams : Streams) : Type 0 where
  pub first_bytes : List ℕ
  pub second_bytes : List ℕ
  pub first_read : WasRead SPLICE_LIMIT before.first now.first first_bytes
  pub second_read : WasRead SPLICE_LIMIT before.second now.second second_bytes
  pub first : streams.first ≡ whole_packets first_bytes
  pub second : streams.second ≡ whole_packets second_bytes

-- ---- refusals, in the order of their tests: each kind of fault is looked for in the first stream and then in the
-- second, before the next kind

-- the first packet that cannot be taken
abbrev pub HasBadPacket : Splicing → Streams → Bool → ℕ → PacketFault → Type 0
HasBadPacket splicing streams false packet fault = IsFirstRefused splicing.pid streams.first packet fault
HasBadPacket splicing streams true packet fault =
    CanBeTaken splicing.pid streams.first × IsFirstRefused splicing.pid streams.second packet fault

-- the first packet with which something is lost
abbrev pub HasLoss : Splicing → Streams → Bool → ℕ → Type 0
HasLoss splicing streams false packet = IsFirstLost (first_reception splicing) streams.first packet
HasLoss splicing streams true packet =
    IsLossless (first_reception splicing) streams.first
    × IsFirstLost (second_reception splicing) streams.second packet

-- the first set that has to be shown and is not: in the first stream one that is not kept or lies before the cut
abbrev pub HasUnshown : Splicing → Streams → Bool → ℕ → Type 0
HasUnshown splicing streams false set =
    IsFirstUnshown (first_reception splicing) (Some splicing.cut) streams.first set
HasUnshown splicing streams true set =
    AreSetsShown (first_reception splicing) (Some splicing.cut) streams.first
    × IsFirstUnshown (second_reception splicing) None streams.second set

-- the sets of the joined streams cannot be sent in time; want of memory is no such refusal
pub record IsSplicedUnscheduled (splicing : Splicing) (streams : Streams) (fault : ScheduleFault) : Type 0 where
  pub joined : CanBeJoined splicing streams
  pub loads : List WriteLoad
  pub asked : AllZip IsLoadOf (spliced_sets splicing streams) loads
  pub cause : IsScheduleCause loads (splice_pace splicing) fault
  pub found : fault ≢ Memory

-- why two streams that were read are refused: each reason where the tests before it find nothing
abbrev pub IsSpliceRefused : Splicing → Streams → SpliceFault → Type 0
IsSpliceRefused splicing streams (splice.Packet second packet fault) =
    HasBadPacket splicing streams second packet fault
IsSpliceRefused splicing streams (splice.Lost second packet) =
    AreBothTaken splicing streams × HasLoss splicing streams second packet
IsSpliceRefused splicing streams (splice.NotShown second set) =
    AreWhole splicing streams × HasUnshown splicing streams second set
IsSpliceRefused splicing streams splice.NoModeChange =
    AreGood splicing streams × (BeginsAnew (second_reception splicing) streams.second → ⊥)
IsSpliceRefused splicing streams (splice.CutTooClose last) =
    AreGood splicing streams × BeginsAnew (second_reception splicing) streams.second
    × IsLastBefore splicing streams last × (splicing.cut ≤ last + TOO_CLOSE)
IsSpliceRefused splicing streams (splice.CutTooFar last) =
    AreGood splicing streams × BeginsAnew (second_reception splicing) streams.second
    × IsLastBefore splicing streams last × (last + TOO_FAR ≤ splicing.cut)
IsSpliceRefused splicing streams (splice.Schedule fault) = IsSplicedUnscheduled splicing streams fault

-- ---- causes

-- both streams were read, and the packets of the joined streams were written, of which a receiver shows before the cut
-- what the first stream shows, and from the cut on what the second shows
pub record IsSpliced (splicing : Splicing) (before now : Seen) : Type 0 where
  pub streams : Streams
  pub read : AreStreamsRead before now streams
  pub packets : List (List ℕ)
  pub each : All (λ packet. length packet ≡ 188) packets
  pub sent : IsSplicedTo splicing streams (concat packets)
  pub written : Wrote before.out now.out (concat packets)
  pub shown : IsShownAsBefore splicing streams packets

-- both streams were read, and are refused for that; nothing was written
pub record IsRefusedFor (splicing : Splicing) (before now : Seen) (fault : SpliceFault) : Type 0 where
  pub streams : Streams
  pub read : AreStreamsRead before now streams
  pub refused : IsSpliceRefused splicing streams fault
  pub nothing : WroteNothing before.out now.out

-- both streams were read, and a prefix of the packets of the joined streams was written
pub record IsSplicedInPart (splicing : Splicing) (before now : Seen) : Type 0 where
  pub streams : Streams
  pub read : AreStreamsRead before now streams
  pub bytes : List ℕ
  pub sent : IsSplicedTo splicing streams bytes
  pub written : WrotePrefix before.out now.out bytes

-- the causes of the statuses of `splice`
abbrev pub splice_causes : Splicing → Seen → Seen → Causes SpliceFault
splice_causes splicing before now = record {
  IsDone = IsSpliced splicing before now;
  IsRefused = IsRefusedFor splicing before now;
  IsStopped = WroteNothing before.out now.out ⊎ IsSplicedInPart splicing before now;
  limit = SPLICE_LIMIT;
}

-- nothing was written but with `Done` and with a write fault
abbrev pub LeavesEmpty : Received → Received → ToolStatus SpliceFault → Type 0
LeavesEmpty before now tool.Done = Unit {0}
LeavesEmpty before now tool.Usage = WroteNothing before now
LeavesEmpty before now (tool.Refused fault) = WroteNothing before now
LeavesEmpty before now (tool.ReadFault which) = WroteNothing before now
LeavesEmpty before now (tool.WriteFault which) = Unit {0}
LeavesEmpty before now tool.Memory = WroteNothing before now
LeavesEmpty before now (tool.InputTooLong which) = WroteNothing before now
