-- How the sets of two joined streams are sent.
use Rattle.std.specs.Prelude.{◌≡◌, ℕ, ◌^◌, ◌<◌, List, length, All}
use Rattle.std.specs.List.{concat}
use Rattle.std.specs.List.Sorted.{IsStrictlyIncreasing}
use Rattle.sub_base.specs.Endpoints.{HasWriteFault, Received, Wrote, WroteNothing, WrotePrefix}
use Rattle.sub_base.specs.declared.load.WriteLoad.{WriteLoad}
use Rattle.sub_base.specs.declared.pace.Pace.{Pace}
use Rattle.sub_base.specs.declared.status.ToolStatus.{ToolStatus}
use Rattle.sub_base.specs.declared.status.ToolStatus.TheVariants as tool
use Rattle.sub_base.specs.declared.status.Which.{Which}
use Rattle.sub_base.specs.declared.status.Which.TheVariants as which
use Rattle.schedule.specs.Arrivals.{IsArrival}
use Rattle.schedule.specs.Packets.{first_packet}
use Rattle.schedule.specs.Slots.{Timetable, IsOnTime, IsSchedule}
use Rattle.schedule.specs.declared.fault.ScheduleFault.{ScheduleFault}
use Rattle.schedule.specs.declared.fault.ScheduleFault.TheVariants as schedule
use Rattle.splice.specs.SpliceOutcome.{IsSpliceRefused}
use Rattle.splice.specs.SplicedSets.{Streams}
use Rattle.splice.specs.SplicedStream.{IsSplicedTo}
use Rattle.splice.specs.declared.splice_fault.SpliceFault.{SpliceFault}
use Rattle.splice.specs.declared.splice_fault.SpliceFault.TheVariants as splice
use Rattle.splice.specs.declared.splice_words.Splicing.{Splicing}

-- ---- slots

-- each packet of these sets has a slot, and the slots rise
pub record HaveSlots (loads : List WriteLoad) (table : Timetable) : Type 0 where
  pub packets : length table.slots ≡ first_packet loads (length loads)
  pub rise : IsStrictlyIncreasing table.slots
  pub small : All (λ slot. slot < 2 ^ 56) table.slots

-- the sets are sent in time in these slots
pub record AreInTime (pace : Pace) (loads : List WriteLoad) (table : Timetable) : Type 0 where
  pub schedule : IsSchedule loads (length loads) pace table
  pub on_time : IsOnTime loads (length loads) pace table
  pub held : IsArrival loads (length loads) pace table.slots table.dones
  pub slots : HaveSlots loads table

-- ---- what is written

-- the packets of the joined streams were written
pub record AreSent (splicing : Splicing) (streams : Streams) (before now : Received) : Type 0 where
  pub packets : List (List ℕ)
  pub each : All (λ packet. length packet ≡ 188) packets
  pub sent : IsSplicedTo splicing streams (concat packets)
  pub written : Wrote before now (concat packets)

-- a prefix of them was written, and the sink failed
pub record AreSentInPart (splicing : Splicing) (streams : Streams) (before now : Received) : Type 0 where
  pub bytes : List ℕ
  pub sent : IsSplicedTo splicing streams bytes
  pub written : WrotePrefix before now bytes
  pub failed : HasWriteFault before now

-- a write fault is one of the output
abbrev pub IsUnsent : Splicing → Streams → Received → Received → Which → Type 0
IsUnsent splicing streams before now which.First = ⊥
IsUnsent splicing streams before now which.Second = ⊥
IsUnsent splicing streams before now which.Out = AreSentInPart splicing streams before now
IsUnsent splicing streams before now which.Notes = ⊥

-- the cause of the status with which sending the joined streams ends
abbrev pub IsSendEnd : Splicing → Streams → Received → Received → ToolStatus SpliceFault → Type 0
IsSendEnd splicing streams before now tool.Done = AreSent splicing streams before now
IsSendEnd splicing streams before now tool.Usage = ⊥
IsSendEnd splicing streams before now (tool.Refused fault) =
    IsSpliceRefused splicing streams fault × WroteNothing before now
IsSendEnd splicing streams before now (tool.ReadFault which) = ⊥
IsSendEnd splicing streams before now (tool.WriteFault which) = IsUnsent splicing streams before now which
IsSendEnd splicing streams before now tool.Memory = WroteNothing before now
IsSendEnd splicing streams before now (tool.InputTooLong which) = ⊥

-- how it ends where the sets have no slots
abbrev pub unscheduled : ScheduleFault → ToolStatus SpliceFault
unscheduled schedule.Memory = tool.Memory
unscheduled (schedule.CodedFull set size) = tool.Refused (splice.Schedule (schedule.CodedFull set size))
unscheduled (schedule.Late set done pts) = tool.Refused (splice.Schedule (schedule.Late set done pts))
unscheduled (schedule.SegmentFull set longest) = tool.Refused (splice.Schedule (schedule.SegmentFull set longest))
