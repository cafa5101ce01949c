-- Streams that are read from their sources and gone through, one after the other.
use Rattle.decoder_model.specs.Received.{Reception}
use Rattle.std.specs.Prelude.{ℕ, ◌+◌, ◌*◌, nat_lt, if◌then◌else◌, List, Option, Some, None}
use Rattle.sub_base.specs.Counts.{HasRisenPast}
use Rattle.sub_base.specs.Endpoints.{HasReadFault, Supplied, WasRead}
use Rattle.sub_base.specs.declared.faults.ReadAllFault.{ReadAllFault}
use Rattle.sub_base.specs.declared.faults.ReadAllFault.TheVariants as read
use Rattle.sub_base.specs.declared.status.ToolStatus.{ToolStatus}
use Rattle.sub_base.specs.declared.status.ToolStatus.TheVariants as tool
use Rattle.sub_base.specs.declared.status.Which.{Which}
use Rattle.packet_source.specs.InHand.{whole_packets}
use Rattle.packet_source.specs.declared.stream_end.StreamEnd.{StreamEnd}
use Rattle.packet_source.specs.declared.stream_end.StreamEnd.TheVariants as stream
use Rattle.stream_syntax.specs.declared.wire.TheConstants.{PACKET_LENGTH}
use Rattle.set_receiver.specs.Receiving.{SetReceiving}
use Rattle.splice.specs.Private.Surveyed.{IsGone, IsSurveyOf}
use Rattle.splice.specs.declared.joined.Joined.{Joined}
use Rattle.splice.specs.declared.limits.TheConstants.{SPLICE_LIMIT}
use Rattle.splice.specs.declared.part.Part.{Part}
use Rattle.splice.specs.declared.splice_fault.SpliceFault.{SpliceFault}
use Rattle.splice.specs.declared.found.Survey.{Survey}

-- the source was read to its end, and its packets were gone through
pub record IsInput (made : Reception) (part : Part) (before now : Supplied) (old new : Joined) (survey : Survey)
    : Type 0 where
  pub bytes : List ℕ
  pub read : WasRead SPLICE_LIMIT before now bytes
  pub is_survey : IsSurveyOf made part (whole_packets bytes) old new survey

-- the source was read to its end, and its packets were gone through, before what comes ready at their end
pub record HasReadThrough (made : Reception) (part : Part) (before now : Supplied) (receiving : SetReceiving)
    (start end : Joined) (survey : Survey) : Type 0 where
  pub bytes : List ℕ
  pub read : WasRead SPLICE_LIMIT before now bytes
  pub gone : IsGone made part (whole_packets bytes) receiving start end survey

-- a stream ended behind so many packets: it is longer than its limit, or was not read to its end, or neither
abbrev pub end_fault : ℕ → StreamEnd → Option ReadAllFault
end_fault packets (stream.Whole cut) =
    if nat_lt SPLICE_LIMIT (PACKET_LENGTH * packets + cut) then Some read.TooLong else None
end_fault packets stream.Unread = Some read.Read
end_fault packets stream.TooLong = Some read.TooLong

-- why a source was not read to its end; want of memory has no cause
abbrev pub IsInputCause : Supplied → Supplied → ReadAllFault → Type 0
IsInputCause before now read.Memory = Unit {0}
IsInputCause before now read.Read = HasReadFault before now
IsInputCause before now read.TooLong = HasRisenPast SPLICE_LIMIT before.given now.given

-- the status where the source was not read to its end
abbrev pub unread_status : Which → ReadAllFault → ToolStatus SpliceFault
unread_status which read.Memory = tool.Memory
unread_status which read.Read = tool.ReadFault which
unread_status which read.TooLong = tool.InputTooLong which
