-- Why a command that reads a stream ended as it did, and what its output has received then.
use Rattle.std.specs.Prelude.{ℕ}
use Rattle.packet_walk.specs.ToldEnds.{IsToldEnd, Telling}
use Rattle.packet_walk.specs.declared.told_end.ToldEnd.{ToldEnd}
use Rattle.packet_walk.specs.declared.told_end.ToldEnd.TheVariants as told_end
use Rattle.sub_base.specs.Endpoints.{Received, Supplied}
use Rattle.sub_base.specs.declared.status.Which.TheVariants as which
use Rattle.dvbsub_cmd.specs.declared.status.Status.{Status}
use Rattle.dvbsub_cmd.specs.declared.status.Status.TheVariants as status

-- the status of a command whose telling of a stream ended so
abbrev pub status_of_end : ToldEnd → Status
status_of_end (told_end.Done cut) = status.Done cut
status_of_end (told_end.Refused refused) = status.StreamRefused refused.packet refused.fault
status_of_end told_end.Unread = status.ReadFault which.First
status_of_end told_end.TooLong = status.InputTooLong which.First
status_of_end told_end.Unwritten = status.WriteFault which.Out
status_of_end told_end.Memory = status.Memory

-- the cause of each status, by the stream's source and the output before and now: that of the end of its telling
abbrev pub IsStreamCause : Telling → ℕ → Supplied → Supplied → Received → Received → Status → Type 0
IsStreamCause Told pid before now out_before out_now (status.Done cut) =
    IsToldEnd Told pid before now out_before out_now (told_end.Done cut)
IsStreamCause Told pid before now out_before out_now (status.StreamRefused packet fault) =
    IsToldEnd Told pid before now out_before out_now
    (told_end.Refused (record { packet = packet; fault = fault }))
IsStreamCause Told pid before now out_before out_now (status.ReadFault which.First) =
    IsToldEnd Told pid before now out_before out_now told_end.Unread
IsStreamCause Told pid before now out_before out_now (status.InputTooLong which.First) =
    IsToldEnd Told pid before now out_before out_now told_end.TooLong
IsStreamCause Told pid before now out_before out_now (status.WriteFault which.Out) =
    IsToldEnd Told pid before now out_before out_now told_end.Unwritten
IsStreamCause Told pid before now out_before out_now status.Memory =
    IsToldEnd Told pid before now out_before out_now told_end.Memory
IsStreamCause Told pid before now out_before out_now other = ⊥
