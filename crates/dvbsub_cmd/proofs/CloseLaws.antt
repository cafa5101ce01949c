-- The status of a stream that was told has the cause of its end.
use Rattle.std.proofs.Common.{◌≡◌, ℕ, subst, sym}
use Rattle.command_text.specs.Putting.{Buffered}
use Rattle.packet_walk.proofs.CloseLaws.{closed as told_closed}
use Rattle.packet_walk.specs.Closing.{HasEnded}
use Rattle.packet_walk.specs.ToldEnds.{IsToldEnd, Telling}
use Rattle.packet_walk.specs.declared.told_end.ToldEnd.{ToldEnd}
use Rattle.packet_walk.specs.declared.told_end.ToldEnd.TheVariants as told_end
use Rattle.packet_walk.specs.declared.walk.WalkEnd.{WalkEnd}
use Rattle.sub_base.specs.Endpoints.{Received, Supplied}
use Rattle.dvbsub_cmd.specs.Private.Closing.{ClosesEnd}
use Rattle.dvbsub_cmd.specs.StreamOutcome.{IsStreamCause, status_of_end}
use Rattle.dvbsub_cmd.specs.declared.status.Status.{Status}

caused : (Told : Telling) (pid : ℕ) (before now : Supplied) (start next : Received) (end : ToldEnd)
    → IsToldEnd Told pid before now start next end
    → IsStreamCause Told pid before now start next (status_of_end end)
caused Told pid before now start next (told_end.Done cut) cause = cause
caused Told pid before now start next (told_end.Refused refused) cause = cause
caused Told pid before now start next told_end.Unread cause = cause
caused Told pid before now start next told_end.TooLong cause = cause
caused Told pid before now start next told_end.Unwritten cause = cause
caused Told pid before now start next told_end.Memory cause = cause

-- the status of an end has the end's cause
pub end_cause : (Told : Telling) (pid : ℕ) (before now : Supplied) (start next : Received) (end : ToldEnd)
    (answer : Status) → answer ≡ status_of_end end → IsToldEnd Told pid before now start next end
    → IsStreamCause Told pid before now start next answer
end_cause Told pid before now start next end answer is cause =
    subst (IsStreamCause Told pid before now start next) (sym is) (caused Told pid before now start next end cause)

-- what a command answers has its cause in the end of its walk
pub closed : (Told : Telling) (pid : ℕ) (before now : Supplied) (start out next : Received) (buffer : Buffered)
    (ended : WalkEnd) (answer : Status) → HasEnded Told pid before now start out buffer ended
    → ClosesEnd out next buffer ended answer → IsStreamCause Told pid before now start next answer
closed Told pid before now start out next buffer ended answer has closes =
    end_cause Told pid before now start next closes.0 answer closes.2
    (told_closed Told pid before now start out next buffer ended closes.0 has closes.1)
