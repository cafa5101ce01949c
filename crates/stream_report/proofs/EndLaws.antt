-- The cause of the status of a tool that tells of one stream, by the end of its telling; whatever it tells.
use Rattle.std.proofs.Common.{ℕ, inl, inr, false, List, length, Option, sym, subst, arith}
use Rattle.std.proofs.Math.Seq.{take-length}
use Rattle.std.specs.Io.KnownBytes.{Appends}
use Rattle.packet_walk.specs.ToldEnds.{IsFront, IsToldEnd, IsUpToFailure, Telling}
use Rattle.packet_walk.specs.declared.told_end.ToldEnd.{ToldEnd}
use Rattle.packet_walk.specs.declared.told_end.ToldEnd.TheVariants as told_end
use Rattle.sub_base.specs.Endpoints.{AppendsPrefix, Received, Supplied}
use Rattle.sub_base.specs.ToolOutcome.{IsToolCause, TellsTool, untold_tool}
use Rattle.sub_base.specs.declared.status.ToolStatus.{ToolStatus}
use Rattle.sub_base.specs.declared.status.ToolStatus.TheVariants as tool
use Rattle.sub_base.specs.declared.status.Which.TheVariants as which
use Rattle.stream_report.specs.ReportOutcome.{HasReportedLater, HasReportedRead, IsLaterEnd, report_causes, report_status, seen_of_stream}
use Rattle.stream_report.specs.declared.report_fault.ReportFault.{ReportFault}

whole_prefix : (old new : Option (List ℕ)) (bytes : List ℕ) → Appends old new bytes → AppendsPrefix old new bytes
whole_prefix old new bytes whole =
    (length bytes, omega arith, subst (λ (l : List ℕ). Appends old new l) (sym (take-length bytes)) whole)

module _ (Told : Telling) (pid : ℕ) (before now : Supplied) (start next : Received) where
  -- the text of the packets that were read whole is a prefix
  unread_front : IsUpToFailure Told pid before now start next → IsFront Told pid before now start next
  unread_front is = record {
    packets = is.packets;
    rest = is.rest;
    taken = is.taken;
    ended = false;
    at_end = λ e. absurd (cc);
    text = is.text;
    told = is.told;
    written = whole_prefix start.written next.written is.text is.written;
  }

  -- each end of a telling is the cause of its status
  pub report_cause : (end : ToldEnd) → IsToldEnd Told pid before now start next end
      → IsToolCause (report_causes Told pid (seen_of_stream before start) (seen_of_stream now next))
      (seen_of_stream before start) (seen_of_stream now next) (report_status end)
  report_cause (told_end.Done cut) is = (cut, is)
  report_cause (told_end.Refused refused) is = is
  report_cause told_end.Unread is = (is.0, inr (unread_front is.1))
  report_cause told_end.TooLong is = (is.0, inr is.1)
  report_cause told_end.Unwritten is = (is.0, inr is.1)
  report_cause told_end.Memory is = inl is.1

  pub report_read : (end : ToldEnd) → IsToldEnd Told pid before now start next end
      → HasReportedRead Told pid (seen_of_stream before start) (seen_of_stream now next) (report_status end)
  report_read (told_end.Done cut) is = tt
  report_read (told_end.Refused refused) is = tt
  report_read told_end.Unread is = is.1
  report_read told_end.TooLong is = tt
  report_read told_end.Unwritten is = tt
  report_read told_end.Memory is = is

  -- the same where memory is taken in the middle of the stream
  pub later_cause : (end : ToldEnd) → IsLaterEnd Told pid before now start next end
      → IsToolCause (report_causes Told pid (seen_of_stream before start) (seen_of_stream now next))
      (seen_of_stream before start) (seen_of_stream now next) (report_status end)
  later_cause (told_end.Done cut) is = report_cause (told_end.Done cut) is
  later_cause (told_end.Refused refused) is = report_cause (told_end.Refused refused) is
  later_cause told_end.Unread is = report_cause told_end.Unread is
  later_cause told_end.TooLong is = report_cause told_end.TooLong is
  later_cause told_end.Unwritten is = report_cause told_end.Unwritten is
  later_cause told_end.Memory is = is

  pub later_read : (end : ToldEnd) → IsLaterEnd Told pid before now start next end
      → HasReportedLater Told pid (seen_of_stream before start) (seen_of_stream now next) (report_status end)
  later_read (told_end.Done cut) is = tt
  later_read (told_end.Refused refused) is = tt
  later_read told_end.Unread is = is.1
  later_read told_end.TooLong is = tt
  later_read told_end.Unwritten is = tt
  later_read told_end.Memory is = is

  pub later_end : (end : ToldEnd) → IsToldEnd Told pid before now start next end
      → IsLaterEnd Told pid before now start next end
  later_end (told_end.Done cut) is = is
  later_end (told_end.Refused refused) is = is
  later_end told_end.Unread is = is
  later_end told_end.TooLong is = is
  later_end told_end.Unwritten is = is
  later_end told_end.Memory is = inl is.1

-- ---- the answer of the tool

-- what holds of the status of a run, and of a failed write of the notes, holds of the answer
pub answered : (Holds : ToolStatus ReportFault → Type 0) (name : ReportFault → List ℕ)
    (notes_before notes_now : Received) (run answer : ToolStatus ReportFault) → Holds (tool.WriteFault which.Notes)
    → Holds run → TellsTool name notes_before notes_now run answer → Holds answer
answered Holds name notes_before notes_now run answer failed held (inl line) = subst Holds (sym line.1) held
answered Holds name notes_before notes_now run answer failed held (inr front) =
    subst Holds (sym front.2) (untold run held)
  where
    untold : (run : ToolStatus ReportFault) → Holds run → Holds (untold_tool run)
    untold tool.Done held = failed
    untold tool.Usage held = held
    untold (tool.Refused fault) held = held
    untold (tool.ReadFault source) held = held
    untold (tool.WriteFault sink) held = held
    untold tool.Memory held = held
    untold (tool.InputTooLong source) held = held
