-- The end of `pids`.
use Rattle.std.proofs.Common.{◌≡◌, ◌∙◌, ℕ, zero, suc, true, false, List, [], ◌∷◌, ◌++◌, take, Bool, Option, Some, None, append-nil, ap, inl, refl, sym, subst, arith}
use Rattle.std.specs.Io.KnownBytes.{Appends, Keeps}
use Rattle.command_text.specs.Putting.{Buffered, IsPutOut, PutsOut}
use Rattle.packet_source.specs.declared.stream_end.StreamEnd.TheVariants as stream
use Rattle.packet_walk.proofs.EndLaws.{end_told}
use Rattle.packet_walk.specs.Closing.{FinishesTold}
use Rattle.packet_walk.specs.ToldEnds.{IsToldEnd}
use Rattle.packet_walk.specs.Walking.{IsEnd, IsToldFrom}
use Rattle.packet_walk.specs.declared.told_end.ToldEnd.{ToldEnd}
use Rattle.packet_walk.specs.declared.told_end.ToldEnd.TheVariants as told_end
use Rattle.packet_walk.specs.declared.walk.WalkEnd.{WalkEnd}
use Rattle.packet_walk.specs.declared.walk.WalkEnd.TheVariants as end
use Rattle.pid_text.specs.PidText.{NO_PID}
use Rattle.service_text.proofs.TellLaws.{text_of_told}
use Rattle.service_text.specs.Telling.{HasTakenStream, IsStreamText, is_wanting}
use Rattle.service_text.specs.declared.teller.PidTeller.{PidTeller}
use Rattle.sub_base.specs.Endpoints.{Received, Supplied, WroteNothing}
use Rattle.sub_base.specs.Seen.{Seen}
use Rattle.sub_base.specs.ToolOutcome.{IsToolCause, TellsTool}
use Rattle.sub_base.specs.declared.status.ToolStatus.{ToolStatus}
use Rattle.stream_report.proofs.EndLaws.{answered, report_cause, report_read}
use Rattle.stream_report.specs.PidsOutcome.{HasPidsRead, HasToldPids, IsPidsEnd, pids_causes, tells_pids}
use Rattle.stream_report.specs.ReportOutcome.{report_status, seen_of_stream}
use Rattle.stream_report.specs.declared.pids_words.PidsReport.{PidsReport}
use Rattle.stream_report.specs.declared.report_fault.ReportFault.{ReportFault}

-- ---- nothing is put out before the end

none_appended : (old new : Option (List ℕ)) → Appends old new [] → Keeps old new
none_appended None new is = tt
none_appended (Some xs) None is = is
none_appended (Some xs) (Some ys) is = is ∙ append-nil xs

no_front : (xs ys : List ℕ) → xs ++ ys ≡ [] → xs ≡ []
no_front [] ys is = refl
no_front (x ∷ xs) ys is = absurd cc

take_none : (n : ℕ) → take n (let none : List ℕ = [] in none) ≡ []
take_none zero = refl
take_none (suc n) = refl

pub nothing_put : (start now : Received) (buffer : Buffered) (text : List ℕ) → text ≡ []
    → IsPutOut start now buffer text → WroteNothing start now
nothing_put start now buffer text nothing put = by_failed buffer.failed refl
  where
    by_failed : (failed : Bool) → buffer.failed ≡ failed → WroteNothing start now
    by_failed true is =
        let front = put.front is in
        none_appended start.written now.written
        (subst (Appends start.written now.written) (ap (take front.0.0) nothing ∙ take_none front.0.0) front.0.2)
    by_failed false is =
        let sent = put.sent is in
        none_appended start.written now.written
        (subst (Appends start.written now.written) (no_front sent.written buffer.waits (sent.whole ∙ nothing))
        sent.appended)

pub nothing_written : (teller : PidTeller) (before now : Supplied) (start out : Received) (buffer : Buffered)
    (ended : WalkEnd) → IsEnd (HasTakenStream teller) NO_PID before now start out buffer ended → WroteNothing start out
nothing_written teller before now start out buffer (end.Stream (stream.Whole cut)) is =
    nothing_put start out buffer is.2.text is.2.told.pids.nothing is.2.put_out
nothing_written teller before now start out buffer (end.Stream stream.Unread) is =
    nothing_put start out buffer is.2.text is.2.told.pids.nothing is.2.put_out
nothing_written teller before now start out buffer (end.Stream stream.TooLong) is =
    nothing_put start out buffer is.2.text is.2.told.pids.nothing is.2.put_out
nothing_written teller before now start out buffer (end.Refused refused) is =
    nothing_put start out buffer is.3.text is.3.told.pids.nothing is.3.put_out
nothing_written teller before now start out buffer end.Unwritten is =
    nothing_put start out buffer is.2.text is.2.told.pids.nothing is.2.put_out

-- ---- the text is put out at the end

-- a walk that ended so has not ended with the output
abbrev pub IsWritten : WalkEnd → Type 0
IsWritten (end.Stream ended) = Unit {0}
IsWritten (end.Refused refused) = Unit {0}
IsWritten end.Unwritten = ⊥

module _ (teller : PidTeller) where
  told_on : (before now : Supplied) (start out next : Received) (buffer new : Buffered) (pid : ℕ)
      (packets : List (List ℕ)) (rest : List ℕ)
      → ((packets : List (List ℕ)) (text : List ℕ) → HasTakenStream teller packets text
      → (more : List ℕ) × IsStreamText packets (text ++ more) × PutsOut out next buffer new more)
      → IsToldFrom (HasTakenStream teller) pid before now start out buffer packets rest
      → IsToldFrom IsStreamText pid before now start next new packets rest
  told_on before now start out next buffer new pid packets rest goes told =
      let more = goes packets told.text told.told in record {
        taken = told.taken;
        text = told.text ++ more.0;
        told = more.1;
        put_out = more.2.extends start told.text told.put_out;
      }

  pub text_put : (out next : Received) (buffer new : Buffered) (ended : WalkEnd) → IsWritten ended
      → ((packets : List (List ℕ)) (text : List ℕ) → HasTakenStream teller packets text
      → (more : List ℕ) × IsStreamText packets (text ++ more) × PutsOut out next buffer new more)
      → FinishesTold (HasTakenStream teller) tells_pids out next buffer new ended
  text_put out next buffer new (end.Stream (stream.Whole cut)) written goes pid before now start is =
      (is.0, is.1, told_on before now start out next buffer new pid is.0 is.1 goes is.2, is.3, is.4, is.5, is.6)
  text_put out next buffer new (end.Stream stream.Unread) written goes pid before now start is =
      (is.0, is.1, told_on before now start out next buffer new pid is.0 is.1 goes is.2, is.3, is.4, is.5)
  text_put out next buffer new (end.Stream stream.TooLong) written goes pid before now start is =
      (is.0, is.1, told_on before now start out next buffer new pid is.0 is.1 goes is.2, is.3)
  text_put out next buffer new (end.Refused refused) written goes pid before now start is = (
    is.0,
    is.1,
    is.2,
    told_on before now start out next buffer new pid is.0 (is.1 ++ is.2) goes is.3,
    is.4,
    is.5,
    is.6,
    is.7,
  )
  text_put out next buffer new end.Unwritten written goes pid before now start is = absurd written

  -- where the output could not be written, a prefix of the text, which is nothing, was
  pub text_unput : is_wanting teller ≡ false → (out : Received) (buffer : Buffered)
      → FinishesTold (HasTakenStream teller) tells_pids out out buffer buffer end.Unwritten
  text_unput found out buffer pid before now start is = (
    is.0,
    is.1,
    record {
      taken = is.2.taken;
      text = (text_of_told teller is.0 is.2.text found is.2.told).0;
      told = (text_of_told teller is.0 is.2.text found is.2.told).1;
      put_out = record {
        sent = λ fine. absurd (differs (sym is.4 ∙ fine));
        front = λ failed. let front = is.2.put_out.front failed in (
          (
            0,
            omega arith,
            subst (Appends start.written out.written)
                (ap (take front.0.0) is.2.told.pids.nothing ∙ take_none front.0.0) front.0.2,
          ),
          front.1,
        );
        kept = is.2.put_out.kept;
      };
    },
    is.3,
    is.4,
  )
    where
      differs : true ≡ false → ⊥
      differs same = cc

-- ---- the status

pub pids_end : (before now : Supplied) (start next : Received) (ended : ToldEnd)
    → IsToldEnd tells_pids NO_PID before now start next ended → IsPidsEnd before now start next ended
pids_end before now start next (told_end.Done cut) is = is
pids_end before now start next (told_end.Refused refused) is = is
pids_end before now start next told_end.Unread is = is
pids_end before now start next told_end.TooLong is = is
pids_end before now start next told_end.Unwritten is = is
pids_end before now start next told_end.Memory is = is.1

pub pids_cause : (before now : Supplied) (start next : Received) (ended : ToldEnd)
    → IsPidsEnd before now start next ended
    → IsToolCause (pids_causes (record {}) (seen_of_stream before start) (seen_of_stream now next))
    (seen_of_stream before start) (seen_of_stream now next) (report_status ended)
pids_cause before now start next (told_end.Done cut) is =
    report_cause tells_pids NO_PID before now start next (told_end.Done cut) is
pids_cause before now start next (told_end.Refused refused) is =
    report_cause tells_pids NO_PID before now start next (told_end.Refused refused) is
pids_cause before now start next told_end.Unread is =
    report_cause tells_pids NO_PID before now start next told_end.Unread is
pids_cause before now start next told_end.TooLong is =
    report_cause tells_pids NO_PID before now start next told_end.TooLong is
pids_cause before now start next told_end.Unwritten is =
    report_cause tells_pids NO_PID before now start next told_end.Unwritten is
pids_cause before now start next told_end.Memory is = inl is

pub pids_read : (before now : Supplied) (start next : Received) (ended : ToldEnd)
    → IsPidsEnd before now start next ended
    → HasToldPids (seen_of_stream before start) (seen_of_stream now next) (report_status ended)
pids_read before now start next (told_end.Done cut) is = tt
pids_read before now start next (told_end.Refused refused) is = tt
pids_read before now start next told_end.Unread is = is.1
pids_read before now start next told_end.TooLong is = tt
pids_read before now start next told_end.Unwritten is = tt
pids_read before now start next told_end.Memory is = is

pub pids_answered : (asked : Option PidsReport) (before now : Seen) (name : ReportFault → List ℕ)
    (notes_before notes_now : Received) (run answer : ToolStatus ReportFault) → HasPidsRead asked before now run
    → TellsTool name notes_before notes_now run answer → HasPidsRead asked before now answer
pids_answered None before now name notes_before notes_now run answer held tells = tt
pids_answered (Some report) before now name notes_before notes_now run answer held tells =
    answered (HasToldPids before now) name notes_before notes_now run answer tt held tells
