-- The causes of the statuses of `live`, and what its notes have.
use Rattle.std.proofs.Common.{◌≡◌, ◌∙◌, ◌⊎◌, inl, inr, refl, sym, ap, subst, ℕ, ◌<◌, true, false, List, [], ◌++◌, Option, Some, None, Result, Ok, Err, arith, append_assoc, append-nil}
use Rattle.std.proofs.KnownBytes.{Appends-nil, Appends-trans, Keeps-refl}
use Rattle.std.specs.Io.KnownBytes.{Consumes}
use Rattle.bitmap_font.specs.Font.{FontValue}
use Rattle.script_input.specs.ReadScript.{HasFont, IsFontEnd}
use Rattle.script_input.specs.declared.input_end.FontEnd.{FontEnd}
use Rattle.script_input.specs.declared.input_end.FontEnd.TheVariants as font
use Rattle.script_stream.proofs.ShownLaws.{compiled_is_shown}
use Rattle.shown_stream.specs.Compiled.{IsCompiledFor}
use Rattle.stream_syntax.specs.declared.wire.TheConstants.{NULL_PID}
use Rattle.sub_base.proofs.TransferSteps.{HasRisen-since}
use Rattle.sub_base.specs.Endpoints.{Received, Supplied}
use Rattle.sub_base.specs.Seen.{Seen, seen}
use Rattle.sub_base.specs.ToolOutcome.{IsToolComplete, IsToolUntroubled, IsToolWhole, TellsTool, tool_line}
use Rattle.sub_base.specs.declared.faults.WriteFailed.{WriteFailed}
use Rattle.sub_base.specs.declared.status.ToolStatus.{ToolStatus}
use Rattle.sub_base.specs.declared.status.ToolStatus.TheVariants as tool
use Rattle.sub_base.specs.declared.status.Which.TheVariants as which
use Rattle.live_plan.proofs.ReadLaws.{all_pieces-rest}
use Rattle.live_plan.proofs.RunLaws.{paid_due, prefix_behind}
use Rattle.live_plan.specs.FaultNames.{live_fault_name}
use Rattle.live_plan.specs.LiveOutcome.{HasLiveCause, HasNotBegun, IsLiveDone, IsLiveEnd, IsLiveStopped, IsLiveUnread, IsLiveTold, Runs, TellsLive, inserter_of, live_causes}
use Rattle.live_plan.specs.LiveRows.{Inserter, IsBatchOf, compiling_by}
use Rattle.live_plan.specs.Pieces.{all_pieces, pieces_of, rest_only}
use Rattle.live_plan.specs.Private.Running.{Begun, IsFinished, IsHalted, IsSentWhole}
use Rattle.live_plan.specs.Private.RunningEnds.{IsLiveRun, IsRunEnd, IsToldSoFar, font_status, run_status}
use Rattle.live_plan.specs.Private.RunningReads.{HasReadAll, IsCutShort, IsReadStop, IsRestTaken, IsUnreadRun}
use Rattle.live_plan.specs.declared.faults.LiveFault.{LiveFault}
use Rattle.live_plan.specs.declared.faults.LiveFault.TheVariants as live
use Rattle.live_plan.specs.declared.live_words.LiveCommand.{LiveCommand}
use Rattle.live_plan.specs.declared.run.Run.{Run}
use Rattle.live_plan.specs.declared.run.Stop.{Stop}
use Rattle.live_plan.specs.declared.run.Stop.TheVariants as stop

-- ---- how a run ended

module _ (begun : Begun) (first now_first second now_second : Supplied) (out notes : Received) where
  -- what is seen before the run and now
  abbrev pub seen_before : Seen
  seen_before = seen first second begun.out

  abbrev pub seen_now : Seen
  seen_now = seen now_first now_second out

  -- a run that stopped
  cut_stopped : (stop : Stop) (cut : IsCutShort begun first now_first out notes stop)
      → IsLiveStopped begun.inserter seen_before seen_now cut.halted.lines
  cut_stopped stop cut =
      let halted = cut.halted in
      record {
        earlier = cut.earlier;
        last = cut.last;
        few = cut.few;
        given = cut.given;
        further = halted.further;
        left = halted.left;
        pieces = cut.pieces
            ∙ (ap (λ l. (pieces_of cut.earlier).whole ++ l) halted.parts
            ∙ sym (append_assoc (pieces_of cut.earlier).whole halted.further halted.left));
        past = halted.past;
        count = halted.count;
        runs = halted.runs;
        due = halted.due;
        is_due = halted.is_due;
        behind = halted.behind;
        written = halted.written;
        begins = halted.begins;
      }

  unread : (is : IsUnreadRun begun first now_first out notes)
      → IsLiveUnread begun.inserter seen_before seen_now is.paid.0.lines
  unread is =
      let taken = is.paid.0 in
      record {
        text = is.text;
        given = is.given;
        past = taken.past;
        count = is.run.count;
        runs = subst (λ pieces. Runs begun.inserter pieces taken.past is.run.count taken.lines)
            (append-nil (pieces_of is.text).whole) taken.runs;
        due = taken.due ++ taken.behind;
        is_due = paid_due begun (pieces_of is.text).whole [] out notes is.run is.paid;
        written = taken.written;
      }

  pub read_ended : (stop : Stop) → IsReadStop begun first now_first out notes stop
      → IsRunEnd begun.inserter seen_before seen_now begun.notes notes (Err stop)
  read_ended stop.Memory cut = (cut.halted.lines, inr (cut_stopped stop.Memory cut), cut.halted.halt)
  read_ended stop.Out cut =
      (cut.halted.halt.0, cut.halted.lines, cut_stopped stop.Out cut, (cut.halted.halt.1, cut.halted.halt.2))
  read_ended stop.Notes cut =
      (cut.halted.halt.0, cut.halted.lines, cut_stopped stop.Notes cut, cut.halted.halt.1)
  read_ended stop.Unread (rose, is) =
      (rose, is.paid.0.lines, unread is, (is.paid.0.told, is.paid.0.notes_kept))
  read_ended stop.TooLong (past, cut) =
      (past, cut.halted.lines, cut_stopped stop.Memory cut, cut.halted.halt)
  read_ended stop.NoEpoch cut = absurd cut

  -- the script was read to its end
  module _ (its_out its_notes : Received) (its_run : Run) (rest : List ℕ)
      (all : HasReadAll begun first now_first its_out its_notes its_run rest) where
    -- all its pieces
    all_in : (pieces_of all.text).whole ++ rest_only rest ≡ all_pieces all.text
    all_in =
        ap (λ l. (pieces_of all.text).whole ++ rest_only l) all.rest_is ∙ sym (all_pieces-rest all.text)

    -- a run that stopped behind the last read
    cut_behind : (stop : Stop) → IsHalted begun (pieces_of all.text).whole (rest_only rest) out notes stop
        → IsCutShort begun first now_first out notes stop
    cut_behind stop halted =
        let bare : all.text ≡ all.text ++ [] = sym (append-nil all.text) in
        record {
          earlier = all.text;
          last = [];
          few = omega arith;
          given = subst (Consumes first.left now_first.left) bare all.read.whole;
          ahead = rest_only rest;
          pieces = ap all_pieces (sym bare) ∙ sym all_in;
          halted = halted;
        }

    halted_behind : (stop : Stop) → IsHalted begun (pieces_of all.text).whole (rest_only rest) out notes stop
        → IsRunEnd begun.inserter seen_before seen_now begun.notes notes (Err stop)
    halted_behind stop.Memory halted = read_ended stop.Memory (cut_behind stop.Memory halted)
    halted_behind stop.Out halted = read_ended stop.Out (cut_behind stop.Out halted)
    halted_behind stop.Notes halted = read_ended stop.Notes (cut_behind stop.Notes halted)
    halted_behind stop.Unread halted = absurd halted.halt
    halted_behind stop.TooLong halted = absurd halted.halt
    halted_behind stop.NoEpoch halted = absurd halted.halt

    pub rest_ended : (run : Run) (stop : Stop)
        → IsRestTaken begun (pieces_of all.text).whole rest out notes run (Err stop)
        → IsRunEnd begun.inserter seen_before seen_now begun.notes notes (Err stop)
    rest_ended run stop halted = halted_behind stop halted

    -- all packets were written
    done : IsCompiledFor begun.inserter.profile → begun.inserter.pid < NULL_PID
        → (sent : IsSentWhole begun (pieces_of all.text).whole (rest_only rest) out notes)
        → IsLiveDone begun.inserter seen_before seen_now sent.lines
    done compiled free sent = by sent.batch
      where
        by : IsBatchOf begun.inserter sent.past sent.packets → IsLiveDone begun.inserter seen_before seen_now sent.lines
        by (inl (none, nothing)) = absurd (let clash : true ≡ false = sym sent.epoch ∙ none in cc)
        by (inr (some, script, right, to)) = record {
          text = all.text;
          read = all.read;
          past = sent.past;
          count = sent.count;
          runs = subst (λ pieces. Runs begun.inserter pieces sent.past sent.count sent.lines) all_in sent.runs;
          script = script;
          is_script = right;
          packets = sent.packets;
          sent = to;
          written = sent.written;
          shown = compiled_is_shown (compiling_by begun.inserter script) sent.packets
              free compiled to;
        }

    pub finish_ended : (answer : Result Unit Stop) → IsCompiledFor begun.inserter.profile
        → begun.inserter.pid < NULL_PID
        → IsFinished begun (pieces_of all.text).whole (rest_only rest) out notes answer
        → IsRunEnd begun.inserter seen_before seen_now begun.notes notes answer
    finish_ended (Ok tt) compiled free sent =
        (sent.lines, done compiled free sent, (sent.told, sent.notes_kept))
    finish_ended (Err stop.NoEpoch) compiled free sent = (
      sent.lines,
      record {
        text = all.text;
        read = all.read;
        past = sent.past;
        count = sent.count;
        runs = subst (λ pieces. Runs begun.inserter pieces sent.past sent.count sent.lines) all_in sent.runs;
        none = sent.none;
        nothing = sent.nothing;
      },
      (sent.told, sent.notes_kept),
    )
    finish_ended (Err stop.Out) compiled free halted = halted_behind stop.Out halted
    finish_ended (Err stop.Memory) compiled free never = absurd never
    finish_ended (Err stop.Notes) compiled free never = absurd never
    finish_ended (Err stop.Unread) compiled free never = absurd never
    finish_ended (Err stop.TooLong) compiled free never = absurd never

-- memory was wanting before the script was read
pub not_begun : (inserter : Inserter) (first second now_second : Supplied) (out notes : Received)
    → IsRunEnd inserter (seen first second out) (seen first now_second out) notes notes (Err stop.Memory)
not_begun inserter first second now_second out notes = (
  [],
  inl (record { unread = refl; nothing = Keeps-refl out.written; untold = refl }),
  (Appends-nil notes.written, omega arith),
)

-- ---- statuses

-- the status of a run in a font
pub run_ended : (command : LiveCommand) (its_font : FontValue) (before now : Seen) (notes_before notes_now : Received)
    (answer : Result Unit Stop) → HasFont command.has_font before.second now.second its_font
    → IsRunEnd (inserter_of command its_font) before now notes_before notes_now answer
    → IsLiveRun command before now notes_before notes_now (run_status answer)
run_ended command its_font before now notes_before notes_now (Ok tt) has (lines, is, told) =
    (lines, (its_font, has, is), told)
run_ended command its_font before now notes_before notes_now (Err stop.Memory) has (lines, inl none, told) =
    (lines, inl none, told)
run_ended command its_font before now notes_before notes_now (Err stop.Memory) has (lines, inr is, told) =
    (lines, inr (its_font, has, is), told)
run_ended command its_font before now notes_before notes_now (Err stop.Out) has (rose, lines, is, told) =
    (lines, (rose, (its_font, has, is)), told)
run_ended command its_font before now notes_before notes_now (Err stop.Notes) has (rose, lines, is, front) =
    (rose, lines, (its_font, has, is), front)
run_ended command its_font before now notes_before notes_now (Err stop.Unread) has (rose, lines, is, told) =
    (lines, (rose, (its_font, has, is)), told)
run_ended command its_font before now notes_before notes_now (Err stop.TooLong) has (past, lines, is, told) =
    (lines, (past, (its_font, has, is)), told)
run_ended command its_font before now notes_before notes_now (Err stop.NoEpoch) has (lines, is, told) =
    (lines, (its_font, has, is), told)

-- the status where the font was not read
pub font_ended : (command : LiveCommand) (first second now_second : Supplied) (out notes : Received) (end : FontEnd)
    → IsFontEnd command.has_font second now_second end
    → IsLiveRun command (seen first second out) (seen first now_second out) notes notes (Ok (font_status end))
font_ended command first second now_second out notes end cause = by end cause
  where
    untouched : HasNotBegun (seen first second out) (seen first now_second out) []
    untouched = record { unread = refl; nothing = Keeps-refl out.written; untold = refl }

    untold : IsToldSoFar notes notes []
    untold = (Appends-nil notes.written, omega arith)

    by : (end : FontEnd) → IsFontEnd command.has_font second now_second end
        → IsLiveRun command (seen first second out) (seen first now_second out) notes notes (Ok (font_status end))
    by (font.Refused fault) (named, cause) = ([], (named, cause, untouched), untold)
    by font.Unread (named, rose, within) = ([], (named, rose, untouched), untold)
    by font.TooLong (named, past) = ([], (named, past, untouched), untold)
    by font.Memory is = ([], inl untouched, untold)

-- ---- notes

-- the status' line behind the lines of refused rows
told_behind : (lines : List ℕ) (before mid now : Received) (run answer : ToolStatus LiveFault)
    → IsToldSoFar before mid lines → TellsTool live_fault_name mid now run answer
    → TellsLive lines before now run answer
told_behind lines before mid now run answer (wrote, kept) (inl (line, is)) =
    inl (Appends-trans before.written mid.written now.written lines (tool_line live_fault_name run) wrote line, is)
told_behind lines before mid now run answer (wrote, kept) (inr (front, rose, is)) = inr (
  prefix_behind before.written mid.written now.written lines (tool_line live_fault_name run) wrote front,
  HasRisen-since before.faults mid.faults now.faults kept rose,
  is,
)

-- a status that is told of
pub status_told : (command : LiveCommand) (before now : Seen) (notes_before notes_mid notes_now : Received)
    (run answer : ToolStatus LiveFault) → IsLiveRun command before now notes_before notes_mid (Ok run)
    → TellsTool live_fault_name notes_mid notes_now run answer
    → HasLiveCause (Some command) before now notes_before notes_now answer
status_told command before now notes_before notes_mid notes_now run answer (lines, end, told) tells = inl (record {
  lines = lines;
  run = run;
  end = end;
  told = told_behind lines notes_before notes_mid notes_now run answer told tells;
})

-- the line of a refused row was not written
pub status_untold : (command : LiveCommand) (before now : Seen) (notes_before notes_now : Received)
    (failed : WriteFailed) → IsLiveRun command before now notes_before notes_now (Err failed)
    → HasLiveCause (Some command) before now notes_before notes_now (tool.WriteFault which.Notes)
status_untold command before now notes_before notes_now failed (rose, lines, stopped, front) = inr (record {
  lines = lines;
  stopped = stopped;
  written = front;
  rose = rose;
  answered = refl;
})

-- ---- where nothing gives a cause of refusal

module _ (command : LiveCommand) (before now : Seen) (notes_before notes_now : Received) where
  abbrev IsWhole : ToolStatus LiveFault → Type 0
  IsWhole status = (status ≡ tool.Done) ⊎ (status ≡ tool.Memory)

  untroubled : (lines : List ℕ) (run : ToolStatus LiveFault) → IsLiveEnd command before now lines run
      → IsToolUntroubled LiveFault (live_causes command before now) before now notes_before notes_now → IsWhole run
  untroubled lines tool.Done end calm = inl refl
  untroubled lines tool.Usage end calm = absurd end
  untroubled lines (tool.Refused (live.Font fault)) end calm = absurd (calm.unrefused (live.Font fault) (lines, end))
  untroubled lines (tool.Refused live.NoEpoch) end calm = absurd (calm.unrefused live.NoEpoch (lines, end))
  untroubled lines (tool.ReadFault which.First) end calm = absurd (calm.first_read end.0)
  untroubled lines (tool.ReadFault which.Second) end calm = absurd (calm.second_read end.1)
  untroubled lines (tool.ReadFault which.Out) end calm = absurd end
  untroubled lines (tool.ReadFault which.Notes) end calm = absurd end
  untroubled lines (tool.WriteFault which.First) end calm = absurd end
  untroubled lines (tool.WriteFault which.Second) end calm = absurd end
  untroubled lines (tool.WriteFault which.Out) end calm = absurd (calm.written end.0)
  untroubled lines (tool.WriteFault which.Notes) end calm = absurd end
  untroubled lines tool.Memory end calm = inr refl
  untroubled lines (tool.InputTooLong which.First) end calm = absurd (calm.first_within end.0)
  untroubled lines (tool.InputTooLong which.Second) end calm = absurd (calm.second_within end.1)
  untroubled lines (tool.InputTooLong which.Out) end calm = absurd end
  untroubled lines (tool.InputTooLong which.Notes) end calm = absurd end

  told_whole : (answer : ToolStatus LiveFault) (told : IsLiveTold command before now notes_before notes_now answer)
      → TellsLive told.lines notes_before notes_now told.run answer
      → IsToolComplete (live_causes command before now) before now notes_before notes_now answer
  told_whole answer told (inl line) =
      λ calm. subst IsWhole (sym line.1) (untroubled told.lines told.run told.end calm)
  told_whole answer told (inr front) = λ calm. absurd (calm.told front.1)

  command_whole : (answer : ToolStatus LiveFault)
      → HasLiveCause (Some command) before now notes_before notes_now answer
      → IsToolComplete (live_causes command before now) before now notes_before notes_now answer
  command_whole answer (inl told) = told_whole answer told told.told
  command_whole answer (inr untold) = λ calm. absurd (calm.told untold.rose)

-- by the command that the words are
pub live_whole : (command : Option LiveCommand) (before now : Seen) (notes_before notes_now : Received)
    (answer : ToolStatus LiveFault) → HasLiveCause command before now notes_before notes_now answer
    → IsToolWhole live_causes command before now notes_before notes_now answer
live_whole None before now notes_before notes_now answer cause = tt
live_whole (Some command) before now notes_before notes_now answer cause =
    command_whole command before now notes_before notes_now answer cause
