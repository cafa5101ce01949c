-- How `live` ends: what went in, what was written, and what the notes have.
use Rattle.std.specs.Prelude.{◌≡◌, ◌≢◌, ℕ, ◌+◌, ◌≤◌, ◌⊎◌, Bool, true, false, List, [], ◌∷◌, ◌++◌, length, Option, Some, None, codes}
use Rattle.std.specs.Io.KnownBytes.{Consumes}
use Rattle.bitmap_font.specs.Font.{FontValue}
use Rattle.command_text.specs.Lines.{line_end, then_number}
use Rattle.cue_records.specs.Rows.{Row, rows_of}
use Rattle.cue_list.specs.TakenRows.{IsScriptOf}
use Rattle.cue_list.specs.declared.script.Script.{Script}
use Rattle.script_input.specs.ReadScript.{HasFont, IsFontRefused, text_limit}
use Rattle.script_stream.specs.ShownRightly.{IsShownRightly}
use Rattle.shown_stream.specs.Compiled.{IsCompiledTo}
use Rattle.sub_base.specs.Counts.{HasRisen, HasRisenPast}
use Rattle.sub_base.specs.Endpoints.{Received, WasRead, Wrote, WrotePrefix, WroteNothing}
use Rattle.sub_base.specs.Seen.{Seen}
use Rattle.sub_base.specs.ToolOutcome.{Causes, IsToolUsage, TellsTool, tool_line, untold_tool}
use Rattle.sub_base.specs.declared.status.ToolStatus.{ToolStatus}
use Rattle.sub_base.specs.declared.status.ToolStatus.TheVariants as tool
use Rattle.sub_base.specs.declared.status.Which.TheVariants as which
use Rattle.live_plan.specs.FaultNames.{live_fault_name, row_fault_name}
use Rattle.live_plan.specs.LiveRows.{Inserter, IsBatchOf, IsDue, IsLetIn, IsPieceRefusedFor, RowOrTick, has_epoch, records_in, taken_as, compiling_by}
use Rattle.live_plan.specs.Pieces.{all_pieces, pieces_of}
use Rattle.live_plan.specs.declared.faults.LiveFault.{LiveFault}
use Rattle.live_plan.specs.declared.faults.LiveFault.TheVariants as live
use Rattle.live_plan.specs.declared.faults.RowFault.{RowFault}
use Rattle.live_plan.specs.declared.faults.RowFault.TheVariants as refused
use Rattle.live_plan.specs.declared.live_words.LiveCommand.{LiveCommand}

-- ---- pieces that went in

-- the line of a refused row, with its number among the pieces that have records
abbrev pub refused_line : ℕ → RowFault → List ℕ
refused_line number fault =
    (codes "refused" ++ then_number number) ++ (codes " " ++ (row_fault_name fault ++ line_end))

-- want of memory, which is no refusal
abbrev pub is_memory : RowFault → Bool
is_memory refused.Memory = true
is_memory (refused.Records count) = false
is_memory (refused.Script kind) = false
is_memory (refused.Early horizon) = false
is_memory (refused.Plan fault) = false
is_memory (refused.Schedule fault) = false

-- pieces went in one after the other: what was let in of them, the latest first, how many of them have records, and the
-- lines of the rows that were refused
pub data Runs (inserter : Inserter) : List (List ℕ) → List RowOrTick → ℕ → List ℕ → Type 0 where
  none_yet : Runs inserter [] [] 0 []
  passed_over : {pieces : List (List ℕ)} {past : List RowOrTick} {count : ℕ} {lines : List ℕ} (piece : List ℕ)
      → Runs inserter pieces past count lines → rows_of piece ≡ []
      → Runs inserter (pieces ++ piece ∷ []) past count lines
  let_in : {pieces : List (List ℕ)} {past : List RowOrTick} {count : ℕ} {lines : List ℕ} (piece : List ℕ) (cells : Row)
      → Runs inserter pieces past count lines → rows_of piece ≡ cells ∷ [] → IsLetIn inserter past cells
      → Runs inserter (pieces ++ piece ∷ []) (taken_as cells ∷ past) (count + 1) lines
  turned_away : {pieces : List (List ℕ)} {past : List RowOrTick} {count : ℕ} {lines : List ℕ} (piece : List ℕ)
      (fault : RowFault) → Runs inserter pieces past count lines → rows_of piece ≢ []
      → is_memory fault ≡ false → IsPieceRefusedFor inserter past piece fault
      → Runs inserter (pieces ++ piece ∷ []) past (count + 1) (lines ++ refused_line (count + 1) fault)

-- what is due when these pieces went in
pub record HasDue (inserter : Inserter) (pieces : List (List ℕ)) (due : List ℕ) : Type 0 where
  pub past : List RowOrTick
  pub count : ℕ
  pub lines : List ℕ
  pub runs : Runs inserter pieces past count lines
  pub is_due : IsDue inserter past due

-- bytes begin the packets of what was let in
abbrev pub BeginsBatch : Inserter → List RowOrTick → List ℕ → Type 0
BeginsBatch inserter past bytes = (more : List ℕ) × IsBatchOf inserter past (bytes ++ more)

-- ---- the end of the script

-- the script was read to its end, and the packets of what was let in of it were written, of which receivers show what
-- its rows author; the lines are those of all refused rows
pub record IsLiveDone (inserter : Inserter) (before now : Seen) (lines : List ℕ) : Type 0 where
  pub text : List ℕ
  pub read : WasRead text_limit before.first now.first text
  pub past : List RowOrTick
  pub count : ℕ
  pub runs : Runs inserter (all_pieces text) past count lines
  pub script : Script
  pub is_script : IsScriptOf inserter.font (records_in past) script
  pub packets : List ℕ
  pub sent : IsCompiledTo (compiling_by inserter script) packets
  pub written : Wrote before.out now.out packets
  pub shown : IsShownRightly (compiling_by inserter script) sent.sets sent.loads sent.table packets

-- the script was read to its end, and no epoch's row was let in of it; nothing was written
pub record IsWithoutEpoch (inserter : Inserter) (before now : Seen) (lines : List ℕ) : Type 0 where
  pub text : List ℕ
  pub read : WasRead text_limit before.first now.first text
  pub past : List RowOrTick
  pub count : ℕ
  pub runs : Runs inserter (all_pieces text) past count lines
  pub none : has_epoch (records_in past) ≡ false
  pub nothing : WroteNothing before.out now.out

-- ---- a run that stopped

-- a read failed: what is due was written, and no more, by the pieces that were read whole
pub record IsLiveUnread (inserter : Inserter) (before now : Seen) (lines : List ℕ) : Type 0 where
  pub text : List ℕ
  pub given : Consumes before.first.left now.first.left text
  pub past : List RowOrTick
  pub count : ℕ
  pub runs : Runs inserter (pieces_of text).whole past count lines
  pub due : List ℕ
  pub is_due : IsDue inserter past due
  pub written : Wrote before.out now.out due

-- it stopped with the last read, of at most 4,096 bytes, or behind it. All pieces went in that end before that read,
-- and perhaps some of those that follow them; what was due with the former was written, and all that was written begins
-- the packets of what was let in
pub record IsLiveStopped (inserter : Inserter) (before now : Seen) (lines : List ℕ) : Type 0 where
  pub earlier : List ℕ
  pub last : List ℕ
  pub few : length last ≤ 4096
  pub given : Consumes before.first.left now.first.left (earlier ++ last)
  pub further : List (List ℕ)
  pub left : List (List ℕ)
  pub pieces : all_pieces (earlier ++ last) ≡ ((pieces_of earlier).whole ++ further) ++ left
  pub past : List RowOrTick
  pub count : ℕ
  pub runs : Runs inserter ((pieces_of earlier).whole ++ further) past count lines
  pub due : List ℕ
  pub is_due : HasDue inserter (pieces_of earlier).whole due
  pub behind : List ℕ
  pub written : Wrote before.out now.out (due ++ behind)
  pub begins : BeginsBatch inserter past (due ++ behind)

-- it stopped before the script was read
pub record HasNotBegun (before now : Seen) (lines : List ℕ) : Type 0 where
  pub unread : now.first ≡ before.first
  pub nothing : WroteNothing before.out now.out
  pub untold : lines ≡ []

-- ---- causes

-- the inserter of a command, with the font that the second source has
abbrev pub inserter_of : LiveCommand → FontValue → Inserter
inserter_of command its_font =
    record { profile = command.profile; pid = command.pid; page = command.page; font = its_font }

-- the font was read, or none is named, and so it is for the inserter with this font
abbrev pub WithFont : LiveCommand → Seen → Seen → (Inserter → Type 0) → Type 0
WithFont command before now IsSo =
    (font : FontValue) × HasFont command.has_font before.second now.second font × IsSo (inserter_of command font)

-- a run stopped, whether it had begun or not
abbrev pub IsStopped : LiveCommand → Seen → Seen → List ℕ → Type 0
IsStopped command before now lines =
    HasNotBegun before now lines
    ⊎ WithFont command before now (λ inserter. IsLiveStopped inserter before now lines)

-- the font is refused, or no epoch's row was let in
abbrev pub IsLiveRefused : LiveCommand → Seen → Seen → List ℕ → LiveFault → Type 0
IsLiveRefused command before now lines (live.Font fault) =
    (command.has_font ≡ true) × IsFontRefused fault before.second now.second × HasNotBegun before now lines
IsLiveRefused command before now lines live.NoEpoch =
    WithFont command before now (λ inserter. IsWithoutEpoch inserter before now lines)

-- why a run ended with a status, and with these lines of refused rows
abbrev pub IsLiveEnd : LiveCommand → Seen → Seen → List ℕ → ToolStatus LiveFault → Type 0
IsLiveEnd command before now lines tool.Done =
    WithFont command before now (λ inserter. IsLiveDone inserter before now lines)
IsLiveEnd command before now lines tool.Usage = ⊥
IsLiveEnd command before now lines (tool.Refused fault) = IsLiveRefused command before now lines fault
IsLiveEnd command before now lines (tool.ReadFault which.First) =
    HasRisen before.first.faults now.first.faults
    × WithFont command before now (λ inserter. IsLiveUnread inserter before now lines)
IsLiveEnd command before now lines (tool.ReadFault which.Second) =
    (command.has_font ≡ true) × HasRisen before.second.faults now.second.faults × HasNotBegun before now lines
IsLiveEnd command before now lines (tool.ReadFault which.Out) = ⊥
IsLiveEnd command before now lines (tool.ReadFault which.Notes) = ⊥
IsLiveEnd command before now lines (tool.WriteFault which.First) = ⊥
IsLiveEnd command before now lines (tool.WriteFault which.Second) = ⊥
IsLiveEnd command before now lines (tool.WriteFault which.Out) =
    HasRisen before.out.faults now.out.faults
    × WithFont command before now (λ inserter. IsLiveStopped inserter before now lines)
IsLiveEnd command before now lines (tool.WriteFault which.Notes) = ⊥
IsLiveEnd command before now lines tool.Memory = IsStopped command before now lines
IsLiveEnd command before now lines (tool.InputTooLong which.First) =
    HasRisenPast text_limit before.first.given now.first.given
    × WithFont command before now (λ inserter. IsLiveStopped inserter before now lines)
IsLiveEnd command before now lines (tool.InputTooLong which.Second) =
    (command.has_font ≡ true) × HasRisenPast text_limit before.second.given now.second.given
    × HasNotBegun before now lines
IsLiveEnd command before now lines (tool.InputTooLong which.Out) = ⊥
IsLiveEnd command before now lines (tool.InputTooLong which.Notes) = ⊥

-- the notes have the lines of refused rows and then that of the run's status; or a prefix of these, and their count of
-- faults rose
abbrev pub TellsLive : List ℕ → Received → Received → ToolStatus LiveFault → ToolStatus LiveFault → Type 0
TellsLive lines before now run answer =
    (Wrote before now (lines ++ tool_line live_fault_name run) × (answer ≡ run))
    ⊎ (WrotePrefix before now (lines ++ tool_line live_fault_name run) × HasRisen before.faults now.faults
    × (answer ≡ untold_tool run))

-- a run that was told of by its status' line, which is the last
pub record IsLiveTold (command : LiveCommand) (before now : Seen) (notes_before notes_now : Received)
    (answer : ToolStatus LiveFault) : Type 0 where
  pub lines : List ℕ
  pub run : ToolStatus LiveFault
  pub end : IsLiveEnd command before now lines run
  pub told : TellsLive lines notes_before notes_now run answer

-- the line of a refused row could not be written: the run stopped at once, and no line follows
pub record IsUntold (command : LiveCommand) (before now : Seen) (notes_before notes_now : Received)
    (answer : ToolStatus LiveFault) : Type 0 where
  pub lines : List ℕ
  pub stopped : WithFont command before now (λ inserter. IsLiveStopped inserter before now lines)
  pub written : WrotePrefix notes_before notes_now lines
  pub rose : HasRisen notes_before.faults notes_now.faults
  pub answered : answer ≡ tool.WriteFault which.Notes

-- the cause of the status of `live`, and what the notes have
abbrev pub HasLiveCause : Option LiveCommand → Seen → Seen → Received → Received → ToolStatus LiveFault → Type 0
HasLiveCause None before now notes_before notes_now answer =
    IsToolUsage before now answer × TellsTool live_fault_name notes_before notes_now answer answer
HasLiveCause (Some command) before now notes_before notes_now answer =
    IsLiveTold command before now notes_before notes_now answer
    ⊎ IsUntold command before now notes_before notes_now answer

-- the causes of the statuses of `live`, whatever lines the notes have
abbrev pub live_causes : LiveCommand → Seen → Seen → Causes LiveFault
live_causes command before now = record {
  IsDone = (lines : List ℕ) × WithFont command before now (λ inserter. IsLiveDone inserter before now lines);
  IsRefused = λ fault. (lines : List ℕ) × IsLiveRefused command before now lines fault;
  IsStopped = (lines : List ℕ) × IsStopped command before now lines;
  limit = text_limit;
}

-- the second source is not called where no font is named
abbrev pub IsFontLeft : Option LiveCommand → Seen → Seen → Type 0
IsFontLeft None before now = now.second ≡ before.second
IsFontLeft (Some command) before now = command.has_font ≡ false → now.second ≡ before.second
