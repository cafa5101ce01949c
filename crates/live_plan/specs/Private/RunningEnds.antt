-- How a run of the live inserter ends, and its status.
use Rattle.std.specs.Prelude.{ℕ, ◌≤◌, ◌⊎◌, List, Result, Ok, Err}
use Rattle.script_input.specs.ReadScript.{text_limit}
use Rattle.script_input.specs.declared.input_end.FontEnd.{FontEnd}
use Rattle.script_input.specs.declared.input_end.FontEnd.TheVariants as font
use Rattle.sub_base.specs.Counts.{HasRisen, HasRisenPast}
use Rattle.sub_base.specs.Endpoints.{Received, Wrote, WrotePrefix}
use Rattle.sub_base.specs.Seen.{Seen}
use Rattle.sub_base.specs.declared.faults.WriteFailed.{WriteFailed}
use Rattle.sub_base.specs.declared.status.ToolStatus.{ToolStatus}
use Rattle.sub_base.specs.declared.status.ToolStatus.TheVariants as tool
use Rattle.sub_base.specs.declared.status.Which.TheVariants as which
use Rattle.live_plan.specs.LiveOutcome.{HasNotBegun, IsLiveDone, IsLiveEnd, IsLiveStopped, IsLiveUnread, IsWithoutEpoch, WithFont}
use Rattle.live_plan.specs.LiveRows.{Inserter}
use Rattle.live_plan.specs.declared.faults.LiveFault.{LiveFault}
use Rattle.live_plan.specs.declared.faults.LiveFault.TheVariants as live
use Rattle.live_plan.specs.declared.live_words.LiveCommand.{LiveCommand}
use Rattle.live_plan.specs.declared.run.Stop.{Stop}
use Rattle.live_plan.specs.declared.run.Stop.TheVariants as stop

-- the notes have the lines of all refused rows so far
abbrev pub IsToldSoFar : Received → Received → List ℕ → Type 0
IsToldSoFar before now lines = Wrote before now lines × (before.faults ≤ now.faults)

-- how a script was inserted, or why not
abbrev pub IsRunEnd : Inserter → Seen → Seen → Received → Received → Result Unit Stop → Type 0
IsRunEnd inserter before now notes_before notes_now (Ok done) =
    (lines : List ℕ) × IsLiveDone inserter before now lines × IsToldSoFar notes_before notes_now lines
IsRunEnd inserter before now notes_before notes_now (Err stop.Memory) =
    (lines : List ℕ) × (HasNotBegun before now lines ⊎ IsLiveStopped inserter before now lines)
    × IsToldSoFar notes_before notes_now lines
IsRunEnd inserter before now notes_before notes_now (Err stop.Out) =
    HasRisen before.out.faults now.out.faults
    × (lines : List ℕ) × IsLiveStopped inserter before now lines × IsToldSoFar notes_before notes_now lines
IsRunEnd inserter before now notes_before notes_now (Err stop.Notes) =
    HasRisen notes_before.faults notes_now.faults
    × (lines : List ℕ) × IsLiveStopped inserter before now lines × WrotePrefix notes_before notes_now lines
IsRunEnd inserter before now notes_before notes_now (Err stop.Unread) =
    HasRisen before.first.faults now.first.faults
    × (lines : List ℕ) × IsLiveUnread inserter before now lines × IsToldSoFar notes_before notes_now lines
IsRunEnd inserter before now notes_before notes_now (Err stop.TooLong) =
    HasRisenPast text_limit before.first.given now.first.given
    × (lines : List ℕ) × IsLiveStopped inserter before now lines × IsToldSoFar notes_before notes_now lines
IsRunEnd inserter before now notes_before notes_now (Err stop.NoEpoch) =
    (lines : List ℕ) × IsWithoutEpoch inserter before now lines × IsToldSoFar notes_before notes_now lines

-- ---- statuses

-- the status of a run, which its line tells; where the line of a refused row could not be written none follows
abbrev pub run_status : Result Unit Stop → Result (ToolStatus LiveFault) WriteFailed
run_status (Ok done) = Ok tool.Done
run_status (Err stop.Memory) = Ok tool.Memory
run_status (Err stop.Out) = Ok (tool.WriteFault which.Out)
run_status (Err stop.Notes) = Err (record {})
run_status (Err stop.Unread) = Ok (tool.ReadFault which.First)
run_status (Err stop.TooLong) = Ok (tool.InputTooLong which.First)
run_status (Err stop.NoEpoch) = Ok (tool.Refused live.NoEpoch)

-- the status where the font was not read
abbrev pub font_status : FontEnd → ToolStatus LiveFault
font_status (font.Refused fault) = tool.Refused (live.Font fault)
font_status font.Unread = tool.ReadFault which.Second
font_status font.TooLong = tool.InputTooLong which.Second
font_status font.Memory = tool.Memory

-- a run that is told of by its status' line, or one that stopped as the line of a refused row could not be written
abbrev pub IsLiveRun : LiveCommand → Seen → Seen → Received → Received → Result (ToolStatus LiveFault) WriteFailed
    → Type 0
IsLiveRun command before now notes_before notes_now (Ok status) =
    (lines : List ℕ) × IsLiveEnd command before now lines status × IsToldSoFar notes_before notes_now lines
IsLiveRun command before now notes_before notes_now (Err failed) =
    HasRisen notes_before.faults notes_now.faults
    × (lines : List ℕ) × WithFont command before now (λ inserter. IsLiveStopped inserter before now lines)
    × WrotePrefix notes_before notes_now lines
