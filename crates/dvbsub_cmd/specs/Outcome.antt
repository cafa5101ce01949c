-- Why a command ended as it did, and what its sources and sinks show then.
use Rattle.std.specs.Prelude.{◌≡◌, ℕ, List, Option, Some, None, false, ◌⊎◌}
use Rattle.std.specs.Io.KnownBytes.{Appends}
use Rattle.sub_base.specs.Counts.{HasRisen}
use Rattle.sub_base.specs.Endpoints.{AppendsPrefix}
use Rattle.command_words.specs.Ticks.{asked_ticks}
use Rattle.dvbsub_words.specs.Command.{command_of}
use Rattle.dvbsub_cmd.specs.CompileOutcome.{IsCompileCause}
use Rattle.dvbsub_cmd.specs.Checks.{checks}
use Rattle.dvbsub_cmd.specs.Dumps.{dumps}
use Rattle.dvbsub_cmd.specs.ExpectOutcome.{IsExpectCause}
use Rattle.dvbsub_cmd.specs.GenOutcome.{IsGenCause}
use Rattle.list_text.specs.Listing.{lists}
use Rattle.sub_base.specs.Endpoints.{Received, WroteNothing}
use Rattle.sub_base.specs.Seen.{Seen}
use Rattle.dvbsub_cmd.specs.StatusText.{status_line}
use Rattle.dvbsub_cmd.specs.StreamOutcome.{IsStreamCause}
use Rattle.dvbsub_words.specs.declared.command.Command.{Command}
use Rattle.dvbsub_words.specs.declared.command.Command.TheVariants as command
use Rattle.dvbsub_cmd.specs.declared.status.Status.{Status}
use Rattle.dvbsub_cmd.specs.declared.status.Status.TheVariants as status
use Rattle.sub_base.specs.declared.status.Which.TheVariants as which

-- the cause of a status by the command, and what the output has received then: words that are no command end with the
-- usage, and no command does; neither these words nor `gen` call a source
abbrev pub IsCausedBy : List (List ℕ) → Option Command → Seen → Seen → Status → Type 0
IsCausedBy words None before now answer =
    (answer ≡ status.Usage) × (now.first ≡ before.first) × WroteNothing before.out now.out
IsCausedBy words (Some (command.Compile profile pid page has_font)) before now answer =
    IsCompileCause profile pid page has_font before now answer
IsCausedBy words (Some (command.List pid)) before now answer =
    IsStreamCause (lists pid) pid before.first now.first before.out now.out answer
IsCausedBy words (Some (command.Dump profile pid page bands)) before now answer =
    IsStreamCause (dumps profile pid page (asked_ticks 7 words)) pid before.first now.first before.out now.out answer
IsCausedBy words (Some (command.Check profile origin pid page)) before now answer =
    IsStreamCause (checks profile origin pid page) pid before.first now.first before.out now.out answer
IsCausedBy words (Some (command.Expect has_font)) before now answer =
    IsExpectCause has_font (asked_ticks 4 words) before now answer
IsCausedBy words (Some (command.Gen number profile)) before now answer =
    IsGenCause number profile before.out now.out answer × (now.first ≡ before.first)

-- the cause of a status by the words
abbrev pub IsCaused : List (List ℕ) → Seen → Seen → Status → Type 0
IsCaused words before now answer = IsCausedBy words (command_of words) before now answer

-- a command that names no font does not call the second source: these are its values before and now
abbrev pub IsSecondKept : {Origin : Type 0} → Option Command → Origin → Origin → Type 0
IsSecondKept None before now = now ≡ before
IsSecondKept (Some (command.Compile profile pid page has_font)) before now = has_font ≡ false → now ≡ before
IsSecondKept (Some (command.List pid)) before now = now ≡ before
IsSecondKept (Some (command.Dump profile pid page bands)) before now = now ≡ before
IsSecondKept (Some (command.Check profile origin pid page)) before now = now ≡ before
IsSecondKept (Some (command.Expect has_font)) before now = has_font ≡ false → now ≡ before
IsSecondKept (Some (command.Gen number profile)) before now = now ≡ before

-- the answer where the line of a status could not be written: what was done whole is a write fault of the notes
abbrev pub untold : Status → Status
untold (status.Done cut) = status.WriteFault which.Notes
untold other = other

-- the notes have received the line of the run's status; or a prefix of it, and their count of faults rose
abbrev pub TellsStatus : Received → Received → Status → Status → Type 0
TellsStatus before now run answer =
    (Appends before.written now.written (status_line run) × (answer ≡ run))
    ⊎ (AppendsPrefix before.written now.written (status_line run) × HasRisen before.faults now.faults
    × (answer ≡ untold run))

-- the cause of the status that a command answers, and its line in the notes
abbrev pub HasCause : List (List ℕ) → Seen → Seen → Received → Received → Status → Type 0
HasCause words before now notes_before notes_now answer =
    (run : Status) × IsCaused words before now run × TellsStatus notes_before notes_now run answer
