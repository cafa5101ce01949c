-- What was compiled is shown, and told.
use Rattle.std.proofs.Common.{Bool, List, ℕ, Option, Some, None, inl, inr, sym, subst}
use Rattle.sub_base.specs.Endpoints.{Received}
use Rattle.sub_base.specs.Seen.{Seen}
use Rattle.sub_base.specs.declared.profile.ProfileName.{ProfileName}
use Rattle.dvbsub_cmd.specs.CompileOutcome.{IsCompileCause, ShowsScript}
use Rattle.dvbsub_cmd.specs.Headline.{OnDone, IsShownBy}
use Rattle.dvbsub_cmd.specs.Outcome.{HasCause, IsCausedBy, TellsStatus, untold}
use Rattle.dvbsub_words.specs.Command.{command_of}
use Rattle.dvbsub_words.specs.declared.command.Command.{Command}
use Rattle.dvbsub_words.specs.declared.command.Command.TheVariants as command
use Rattle.dvbsub_cmd.specs.declared.status.Status.{Status}
use Rattle.dvbsub_cmd.specs.declared.status.Status.TheVariants as status

-- the cause of a script that was compiled says what is shown of it
compile_shown : (profile : ProfileName) (pid page : ℕ) (has_font : Bool) (before now : Seen) (run : Status)
    → IsCompileCause profile pid page has_font before now run
    → OnDone run (ShowsScript profile pid page has_font before now)
compile_shown profile pid page has_font before now (status.Done cut) cause = cause.0
compile_shown profile pid page has_font before now status.Usage cause = tt
compile_shown profile pid page has_font before now (status.FontRefused fault) cause = tt
compile_shown profile pid page has_font before now (status.ScriptRefused fault) cause = tt
compile_shown profile pid page has_font before now (status.PlanRefused fault) cause = tt
compile_shown profile pid page has_font before now (status.ScheduleRefused row fault) cause = tt
compile_shown profile pid page has_font before now (status.StreamRefused packet fault) cause = tt
compile_shown profile pid page has_font before now (status.ReadFault which) cause = tt
compile_shown profile pid page has_font before now (status.WriteFault which) cause = tt
compile_shown profile pid page has_font before now status.Memory cause = tt
compile_shown profile pid page has_font before now (status.InputTooLong which) cause = tt

run_shown : (words : List (List ℕ)) (command : Option Command) (before now : Seen) (run : Status)
    → IsCausedBy words command before now run → IsShownBy command before now run
run_shown words None before now run cause = tt
run_shown words (Some (command.Compile profile pid page has_font)) before now run cause =
    compile_shown profile pid page has_font before now run cause
run_shown words (Some (command.List pid)) before now run cause = tt
run_shown words (Some (command.Dump profile pid page bands)) before now run cause = tt
run_shown words (Some (command.Check profile origin pid page)) before now run cause = tt
run_shown words (Some (command.Expect has_font)) before now run cause = tt
run_shown words (Some (command.Gen number profile)) before now run cause = tt

-- a status whose line could not be written is not that a command was done
untold_is_not_done : (command : Option Command) (before now : Seen) (run : Status)
    → IsShownBy command before now (untold run)
untold_is_not_done None before now run = tt
untold_is_not_done (Some (command.List pid)) before now run = tt
untold_is_not_done (Some (command.Dump profile pid page bands)) before now run = tt
untold_is_not_done (Some (command.Check profile origin pid page)) before now run = tt
untold_is_not_done (Some (command.Expect has_font)) before now run = tt
untold_is_not_done (Some (command.Gen number profile)) before now run = tt
untold_is_not_done (Some (command.Compile profile pid page has_font)) before now run = by run
  where
    by : (run : Status) → OnDone (untold run) (ShowsScript profile pid page has_font before now)
    by (status.Done cut) = tt
    by status.Usage = tt
    by (status.FontRefused fault) = tt
    by (status.ScriptRefused fault) = tt
    by (status.PlanRefused fault) = tt
    by (status.ScheduleRefused row fault) = tt
    by (status.StreamRefused packet fault) = tt
    by (status.ReadFault which) = tt
    by (status.WriteFault which) = tt
    by status.Memory = tt
    by (status.InputTooLong which) = tt

-- what was shown of a run is shown of the answer that tells it
shown_as_told : (command : Option Command) (before now : Seen) (notes_before notes_now : Received)
    (run answer : Status) → IsShownBy command before now run → TellsStatus notes_before notes_now run answer
    → IsShownBy command before now answer
shown_as_told command before now notes_before notes_now run answer is (inl line) =
    subst (IsShownBy command before now) (sym line.1) is
shown_as_told command before now notes_before notes_now run answer is (inr front) =
    subst (IsShownBy command before now) (sym front.2) (untold_is_not_done command before now run)

-- what has its cause is shown: of the script and the packets of that cause
pub shown_by_cause : (words : List (List ℕ)) (before now : Seen) (notes_before notes_now : Received) (answer : Status)
    → HasCause words before now notes_before notes_now answer → IsShownBy (command_of words) before now answer
shown_by_cause words before now notes_before notes_now answer cause =
    shown_as_told (command_of words) before now notes_before notes_now cause.0 answer
    (run_shown words (command_of words) before now cause.0 cause.1) cause.2
