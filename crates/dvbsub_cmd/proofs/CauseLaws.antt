-- Where nothing gives a cause of refusal, each command is done whole, or memory is wanting.
use Rattle.std.proofs.Common.{◌≡◌, ℕ, Bool, List, Option, Some, None, ◌⊎◌, inl, inr, refl, sym, subst}
use Rattle.cue_list.specs.declared.script.Script.{Script}
use Rattle.sub_base.specs.Counts.{HasRisen}
use Rattle.sub_base.specs.declared.profile.ProfileName.{ProfileName}
use Rattle.dvbsub_cmd.specs.Checks.{checks}
use Rattle.command_words.specs.Ticks.{asked_ticks}
use Rattle.dvbsub_words.specs.Command.{command_of}
use Rattle.dvbsub_cmd.specs.CompileOutcome.{IsCompileCause, IsCompilable}
use Rattle.dvbsub_cmd.specs.Completeness.{IsComplete, IsUntroubled}
use Rattle.packet_walk.specs.ToldEnds.{IsReadableStream, Telling}
use Rattle.dvbsub_cmd.specs.Dumps.{dumps}
use Rattle.dvbsub_cmd.specs.ExpectOutcome.{IsExpectCause, IsExpectable}
use Rattle.dvbsub_cmd.specs.GenOutcome.{IsGenCause}
use Rattle.list_text.specs.Listing.{lists}
use Rattle.dvbsub_cmd.specs.Outcome.{HasCause, IsCausedBy, TellsStatus}
use Rattle.script_input.specs.ReadScript.{HasValidScript}
use Rattle.dvbsub_cmd.specs.InputStatus.{IsInputCause}
use Rattle.sub_base.specs.Endpoints.{Supplied, Received}
use Rattle.sub_base.specs.Seen.{Seen}
use Rattle.dvbsub_cmd.specs.StreamOutcome.{IsStreamCause}
use Rattle.dvbsub_words.specs.declared.command.Command.{Command}
use Rattle.dvbsub_words.specs.declared.command.Command.TheVariants as command
use Rattle.dvbsub_cmd.specs.declared.status.Status.{Status}
use Rattle.dvbsub_cmd.specs.declared.status.Status.TheVariants as status
use Rattle.sub_base.specs.declared.status.Which.TheVariants as which

-- done whole, or memory is wanting
abbrev pub IsWhole : Status → Type 0
IsWhole answer = ((cut : ℕ) × (answer ≡ status.Done cut)) ⊎ (answer ≡ status.Memory)

-- inputs that nothing stops give no cause but want of memory
calm_input : (has_font : Bool) (a b c d : Supplied) (P : Script → Type 0) (run : Status)
    → IsInputCause has_font a b c d run → HasValidScript has_font a b c d P → IsWhole run
calm_input has_font a b c d P (status.Done cut) cause calm = absurd cause
calm_input has_font a b c d P status.Usage cause calm = absurd cause
calm_input has_font a b c d P (status.FontRefused fault) cause calm = absurd (calm.font_valid fault cause.0 cause.1)
calm_input has_font a b c d P (status.ScriptRefused fault) cause calm = absurd (calm.script_valid fault cause)
calm_input has_font a b c d P (status.PlanRefused fault) cause calm = absurd cause
calm_input has_font a b c d P (status.ScheduleRefused row fault) cause calm = absurd cause
calm_input has_font a b c d P (status.StreamRefused packet fault) cause calm = absurd cause
calm_input has_font a b c d P (status.ReadFault which.First) cause calm = absurd (calm.first_read cause.1)
calm_input has_font a b c d P (status.ReadFault which.Second) cause calm = absurd (calm.second_read cause.0 cause.1)
calm_input has_font a b c d P (status.ReadFault which.Out) cause calm = absurd cause
calm_input has_font a b c d P (status.ReadFault which.Notes) cause calm = absurd cause
calm_input has_font a b c d P (status.WriteFault which) cause calm = absurd cause
calm_input has_font a b c d P status.Memory cause calm = inr refl
calm_input has_font a b c d P (status.InputTooLong which.First) cause calm = absurd (calm.first_within cause.1)
calm_input has_font a b c d P (status.InputTooLong which.Second) cause calm =
    absurd (calm.second_within cause.0 cause.1)
calm_input has_font a b c d P (status.InputTooLong which.Out) cause calm = absurd cause
calm_input has_font a b c d P (status.InputTooLong which.Notes) cause calm = absurd cause

compile_whole : (profile : ProfileName) (pid page : ℕ) (has_font : Bool) (before now : Seen) (run : Status)
    → IsCompileCause profile pid page has_font before now run →
    (HasRisen before.out.faults now.out.faults → ⊥) → IsCompilable profile has_font before now → IsWhole run
compile_whole profile pid page has_font before now (status.Done cut) cause written calm = inl (cut, refl)
compile_whole profile pid page has_font before now status.Usage cause written calm = absurd cause
compile_whole profile pid page has_font before now (status.FontRefused fault) cause written calm =
    calm_input has_font _ _ _ _ _ (status.FontRefused fault) cause.0 calm
compile_whole profile pid page has_font before now (status.ScriptRefused fault) cause written calm =
    calm_input has_font _ _ _ _ _ (status.ScriptRefused fault) cause.0 calm
compile_whole profile pid page has_font before now (status.PlanRefused fault) cause written calm =
    absurd ((calm.goes_on cause.0 cause.1).has_plan fault cause.2)
compile_whole profile pid page has_font before now (status.ScheduleRefused row fault) cause written calm =
    absurd ((calm.goes_on cause.0 cause.1).has_schedule row fault cause.2)
compile_whole profile pid page has_font before now (status.StreamRefused packet fault) cause written calm = absurd cause
compile_whole profile pid page has_font before now (status.ReadFault which) cause written calm =
    calm_input has_font _ _ _ _ _ (status.ReadFault which) cause.0 calm
compile_whole profile pid page has_font before now (status.WriteFault which.Out) cause written calm =
    absurd (written cause.3)
compile_whole profile pid page has_font before now (status.WriteFault which.First) cause written calm = absurd cause
compile_whole profile pid page has_font before now (status.WriteFault which.Second) cause written calm = absurd cause
compile_whole profile pid page has_font before now (status.WriteFault which.Notes) cause written calm = absurd cause
compile_whole profile pid page has_font before now status.Memory cause written calm = inr refl
compile_whole profile pid page has_font before now (status.InputTooLong which) cause written calm =
    calm_input has_font _ _ _ _ _ (status.InputTooLong which) cause.0 calm

expect_whole : (has_font : Bool) (ticks : List ℕ) (before now : Seen) (run : Status)
    → IsExpectCause has_font ticks before now run →
    (HasRisen before.out.faults now.out.faults → ⊥) → IsExpectable has_font before now → IsWhole run
expect_whole has_font ticks before now (status.Done cut) cause written calm = inl (cut, refl)
expect_whole has_font ticks before now status.Usage cause written calm = absurd cause
expect_whole has_font ticks before now (status.FontRefused fault) cause written calm =
    calm_input has_font _ _ _ _ _ (status.FontRefused fault) cause.0 calm
expect_whole has_font ticks before now (status.ScriptRefused fault) cause written calm =
    calm_input has_font _ _ _ _ _ (status.ScriptRefused fault) cause.0 calm
expect_whole has_font ticks before now (status.PlanRefused fault) cause written calm = absurd cause
expect_whole has_font ticks before now (status.ScheduleRefused row fault) cause written calm = absurd cause
expect_whole has_font ticks before now (status.StreamRefused packet fault) cause written calm = absurd cause
expect_whole has_font ticks before now (status.ReadFault which) cause written calm =
    calm_input has_font _ _ _ _ _ (status.ReadFault which) cause.0 calm
expect_whole has_font ticks before now (status.WriteFault which.Out) cause written calm = absurd (written cause.3)
expect_whole has_font ticks before now (status.WriteFault which.First) cause written calm = absurd cause
expect_whole has_font ticks before now (status.WriteFault which.Second) cause written calm = absurd cause
expect_whole has_font ticks before now (status.WriteFault which.Notes) cause written calm = absurd cause
expect_whole has_font ticks before now status.Memory cause written calm = inr refl
expect_whole has_font ticks before now (status.InputTooLong which) cause written calm =
    calm_input has_font _ _ _ _ _ (status.InputTooLong which) cause.0 calm

stream_whole : (Told : Telling) (pid : ℕ) (before now : Supplied) (out_before out_now : Received) (run : Status)
    → IsStreamCause Told pid before now out_before out_now run
    → (HasRisen out_before.faults out_now.faults → ⊥) → IsReadableStream pid before now → IsWhole run
stream_whole Told pid before now out_before out_now (status.Done cut) cause written calm = inl (cut, refl)
stream_whole Told pid before now out_before out_now status.Usage cause written calm = absurd cause
stream_whole Told pid before now out_before out_now (status.FontRefused fault) cause written calm = absurd cause
stream_whole Told pid before now out_before out_now (status.ScriptRefused fault) cause written calm = absurd cause
stream_whole Told pid before now out_before out_now (status.PlanRefused fault) cause written calm = absurd cause
stream_whole Told pid before now out_before out_now (status.ScheduleRefused row fault) cause written calm = absurd cause
stream_whole Told pid before now out_before out_now (status.StreamRefused packet fault) cause written calm =
    absurd (calm.valid.unrefused cause.packets cause.refused cause.rest fault cause.taken cause.whole cause.fault_is)
stream_whole Told pid before now out_before out_now (status.ReadFault which.First) cause written calm =
    absurd (calm.read cause.0)
stream_whole Told pid before now out_before out_now (status.ReadFault which.Second) cause written calm = absurd cause
stream_whole Told pid before now out_before out_now (status.ReadFault which.Out) cause written calm = absurd cause
stream_whole Told pid before now out_before out_now (status.ReadFault which.Notes) cause written calm = absurd cause
stream_whole Told pid before now out_before out_now (status.WriteFault which.Out) cause written calm =
    absurd (written cause.0)
stream_whole Told pid before now out_before out_now (status.WriteFault which.First) cause written calm = absurd cause
stream_whole Told pid before now out_before out_now (status.WriteFault which.Second) cause written calm = absurd cause
stream_whole Told pid before now out_before out_now (status.WriteFault which.Notes) cause written calm = absurd cause
stream_whole Told pid before now out_before out_now status.Memory cause written calm = inr refl
stream_whole Told pid before now out_before out_now (status.InputTooLong which.First) cause written calm =
    absurd (calm.valid.within cause.0)
stream_whole Told pid before now out_before out_now (status.InputTooLong which.Second) cause written calm = absurd cause
stream_whole Told pid before now out_before out_now (status.InputTooLong which.Out) cause written calm = absurd cause
stream_whole Told pid before now out_before out_now (status.InputTooLong which.Notes) cause written calm = absurd cause

gen_whole : (number : ℕ) (name : ProfileName) (before now : Received) (run : Status)
    → IsGenCause number name before now run → (HasRisen before.faults now.faults → ⊥) → IsWhole run
gen_whole number name before now (status.Done cut) cause written = inl (cut, refl)
gen_whole number name before now status.Usage cause written = absurd cause
gen_whole number name before now (status.FontRefused fault) cause written = absurd cause
gen_whole number name before now (status.ScriptRefused fault) cause written = absurd cause
gen_whole number name before now (status.PlanRefused fault) cause written = absurd cause
gen_whole number name before now (status.ScheduleRefused row fault) cause written = absurd cause
gen_whole number name before now (status.StreamRefused packet fault) cause written = absurd cause
gen_whole number name before now (status.ReadFault which) cause written = absurd cause
gen_whole number name before now (status.WriteFault which.Out) cause written = absurd (written cause.3)
gen_whole number name before now (status.WriteFault which.First) cause written = absurd cause
gen_whole number name before now (status.WriteFault which.Second) cause written = absurd cause
gen_whole number name before now (status.WriteFault which.Notes) cause written = absurd cause
gen_whole number name before now status.Memory cause written = inr refl
gen_whole number name before now (status.InputTooLong which) cause written = absurd cause

-- each command
run_whole : (words : List (List ℕ)) (command : Option Command) (before now : Seen) (notes_before notes_now : Received)
    (run : Status) → IsCausedBy words command before now run →
    IsUntroubled command before now notes_before notes_now → IsWhole run
run_whole words None before now notes_before notes_now run cause calm = absurd calm.valid
run_whole words (Some (command.Compile profile pid page has_font)) before now notes_before notes_now run cause calm =
    compile_whole profile pid page has_font before now run cause calm.written calm.valid
run_whole words (Some (command.List pid)) before now notes_before notes_now run cause calm =
    stream_whole (lists pid) pid before.first now.first before.out now.out run cause calm.written calm.valid
run_whole words (Some (command.Dump profile pid page bands)) before now notes_before notes_now run cause calm =
    stream_whole (dumps profile pid page (asked_ticks 7 words)) pid before.first now.first before.out now.out run cause
    calm.written calm.valid
run_whole words (Some (command.Check profile origin pid page)) before now notes_before notes_now run cause calm =
    stream_whole (checks profile origin pid page) pid before.first now.first before.out now.out run cause calm.written
    calm.valid
run_whole words (Some (command.Expect has_font)) before now notes_before notes_now run cause calm =
    expect_whole has_font _ before now run cause calm.written calm.valid
run_whole words (Some (command.Gen number profile)) before now notes_before notes_now run cause calm =
    gen_whole number profile before.out now.out run cause.0 calm.written

-- the line of the status is written where the notes do not fail
told : (before now : Received) (run answer : Status) → TellsStatus before now run answer
    → (HasRisen before.faults now.faults → ⊥) → IsWhole run → IsWhole answer
told before now run answer (inl line) calm whole = subst IsWhole (sym line.1) whole
told before now run answer (inr front) calm whole = absurd (calm front.1)

-- a command that nothing troubles
pub complete : (words : List (List ℕ)) (before now : Seen) (notes_before notes_now : Received) (answer : Status)
    → HasCause words before now notes_before notes_now answer
    → IsComplete words before now notes_before notes_now answer
complete words before now notes_before notes_now answer cause = λ calm.
    told notes_before notes_now cause.0 answer cause.2 calm.told
    (run_whole words (command_of words) before now notes_before notes_now cause.0 cause.1 calm)
