-- The code of a tool over files, by how its output and its line ended.
use Rattle.std.proofs.Common.{◌≡◌, ◌⊎◌, inl, inr, ℕ, Bool, true, false, true≢false, List, Option, Some, None, is_some, refl, sym, ◌∙◌, subst, ap, arith}
use Rattle.program_files.specs.Ending.{IsToolEnding, unkept}
use Rattle.program_files.specs.Keeping.{is_kept}
use Rattle.program_files.proofs.KeepingLaws.{done_kept, kept_or_lost, usage_unkept}
use Rattle.program_files.specs.declared.keeping.OutputKind.TheVariants as output
use Rattle.sub_base.specs.Endpoints.{Received}
use Rattle.sub_base.specs.Seen.{Seen}
use Rattle.sub_base.specs.ToolOutcome.{Causes, HasToolCause, IsToolCause, TellsTool, tool_code, untold_tool}
use Rattle.sub_base.specs.declared.status.ToolStatus.{ToolStatus}
use Rattle.sub_base.specs.declared.status.ToolStatus.TheVariants as tool
use Rattle.live_plan.specs.LiveOutcome.{HasLiveCause, IsLiveEnd, TellsLive}
use Rattle.live_plan.specs.LiveWords.{live_words}
use Rattle.live_plan.specs.declared.faults.LiveFault.{LiveFault}
use Rattle.live_plan.specs.declared.live_words.LiveCommand.{LiveCommand}
use Rattle.page_pair.specs.PairTop.{pair_command, tool_causes}
use Rattle.service_mux.specs.MuxOutcome.{mux_causes}
use Rattle.service_mux.specs.MuxWords.{mux_words}
use Rattle.service_mux.specs.TakeOutcome.{take_causes}
use Rattle.service_mux.specs.TakeWords.{take_words}
use Rattle.splice.specs.SpliceOutcome.{splice_causes}
use Rattle.splice.specs.SpliceWords.{splice_words}
use Rattle.stream_report.specs.FaultsOutcome.{faults_causes}
use Rattle.stream_report.specs.FaultsWords.{faults_words}
use Rattle.stream_report.specs.LevelsOutcome.{levels_causes}
use Rattle.stream_report.specs.LevelsWords.{levels_words}
use Rattle.stream_report.specs.PicturesOutcome.{pictures_causes}
use Rattle.stream_report.specs.PicturesWords.{pictures_words}
use Rattle.stream_report.specs.PidsOutcome.{pids_causes}
use Rattle.stream_report.specs.PidsWords.{pids_words}
use Rattle.tool_files.specs.Ends.{HasToolCode, IsCodeOf, IsToolTold, MayToolEnd, MayEndAs, is_command, is_command_of, is_named_command, named_tool}
use Rattle.tool_files.specs.declared.tool.Tool.{Tool}
use Rattle.tool_files.specs.declared.tool.Tool.TheVariants as named

-- ---- what is told

-- the code that is told is that of the status, or of what it becomes where its line could not be written
pub told_code : {F : Type 0} (name : F → List ℕ) (before now : Received) (run : ToolStatus F) (code : ℕ)
    → IsToolTold name before now run code → (code ≡ tool_code run) ⊎ (code ≡ tool_code (untold_tool run))
told_code name before now run code (answer, inl whole, eq) = inl (eq ∙ ap tool_code whole.1)
told_code name before now run code (answer, inr front, eq) = inr (eq ∙ ap tool_code front.2)

-- ---- steps that a status takes on its way to the code

-- where the line could not be written
untold_code : {F : Type 0} (has_written : Bool) (run : ToolStatus F)
    → IsCodeOf has_written run (tool_code (untold_tool run))
untold_code has_written tool.Done = inr (done_kept output.Tool has_written, refl)
untold_code has_written tool.Usage = inl refl
untold_code has_written (tool.Refused fault) = inl refl
untold_code has_written (tool.ReadFault which) = inl refl
untold_code has_written (tool.WriteFault which) = inl refl
untold_code has_written tool.Memory = inl refl
untold_code has_written (tool.InputTooLong which) = inl refl

-- a status whose line could not be written has the codes of the one that it comes of
untold_stays : {F : Type 0} (has_written : Bool) (run : ToolStatus F) (code : ℕ)
    → IsCodeOf has_written (untold_tool run) code → IsCodeOf has_written run code
untold_stays has_written tool.Done code (inl same) = inr (done_kept output.Tool has_written, same)
untold_stays has_written tool.Done code (inr lost) = inr (done_kept output.Tool has_written, lost.1)
untold_stays has_written tool.Usage code given = given
untold_stays has_written (tool.Refused fault) code given = given
untold_stays has_written (tool.ReadFault which) code given = given
untold_stays has_written (tool.WriteFault which) code given = given
untold_stays has_written tool.Memory code given = given
untold_stays has_written (tool.InputTooLong which) code given = given

-- what the tool told of its status does not change the codes
notes_told : {F : Type 0} (name : F → List ℕ) (has_written : Bool) (before now : Received) (run answer : ToolStatus F)
    (code : ℕ) → TellsTool name before now run answer → IsCodeOf has_written answer code → IsCodeOf has_written run code
notes_told name has_written before now run answer code (inl whole) given =
    subst (λ end. IsCodeOf has_written end code) whole.1 given
notes_told name has_written before now run answer code (inr front) given =
    untold_stays has_written run code (subst (λ end. IsCodeOf has_written end code) front.2 given)

-- nor do the end of its output and the line of the program
by_end : {F : Type 0} (has_written : Bool) (run ending : ToolStatus F) (code : ℕ)
    → (ending ≡ run) ⊎ ((is_kept output.Tool has_written (tool_code run) ≡ true) × (ending ≡ unkept))
    → (code ≡ tool_code ending) ⊎ (code ≡ tool_code (untold_tool ending)) → IsCodeOf has_written run code
by_end has_written run ending code (inl same) (inl told) = inl (told ∙ ap tool_code same)
by_end has_written run ending code (inl same) (inr told) =
    subst (IsCodeOf has_written run) (sym (told ∙ ap (λ end. tool_code (untold_tool end)) same))
    (untold_code has_written run)
by_end has_written run ending code (inr lost) (inl told) = inr (lost.0, told ∙ ap tool_code lost.1)
by_end has_written run ending code (inr lost) (inr told) =
    inr (lost.0, told ∙ ap (λ end. tool_code (untold_tool end)) lost.1)

pub ending_told : {F : Type 0} (has_written is_finished : Bool) (run ending : ToolStatus F) (code : ℕ)
    → IsToolEnding has_written is_finished run ending
    → (code ≡ tool_code ending) ⊎ (code ≡ tool_code (untold_tool ending)) → IsCodeOf has_written run code
ending_told has_written is_finished run ending code end =
    by_end has_written run ending code
    (kept_or_lost (is_kept output.Tool has_written (tool_code run)) is_finished unkept run ending end)

-- ---- a whole tool

-- a tool over files: the cause of its status, and the code with which that was told
pub record HasEnded {C F : Type 0} (name : F → List ℕ) (causes : C → Seen → Seen → Causes F) (command : Option C)
    (code : ℕ) : Type 0 where
  pub before : Seen
  pub now : Seen
  pub notes_before : Received
  pub notes_now : Received
  pub answer : ToolStatus F
  pub has_written : Bool
  pub cause : HasToolCause name causes command before now notes_before notes_now answer
  pub told : IsCodeOf has_written answer code

-- its code is that of a status that has its cause, or 6
pub may_end : {C F : Type 0} (name : F → List ℕ) (causes : C → Seen → Seen → Causes F) (command : Option C) (code : ℕ)
    → HasEnded name causes command code → MayToolEnd causes command code
may_end name causes command code end = (
  end.cause.0,
  end.before,
  end.now,
  end.has_written,
  end.cause.1,
  notes_told name end.has_written end.notes_before end.notes_now end.cause.0 end.answer code end.cause.2 end.told,
)

-- ---- wrong words

usage_code : {F : Type 0} (has_written : Bool) (run : ToolStatus F) (code : ℕ) → run ≡ tool.Usage
    → IsCodeOf has_written run code → code ≡ 2
usage_code has_written run code usage (inl same) = same ∙ ap tool_code usage
usage_code has_written run code usage (inr lost) =
    absurd (usage_unkept output.Tool has_written
    (subst (λ end. is_kept output.Tool has_written (tool_code end) ≡ true) usage lost.0))

not_some : {A : Type 0} (value : A) → is_some (Some value) ≡ false → ⊥
not_some value none = absurd (true≢false none)

-- a tool whose words are no command of it ends with 2
unasked : {C F : Type 0} (causes : C → Seen → Seen → Causes F) (command : Option C) (code : ℕ)
    → MayToolEnd causes command code → is_some command ≡ false → code ≡ 2
unasked causes None code (run, before, now, wrote, cause, same) none = usage_code wrote run code cause.0 same
unasked causes (Some command) code end none = absurd (not_some command none)

unasked_live : (command : Option LiveCommand) (before now : Seen) (notes_before notes_now : Received)
    (answer : ToolStatus LiveFault) → HasLiveCause command before now notes_before notes_now answer
    → is_some command ≡ false → tool_code answer ≡ 2
unasked_live None before now notes_before notes_now answer cause none = ap tool_code cause.0.0
unasked_live (Some command) before now notes_before notes_now answer cause none = absurd (not_some command none)

wrong_as : (one : Tool) (words : List (List ℕ)) (code : ℕ) → MayEndAs one words code
    → is_command_of one words ≡ false → code ≡ 2
wrong_as named.Mux words code end none = unasked mux_causes (mux_words words) code end none
wrong_as named.Take words code end none = unasked take_causes (take_words words) code end none
wrong_as named.Pair words code end none = unasked (tool_causes words) (pair_command words) code end none
wrong_as named.PairDump words code end none = unasked (tool_causes words) (pair_command words) code end none
wrong_as named.Live words code (answer, before, now, notes_before, notes_now, cause, same) none =
    same ∙ unasked_live (live_words words) before now notes_before notes_now answer cause none
wrong_as named.Splice words code end none = unasked splice_causes (splice_words words) code end none
wrong_as named.Pids words code end none = unasked pids_causes (pids_words words) code end none
wrong_as named.Pictures words code end none = unasked pictures_causes (pictures_words words) code end none
wrong_as named.Faults words code end none = unasked faults_causes (faults_words words) code end none
wrong_as named.Levels words code end none = unasked levels_causes (levels_words words) code end none

wrong_named : (asked : Option Tool) (words : List (List ℕ)) (code : ℕ) → HasToolCode asked words code
    → is_named_command asked words ≡ false → code ≡ 2
wrong_named None words code end none = end
wrong_named (Some one) words code end none = wrong_as one words code end none

-- words that are no command of the tool that they name end with 2
pub wrong_words : (words : List (List ℕ)) (code : ℕ) → HasToolCode (named_tool words) words code
    → is_command words ≡ false → code ≡ 2
wrong_words words code end none = wrong_named (named_tool words) words code end none

-- ---- and no other words

two_of : {F : Type 0} (has_written : Bool) (run : ToolStatus F) (code : ℕ) → IsCodeOf has_written run code → code ≡ 2
    → tool_code run ≡ 2
two_of has_written run code (inl same) two = sym same ∙ two
two_of has_written run code (inr lost) two = absurd (omega (arith, lost.1, two))

-- a command does not end with the code of wrong words
command_code : {F : Type 0} (causes : Causes F) (before now : Seen) (run : ToolStatus F)
    → IsToolCause causes before now run → tool_code run ≡ 2 → ⊥
command_code causes before now tool.Done cause same = omega (arith, same)
command_code causes before now tool.Usage cause same = cause
command_code causes before now (tool.Refused fault) cause same = omega (arith, same)
command_code causes before now (tool.ReadFault which) cause same = omega (arith, same)
command_code causes before now (tool.WriteFault which) cause same = omega (arith, same)
command_code causes before now tool.Memory cause same = omega (arith, same)
command_code causes before now (tool.InputTooLong which) cause same = omega (arith, same)

two_unasked : {C F : Type 0} (causes : C → Seen → Seen → Causes F) (command : Option C) (code : ℕ)
    → MayToolEnd causes command code → code ≡ 2 → is_some command ≡ false
two_unasked causes None code end two = refl
two_unasked causes (Some command) code (run, before, now, has_written, cause, same) two =
    absurd (command_code (causes command before now) before now run cause (two_of has_written run code same two))

live_code : (command : LiveCommand) (before now : Seen) (lines : List (ℕ)) (run : ToolStatus LiveFault)
    → IsLiveEnd command before now lines run → tool_code (untold_tool run) ≡ 2 → ⊥
live_code command before now lines tool.Done end same = omega (arith, same)
live_code command before now lines tool.Usage end same = end
live_code command before now lines (tool.Refused fault) end same = omega (arith, same)
live_code command before now lines (tool.ReadFault which) end same = omega (arith, same)
live_code command before now lines (tool.WriteFault which) end same = omega (arith, same)
live_code command before now lines tool.Memory end same = omega (arith, same)
live_code command before now lines (tool.InputTooLong which) end same = omega (arith, same)

-- where it is 2 it is that as well where the line could not be written
untold_two : {F : Type 0} (run : ToolStatus F) → tool_code run ≡ 2 → tool_code (untold_tool run) ≡ 2
untold_two tool.Done same = absurd (omega (arith, same))
untold_two tool.Usage same = same
untold_two (tool.Refused fault) same = same
untold_two (tool.ReadFault which) same = same
untold_two (tool.WriteFault which) same = same
untold_two tool.Memory same = same
untold_two (tool.InputTooLong which) same = same

live_told : (before now : Received) (lines : List ℕ) (run answer : ToolStatus LiveFault)
    → TellsLive lines before now run answer → tool_code answer ≡ 2 → tool_code (untold_tool run) ≡ 2
live_told before now lines run answer (inl whole) two = untold_two run (sym (ap tool_code whole.1) ∙ two)
live_told before now lines run answer (inr front) two = sym (ap tool_code front.2) ∙ two

two_live : (command : Option LiveCommand) (before now : Seen) (notes_before notes_now : Received)
    (answer : ToolStatus LiveFault) → HasLiveCause command before now notes_before notes_now answer
    → tool_code answer ≡ 2 → is_some command ≡ false
two_live None before now notes_before notes_now answer cause two = refl
two_live (Some command) before now notes_before notes_now answer (inl told) two =
    absurd (live_code command before now told.lines told.run told.end
    (live_told notes_before notes_now told.lines told.run answer told.told two))
two_live (Some command) before now notes_before notes_now answer (inr untold) two =
    absurd (omega (arith, ap tool_code untold.answered, two))

two_as : (one : Tool) (words : List (List ℕ)) (code : ℕ) → MayEndAs one words code → code ≡ 2
    → is_command_of one words ≡ false
two_as named.Mux words code end two = two_unasked mux_causes (mux_words words) code end two
two_as named.Take words code end two = two_unasked take_causes (take_words words) code end two
two_as named.Pair words code end two = two_unasked (tool_causes words) (pair_command words) code end two
two_as named.PairDump words code end two = two_unasked (tool_causes words) (pair_command words) code end two
two_as named.Live words code (answer, before, now, notes_before, notes_now, cause, same) two =
    two_live (live_words words) before now notes_before notes_now answer cause (sym same ∙ two)
two_as named.Splice words code end two = two_unasked splice_causes (splice_words words) code end two
two_as named.Pids words code end two = two_unasked pids_causes (pids_words words) code end two
two_as named.Pictures words code end two = two_unasked pictures_causes (pictures_words words) code end two
two_as named.Faults words code end two = two_unasked faults_causes (faults_words words) code end two
two_as named.Levels words code end two = two_unasked levels_causes (levels_words words) code end two

two_named : (asked : Option Tool) (words : List (List ℕ)) (code : ℕ) → HasToolCode asked words code → code ≡ 2
    → is_named_command asked words ≡ false
two_named None words code end two = refl
two_named (Some one) words code end two = two_as one words code end two

-- words that are a command of the tool that they name do not end with 2
pub two_alone : (words : List (List ℕ)) (code : ℕ) → HasToolCode (named_tool words) words code → code ≡ 2
    → is_command words ≡ false
two_alone words code end two = two_named (named_tool words) words code end two
