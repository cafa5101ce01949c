-- The code of a command over files, by how its output and its line ended.
use Rattle.std.proofs.Common.{◌≡◌, ◌⊎◌, inl, inr, ℕ, Bool, true, List, Option, Some, None, refl, sym, ◌∙◌, subst, ap, arith}
use Rattle.program_files.specs.Keeping.{is_kept}
use Rattle.program_files.proofs.KeepingLaws.{done_kept, kept_or_lost, usage_unkept}
use Rattle.program_files.specs.declared.keeping.OutputKind.{OutputKind}
use Rattle.sub_base.specs.Endpoints.{Received}
use Rattle.sub_base.specs.Seen.{Seen}
use Rattle.dvbsub_words.specs.Command.{command_of}
use Rattle.dvbsub_words.specs.declared.command.Command.{Command}
use Rattle.dvbsub_words.specs.declared.command.Command.TheVariants as command
use Rattle.dvbsub_cmd.specs.Outcome.{HasCause, IsCausedBy, TellsStatus, untold}
use Rattle.dvbsub_cmd.specs.StatusText.{code_of}
use Rattle.dvbsub_cmd.specs.declared.status.Status.{Status}
use Rattle.dvbsub_cmd.specs.declared.status.Status.TheVariants as status
use Rattle.command_files.specs.Ends.{HasCode, IsEnding, IsKeptWith, IsToldWith, kind_of_words, unkept}

-- ---- what is told

-- the code that is told is that of the status, or of what it becomes where its line could not be written
pub told_code : (before now : Received) (run : Status) (code : ℕ) → IsToldWith before now run code
    → (code ≡ code_of run) ⊎ (code ≡ code_of (untold run))
told_code before now run code (answer, inl whole, eq) = inl (eq ∙ ap code_of whole.1)
told_code before now run code (answer, inr front, eq) = inr (eq ∙ ap code_of front.2)

-- ---- steps that a status takes on its way to the code

-- the code is that of the status, or 6 where the output is kept with the status
abbrev pub IsCodeOf : OutputKind → Bool → Status → ℕ → Type 0
IsCodeOf kind has_written run code =
    (code ≡ code_of run) ⊎ ((is_kept kind has_written (code_of run) ≡ true) × (code ≡ 6))

-- where the line could not be written
pub untold_code : (kind : OutputKind) (has_written : Bool) (run : Status)
    → IsCodeOf kind has_written run (code_of (untold run))
untold_code kind has_written (status.Done cut) = inr (done_kept kind has_written, refl)
untold_code kind has_written status.Usage = inl refl
untold_code kind has_written (status.FontRefused fault) = inl refl
untold_code kind has_written (status.ScriptRefused fault) = inl refl
untold_code kind has_written (status.PlanRefused fault) = inl refl
untold_code kind has_written (status.ScheduleRefused row fault) = inl refl
untold_code kind has_written (status.StreamRefused packet fault) = inl refl
untold_code kind has_written (status.ReadFault which) = inl refl
untold_code kind has_written (status.WriteFault which) = inl refl
untold_code kind has_written status.Memory = inl refl
untold_code kind has_written (status.InputTooLong which) = inl refl

-- a status whose line could not be written has the codes of the one that it comes of
pub untold_stays : (kind : OutputKind) (has_written : Bool) (run : Status) (code : ℕ)
    → IsCodeOf kind has_written (untold run) code → IsCodeOf kind has_written run code
untold_stays kind has_written (status.Done cut) code (inl same) = inr (done_kept kind has_written, same)
untold_stays kind has_written (status.Done cut) code (inr lost) = inr (done_kept kind has_written, lost.1)
untold_stays kind has_written status.Usage code given = given
untold_stays kind has_written (status.FontRefused fault) code given = given
untold_stays kind has_written (status.ScriptRefused fault) code given = given
untold_stays kind has_written (status.PlanRefused fault) code given = given
untold_stays kind has_written (status.ScheduleRefused row fault) code given = given
untold_stays kind has_written (status.StreamRefused packet fault) code given = given
untold_stays kind has_written (status.ReadFault which) code given = given
untold_stays kind has_written (status.WriteFault which) code given = given
untold_stays kind has_written status.Memory code given = given
untold_stays kind has_written (status.InputTooLong which) code given = given

-- what the command told of its status does not change the codes
notes_told : (kind : OutputKind) (has_written : Bool) (before now : Received) (run answer : Status) (code : ℕ)
    → TellsStatus before now run answer → IsCodeOf kind has_written answer code → IsCodeOf kind has_written run code
notes_told kind has_written before now run answer code (inl whole) given =
    subst (λ end. IsCodeOf kind has_written end code) whole.1 given
notes_told kind has_written before now run answer code (inr front) given =
    untold_stays kind has_written run code (subst (λ end. IsCodeOf kind has_written end code) front.2 given)

-- nor do the end of its output and the line of the program
by_end : (kind : OutputKind) (has_written : Bool) (run ending : Status) (code : ℕ)
    → (ending ≡ run) ⊎ ((is_kept kind has_written (code_of run) ≡ true) × (ending ≡ unkept))
    → (code ≡ code_of ending) ⊎ (code ≡ code_of (untold ending)) → IsCodeOf kind has_written run code
by_end kind has_written run ending code (inl same) (inl told) = inl (told ∙ ap code_of same)
by_end kind has_written run ending code (inl same) (inr told) =
    subst (IsCodeOf kind has_written run) (sym (told ∙ ap (λ end. code_of (untold end)) same))
    (untold_code kind has_written run)
by_end kind has_written run ending code (inr lost) (inl told) = inr (lost.0, told ∙ ap code_of lost.1)
by_end kind has_written run ending code (inr lost) (inr told) =
    inr (lost.0, told ∙ ap (λ end. code_of (untold end)) lost.1)

ending_told : (kind : OutputKind) (has_written is_finished : Bool) (run ending : Status) (code : ℕ)
    → IsEnding kind has_written is_finished run ending → (code ≡ code_of ending) ⊎ (code ≡ code_of (untold ending))
    → IsCodeOf kind has_written run code
ending_told kind has_written is_finished run ending code end =
    by_end kind has_written run ending code
    (kept_or_lost (is_kept kind has_written (code_of run)) is_finished unkept run ending end)

-- ---- the whole command

-- a command over files: the cause of its status, what became of its output, and the code with which that was told
pub record HasEnded (words : List (List ℕ)) (code : ℕ) : Type 0 where
  pub has_stream : Bool
  pub kind : OutputKind
  pub kind_is : kind ≡ kind_of_words words has_stream
  pub has_written : Bool
  pub is_finished : Bool
  pub before : Seen
  pub now : Seen
  pub notes_before : Received
  pub notes_now : Received
  pub answer : Status
  pub ending : Status
  pub cause : HasCause words before now notes_before notes_now answer
  pub kept : IsEnding kind has_written is_finished answer ending
  pub told : (code ≡ code_of ending) ⊎ (code ≡ code_of (untold ending))

-- the code by the kind of the output, and so by the words
by_words : (words : List (List ℕ)) (kind : OutputKind) (has_stream has_written : Bool) (run : Status) (code : ℕ)
    → kind ≡ kind_of_words words has_stream → IsCodeOf kind has_written run code
    → (code ≡ code_of run) ⊎ (IsKeptWith words run × (code ≡ 6))
by_words words kind has_stream has_written run code is (inl same) = inl same
by_words words kind has_stream has_written run code is (inr lost) =
    inr ((has_stream, has_written, subst (λ k. is_kept k has_written (code_of run) ≡ true) is lost.0), lost.1)

-- its code is that of a status with which it may end, or 6
pub has_code : (words : List (List ℕ)) (code : ℕ) → HasEnded words code → HasCode words code
has_code words code end = (
  end.cause.0,
  (end.before, end.now, end.cause.1),
  by_words words end.kind end.has_stream end.has_written end.cause.0 code end.kind_is
      (notes_told end.kind end.has_written end.notes_before end.notes_now end.cause.0 end.answer code end.cause.2
      (ending_told end.kind end.has_written end.is_finished end.answer end.ending code end.kept end.told)),
)

-- ---- wrong words

usage_code : (words : List (List ℕ)) (run : Status) (code : ℕ) → run ≡ status.Usage
    → (code ≡ code_of run) ⊎ (IsKeptWith words run × (code ≡ 6)) → code ≡ 2
usage_code words run code usage (inl same) = same ∙ ap code_of usage
usage_code words run code usage (inr (kept, lost)) =
    absurd (usage_unkept (kind_of_words words kept.0) kept.1
    (subst (λ end. is_kept (kind_of_words words kept.0) kept.1 (code_of end) ≡ true) usage kept.2))

-- words that are no command end with 2
pub wrong_words : (words : List (List ℕ)) (code : ℕ) → HasCode words code → command_of words ≡ None → code ≡ 2
wrong_words words code (run, cause, same) none =
    usage_code words run code
    (subst (λ asked. IsCausedBy words asked cause.0 cause.1 run) none cause.2).0 same

-- a command does not end with the code of wrong words
command_code : (words : List (List ℕ)) (asked : Command) (before now : Seen) (run : Status)
    → IsCausedBy words (Some asked) before now run → code_of run ≡ 2 → ⊥
command_code words asked before now (status.Done cut) cause same = omega (arith, same)
command_code words (command.Compile profile pid page has_font) before now status.Usage cause same = cause
command_code words (command.List pid) before now status.Usage cause same = cause
command_code words (command.Dump profile pid page bands) before now status.Usage cause same = cause
command_code words (command.Check profile origin pid page) before now status.Usage cause same = cause
command_code words (command.Expect has_font) before now status.Usage cause same = cause
command_code words (command.Gen number profile) before now status.Usage cause same = cause.0
command_code words asked before now (status.FontRefused fault) cause same = omega (arith, same)
command_code words asked before now (status.ScriptRefused fault) cause same = omega (arith, same)
command_code words asked before now (status.PlanRefused fault) cause same = omega (arith, same)
command_code words asked before now (status.ScheduleRefused row fault) cause same = omega (arith, same)
command_code words asked before now (status.StreamRefused packet fault) cause same = omega (arith, same)
command_code words asked before now (status.ReadFault which) cause same = omega (arith, same)
command_code words asked before now (status.WriteFault which) cause same = omega (arith, same)
command_code words asked before now status.Memory cause same = omega (arith, same)
command_code words asked before now (status.InputTooLong which) cause same = omega (arith, same)

no_command : (words : List (List ℕ)) (asked : Option Command) (before now : Seen) (run : Status)
    → IsCausedBy words asked before now run → code_of run ≡ 2 → asked ≡ None
no_command words None before now run cause same = refl
no_command words (Some asked) before now run cause same =
    absurd (command_code words asked before now run cause same)

two_of : (words : List (List ℕ)) (run : Status) (code : ℕ)
    → (code ≡ code_of run) ⊎ (IsKeptWith words run × (code ≡ 6)) → code ≡ 2 → code_of run ≡ 2
two_of words run code (inl same) two = sym same ∙ two
two_of words run code (inr lost) two = absurd (omega (arith, lost.1, two))

-- and no other words do
pub two_alone : (words : List (List ℕ)) (code : ℕ) → HasCode words code → code ≡ 2 → command_of words ≡ None
two_alone words code (run, cause, same) two =
    no_command words (command_of words) cause.0 cause.1 run cause.2 (two_of words run code same two)
