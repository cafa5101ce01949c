-- What becomes of a command's output as the command ends, what is told of its status, and the program's code.
use Rattle.std.specs.Prelude.{◌≡◌, ◌⊎◌, Bool, true, not, ◌&&◌, ◌||◌, if◌then◌else◌, List, [], ◌∷◌, ◌++◌, ℕ, bytes_eq, codes}
use Rattle.command_line.specs.declared.table.TheConstants.{COMMANDS}
use Rattle.program_files.specs.Keeping.{is_kept}
use Rattle.program_files.specs.declared.keeping.OutputKind.{OutputKind}
use Rattle.program_files.specs.declared.keeping.OutputKind.TheVariants as output
use Rattle.dvbsub_cmd.specs.Outcome.{IsCaused, TellsStatus}
use Rattle.dvbsub_cmd.specs.StatusText.{code_of}
use Rattle.dvbsub_cmd.specs.declared.status.Status.{Status}
use Rattle.dvbsub_cmd.specs.declared.status.Status.TheVariants as status
use Rattle.sub_base.specs.Endpoints.{Received}
use Rattle.sub_base.specs.Seen.{Seen}
use Rattle.sub_base.specs.declared.status.Which.TheVariants as which

-- ---- the output

-- the commands that read a stream
abbrev pub is_told_of_stream : List ℕ → Bool
is_told_of_stream word = bytes_eq word (codes "list") || bytes_eq word (codes "dump") || bytes_eq word (codes "check")

-- a command that reads a stream, if it is there, tells of it; the output of all others stands whole
abbrev pub kind_of_words : List (List ℕ) → Bool → OutputKind
kind_of_words [] has_stream = output.Whole
kind_of_words (word ∷ words) has_stream = if has_stream && is_told_of_stream word then output.Told else output.Whole

-- the output was to be kept, and could not be
abbrev pub unkept : Status
unkept = status.WriteFault which.Out

-- a command ends with its status; where its output was to be kept with that status and could not be finished, with
-- `write out`
abbrev pub IsEnding : OutputKind → Bool → Bool → Status → Status → Type 0
IsEnding kind has_written is_finished run ending =
    ending ≡ (if is_kept kind has_written (code_of run) && not is_finished then unkept else run)

-- ---- what is told

-- the table of commands, as it is written: each of its lines ends in a line feed
abbrev pub command_lines : List ℕ
command_lines = COMMANDS.now ++ 10 ∷ []

-- a sink has received the line of the status, or a prefix of it where it failed; the code is that of the status, which
-- is another one where `done` could not be told
abbrev pub IsToldWith : Received → Received → Status → ℕ → Type 0
IsToldWith before now run code = (answer : Status) × TellsStatus before now run answer × (code ≡ code_of answer)

-- ---- the code

-- the command of these words may end so: the status has its cause, by something that may be seen of its files before
-- and now
abbrev pub MayEnd : List (List ℕ) → Status → Type 0
MayEnd words run = (before : Seen) × (now : Seen) × IsCaused words before now run

-- the output of the command of these words is kept with that status, by whether a stream is there and whether anything
-- was written
abbrev pub IsKeptWith : List (List ℕ) → Status → Type 0
IsKeptWith words run = (has_stream : Bool) × (has_written : Bool)
    × (is_kept (kind_of_words words has_stream) has_written (code_of run) ≡ true)

-- the code of a command over files: that of a status with which it may end; or 6 where the output was to be kept with
-- that status, and it or the line could not be written
abbrev pub HasCode : List (List ℕ) → ℕ → Type 0
HasCode words code =
    (run : Status) × MayEnd words run × ((code ≡ code_of run) ⊎ (IsKeptWith words run × (code ≡ 6)))

-- the code of the program: that of the command that its words are; or 2 where a word is no text in UTF-8, and 7 where
-- no memory was found for the words
abbrev pub HasRunCode : ℕ → Type 0
HasRunCode code = ((words : List (List ℕ)) × HasCode words code) ⊎ ((code ≡ 2) ⊎ (code ≡ 7))
