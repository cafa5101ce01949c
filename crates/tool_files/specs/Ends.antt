-- What is told as a tool ends, and the program's code.
use Rattle.std.specs.Prelude.{◌≡◌, ◌⊎◌, Bool, true, false, if◌then◌else◌, List, [], ◌∷◌, ◌++◌, ℕ, Option, None, Some, is_some, bytes_eq, codes}
use Rattle.program_files.specs.Keeping.{is_kept}
use Rattle.program_files.specs.declared.keeping.OutputKind.TheVariants as output
use Rattle.live_plan.specs.LiveOutcome.{HasLiveCause}
use Rattle.live_plan.specs.LiveWords.{live_words}
use Rattle.live_plan.specs.declared.faults.LiveFault.{LiveFault}
use Rattle.page_pair.specs.PairTop.{pair_command, tool_causes}
use Rattle.service_mux.specs.MuxOutcome.{mux_causes}
use Rattle.service_mux.specs.MuxWords.{mux_words}
use Rattle.service_mux.specs.TakeOutcome.{take_causes}
use Rattle.service_mux.specs.TakeWords.{take_words}
use Rattle.splice.specs.SpliceOutcome.{splice_causes}
use Rattle.splice.specs.SpliceWords.{splice_words}
use Rattle.stream_report.specs.FaultsOutcome.{faults_causes}
use Rattle.stream_report.specs.FaultsWords.{faults_words}
use Rattle.stream_report.specs.LevelsOutcome.{levels_causes}
use Rattle.stream_report.specs.LevelsWords.{levels_words}
use Rattle.stream_report.specs.PicturesOutcome.{pictures_causes}
use Rattle.stream_report.specs.PicturesWords.{pictures_words}
use Rattle.stream_report.specs.PidsOutcome.{pids_causes}
use Rattle.stream_report.specs.PidsWords.{pids_words}
use Rattle.sub_base.specs.Endpoints.{Received}
use Rattle.sub_base.specs.Seen.{Seen}
use Rattle.sub_base.specs.ToolOutcome.{Causes, IsToolRun, TellsTool, tool_code}
use Rattle.sub_base.specs.declared.status.ToolStatus.{ToolStatus}
use Rattle.tool_files.specs.declared.table.TheConstants.{TOOLS}
use Rattle.tool_files.specs.declared.tool.Tool.{Tool}
use Rattle.tool_files.specs.declared.tool.Tool.TheVariants as tool

-- ---- what is told

-- the table of tools, as it is written: each of its lines ends in a line feed
abbrev pub tool_lines : List ℕ
tool_lines = TOOLS.now ++ 10 ∷ []

-- a sink has received the line of the status, or a prefix of it where it failed; the code is that of the status, which
-- is another one where `done` could not be told
abbrev pub IsToolTold : {F : Type 0} → (F → List ℕ) → Received → Received → ToolStatus F → ℕ → Type 0
IsToolTold {F} name before now run code =
    (answer : ToolStatus F) × TellsTool name before now run answer × (code ≡ tool_code answer)

-- ---- the code

-- the code of a tool's status; or 6 where its output was to be kept with that status, and it or the line could not be
-- written
abbrev pub IsCodeOf : {F : Type 0} → Bool → ToolStatus F → ℕ → Type 0
IsCodeOf has_written run code =
    (code ≡ tool_code run) ⊎ ((is_kept output.Tool has_written (tool_code run) ≡ true) × (code ≡ 6))

-- a tool that was asked for so may end with that code: it is that of a status that has its cause, by something that may
-- be seen of its files before and now
abbrev pub MayToolEnd : {C F : Type 0} → (C → Seen → Seen → Causes F) → Option C → ℕ → Type 0
MayToolEnd {C} {F} causes command code =
    (run : ToolStatus F) × (before : Seen) × (now : Seen) × (has_written : Bool)
    × IsToolRun causes command before now run × IsCodeOf has_written run code

-- the same of `live`, which tells its lines and its status by itself, and whose output is written as it comes
abbrev pub MayEndLive : List (List ℕ) → ℕ → Type 0
MayEndLive words code =
    (answer : ToolStatus LiveFault) × (before : Seen) × (now : Seen)
    × (notes_before : Received) × (notes_now : Received)
    × HasLiveCause (live_words words) before now notes_before notes_now answer × (code ≡ tool_code answer)

-- the tool of that name
abbrev pub tool_of : List ℕ → Option Tool
tool_of word =
    if bytes_eq word (codes "mux") then Some tool.Mux
    else if bytes_eq word (codes "take") then Some tool.Take
    else if bytes_eq word (codes "pair") then Some tool.Pair
    else if bytes_eq word (codes "pairdump") then Some tool.PairDump
    else if bytes_eq word (codes "live") then Some tool.Live
    else if bytes_eq word (codes "splice") then Some tool.Splice
    else if bytes_eq word (codes "pids") then Some tool.Pids
    else if bytes_eq word (codes "pictures") then Some tool.Pictures
    else if bytes_eq word (codes "faults") then Some tool.Faults
    else if bytes_eq word (codes "levels") then Some tool.Levels
    else None

-- the tool that the first of the words names
abbrev pub named_tool : List (List ℕ) → Option Tool
named_tool [] = None
named_tool (word ∷ words) = tool_of word

-- the words are a command of that tool
abbrev pub is_command_of : Tool → List (List ℕ) → Bool
is_command_of tool.Mux words = is_some (mux_words words)
is_command_of tool.Take words = is_some (take_words words)
is_command_of tool.Pair words = is_some (pair_command words)
is_command_of tool.PairDump words = is_some (pair_command words)
is_command_of tool.Live words = is_some (live_words words)
is_command_of tool.Splice words = is_some (splice_words words)
is_command_of tool.Pids words = is_some (pids_words words)
is_command_of tool.Pictures words = is_some (pictures_words words)
is_command_of tool.Faults words = is_some (faults_words words)
is_command_of tool.Levels words = is_some (levels_words words)

-- the words are a command of the tool that was named, if one was
abbrev pub is_named_command : Option Tool → List (List ℕ) → Bool
is_named_command None words = false
is_named_command (Some named) words = is_command_of named words

-- the words are a command of the tool that the first of them names
abbrev pub is_command : List (List ℕ) → Bool
is_command words = is_named_command (named_tool words) words

-- that tool may end with that code, where these are the words
abbrev pub MayEndAs : Tool → List (List ℕ) → ℕ → Type 0
MayEndAs tool.Mux words code = MayToolEnd mux_causes (mux_words words) code
MayEndAs tool.Take words code = MayToolEnd take_causes (take_words words) code
MayEndAs tool.Pair words code = MayToolEnd (tool_causes words) (pair_command words) code
MayEndAs tool.PairDump words code = MayToolEnd (tool_causes words) (pair_command words) code
MayEndAs tool.Live words code = MayEndLive words code
MayEndAs tool.Splice words code = MayToolEnd splice_causes (splice_words words) code
MayEndAs tool.Pids words code = MayToolEnd pids_causes (pids_words words) code
MayEndAs tool.Pictures words code = MayToolEnd pictures_causes (pictures_words words) code
MayEndAs tool.Faults words code = MayToolEnd faults_causes (faults_words words) code
MayEndAs tool.Levels words code = MayToolEnd levels_causes (levels_words words) code

-- the code of a tool over files is one with which the tool that the words name may end; words that name none end with 2
abbrev pub HasToolCode : Option Tool → List (List ℕ) → ℕ → Type 0
HasToolCode None words code = code ≡ 2
HasToolCode (Some named) words code = MayEndAs named words code

-- the code of the program: that of the tool that its words name; or 2 where a word is no text in UTF-8, and 7 where no
-- memory was found for the words
abbrev pub HasToolRunCode : ℕ → Type 0
HasToolRunCode code =
    ((words : List (List ℕ)) × HasToolCode (named_tool words) words code) ⊎ ((code ≡ 2) ⊎ (code ≡ 7))
