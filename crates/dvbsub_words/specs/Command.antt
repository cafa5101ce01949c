-- The commands of the program.
use Rattle.std.specs.Prelude.{◌≡◌, ℕ, ◌==◌, Bool, true, false, ◌&&◌, if◌then◌else◌, List, length, drop, Option, Some, None, ◌<◌, ◌≤◌, codes}
use Rattle.std.specs.List.{list_all}
use Rattle.std.specs.Option.{option_or}
use Rattle.std.specs.Str.{bytes_eq}
use Rattle.command_words.specs.PlainWords.{is_plain}
use Rattle.command_words.specs.Ticks.{are_rising, has_ticks}
use Rattle.command_words.specs.Words.{◌>>=◌, has_word, names_font, no_places, page_of, pid_of, reading_profile, sending_profile, word_at}
use Rattle.command_words.specs.declared.ranges.TheConstants.{MOST_BANDS}
use Rattle.sub_base.specs.Number.{number_in}
use Rattle.sub_base.specs.declared.profile.ProfileName.{ProfileName}
use Rattle.sub_base.specs.declared.profile.ProfileName.TheVariants.{Sd, Hd, Wide, Large}
use Rattle.shown_stream.specs.Compiled.{IsCompiledFor}
use Rattle.dvbsub_words.specs.declared.command.TheConstants.{MOST_GENERATED}
use Rattle.dvbsub_words.specs.declared.command.Command.{Command}
use Rattle.dvbsub_words.specs.declared.command.Command.TheVariants as command
use Rattle.command_words.specs.declared.place.InputPlaces.{InputPlaces}
use Rattle.stream_syntax.specs.declared.wire.TheConstants.{TIME_ROUND, NULL_PID}
use Rattle.cue_records.specs.declared.limits.TheConstants.{LATEST_ORIGIN}

-- `compile PROFILE PID PAGE SCRIPT FONT OUT`
abbrev pub compile_of : List (List ℕ) → Option Command
compile_of words = if (length words == 7) && has_word words 0 (codes "compile") then (do
  profile ← sending_profile (word_at words 1)
  pid ← pid_of (word_at words 2)
  page ← page_of (word_at words 3)
  Some (command.Compile profile pid page (names_font (word_at words 5)))) else None

-- `list PID STREAM OUT`
abbrev pub list_of : List (List ℕ) → Option Command
list_of words = if (length words == 4) && has_word words 0 (codes "list") then (do
  pid ← pid_of (word_at words 1)
  Some (command.List pid)) else None

-- the words are `expect SCRIPT FONT OUT TICK...`, with 1 to 1,000 rising ticks
abbrev pub is_expect : List (List ℕ) → Bool
is_expect words = has_ticks 4 words && has_word words 0 (codes "expect")

-- the command that such words are, by whether they name a font
abbrev pub expect_of : List (List ℕ) → Option Command
expect_of words = if is_expect words then Some (command.Expect (names_font (word_at words 2))) else None

-- `dump PROFILE PID PAGE BANDS STREAM OUT TICK...`, with 1 to 1,000 rising ticks
abbrev pub dump_of : List (List ℕ) → Option Command
dump_of words = if has_ticks 7 words && has_word words 0 (codes "dump") then (do
  profile ← reading_profile (word_at words 1)
  pid ← pid_of (word_at words 2)
  page ← page_of (word_at words 3)
  bands ← number_in 1 MOST_BANDS (word_at words 4)
  Some (command.Dump profile pid page bands)) else None

-- `check PROFILE ORIGIN PID PAGE STREAM OUT`
abbrev pub check_of : List (List ℕ) → Option Command
check_of words = if (length words == 7) && has_word words 0 (codes "check") then (do
  profile ← sending_profile (word_at words 1)
  origin ← number_in 0 LATEST_ORIGIN (word_at words 2)
  pid ← pid_of (word_at words 3)
  page ← page_of (word_at words 4)
  Some (command.Check profile origin pid page)) else None

-- the profile of that name, of those for which scripts are generated
abbrev pub generating_profile : List ℕ → Option ProfileName
generating_profile word = if bytes_eq word (codes "sd") then Some Sd else if bytes_eq word (codes "hd") then Some Hd else None

-- `gen N PROFILE OUT`
abbrev pub gen_of : List (List ℕ) → Option Command
gen_of words = if (length words == 4) && has_word words 0 (codes "gen") then (do
  number ← number_in 1 MOST_GENERATED (word_at words 1)
  profile ← generating_profile (word_at words 2)
  Some (command.Gen number profile)) else None

-- the command of these words, none of which is empty or begins with `-`
abbrev pub named_command : List (List ℕ) → Option Command
named_command words =
    option_or (compile_of words)
    (option_or (list_of words)
    (option_or (dump_of words) (option_or (check_of words) (option_or (expect_of words) (gen_of words)))))

-- the command that the words are, if they are one: no word is empty or begins with `-`, and each number is in its range
unfoldable pub command_of : List (List ℕ) → Option Command
command_of words = if list_all is_plain words then named_command words else None

-- the place of a font's file, where the command names one
abbrev pub font_place : Bool → ℕ → Option ℕ
font_place true place = Some place
font_place false place = None

-- where the names of a command's files stand among the words
abbrev pub places_of : Option Command → InputPlaces
places_of None = no_places
places_of (Some (command.Compile profile pid page has_font)) =
    record { first = Some 4; second = font_place has_font 5; out = Some 6 }
places_of (Some (command.List pid)) = record { first = Some 2; second = None; out = Some 3 }
places_of (Some (command.Dump profile pid page bands)) = record { first = Some 5; second = None; out = Some 6 }
places_of (Some (command.Check profile origin pid page)) = record { first = Some 5; second = None; out = Some 6 }
places_of (Some (command.Expect has_font)) = record { first = Some 1; second = font_place has_font 2; out = Some 3 }
places_of (Some (command.Gen number profile)) = record { first = None; second = None; out = Some 3 }

-- a profile that scripts are generated for
abbrev pub IsGeneratedFor : ProfileName → Type 0
IsGeneratedFor Sd = Unit {0}
IsGeneratedFor Hd = Unit {0}
IsGeneratedFor Wide = ⊥
IsGeneratedFor Large = ⊥

-- the numbers of a command are in their ranges: packets are sent with a PID of 13 bits that null packets do not have,
-- for a profile that scripts are compiled for, and so are levels measured; a stream begins at a tick of 33 bits;
-- pictures are drawn in 1 to 64 bands, and the ticks rise; a script is generated of 1 to 500 cues
abbrev pub IsInRange : List (List ℕ) → Command → Type 0
IsInRange words (command.Compile profile pid page has_font) = (pid < NULL_PID) × IsCompiledFor profile
IsInRange words (command.List pid) = Unit {0}
IsInRange words (command.Dump profile pid page bands) =
    (1 ≤ bands) × (bands ≤ 64) × (are_rising None (drop 7 words) ≡ true)
IsInRange words (command.Check profile origin pid page) = IsCompiledFor profile × (origin < TIME_ROUND)
IsInRange words (command.Expect has_font) = Unit {0}
IsInRange words (command.Gen number profile) = (1 ≤ number) × (number ≤ 500) × IsGeneratedFor profile
