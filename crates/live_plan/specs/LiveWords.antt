-- The words of `live`.
use Rattle.std.specs.Prelude.{ℕ, ◌==◌, ◌&&◌, ◌<◌, Bool, true, false, if◌then◌else◌, List, length, Option, Some, None, codes}
use Rattle.std.specs.List.{list_all}
use Rattle.command_words.specs.PlainWords.{is_plain}
use Rattle.command_words.specs.Words.{◌>>=◌, has_word, names_font, no_places, page_of, pid_of, sending_profile, word_at}
use Rattle.command_words.specs.declared.place.InputPlaces.{InputPlaces}
use Rattle.shown_stream.specs.Compiled.{IsCompiledFor}
use Rattle.stream_syntax.specs.declared.wire.TheConstants.{NULL_PID}
use Rattle.live_plan.specs.declared.live_words.LiveCommand.{LiveCommand}

-- the words PROFILE PID PAGE behind the first, and whether the word for the font names one
abbrev pub live_command_of : List (List ℕ) → Option LiveCommand
live_command_of words = do
  name ← sending_profile (word_at words 1)
  number ← pid_of (word_at words 2)
  its_page ← page_of (word_at words 3)
  Some (record { profile = name; pid = number; page = its_page; has_font = names_font (word_at words 5) })

-- `live PROFILE PID PAGE SCRIPT FONT OUT`
abbrev pub live_words : List (List ℕ) → Option LiveCommand
live_words words =
    if list_all is_plain words && ((length words == 7) && has_word words 0 (codes "live")) then live_command_of words
    else None

-- the place of the font's file, where the command names one
abbrev pub live_font_place : Bool → Option ℕ
live_font_place true = Some 5
live_font_place false = None

-- where the files of a command stand among its words
abbrev pub places_of : Option LiveCommand → InputPlaces
places_of None = no_places
places_of (Some command) = record { first = Some 4; second = live_font_place command.has_font; out = Some 6 }

-- where the files of `live` stand among these words
abbrev pub live_places : List (List ℕ) → InputPlaces
live_places words = places_of (live_words words)

-- scripts are compiled for the profile, and null packets have another PID
pub record IsLiveCommand (command : LiveCommand) : Type 0 where
  pub compiled : IsCompiledFor command.profile
  pub free : command.pid < NULL_PID
