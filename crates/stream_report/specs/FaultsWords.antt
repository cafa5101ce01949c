-- The words of `faults`.
use Rattle.std.specs.Prelude.{ℕ, ◌==◌, ◌&&◌, if◌then◌else◌, List, length, Option, Some, None, is_some, codes}
use Rattle.std.specs.List.{list_all}
use Rattle.command_words.specs.PlainWords.{is_plain}
use Rattle.command_words.specs.Words.{◌>>=◌, has_word, no_places, page_of, pid_of, reading_profile, word_at}
use Rattle.command_words.specs.declared.place.InputPlaces.{InputPlaces}
use Rattle.stream_report.specs.declared.faults_words.FaultReport.{FaultReport}

-- `faults PROFILE PID PAGE STREAM OUT`
abbrev pub faults_words : List (List ℕ) → Option FaultReport
faults_words words =
    if list_all is_plain words && ((length words == 6) && has_word words 0 (codes "faults")) then (do
      name ← reading_profile (word_at words 1)
      stream ← pid_of (word_at words 2)
      own ← page_of (word_at words 3)
      Some (record { profile = name; pid = stream; page = own })) else None

-- where its files stand among its words
abbrev pub faults_places : List (List ℕ) → InputPlaces
faults_places words =
    if is_some (faults_words words) then record { first = Some 4; second = None; out = Some 5 } else no_places
