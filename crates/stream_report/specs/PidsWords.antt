-- The words of `pids`.
use Rattle.std.specs.Prelude.{ℕ, ◌==◌, Bool, ◌&&◌, if◌then◌else◌, List, length, Option, Some, None, is_some, codes}
use Rattle.std.specs.List.{list_all}
use Rattle.command_words.specs.PlainWords.{is_plain}
use Rattle.command_words.specs.Words.{has_word, no_places}
use Rattle.command_words.specs.declared.place.InputPlaces.{InputPlaces}
use Rattle.stream_report.specs.declared.pids_words.PidsReport.{PidsReport}

-- `pids STREAM OUT`
abbrev pub is_pids_command : List (List ℕ) → Bool
is_pids_command words = list_all is_plain words && ((length words == 3) && has_word words 0 (codes "pids"))

-- that the PIDs of a stream are to be told, where the words are `pids STREAM OUT`, which leave nothing to choose
abbrev pub pids_words : List (List ℕ) → Option PidsReport
pids_words words = if is_pids_command words then Some (record {}) else None

-- where its files stand among its words
abbrev pub pids_places : List (List ℕ) → InputPlaces
pids_places words =
    if is_some (pids_words words) then record { first = Some 1; second = None; out = Some 2 } else no_places
