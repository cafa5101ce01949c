-- The words of `levels`.
use Rattle.std.specs.Prelude.{ℕ, ◌==◌, ◌≤◌, ◌&&◌, if◌then◌else◌, List, length, Option, Some, None, is_some, codes}
use Rattle.std.specs.List.{list_all}
use Rattle.std.specs.Str.{bytes_eq}
use Rattle.command_words.specs.PlainWords.{is_plain}
use Rattle.command_words.specs.Words.{◌>>=◌, has_word, no_places, page_of, pid_of, reading_profile, word_at}
use Rattle.command_words.specs.declared.place.InputPlaces.{InputPlaces}
use Rattle.level_text.specs.declared.rate_clock.TheConstants.{GREATEST_RATE, LEAST_RATE}
use Rattle.sub_base.specs.Number.{number_in}
use Rattle.stream_report.specs.declared.levels_words.Arrival.{Arrival}
use Rattle.stream_report.specs.declared.levels_words.Arrival.TheVariants as arrival
use Rattle.stream_report.specs.declared.levels_words.LevelReport.{LevelReport}

-- `pcr`, or a rate in bits a second
abbrev pub arrival_of : List ℕ → Option Arrival
arrival_of word =
    if bytes_eq word (codes "pcr") then Some arrival.Clock else (do
      bits ← number_in LEAST_RATE GREATEST_RATE word
      Some (arrival.Rate bits))

-- `levels PROFILE PID PAGE RATE STREAM OUT`
abbrev pub levels_words : List (List ℕ) → Option LevelReport
levels_words words =
    if list_all is_plain words && ((length words == 7) && has_word words 0 (codes "levels")) then (do
      name ← reading_profile (word_at words 1)
      stream ← pid_of (word_at words 2)
      own ← page_of (word_at words 3)
      by ← arrival_of (word_at words 4)
      Some (record { profile = name; pid = stream; page = own; arrival = by })) else None

-- where its files stand among its words
abbrev pub levels_places : List (List ℕ) → InputPlaces
levels_places words =
    if is_some (levels_words words) then record { first = Some 5; second = None; out = Some 6 } else no_places

-- the rate is one that may be asked for
abbrev pub MayArrive : Arrival → Type 0
MayArrive (arrival.Rate bits) = (LEAST_RATE ≤ bits) × (bits ≤ GREATEST_RATE)
MayArrive arrival.Clock = Unit {0}
