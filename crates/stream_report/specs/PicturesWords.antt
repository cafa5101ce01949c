-- The words of `pictures`.
use Rattle.std.specs.Prelude.{ℕ, ◌==◌, ◌≤◌, ◌&&◌, if◌then◌else◌, List, length, Option, Some, None, is_some, codes}
use Rattle.std.specs.List.{list_all}
use Rattle.command_words.specs.PlainWords.{is_plain}
use Rattle.command_words.specs.Words.{◌>>=◌, has_word, no_places, page_of, pid_of, reading_profile, word_at}
use Rattle.command_words.specs.declared.place.InputPlaces.{InputPlaces}
use Rattle.command_words.specs.declared.ranges.TheConstants.{MOST_BANDS}
use Rattle.sub_base.specs.Number.{number_in}
use Rattle.stream_report.specs.declared.pictures_words.PictureReport.{PictureReport}

-- `pictures PROFILE PID PAGE BANDS STREAM OUT`
abbrev pub pictures_words : List (List ℕ) → Option PictureReport
pictures_words words =
    if list_all is_plain words && ((length words == 7) && has_word words 0 (codes "pictures")) then (do
      name ← reading_profile (word_at words 1)
      stream ← pid_of (word_at words 2)
      own ← page_of (word_at words 3)
      many ← number_in 1 MOST_BANDS (word_at words 4)
      Some (record { profile = name; pid = stream; page = own; bands = many })) else None

-- where its files stand among its words
abbrev pub pictures_places : List (List ℕ) → InputPlaces
pictures_places words =
    if is_some (pictures_words words) then record { first = Some 5; second = None; out = Some 6 } else no_places

-- the bands are 1 to 64
pub record HasBands (report : PictureReport) : Type 0 where
  pub some : 1 ≤ report.bands
  pub few : report.bands ≤ 64
