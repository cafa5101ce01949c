-- The words of `splice`.
use Rattle.std.specs.Prelude.{ℕ, ◌==◌, ◌-◌, ◌^◌, ◌&&◌, if◌then◌else◌, List, length, Option, Some, None, is_some, codes}
use Rattle.std.specs.List.{list_all}
use Rattle.sub_base.specs.Number.{number_in}
use Rattle.command_words.specs.PlainWords.{is_plain}
use Rattle.command_words.specs.Ticks.{tick_of}
use Rattle.command_words.specs.Words.{◌>>=◌, has_word, no_places, page_of, pid_of, sending_profile, word_at}
use Rattle.command_words.specs.declared.place.InputPlaces.{InputPlaces}
use Rattle.splice.specs.declared.splice_words.Splicing.{Splicing}

-- an origin, a tick of 33 bits
abbrev pub origin_of : List ℕ → Option ℕ
origin_of word = number_in 0 (2 ^ 33 - 1) word

-- the words PROFILE PID PAGE ORIGIN CUT behind the first
abbrev pub splicing_of : List (List ℕ) → Option Splicing
splicing_of words = do
  name ← sending_profile (word_at words 1)
  number ← pid_of (word_at words 2)
  its_page ← page_of (word_at words 3)
  start ← origin_of (word_at words 4)
  tick ← tick_of (word_at words 5)
  Some (record { profile = name; pid = number; page = its_page; origin = start; cut = tick })

-- `splice PROFILE PID PAGE ORIGIN CUT STREAM1 STREAM2 OUT`
abbrev pub splice_words : List (List ℕ) → Option Splicing
splice_words words =
    if list_all is_plain words && ((length words == 9) && has_word words 0 (codes "splice")) then splicing_of words
    else None

-- where its files stand among its words
abbrev pub splice_places : List (List ℕ) → InputPlaces
splice_places words =
    if is_some (splice_words words) then record { first = Some 6; second = Some 7; out = Some 8 } else no_places
