-- The words of `take`.
use Rattle.std.specs.Prelude.{ℕ, ◌==◌, ◌&&◌, if◌then◌else◌, List, length, Option, Some, None, is_some, codes}
use Rattle.std.specs.List.{list_all}
use Rattle.sub_base.specs.Number.{number_in}
use Rattle.command_words.specs.PlainWords.{is_plain}
use Rattle.command_words.specs.Words.{has_word, no_places, word_at}
use Rattle.command_words.specs.declared.place.InputPlaces.{InputPlaces}

-- the number of a service that a word is (program_number); 0 is that of the network
abbrev pub service_of : List ℕ → Option ℕ
service_of word = number_in 1 65535 word

-- `take SERVICE STREAM OUT`: the number of the service
abbrev pub take_words : List (List ℕ) → Option ℕ
take_words words =
    if list_all is_plain words && (length words == 4) && has_word words 0 (codes "take") then service_of (word_at words 1)
    else None

-- where its files stand among its words
abbrev pub take_places : List (List ℕ) → InputPlaces
take_places words =
    if is_some (take_words words) then record { first = Some 2; second = None; out = Some 3 } else no_places
