-- The words of `pair`.
use Rattle.std.specs.Prelude.{ℕ, ◌==◌, not, ◌<◌, Bool, ◌&&◌, if◌then◌else◌, List, length, Option, Some, None, is_some, codes}
use Rattle.std.specs.List.{list_all}
use Rattle.command_words.specs.PlainWords.{is_plain}
use Rattle.command_words.specs.Words.{◌>>=◌, has_word, no_places, page_of, pid_of, sending_profile, word_at}
use Rattle.command_words.specs.declared.place.InputPlaces.{InputPlaces}
use Rattle.shown_stream.specs.Compiled.{IsCompiledFor}
use Rattle.stream_syntax.specs.declared.wire.TheConstants.{NULL_PID}
use Rattle.page_pair.specs.PairOutcome.{ArePagesApart}
use Rattle.page_pair.specs.declared.pages.TwoPages.{TwoPages}
use Rattle.page_pair.specs.declared.pair_words.Pairing.{Pairing}

-- the three pages differ
abbrev pub are_three : TwoPages → Bool
are_three pages =
    not (pages.first == pages.second) && (not (pages.first == pages.shared) && not (pages.second == pages.shared))

-- what `pair` is asked for, where its three pages differ
abbrev pub if_three : Pairing → Option Pairing
if_three pairing = if are_three pairing.pages then Some pairing else None

-- `pair PROFILE PID PAGE1 PAGE2 ANC SCRIPT1 SCRIPT2 OUT`
abbrev pub pair_words : List (List ℕ) → Option Pairing
pair_words words =
    if list_all is_plain words && ((length words == 9) && has_word words 0 (codes "pair")) then (do
      its_profile ← sending_profile (word_at words 1)
      stream ← pid_of (word_at words 2)
      one ← page_of (word_at words 3)
      two ← page_of (word_at words 4)
      ancillary ← page_of (word_at words 5)
      if_three (record {
        profile = its_profile;
        pid = stream;
        pages = record { first = one; second = two; shared = ancillary };
      })) else None

-- where its files stand among its words
abbrev pub pair_places : List (List ℕ) → InputPlaces
pair_places words =
    if is_some (pair_words words) then record { first = Some 6; second = Some 7; out = Some 8 } else no_places

-- scripts are compiled for the profile, null packets have another PID, and the three pages differ
pub record IsPairing (pairing : Pairing) : Type 0 where
  pub compiled : IsCompiledFor pairing.profile
  pub free : pairing.pid < NULL_PID
  pub apart : ArePagesApart pairing.pages
