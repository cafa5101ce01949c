-- The words of `mux`.
use Rattle.std.specs.Prelude.{◌≡◌, ◌≢◌, ℕ, ◌==◌, nat_le, not, ◌+◌, ◌<◌, ◌≤◌, ◌^◌, Bool, ◌&&◌, if◌then◌else◌, List, length, Option, Some, None, is_some, codes}
use Rattle.std.specs.List.{list_all}
use Rattle.command_words.specs.PlainWords.{is_plain}
use Rattle.command_words.specs.declared.place.InputPlaces.{InputPlaces}
use Rattle.command_words.specs.Words.{◌>>=◌, has_word, no_places, page_of, pid_of, word_at}
use Rattle.psi_tables.specs.declared.service.Service.{Service}
use Rattle.service_mux.specs.TakeWords.{service_of}
use Rattle.service_mux.specs.declared.mux_words.ServicePair.{ServicePair}

-- a small letter, a to z
abbrev pub is_letter : ℕ → Bool
is_letter byte = nat_le 97 byte && nat_le byte 122

-- the three letters of a language (ISO 639-2)
abbrev pub language_of : List ℕ → Option (List ℕ)
language_of word = if (length word == 3) && list_all is_letter word then Some word else None

-- the service that the words N M PID PAGE LANG name, from a place on
abbrev pub service_from : ℕ → List (List ℕ) → Option Service
service_from place words = do
  service ← service_of (word_at words place)
  table ← pid_of (word_at words (place + 1))
  stream ← pid_of (word_at words (place + 2))
  its_page ← page_of (word_at words (place + 3))
  letters ← language_of (word_at words (place + 4))
  Some (record { number = service; pmt = table; pid = stream; page = its_page; language = letters })

-- the numbers of two services differ, and so do the four PIDs
abbrev pub are_apart : Service → Service → Bool
are_apart one two =
    not (one.number == two.number)
    && (not (one.pmt == one.pid) && (not (one.pmt == two.pmt) && (not (one.pmt == two.pid)
    && (not (one.pid == two.pmt) && (not (one.pid == two.pid) && not (two.pmt == two.pid))))))

-- two services, where they are apart
abbrev pub if_apart : Service → Service → Option ServicePair
if_apart first second = if are_apart first second then Some (record { one = first; two = second }) else None

-- `mux N1 M1 PID1 PAGE1 LANG1 N2 M2 PID2 PAGE2 LANG2 STREAM1 STREAM2 OUT`
abbrev pub mux_words : List (List ℕ) → Option ServicePair
mux_words words =
    if list_all is_plain words && ((length words == 14) && has_word words 0 (codes "mux")) then (do
      first ← service_from 1 words
      second ← service_from 6 words
      if_apart first second) else None

-- where its files stand among its words
abbrev pub mux_places : List (List ℕ) → InputPlaces
mux_places words =
    if is_some (mux_words words) then record { first = Some 11; second = Some 12; out = Some 13 } else no_places

-- the numbers of two services differ, and so do their four PIDs, none of which is that of the PAT or of null packets
pub record AreServices (pair : ServicePair) : Type 0 where
  pub numbers : pair.one.number ≢ pair.two.number
  pub some : (1 ≤ pair.one.number) × (1 ≤ pair.two.number)
  pub fit : (pair.one.number < 2 ^ 16) × (pair.two.number < 2 ^ 16)
  pub least : (1 ≤ pair.one.pmt) × (1 ≤ pair.one.pid) × (1 ≤ pair.two.pmt) × (1 ≤ pair.two.pid)
  pub most : (pair.one.pmt < 8191) × (pair.one.pid < 8191) × (pair.two.pmt < 8191) × (pair.two.pid < 8191)
  pub first : (pair.one.pmt ≢ pair.one.pid) × (pair.one.pmt ≢ pair.two.pmt) × (pair.one.pmt ≢ pair.two.pid)
  pub second : (pair.one.pid ≢ pair.two.pmt) × (pair.one.pid ≢ pair.two.pid) × (pair.two.pmt ≢ pair.two.pid)
  pub languages : (length pair.one.language ≡ 3) × (length pair.two.language ≡ 3)
