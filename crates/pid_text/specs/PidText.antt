-- What `pids` tells of the PIDs of a stream: of each PID with PES packets of subtitles how many there are, the times of
-- the first and the last, and the pages that they name.
use Rattle.std.specs.Prelude.{◌≡◌, ℕ, zero, suc, ◌<◌, ◌≤◌, ◌==◌, Bool, true, false, if◌then◌else◌, List, [], ◌∷◌, ◌++◌, length, reverse, min, codes, ◌-◌, ◌^◌}
use Rattle.std.specs.List.{AllByRecursion, flat_map, list_any}
use Rattle.command_text.specs.Lines.{line_end, then_number}
use Rattle.pid_text.specs.PidUnits.{SubtitleUnit, ancillaries, compositions, is_named, units_of}

-- ---- pages

-- the most pages that are told of a PID
abbrev pub MOST_PAGES : ℕ
MOST_PAGES = 64

-- each number is lower than all behind it
abbrev pub AreRising : List ℕ → Type 0
AreRising [] = Unit {0}
AreRising (page ∷ pages) = AllByRecursion (λ later. page < later) pages × AreRising pages

-- the page is among these
abbrev pub is_in : ℕ → List ℕ → Bool
is_in page pages = list_any (λ other. other == page) pages

-- a page that PES packets name and that is not among these
pub record IsLeftOut (units : List SubtitleUnit) (pages : List ℕ) (page : ℕ) : Type 0 where
  pub named : is_named page units ≡ true
  pub left_out : is_in page pages ≡ false

-- these pages are told of PES packets, in rising order: all that they name; or, where there are more than 64, the
-- lowest 64
pub record AreTold (units : List SubtitleUnit) (pages : List ℕ) (more : Bool) : Type 0 where
  pub rising : AreRising pages
  pub few : length pages ≤ MOST_PAGES
  pub named : AllByRecursion (λ page. is_named page units ≡ true) pages
  pub all : more ≡ false → (page : ℕ) → IsLeftOut units pages page → ⊥
  pub some : more ≡ true → (page : ℕ) × IsLeftOut units pages page
  pub full : more ≡ true → length pages ≡ MOST_PAGES
  pub lowest : (page : ℕ) → IsLeftOut units pages page → AllByRecursion (λ told. told < page) pages

-- ---- lines

-- a count as it is told: no number of more than 64 bits is
abbrev pub counted : ℕ → ℕ
counted count = min count (2 ^ 64 - 1)

-- the beginning of the line of a PID: how many PES packets of subtitles it has
abbrev pub units_part : ℕ → ℕ → List ℕ
units_part pid count = codes "pid" ++ then_number pid ++ codes " units" ++ then_number count

-- the rest of the line of a PID: the presentation times of the first and the last of them, in ticks of 90 kHz
abbrev pub times_part : ℕ → ℕ → List ℕ
times_part first last =
    codes " first" ++ then_number first ++ codes " last" ++ then_number last ++ line_end

-- the line of a PID: how many PES packets of subtitles it has, and the times of the first and the last
abbrev pub pid_line : ℕ → ℕ → ℕ → ℕ → List ℕ
pid_line pid count first last = units_part pid count ++ times_part first last

-- the line of a page: how many PES packets have a page composition of it, and how many CLUT definitions and object data
-- of it stand in others
abbrev pub page_line : ℕ → ℕ → ℕ → List ℕ
page_line page composed ancillary =
    codes "page" ++ then_number page ++ codes " composition" ++ then_number composed ++ codes " ancillary"
    ++ then_number ancillary ++ line_end

-- the line that says that there are more
abbrev pub more_line : List ℕ
more_line = codes "more" ++ line_end

-- that line, where there are more than are told, and else nothing
abbrev pub more_where : Bool → List ℕ
more_where more = if more then more_line else []

-- ---- the text

-- the presentation time of the first PES packet; 0 where there is none
abbrev pub first_time : List SubtitleUnit → ℕ
first_time [] = 0
first_time (unit ∷ units) = unit.time

-- the presentation time of the last PES packet; 0 where there is none
abbrev pub last_time : List SubtitleUnit → ℕ
last_time units = first_time (reverse units)

-- the line of a page by the PES packets of subtitles of a PID
abbrev pub page_text : List SubtitleUnit → ℕ → List ℕ
page_text units page = page_line page (counted (compositions page units)) (counted (ancillaries page units))

-- the text of the PES packets of a PID: none where it has none
pub data IsUnitsText (pid : ℕ) (units : List SubtitleUnit) (text : List ℕ) : Type 0 where
  no_unit : units ≡ [] → text ≡ [] → IsUnitsText pid units text
  some_units : (pages : List ℕ) (more : Bool) → 0 < length units → AreTold units pages more
      → text ≡ pid_line pid (counted (length units)) (first_time units) (last_time units)
      ++ (flat_map (page_text units) pages ++ more_where more)
      → IsUnitsText pid units text

-- the texts of the numbers below a bound, one after another
unfoldable pub texts_below : (ℕ → List ℕ) → ℕ → List ℕ
texts_below text zero = []
texts_below text (suc n) = texts_below text n ++ text n

-- PIDs are numbers of 13 bits
abbrev pub PIDS : ℕ
PIDS = 8192

-- no packet has this PID: the packets of a stream are refused for their sync byte alone
abbrev pub NO_PID : ℕ
NO_PID = 8192

-- the text of the packets of a stream: that of each PID, in rising order
pub record IsPidsText (packets : List (List ℕ)) (text : List ℕ) : Type 0 where
  pub text_of : ℕ → List ℕ
  pub each : (pid : ℕ) → pid < PIDS → IsUnitsText pid (units_of pid packets) (text_of pid)
  pub whole : text ≡ texts_below text_of PIDS
