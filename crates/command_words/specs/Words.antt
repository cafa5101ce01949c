-- What the words of a command are: the word at a place, numbers within their ranges, profiles and fonts.
use Rattle.std.specs.Prelude.{ℕ, not, Bool, if◌then◌else◌, List, [], slice_index_or, Option, Some, None, option_and_then, codes}
use Rattle.std.specs.Str.{bytes_eq}
use Rattle.sub_base.specs.Number.{number_in}
use Rattle.sub_base.specs.declared.profile.ProfileName.{ProfileName}
use Rattle.sub_base.specs.declared.profile.ProfileName.TheVariants.{Sd, Hd, Wide, Large}
use Rattle.command_words.specs.declared.place.InputPlaces.{InputPlaces}
use Rattle.command_words.specs.declared.ranges.TheConstants.{GREATEST_PAGE, GREATEST_PID, LEAST_PID}

-- the value, if there is one, and what is made of it
infixl 10 ◌>>=◌
abbrev pub ◌>>=◌ : {A B : Type 0} → Option A → (A → Option B) → Option B
value >>= make = option_and_then make value

-- the word at that place
abbrev pub word_at : List (List ℕ) → ℕ → List ℕ
word_at words place = slice_index_or words place []

-- the word at that place is that text
abbrev pub has_word : List (List ℕ) → ℕ → List ℕ → Bool
has_word words place text = bytes_eq (word_at words place) text

-- the PID that a word is, where it is a number from 32 to 8,190
abbrev pub pid_of : List ℕ → Option ℕ
pid_of word = number_in LEAST_PID GREATEST_PID word

-- the page (page_id) that a word is, where it is a number from 1 to 65,535
abbrev pub page_of : List ℕ → Option ℕ
page_of word = number_in 1 GREATEST_PAGE word

-- the profile of that name, of those for which scripts are compiled
abbrev pub sending_profile : List ℕ → Option ProfileName
sending_profile word =
    if bytes_eq word (codes "sd") then Some Sd
    else if bytes_eq word (codes "hd") then Some Hd
    else if bytes_eq word (codes "large") then Some Large
    else None

-- the profile of that name
abbrev pub reading_profile : List ℕ → Option ProfileName
reading_profile word = if bytes_eq word (codes "wide") then Some Wide else sending_profile word

-- the word names a font, and is not that for no font
abbrev pub names_font : List ℕ → Bool
names_font word = not (bytes_eq word (codes "none"))

-- the files of words that are no command
abbrev pub no_places : InputPlaces
no_places = record { first = None; second = None; out = None }
