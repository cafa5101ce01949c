-- Words of a command line by their places.
use Rattle.std.specs.Prelude.{ℕ, List, Option, Some, None, slice_get}

-- the word at that place, where the place is known and there is one
abbrev pub word_in : List (List ℕ) → Option ℕ → Option (List ℕ)
word_in words None = None
word_in words (Some place) = slice_get words place
