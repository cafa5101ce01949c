-- Words that are no options.
use Rattle.std.specs.Prelude.{◌==◌, not, ℕ, Bool, ◌&&◌, nat_lt, List, length, slice_index}

-- a word that has a byte, and does not begin with `-`
abbrev pub is_plain : List ℕ → Bool
is_plain word = nat_lt 0 (length word) && not (slice_index word 0 == 45)
