-- Where the writing of packets at their slots stands.
use Rattle.std.specs.Prelude.{ℕ, ◌<◌, ◌≤◌, List, length, slice_index}

-- of rising slots, the first so many lie before a slot, and the others do not
pub record IsNextPlace (slots : List ℕ) (next slot : ℕ) : Type 0 where
  pub within : next ≤ length slots
  pub before : (j : ℕ) → j < next → slice_index slots j < slot
  pub after : (j : ℕ) → next ≤ j → j < length slots → slot ≤ slice_index slots j
