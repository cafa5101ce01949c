-- The tests of a reader, in order: the first that fails gives the fault.
use Rattle.std.specs.Prelude.{ℕ, ◌+◌, ◌*◌, Bool, List, [], ◌∷◌, Option, Some, None, slice_index, if◌then◌else◌}

-- the byte at a place, and 0 past the end
abbrev pub byte_at : ℕ → List ℕ → ℕ
byte_at place bytes = slice_index bytes place

-- the number of two bytes from a place on, the high byte first
abbrev pub word_at : ℕ → List ℕ → ℕ
word_at place bytes = byte_at place bytes * 256 + byte_at (place + 1) bytes

-- whether a test fails, and the fault that it then gives
pub record Test (Fault : Type 0) : Type 0 where
  pub fails : Bool
  pub fault : Fault

-- a test with the fault that it gives
abbrev pub test : {Fault : Type 0} → Bool → Fault → Test Fault
test fails fault = record { fails = fails; fault = fault }

-- the fault of the first test that fails
abbrev pub first_fault : {Fault : Type 0} → List (Test Fault) → Option Fault
first_fault [] = None
first_fault (first ∷ tests) = if first.fails then Some first.fault else first_fault tests
