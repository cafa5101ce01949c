-- How far a walk over a string has come.
use Rattle.std.specs.Prelude.{◌≡◌, ℕ, ◌+◌, ◌≤◌, List, ◌++◌, length, take, drop, flat_map, All, Some}
use Rattle.sub_base.specs.declared.depth.Depth.{Depth}
use Rattle.stream_syntax.specs.PixelCodes.{Code, IsCode, spelled, bits, bits_of}
use Rattle.code_strings.specs.Reading.{field_at}

-- the bits up to a place are whole codes of the depth, one behind another
pub record Reached (depth : Depth) (xs : List ℕ) (place : ℕ) : Type 0 where
  pub codes : List Code
  pub each : All (IsCode depth) codes
  pub text : xs ≡ flat_map (spelled depth) codes ++ drop place xs
  pub within : place ≤ length xs

-- Wherever these eight bits stand and a code can begin, so many bits from there on are whole codes, unless the bytes
-- end before.
abbrev pub IsTold : Depth → ℕ → ℕ → Type 0
IsTold depth byte steps = (bytes : List ℕ) (place : ℕ) → field_at (bits_of bytes) place 8 ≡ Some byte
    → place + steps ≤ length (bits_of bytes) → Reached depth (bits_of bytes) place
    → Reached depth (bits_of bytes) (place + steps)

-- The highest bits of a number of 64 bits, so many of them, are those from a place on.
abbrev pub ShowsBits : ℕ → ℕ → List ℕ → ℕ → Type 0
ShowsBits word count xs place = take count (bits 64 word) ≡ take count (drop place xs)
