-- Tests of codes, and what is known of the runs of a row.
use Rattle.std.specs.Prelude.{◌≡◌, ℕ, ◌+◌, ◌<◌, ◌≤◌, Bool, false, not, ◌==◌, if◌then◌else◌, List, length, slice_index}
use Rattle.std.specs.Int.{bit_at}

-- a pixel has this code
abbrev pub is_code : ℕ → ℕ → Bool
is_code first code = code == first

-- a pixel has another code
abbrev pub differs : ℕ → ℕ → Bool
differs first code = not (code == first)

-- the next pixel has another code; asked of pixels that have a next one
abbrev pub ends_at : List ℕ → ℕ → Bool
ends_at codes place = not (slice_index codes place == slice_index codes (place + 1))

-- no run ends before a place, so that all codes from another up to it are one
abbrev pub IsOneRun : List ℕ → ℕ → ℕ → Type 0
IsOneRun codes from to = (place : ℕ) → from ≤ place → place < to → ends_at codes place ≡ false

-- the run that begins at the place `from` goes on at the place `to`, or the row ends where it would begin
pub record GoesOn (codes : List ℕ) (from to : ℕ) : Type 0 where
  pub ordered : from ≤ to
  pub within : to ≤ length codes
  pub alike : IsOneRun codes from to
  pub ended : length codes ≤ to → from ≡ to

-- of the 64 pixels from a place on the bits of those from `from` on are set where a run ends, and no bits before
pub record HasEnds (codes : List ℕ) (at from word : ℕ) : Type 0 where
  pub before : (bit : ℕ) → at + bit < from → bit_at word bit ≡ 0
  pub behind : (bit : ℕ) → bit < 64 → from ≤ at + bit
      → bit_at word bit ≡ (if ends_at codes (at + bit) then 1 else 0)
