-- How a reader goes through sections that follow one another.
use Rattle.std.specs.Prelude.{◌≡◌, ℕ, ◌≤◌, ◌==◌, not, Bool, false, List, [], ◌∷◌, ◌++◌, length}
use Rattle.stream_syntax.specs.declared.wire.TheConstants.{PAYLOAD_LENGTH}
use Rattle.section_reader.specs.Reading.{Takes}
use Rattle.section_reader.specs.Sections.{Ended, NO_TABLE, following}

-- a section begins these bytes, and no stuffing
abbrev pub begins_section : List ℕ → Bool
begins_section [] = false
begins_section (byte ∷ bytes) = not (byte == NO_TABLE)

-- the sections of bytes, one behind another
abbrev pub follows : List ℕ → Ended
follows bytes = following (length bytes) bytes

-- of the bytes these are left, and the sections before them were taken
pub record HasFollowed {Taker Kept : Type 0} (stands : Taker → List (List ℕ) → Type 0) (kept : Taker → Kept)
    (old new : Taker) (bytes rest : List ℕ) : Type 0 where
  pub passed : List (List ℕ)
  pub sections : (follows bytes).sections ≡ passed ++ (follows rest).sections
  pub hand : (follows bytes).hand ≡ (follows rest).hand
  pub taken : Takes stands kept old new passed
  pub short : length rest ≤ PAYLOAD_LENGTH
