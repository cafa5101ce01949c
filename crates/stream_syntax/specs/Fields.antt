-- The syntax tables of the standards: rows of so many bits each, one after the other, the highest bit first.
use Rattle.std.specs.Prelude.{◌≡◌, ℕ, ◌+◌, ◌*◌, ◌^◌, ◌<◌, List, [], ◌∷◌, ◌++◌, length, replicate}
use Rattle.std.specs.List.{flat_map, AllByRecursion}
use Rattle.stream_syntax.specs.PixelCodes.{bits}

-- a row of a table: a number in so many bits, or so many reserved bits
pub data Field : Type 0 where
  number : ℕ → ℕ → Field
  reserved : ℕ → Field

-- the bits of a row: its number's, or, where it is reserved, any
abbrev pub IsRowBits : Field → List ℕ → Type 0
IsRowBits (number width n) row = row ≡ bits width n
IsRowBits (reserved width) row = length row ≡ width

-- the bits are those of the rows of a table, one row after the other
pub data HasFields : List Field → List ℕ → Type 0 where
  no_row : HasFields [] []
  row_first : {field : Field} {fields : List Field} {stream : List ℕ} (row rest : List ℕ) → IsRowBits field row
      → HasFields fields rest → stream ≡ row ++ rest → HasFields (field ∷ fields) stream

-- what a writer makes of a row: its reserved bits are 1
abbrev pub written_row : Field → List ℕ
written_row (number width n) = bits width n
written_row (reserved width) = replicate width 1

-- what a writer makes of a table
unfoldable pub written : List Field → List ℕ
written fields = flat_map written_row fields

-- the number that bits are, the highest first
unfoldable pub number_of : List ℕ → ℕ
number_of [] = 0
number_of (bit ∷ rest) = bit * 2 ^ length rest + number_of rest

-- the bytes that bits are, eight bits a byte
unfoldable pub bytes_of : List ℕ → List ℕ
bytes_of (a ∷ b ∷ c ∷ d ∷ e ∷ f ∷ g ∷ h ∷ rest) =
    number_of (a ∷ b ∷ c ∷ d ∷ e ∷ f ∷ g ∷ h ∷ []) ∷ bytes_of rest
bytes_of rest = []

-- a number fits its row
abbrev pub FitsRow : Field → Type 0
FitsRow (number width n) = n < 2 ^ width
FitsRow (reserved width) = Unit {0}

-- each number of a table fits its row
abbrev pub FitsFields : List Field → Type 0
FitsFields fields = AllByRecursion FitsRow fields
