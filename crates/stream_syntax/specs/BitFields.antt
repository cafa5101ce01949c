-- A layout of fields with widths in bits, highest bit first, as the standards' syntax tables write it.
use Rattle.std.specs.Prelude.{ℕ, ◌+◌, ◌*◌, ◌/◌, ◌^◌, ◌<◌, List, [], ◌∷◌, ◌++◌, ⊤}
use Rattle.byteorder.specs.Endian.{big_bytes}

-- a field: its width in bits, and its value
pub record BitField : Type 0 where
  pub width : ℕ
  pub value : ℕ

-- the field of so many bits that has this value
abbrev pub field : ℕ → ℕ → BitField
field bits number = record { width = bits; value = number }

-- how many bits fields have together
abbrev pub width_of_fields : List BitField → ℕ
width_of_fields [] = 0
width_of_fields (f ∷ fs) = f.width + width_of_fields fs

-- the number that the bits of fields make, one field after another
abbrev pub number_of_fields : List BitField → ℕ
number_of_fields [] = 0
number_of_fields (f ∷ fs) = f.value * 2 ^ width_of_fields fs + number_of_fields fs

-- the bytes of a layout: its fields in groups, each of which fills whole bytes
abbrev pub packed : List (List BitField) → List ℕ
packed [] = []
packed (fields ∷ groups) = big_bytes (width_of_fields fields / 8) (number_of_fields fields) ++ packed groups

-- each value fits the width of its field
abbrev pub AreFields : List BitField → Type 0
AreFields [] = ⊤
AreFields (f ∷ fs) = (f.value < 2 ^ f.width) × AreFields fs

-- each value in these groups of fields fits the width of its field
abbrev pub AreGroups : List (List BitField) → Type 0
AreGroups [] = ⊤
AreGroups (fields ∷ groups) = AreFields fields × AreGroups groups
