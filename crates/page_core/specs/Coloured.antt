-- Rows of packed codes in colours, through a table of a CLUT.
use Rattle.std.specs.Prelude.{◌≡◌, ℕ, ◌+◌, ◌<◌, ◌≤◌, ◌⊎◌, List, length, slice_index_or}
use Rattle.sub_base.specs.Colour.{clear}
use Rattle.sub_base.specs.declared.colour.Colour.{Colour}
use Rattle.sub_base.specs.declared.depth.Depth.{Depth}
use Rattle.pixel_store.specs.Codes.{codes_in_byte, code_in, packed_code}

-- the colour at a place of a row or of a table
abbrev pub colour_of : List Colour → ℕ → Colour
colour_of colours place = slice_index_or colours place clear

-- the places of a row before one have the colours of the codes there
abbrev pub AreColouredTo : ℕ → Depth → List ℕ → List Colour → List Colour → Type 0
AreColouredTo end depth packed colours row =
    (x : ℕ) → x < end → colour_of row x ≡ colour_of colours (packed_code depth packed x)

-- all places have
abbrev pub AreColoured : Depth → List ℕ → List Colour → List Colour → Type 0
AreColoured depth packed colours row = AreColouredTo (length row) depth packed colours row

-- the places of a row from one on have the colours of a byte's codes, and all others are as they were
pub record IsByteColoured (depth : Depth) (byte place : ℕ) (colours old new : List Colour) : Type 0 where
  pub covered : (j : ℕ) → j < codes_in_byte depth
      → colour_of new (place + j) ≡ colour_of colours (code_in depth j byte)
  pub beside : (x : ℕ) → (x < place) ⊎ (place + codes_in_byte depth ≤ x) → colour_of new x ≡ colour_of old x
