-- The codes of one byte, and bytes that are put together of the codes of two.
use Rattle.std.specs.Prelude.{◌≡◌, ℕ, ◌+◌, ◌-◌, ◌*◌, ◌/◌, ◌%◌, ◌^◌, ◌<◌, ◌≤◌, ◌⊎◌, ◌==◌, if◌then◌else◌}
use Rattle.sub_base.specs.declared.depth.Depth.{Depth}
use Rattle.sub_base.specs.declared.depth.Depth.TheVariants.{Two, Four, Eight}
use Rattle.sub_base.specs.Depth.{bits_of}
use Rattle.string_painting.specs.Codes.{codes_in_byte, code_in}

-- the byte whose codes are all 1
abbrev pub ones_of : Depth → ℕ
ones_of Two = 85
ones_of Four = 17
ones_of Eight = 1

-- the byte with so many codes of the front byte, and the other codes of the back byte
unfoldable pub cut : Depth → ℕ → ℕ → ℕ → ℕ
cut depth codes front back =
    front / 2 ^ (8 - bits_of depth * codes) * 2 ^ (8 - bits_of depth * codes)
    + back % 2 ^ (8 - bits_of depth * codes)

-- the byte with one of its codes taken out, and another put in its place
unfoldable pub with_code : Depth → ℕ → ℕ → ℕ → ℕ
with_code depth index code byte =
    byte - code_in depth index byte * 2 ^ (8 - bits_of depth * (index + 1))
    + code * 2 ^ (8 - bits_of depth * (index + 1))

-- codes from `from` up to `to` of the byte are now `code`, and the others as they were
pub record PaintsByte (depth : Depth) (from to code old new : ℕ) : Type 0 where
  pub covered : (j : ℕ) → from ≤ j → j < to → code_in depth j new ≡ code
  pub outside : (j : ℕ) → j < codes_in_byte depth → (j < from) ⊎ (to ≤ j)
      → code_in depth j new ≡ code_in depth j old

-- the half of a byte for a code, the high one for an even code
abbrev pub half_of : ℕ → ℕ → ℕ
half_of byte code = if code % 2 == 0 then byte / 16 else byte % 16
