-- Pixel codes in bytes: the first code of a byte is in its highest bits.
use Rattle.std.specs.Prelude.{ℕ, ◌+◌, ◌-◌, ◌*◌, ◌/◌, ◌%◌, ◌^◌, List, slice_index}
use Rattle.sub_base.specs.Depth.{bits_of}
use Rattle.sub_base.specs.declared.depth.Depth.{Depth}
use Rattle.sub_base.specs.declared.depth.Depth.TheVariants.{Two, Four, Eight}

-- how many codes a byte has
abbrev pub codes_in_byte : Depth → ℕ
codes_in_byte Two = 4
codes_in_byte Four = 2
codes_in_byte Eight = 1

-- a number of `width` bits that has `shift` bits below it
abbrev pub bits_at : ℕ → ℕ → ℕ → ℕ
bits_at width shift n = n / 2 ^ shift % 2 ^ width

-- code j of a byte, the first one in the highest bits
abbrev pub code_in : Depth → ℕ → ℕ → ℕ
code_in depth j byte = bits_at (bits_of depth) (8 - bits_of depth * (j + 1)) byte

-- code x of the codes that packed bytes have, one after another
abbrev pub packed_code : Depth → List ℕ → ℕ → ℕ
packed_code depth bytes x = code_in depth (x % codes_in_byte depth) (slice_index bytes (x / codes_in_byte depth))
