use Rattle.std.specs.Prelude.{ℕ, ◌+◌, ◌*◌, ◌/◌, ◌==◌, Bool}
use Rattle.sub_base.specs.declared.depth.Depth.{Depth}
use Rattle.sub_base.specs.declared.depth.Depth.TheVariants.{Two, Four, Eight}

-- the bits of a pixel code
abbrev pub bits_of : Depth → ℕ
bits_of Two = 2
bits_of Four = 4
bits_of Eight = 8

-- how many codes there are
abbrev pub code_count : Depth → ℕ
code_count Two = 4
code_count Four = 16
code_count Eight = 256

-- two depths are the same
abbrev pub is_same_depth : Depth → Depth → Bool
is_same_depth a b = bits_of a == bits_of b

-- the bytes of that many packed codes, rounded up to whole bytes
abbrev pub packed_length : Depth → ℕ → ℕ
packed_length depth count = (count * bits_of depth + 7) / 8

-- the bytes of the packed pixels of a region with these sides: each row has whole bytes
abbrev pub pixel_bytes : (width height : ℕ) → Depth → ℕ
pixel_bytes width height depth = packed_length depth width * height
