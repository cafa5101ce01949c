-- Where the regions of a store are in its bytes.
use Rattle.std.specs.Prelude.{ℕ, ◌+◌, ◌*◌, ◌/◌, ◌%◌, ◌^◌, ◌<◌, ◌≤◌, List, length, slice_index}
use Rattle.pixel_store.specs.declared.extent.Extent.{Extent}
use Rattle.string_painting.specs.Codes.{codes_in_byte, code_in}
use Rattle.sub_base.specs.Depth.{packed_length, pixel_bytes}

-- how many bytes a row takes
abbrev pub stride_of : Extent → ℕ
stride_of extent = packed_length extent.depth extent.width

-- how many codes the bytes of a row have room for
abbrev pub room_of : Extent → ℕ
room_of extent = stride_of extent * codes_in_byte extent.depth

-- how many bytes all rows of the region take
abbrev pub size_of : Extent → ℕ
size_of extent = pixel_bytes extent.width extent.height extent.depth

-- the first byte of row y
abbrev pub row_start : Extent → ℕ → ℕ
row_start extent y = extent.offset + y * stride_of extent

-- the code in column x of row y
abbrev pub pixel : List ℕ → Extent → ℕ → ℕ → ℕ
pixel bytes extent x y =
    code_in extent.depth (x % codes_in_byte extent.depth)
    (slice_index bytes (row_start extent y + x / codes_in_byte extent.depth))

-- the region lies within the bytes
pub record Fits (bytes : List ℕ) (extent : Extent) : Type 0 where
  pub inside : extent.offset + size_of extent ≤ length bytes
  pub short : length bytes < 2 ^ 64
