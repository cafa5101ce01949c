-- The bits of a code as a number, and how many they are.
use Rattle.std.specs.Prelude.{◌≡◌, ℕ, ◌+◌, ◌*◌}
use Rattle.sub_base.specs.declared.depth.Depth.{Depth}
use Rattle.sub_base.specs.declared.depth.Depth.TheVariants.{Two, Four, Eight}
use Rattle.stream_syntax.specs.PixelCodes.{Code, pixel, one_zero, two_zeros, zeros, short_run, middle_run, long_run, pixel_count}
use Rattle.pixel_codes.specs.declared.choice.Spelling.{Spelling}
pub use Rattle.code_strings.specs.Widths.{width_of}

-- the bits of each code as a number
abbrev pub value_of : Depth → Code → ℕ
value_of Two (pixel code) = code
value_of Two one_zero = 1
value_of Two two_zeros = 1
value_of Two (zeros field) = 0
value_of Two (short_run field code) = 32 + 4 * field + code
value_of Two (middle_run field code) = 128 + 4 * field + code
value_of Two (long_run field code) = 3072 + 4 * field + code
value_of Four (pixel code) = code
value_of Four one_zero = 12
value_of Four two_zeros = 13
value_of Four (zeros field) = field
value_of Four (short_run field code) = 128 + 16 * field + code
value_of Four (middle_run field code) = 3584 + 16 * field + code
value_of Four (long_run field code) = 61440 + 16 * field + code
value_of Eight (pixel code) = code
value_of Eight one_zero = 0
value_of Eight two_zeros = 0
value_of Eight (zeros field) = field
value_of Eight (short_run field code) = 32768 + 256 * field + code
value_of Eight (middle_run field code) = 0
value_of Eight (long_run field code) = 0

-- what a value of the program spells
pub record Spells (depth : Depth) (code : Code) (spelling : Spelling) : Type 0 where
  pub bits : spelling.bits ≡ value_of depth code
  pub width : spelling.width ≡ width_of depth code
  pub pixels : spelling.pixels ≡ pixel_count depth code
