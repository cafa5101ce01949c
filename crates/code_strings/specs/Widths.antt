-- How many bits codes and ends take.
use Rattle.std.specs.Prelude.{ℕ}
use Rattle.sub_base.specs.declared.depth.Depth.{Depth}
use Rattle.sub_base.specs.declared.depth.Depth.TheVariants.{Two, Four, Eight}
use Rattle.stream_syntax.specs.PixelCodes.{Code, pixel, one_zero, two_zeros, zeros, short_run, middle_run, long_run}

-- how many bits each code has
abbrev pub width_of : Depth → Code → ℕ
width_of Two (pixel code) = 2
width_of Two one_zero = 4
width_of Two two_zeros = 6
width_of Two (zeros field) = 0
width_of Two (short_run field code) = 8
width_of Two (middle_run field code) = 12
width_of Two (long_run field code) = 16
width_of Four (pixel code) = 4
width_of Four one_zero = 8
width_of Four two_zeros = 8
width_of Four (zeros field) = 8
width_of Four (short_run field code) = 12
width_of Four (middle_run field code) = 16
width_of Four (long_run field code) = 20
width_of Eight (pixel code) = 8
width_of Eight one_zero = 0
width_of Eight two_zeros = 0
width_of Eight (zeros field) = 16
width_of Eight (short_run field code) = 24
width_of Eight (middle_run field code) = 0
width_of Eight (long_run field code) = 0
