-- How many fields codes and ends of strings have: a field has as many bits as the depth.
use Rattle.std.specs.Prelude.{ℕ, ◌/◌}
use Rattle.sub_base.specs.declared.depth.Depth.{Depth}
use Rattle.sub_base.specs.declared.depth.Depth.TheVariants.{Two, Four, Eight}
use Rattle.sub_base.specs.Depth.{bits_of}
use Rattle.stream_syntax.specs.PixelCodes.{Code}
use Rattle.code_strings.specs.Widths.{width_of}

-- the fields of a code
abbrev pub field_count : Depth → Code → ℕ
field_count depth code = width_of depth code / bits_of depth

-- the fields of the end
abbrev pub end_count : Depth → ℕ
end_count Two = 3
end_count Four = 2
end_count Eight = 2
