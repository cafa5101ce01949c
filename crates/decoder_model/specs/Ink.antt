-- The colours of a CLUT (EN 300 743, clauses 7.2.4 and 10).
use Rattle.std.specs.Prelude.{ℕ, ◌==◌, ◌&&◌, Bool, if◌then◌else◌, Option, Some, None, option_and_then, unwrap_or}
use Rattle.sub_base.specs.Colour.{default_of}
use Rattle.sub_base.specs.declared.colour.Colour.{Colour}
use Rattle.sub_base.specs.declared.depth.Depth.{Depth}
use Rattle.sub_base.specs.declared.depth.Depth.TheVariants.{Two, Four, Eight}
use Rattle.stream_syntax.specs.Segments.{Clut}
use Rattle.stream_syntax.specs.declared.clut.ClutEntry.{ClutEntry}
use Rattle.decoder_model.specs.Contents.{clut_named}
use Rattle.sub_base.specs.Lists.{first_given, last_given}
use Rattle.decoder_model.specs.Readings.{Content}
use Rattle.decoder_model.specs.Taken.{Taken}

-- an entry is in the table for codes of a depth
abbrev pub is_in_table : Depth → ClutEntry → Bool
is_in_table Two entry = entry.two
is_in_table Four entry = entry.four
is_in_table Eight entry = entry.eight

-- the colour that an entry gives that number in the table of a depth
abbrev pub colour_by_entry : Depth → ℕ → ClutEntry → Option Colour
colour_by_entry depth number entry =
    if (entry.entry == number) && is_in_table depth entry then Some entry.colour else None

-- the colour of the last such entry of a CLUT segment
abbrev pub colour_by_clut : Depth → ℕ → Clut → Option Colour
colour_by_clut depth number clut = last_given (colour_by_entry depth number) clut.entries

-- the colour that a segment gives an entry of a CLUT
abbrev pub colour_by_segment : ℕ → Depth → ℕ → Content → Option Colour
colour_by_segment id depth number segment = option_and_then (colour_by_clut depth number) (clut_named id segment)

-- the colour of an entry of a CLUT: what the last segment gave it, and else the default colour
unfoldable pub ink_of : Taken → ℕ → Depth → ℕ → Colour
ink_of taken id depth number =
    unwrap_or (first_given (colour_by_segment id depth number) taken.segments) (default_of depth number)
