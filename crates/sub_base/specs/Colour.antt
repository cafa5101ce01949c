use Rattle.std.specs.Prelude.{ℕ, ◌+◌, ◌-◌, ◌*◌, ◌/◌, ◌%◌, ◌==◌, nat_lt, if◌then◌else◌}
use Rattle.sub_base.specs.declared.colour.Colour.{Colour}
use Rattle.sub_base.specs.declared.colour.Sixths.{Sixths}
use Rattle.sub_base.specs.declared.depth.Depth.{Depth}
use Rattle.sub_base.specs.declared.depth.Depth.TheVariants.{Two, Four, Eight}

-- full transparency
abbrev pub clear : Colour
clear = record { y = 0; cr = 0; cb = 0; t = 255 }

-- a colour as it is shown: a luminance of 0 means full transparency
abbrev pub shown_of : Colour → Colour
shown_of colour = if colour.y == 0 then clear else colour

-- the colour of red, green and blue with that transparency
abbrev pub colour_of_mix : Sixths → ℕ → Colour
colour_of_mix c t =
    record {
      y = 16 + (65481 * c.red + 128553 * c.green + 24966 * c.blue + 3000) / 6000;
      cr = (771000 + 112000 * c.red - 93786 * c.green - 18214 * c.blue) / 6000;
      cb = (771000 + 112000 * c.blue - 37797 * c.red - 74203 * c.green) / 6000;
      t = t;
    }

-- the bit at that place of an entry's number, from the lowest
abbrev pub bit_of : ℕ → ℕ → ℕ
bit_of weight entry = entry / weight % 2

-- each of the three is at that strength where its bit of the lowest three is set
abbrev pub primaries_of : ℕ → ℕ → Sixths
primaries_of strength entry =
    record { red = strength * bit_of 1 entry; green = strength * bit_of 2 entry; blue = strength * bit_of 4 entry }

-- each of the three has a low and a high bit, of the lowest three and of the next but one three, with these strengths
abbrev pub graded_of : ℕ → ℕ → ℕ → ℕ → Sixths
graded_of base low high entry =
    record {
      red = base + low * bit_of 1 entry + high * bit_of 16 entry;
      green = base + low * bit_of 2 entry + high * bit_of 32 entry;
      blue = base + low * bit_of 4 entry + high * bit_of 64 entry;
    }

-- entry 0 is clear, 1 white, 2 black, 3 grey
abbrev pub default_of_two : ℕ → Colour
default_of_two entry =
    if entry == 0 then clear
    else if entry == 1 then colour_of_mix (record { red = 6; green = 6; blue = 6 }) 0
    else if entry == 2 then colour_of_mix (record { red = 0; green = 0; blue = 0 }) 0
    else colour_of_mix (record { red = 3; green = 3; blue = 3 }) 0

-- entry 0 is clear; 1 to 7 the primaries and their mixtures; 8 to 15 the same at half strength
abbrev pub default_of_four : ℕ → Colour
default_of_four entry =
    if entry == 0 then clear
    else if nat_lt entry 8 then colour_of_mix (primaries_of 6 entry) 0
    else colour_of_mix (primaries_of 3 entry) 0

-- where the bit of weight 128 is 0: the strengths 0, 2, 4, 6, opaque, or at 50% transparency where that of weight 8 is
-- 1
abbrev pub full_or_half_of : ℕ → Colour
full_or_half_of entry =
    if bit_of 8 entry == 0 then colour_of_mix (graded_of 0 2 4 entry) 0 else colour_of_mix (graded_of 0 2 4 entry) 128

-- where the bit of weight 128 is 1: the strengths 3 to 6, or 0 to 3 where that of weight 8 is 1
abbrev pub light_or_dark_of : ℕ → Colour
light_or_dark_of entry =
    if bit_of 8 entry == 0 then colour_of_mix (graded_of 3 1 2 entry) 0 else colour_of_mix (graded_of 0 1 2 entry) 0

-- entry 0 is clear; 1 to 7 the primaries and their mixtures at 75% transparency; the others by the bits of weight 128
-- and 8
abbrev pub default_of_eight : ℕ → Colour
default_of_eight entry =
    if entry == 0 then clear
    else if nat_lt entry 8 then colour_of_mix (primaries_of 6 entry) 192
    else if bit_of 128 entry == 0 then full_or_half_of entry else light_or_dark_of entry

-- the colour of a CLUT entry that no CLUT definition segment has set
abbrev pub default_of : Depth → ℕ → Colour
default_of Two entry = default_of_two entry
default_of Four entry = default_of_four entry
default_of Eight entry = default_of_eight entry
