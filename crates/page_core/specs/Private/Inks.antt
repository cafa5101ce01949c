-- The colours of all CLUTs, one after another.
use Rattle.std.specs.Prelude.{◌≡◌, ℕ, ◌-◌, ◌%◌, ◌*◌, ◌<◌, List, length, nat_lt, slice_index_or, if◌then◌else◌}
use Rattle.sub_base.specs.Colour.{clear, default_of}
use Rattle.sub_base.specs.declared.colour.Colour.{Colour}
use Rattle.sub_base.specs.declared.depth.Depth.TheVariants.{Two, Four, Eight}
use Rattle.page_core.specs.Memory.{colours_of_clut, first_of_table}

-- how many colours all CLUTs have
abbrev pub ink_count : ℕ
ink_count = 256 * colours_of_clut

-- the default colour at an index of a CLUT
abbrev pub default_ink : ℕ → Colour
default_ink index =
    if nat_lt index (first_of_table Four) then default_of Two index else
    if nat_lt index (first_of_table Eight) then default_of Four (index - first_of_table Four) else
    default_of Eight (index - first_of_table Eight)

-- each has its default colour
abbrev pub AreDefaults : List Colour → Type 0
AreDefaults inks =
    (index : ℕ) → index < length inks → slice_index_or inks index clear ≡ default_ink (index % colours_of_clut)
