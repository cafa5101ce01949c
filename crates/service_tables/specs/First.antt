-- The first section of a table among sections.
use Rattle.std.specs.Prelude.{◌≡◌, ℕ, List, Option}
use Rattle.sub_base.specs.Lists.{first_given}
use Rattle.service_tables.specs.Tables.{wanted_in}
use Rattle.service_tables.specs.declared.first_section.Table.{Table}

-- the table that is looked for, and its first valid section, where one has come
pub record FirstFound : Type 0 where
  pub table : Table
  pub section : Option (List ℕ)

-- it is the first of these sections
abbrev pub HasFirst : FirstFound → List (List ℕ) → Type 0
HasFirst first sections = first.section ≡ first_given (wanted_in first.table) sections
