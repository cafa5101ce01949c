-- What a reader of tables keeps, and what that has to do with the packets that it was fed.
use Rattle.std.specs.Prelude.{◌≡◌, ℕ, List, Option}
use Rattle.psi_tables.specs.Services.{pmt_in, pid_in}
use Rattle.section_reader.specs.Reading.{ReadsSectionsOn, SectionReading}
use Rattle.service_mux.specs.declared.sought.Sought.{Sought}
use Rattle.service_mux.specs.declared.sought.Sought.TheVariants as sought

-- the PID that a section names, of what is looked for
abbrev pub named_in : Sought → List ℕ → Option ℕ
named_in (sought.Table number) section = pmt_in number section
named_in (sought.Subtitles number) section = pid_in number section

-- the sections of a PID, as far as they were read, and what is looked for in them
pub record TableReading : Type 0 where
  pub sections : SectionReading
  pub sought : Sought

-- the sections are read on over the packet, and the same is looked for
pub record ReadsOn (old new : TableReading) (packet : List ℕ) : Type 0 where
  pub sections : ReadsSectionsOn old.sections new.sections packet
  pub sought : new.sought ≡ old.sought
