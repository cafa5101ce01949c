-- What sections name, one after the other.
use Rattle.std.specs.Prelude.{◌≡◌, ℕ, List}
use Rattle.sub_base.specs.Lists.{first_given}
use Rattle.service_mux.specs.Reading.{named_in}
use Rattle.service_mux.specs.declared.table_reader.Named.{Named}

-- the PID is what the first of the sections names that names one
abbrev pub HasNamed : Named → List (List ℕ) → Type 0
HasNamed named sections = named.pid ≡ first_given (named_in named.sought) sections
