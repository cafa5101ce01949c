-- The names of a command's sources and sinks.
use Rattle.std.specs.Prelude.{ℕ, List, codes}
use Rattle.sub_base.specs.declared.status.Which.{Which}
use Rattle.sub_base.specs.declared.status.Which.TheVariants.{First, Second, Out, Notes}

-- the name of a source or sink in the line of a status
abbrev pub which_name : Which → List ℕ
which_name First = codes "first"
which_name Second = codes "second"
which_name Out = codes "out"
which_name Notes = codes "notes"
