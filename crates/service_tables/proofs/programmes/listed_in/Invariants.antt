use Rattle.std.proofs.Common.{[], length}
use Rattle.service_tables.specs.Reading.{HaveReadMaps}
use Rattle.service_tables.specs.Tables.{entries_in}
use Rattle.service_tables.proofs.EntryLaws.{AllAre}
use Rattle.service_tables.proofs.programmes.listed_in.Given as goal

abbrev pub invariant-loop-entry : goal.invariant-loop-entry
invariant-loop-entry l =
    record {
      all : AllAre (entries_in l.pat) l.programmes.items l.rest;
      read : HaveReadMaps l.programmes.items [];
    }

abbrev pub decreases-loop-entry : goal.decreases-loop-entry
decreases-loop-entry l = length l.rest
