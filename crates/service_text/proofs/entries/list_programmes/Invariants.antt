use Rattle.std.proofs.Common.{drop, map}
use Rattle.std.specs.List.{flat_map}
use Rattle.service_tables.specs.Reading.{map_of}
use Rattle.service_text.specs.Services.{services_at}
use Rattle.service_text.specs.Private.Entries.{HaveListed}
use Rattle.service_text.proofs.entries.list_programmes.Given as goal

abbrev pub invariant-loop-programme : goal.invariant-loop-programme
invariant-loop-programme l =
    HaveListed l.fn.list l.list (flat_map services_at (map map_of l.programmes))
    (flat_map services_at (map map_of (drop l.programme-index l.programmes)))
