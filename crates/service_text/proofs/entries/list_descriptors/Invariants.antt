use Rattle.std.proofs.Common.{length}
use Rattle.std.specs.List.{flat_map}
use Rattle.psi_tables.specs.Loops.{descriptors_of}
use Rattle.service_text.specs.Services.{services_by}
use Rattle.service_text.specs.Private.Entries.{HaveListed}
use Rattle.service_text.proofs.entries.list_descriptors.Given as goal

abbrev pub invariant-loop-descriptor : goal.invariant-loop-descriptor
invariant-loop-descriptor l =
    HaveListed l.fn.list l.list (flat_map (services_by l.number l.pid) (descriptors_of l.descriptors))
    (flat_map (services_by l.number l.pid) (descriptors_of l.rest))

abbrev pub decreases-loop-descriptor : goal.decreases-loop-descriptor
decreases-loop-descriptor l = length l.rest
