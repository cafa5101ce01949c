use Rattle.std.proofs.Common.{length}
use Rattle.std.specs.List.{flat_map}
use Rattle.psi_tables.specs.Loops.{streams_of}
use Rattle.service_text.specs.Services.{services_on}
use Rattle.service_text.specs.Private.Entries.{HaveListed}
use Rattle.service_text.proofs.entries.list_streams.Given as goal

abbrev pub invariant-loop-stream : goal.invariant-loop-stream
invariant-loop-stream l =
    HaveListed l.fn.list l.list (flat_map (services_on l.number) (streams_of l.streams))
    (flat_map (services_on l.number) (streams_of l.rest))

abbrev pub decreases-loop-stream : goal.decreases-loop-stream
decreases-loop-stream l = length l.rest
