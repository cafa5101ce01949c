use Rattle.std.proofs.Common.{length}
use Rattle.service_text.specs.Services.{services_in}
use Rattle.service_text.specs.Private.Entries.{HaveListed}
use Rattle.service_text.proofs.entries.list_entries.Given as goal

abbrev pub invariant-loop-rest : goal.invariant-loop-rest
invariant-loop-rest l =
    HaveListed l.fn.list l.list (services_in l.number l.pid l.entries) (services_in l.number l.pid l.rest)

abbrev pub decreases-loop-rest : goal.decreases-loop-rest
decreases-loop-rest l = length l.rest
