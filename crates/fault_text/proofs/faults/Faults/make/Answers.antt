-- What was fed nothing.
use Rattle.fault_text.proofs.FaultLaws.{nothing_faulted}
use Rattle.fault_text.proofs.faults.Faults.make.Goals as goal

pub returns-clause-nothing : goal.returns-clause-nothing
returns-clause-nothing c =
    nothing_faulted c.in_ok-make.field-0 c.nothing.result c.in_ok-make-2.field-0 _ c.in_ok-make.ensures.none
    c.in_ok-make.ensures.stands c.nothing.ensures c.in_ok-make-2.ensures.nothing
