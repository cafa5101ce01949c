use Rattle.std.proofs.Common.{◌≡◌, length}
use Rattle.psi_tables.specs.Services.{pid_listed}
use Rattle.psi_tables.proofs.loops.pid_listed.Given as goal

-- no entry of the service has been passed
abbrev pub invariant-loop-entry : goal.invariant-loop-entry
invariant-loop-entry l = pid_listed l.number l.rest ≡ pid_listed l.number l.entries

abbrev pub decreases-loop-entry : goal.decreases-loop-entry
decreases-loop-entry l = length l.rest
