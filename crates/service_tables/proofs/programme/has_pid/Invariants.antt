use Rattle.std.proofs.Common.{◌≡◌, ◌==◌, length}
use Rattle.std.specs.List.{list_any}
use Rattle.psi_tables.specs.Loops.{streams_of}
use Rattle.service_tables.proofs.programme.has_pid.Given as goal

-- no stream with the PID has been passed
abbrev pub invariant-loop-stream : goal.invariant-loop-stream
invariant-loop-stream l =
    list_any (λ stream. stream.pid == l.pid) (streams_of l.rest)
    ≡ list_any (λ stream. stream.pid == l.pid) (streams_of l.streams)

abbrev pub decreases-loop-stream : goal.decreases-loop-stream
decreases-loop-stream l = length l.rest
