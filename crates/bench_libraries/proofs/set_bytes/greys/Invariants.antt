use Rattle.std.proofs.Common.{◌≤◌, All, length}
use Rattle.bench_libraries.specs.Private.Sent.{IsSent}
use Rattle.bench_libraries.proofs.set_bytes.greys.Given as goal

abbrev pub invariant-loop-entry : goal.invariant-loop-entry
invariant-loop-entry l = All IsSent l.entries.items × (length l.entries.items ≤ l.entry)
