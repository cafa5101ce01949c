use Rattle.std.proofs.Common.{◌≡◌, ◌+◌, ◌-◌, ◌*◌, ◌≤◌, ◌++◌, length, take, vec_len}
use Rattle.std.specs.List.{flat_map}
use Rattle.std.specs.Vec.{vec_capacity}
use Rattle.psi_tables.specs.Writing.{pat_entry}
use Rattle.psi_tables.proofs.writing.write_pat.Given as goal

abbrev pub invariant-loop-service : goal.invariant-loop-service
invariant-loop-service l =
    (l.out.items ≡ l.initial.out.items ++ flat_map pat_entry (take l.service-index l.services))
    × (vec_len l.out + 4 * (length l.services - l.service-index) + 4 ≤ vec_capacity l.out)
