use Rattle.std.proofs.Common.{◌≡◌, length}
use Rattle.std.specs.List.{list_any}
use Rattle.psi_tables.specs.Loops.{descriptors_of}
use Rattle.psi_tables.specs.Services.{is_subtitling}
use Rattle.psi_tables.proofs.loops.has_subtitling.Given as goal

-- none has been passed
abbrev pub invariant-loop-descriptor : goal.invariant-loop-descriptor
invariant-loop-descriptor l =
    list_any is_subtitling (descriptors_of l.rest) ≡ list_any is_subtitling (descriptors_of l.descriptors)

abbrev pub decreases-loop-descriptor : goal.decreases-loop-descriptor
decreases-loop-descriptor l = length l.rest
