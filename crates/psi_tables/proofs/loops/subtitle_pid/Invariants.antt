use Rattle.std.proofs.Common.{◌≡◌, length}
use Rattle.psi_tables.specs.Services.{subtitle_pid}
use Rattle.psi_tables.proofs.loops.subtitle_pid.Given as goal

-- no stream of subtitles has been passed
abbrev pub invariant-loop-stream : goal.invariant-loop-stream
invariant-loop-stream l = subtitle_pid l.rest ≡ subtitle_pid l.streams

abbrev pub decreases-loop-stream : goal.decreases-loop-stream
decreases-loop-stream l = length l.rest
