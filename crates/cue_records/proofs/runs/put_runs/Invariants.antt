use Rattle.std.proofs.Common.{◌≡◌, ◌+◌, ◌-◌, length}
use Rattle.cue_records.proofs.RunLaws.{ArePut}
use Rattle.cue_records.proofs.runs.put_runs.Given as goal

abbrev pub invariant-loop-start : goal.invariant-loop-start
invariant-loop-start l =
    ArePut l.depth l.text l.codes l.start l.filled l.valid × (length l.codes ≡ length l.fn.codes)

abbrev pub decreases-loop-start : goal.decreases-loop-start
decreases-loop-start l = length l.text + 1 - l.start
