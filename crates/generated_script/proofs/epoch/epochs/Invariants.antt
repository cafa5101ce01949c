use Rattle.std.specs.List.{range_with_len, AllZip}
use Rattle.generated_script.specs.Generated.{IsGeneratedEpoch}
use Rattle.generated_script.proofs.epoch.epochs.Given as goal

abbrev pub invariant-loop-number : goal.invariant-loop-number
invariant-loop-number l = AllZip (IsGeneratedEpoch l.cues) (range_with_len 0 l.number) l.epochs.items
