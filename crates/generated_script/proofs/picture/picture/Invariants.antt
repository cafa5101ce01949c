use Rattle.std.proofs.Common.{◌≡◌}
use Rattle.std.specs.List.{flat_map, range_with_len}
use Rattle.generated_script.specs.Generated.{generated_row}
use Rattle.generated_script.proofs.picture.picture.Given as goal

abbrev pub invariant-loop-y : goal.invariant-loop-y
invariant-loop-y l = l.codes.items ≡ flat_map (generated_row l.number) (range_with_len 0 l.y)
