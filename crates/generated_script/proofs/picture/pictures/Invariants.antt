use Rattle.std.proofs.Common.{◌≡◌, map}
use Rattle.std.specs.List.{range_with_len}
use Rattle.generated_script.specs.Generated.{generated_picture}
use Rattle.generated_script.proofs.picture.pictures.Given as goal

abbrev pub invariant-loop-number : goal.invariant-loop-number
invariant-loop-number l = l.pictures.items ≡ map generated_picture (range_with_len 0 l.number)
