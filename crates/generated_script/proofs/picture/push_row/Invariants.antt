use Rattle.std.proofs.Common.{◌≡◌, ◌+◌, ◌/◌, ◌%◌, ◌++◌, replicate}
use Rattle.std.specs.List.{flat_map, range_with_len}
use Rattle.generated_script.proofs.picture.push_row.Given as goal

abbrev pub invariant-loop-run : goal.invariant-loop-run
invariant-loop-run l =
    l.codes.items ≡ l.fn.codes.items
    ++ flat_map (λ run. replicate 8 ((run + l.y / 3 + l.number) % 16)) (range_with_len 0 l.run)
