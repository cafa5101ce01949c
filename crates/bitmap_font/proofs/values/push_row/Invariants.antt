use Rattle.std.proofs.Common.{◌≡◌, ◌++◌}
use Rattle.bitmap_font.specs.Values.{bytes_from}
use Rattle.bitmap_font.proofs.values.push_row.Given as goal

abbrev pub invariant-loop-place : goal.invariant-loop-place
invariant-loop-place l = l.bytes.items ≡ l.initial.bytes.items ++ bytes_from l.line l.place
