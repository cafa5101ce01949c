use Rattle.std.proofs.Common.{◌≡◌}
use Rattle.pixel_codes.specs.Private.Cursor.{left_of, to_go}
use Rattle.pixel_codes.proofs.cursor.Cursor.next_run.Given as goal

abbrev pub invariant-loop-run : goal.invariant-loop-run
invariant-loop-run l = left_of l.fn.self ≡ left_of l.self

abbrev pub decreases-loop-run : goal.decreases-loop-run
decreases-loop-run l = to_go l.self
