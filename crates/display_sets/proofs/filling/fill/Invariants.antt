use Rattle.std.proofs.Common.{◌≤◌, length, vec_capacity}
use Rattle.display_sets.proofs.FillLoop.{IsFilling}
use Rattle.display_sets.proofs.filling.fill.Given as goal

abbrev pub invariant-loop-next : goal.invariant-loop-next
invariant-loop-next l =
    record {
      room : l.coded ≤ vec_capacity l.bytes;
      within : length l.bytes.items ≤ l.coded;
      filling : IsFilling l.pages l.coded l.field l.rest l.fn.bytes.items l.bytes.items;
    }

abbrev pub decreases-loop-next : goal.decreases-loop-next
decreases-loop-next l = length l.rest
