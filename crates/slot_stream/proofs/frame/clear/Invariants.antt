use Rattle.std.proofs.Common.{◌≡◌, ◌≤◌, length}
use Rattle.slot_stream.proofs.FilledFrames.{IsClearing}
use Rattle.slot_stream.proofs.frame.clear.Given as goal

abbrev pub invariant-loop-number : goal.invariant-loop-number
invariant-loop-number l =
    record {
      low : l.next ≤ l.number;
      high : l.number ≤ l.end;
      long : length l.frame ≡ length l.fn.frame;
      clearing : IsClearing l.slots l.number l.end l.from l.frame;
    }
