use Rattle.std.proofs.Common.{◌≡◌, ◌-◌, ◌≤◌, length, vec_len}
use Rattle.std.specs.Io.KnownBytes.{Consumes}
use Rattle.sub_base.specs.Counts.{counted}
use Rattle.sub_base.proofs.transfer.read_all.Given as goal

abbrev pub invariant-loop-count : goal.invariant-loop-count
invariant-loop-count g l =
    record {
      within : vec_len l.bytes ≤ l.limit;
      room : length l.buffer ≡ 65536;
      kept : (g.A.Source.supplied l.fn.source).faults ≤ (g.A.Source.supplied l.source).faults;
      given : (g.A.Source.supplied l.source).given
          ≡ counted (g.A.Source.supplied l.fn.source).given (length l.bytes.items);
      whole : Consumes (g.A.Source.supplied l.fn.source).left (g.A.Source.supplied l.source).left l.bytes.items;
    }

abbrev pub decreases-loop-count : goal.decreases-loop-count
decreases-loop-count g l = l.limit - vec_len l.bytes
