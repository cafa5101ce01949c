use Rattle.std.proofs.Common.{◌≡◌, ◌+◌, ◌-◌, ◌≤◌, List, [], ℕ, length, false}
use Rattle.live_plan.proofs.ReadLaws.{HasComeTo}
use Rattle.live_plan.specs.Private.Running.{Begun, IsPaid}
use Rattle.live_plan.proofs.reading.take_bytes.Given as goal

abbrev pub invariant-loop-count : goal.invariant-loop-count
invariant-loop-count g l =
    record {
      within : l.done ≤ length l.bytes;
      is_open : l.run.live.outlet.closed ≡ false;
      counted : l.run.count ≤ l.fn.run.count + l.done;
      come : (begun : Begun) (earlier : List (List ℕ))
          → IsPaid begun earlier [] (g.K.Sink.received l.fn.out) (g.N.Sink.received l.fn.notes) l.fn.run
          → HasComeTo begun earlier l.fn.cutter l.bytes l.done (g.K.Sink.received l.out) (g.N.Sink.received l.notes)
          l.run l.cutter;
    }

abbrev pub decreases-loop-count : goal.decreases-loop-count
decreases-loop-count g l = length l.bytes - l.done
