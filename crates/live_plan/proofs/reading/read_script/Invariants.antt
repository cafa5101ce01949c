use Rattle.std.proofs.Common.{◌≡◌, ◌-◌, ◌≤◌, length, false}
use Rattle.script_input.specs.ReadScript.{text_limit}
use Rattle.live_plan.proofs.ReadLaws.{HasReadOn}
use Rattle.live_plan.specs.Private.Running.{begun_of}
use Rattle.live_plan.proofs.reading.read_script.Given as goal

abbrev pub invariant-loop-count : goal.invariant-loop-count
invariant-loop-count g l =
    record {
      within : l.total ≤ text_limit;
      room : length l.buffer ≡ 4096;
      is_open : l.run.live.outlet.closed ≡ false;
      few : l.run.count ≤ l.total;
      on : HasReadOn (begun_of l.fn.run (g.K.Sink.received l.fn.out) (g.N.Sink.received l.fn.notes))
          (g.A.Source.supplied l.fn.script) (g.A.Source.supplied l.script) l.total (g.K.Sink.received l.out)
          (g.N.Sink.received l.notes) l.run l.cutter;
    }

abbrev pub decreases-loop-count : goal.decreases-loop-count
decreases-loop-count g l = text_limit - l.total
