use Rattle.std.proofs.Common.{None}
use Rattle.service_mux.specs.MuxOutcome.{mux_causes, mux_fault_name}
use Rattle.service_mux.specs.MuxWords.{mux_words}
use Rattle.tool_files.proofs.EndLaws.{may_end}
use Rattle.tool_files.proofs.multiplexes.mux.Goals as goal

pub returns : goal.returns
returns c =
    may_end mux_fault_name mux_causes (mux_words c.args.words.now) c.end.result (record {
      before = _;
      now = _;
      notes_before = record { written = None; faults = c.make-2.result.faults };
      notes_now = record { written = None; faults = c.mux_top-status.new.notes.faults };
      answer = c.mux_top-status.result;
      has_written = _;
      cause = c.mux_top-status.ensures.cause;
      told = c.end.ensures;
    })
