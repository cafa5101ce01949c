use Rattle.std.proofs.Common.{None}
use Rattle.service_mux.specs.TakeOutcome.{take_causes, take_fault_name}
use Rattle.service_mux.specs.TakeWords.{take_words}
use Rattle.tool_files.proofs.EndLaws.{may_end}
use Rattle.tool_files.proofs.multiplexes.take.Goals as goal

pub returns : goal.returns
returns c =
    may_end take_fault_name take_causes (take_words c.args.words.now) c.end.result (record {
      before = _;
      now = _;
      notes_before = record { written = None; faults = c.make-2.result.faults };
      notes_now = record { written = None; faults = c.take_top-status.new.notes.faults };
      answer = c.take_top-status.result;
      has_written = _;
      cause = c.take_top-status.ensures.cause;
      told = c.end.ensures;
    })
