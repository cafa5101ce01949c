use Rattle.std.proofs.Common.{None}
use Rattle.page_pair.specs.PairOutcome.{pair_fault_name}
use Rattle.page_pair.specs.PairTop.{pair_command, tool_causes}
use Rattle.tool_files.proofs.EndLaws.{may_end}
use Rattle.tool_files.proofs.streams.pair.Goals as goal

pub returns : goal.returns
returns g c =
    may_end pair_fault_name (tool_causes c.args.words.now) (pair_command c.args.words.now) c.end.result (record {
      before = _;
      now = _;
      notes_before = record { written = None; faults = c.make-2.result.faults };
      notes_now = record { written = None; faults = c.pair_top-status.new.notes.faults };
      answer = c.pair_top-status.result;
      has_written = _;
      cause = c.pair_top-status.ensures.cause;
      told = c.end.ensures;
    })
