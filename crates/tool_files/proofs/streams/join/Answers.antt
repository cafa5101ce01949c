use Rattle.std.proofs.Common.{None}
use Rattle.splice.specs.SpliceOutcome.{splice_causes, splice_fault_name}
use Rattle.splice.specs.SpliceWords.{splice_words}
use Rattle.tool_files.proofs.EndLaws.{may_end}
use Rattle.tool_files.proofs.streams.join.Goals as goal

pub returns : goal.returns
returns c =
    may_end splice_fault_name splice_causes (splice_words c.args.words.now) c.end.result (record {
      before = _;
      now = _;
      notes_before = record { written = None; faults = c.make-2.result.faults };
      notes_now = record { written = None; faults = c.splice_top-status.new.notes.faults };
      answer = c.splice_top-status.result;
      has_written = _;
      cause = c.splice_top-status.ensures.cause;
      told = c.end.ensures;
    })
