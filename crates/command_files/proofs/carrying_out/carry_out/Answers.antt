use Rattle.std.proofs.Common.{None}
use Rattle.command_files.proofs.EndLaws.{has_code, wrong_words, two_alone}
use Rattle.command_files.proofs.carrying_out.carry_out.Goals as goal

pub returns-clause-code : goal.returns-clause-code
returns-clause-code g c =
    has_code c.args.words.now c.tell_on.result (record {
      has_stream = c.is_some.result;
      kind = c.kind_of-kind.result;
      kind_is = c.kind_of-kind.ensures;
      has_written = _;
      is_finished = _;
      before = _;
      now = _;
      notes_before = record { written = None; faults = c.make-4.result.faults };
      notes_now = record { written = None; faults = c.top-status.new.notes.faults };
      answer = c.top-status.result;
      ending = c.ended-status.result;
      cause = c.top-status.ensures.cause;
      kept = c.ended-status.ensures.ending;
      told = c.tell_on.ensures;
    })

pub returns-clause-usage : goal.returns-clause-usage
returns-clause-usage g c = wrong_words c.args.words.now c.tell_on.result (returns-clause-code g c)

pub returns-clause-usage_alone : goal.returns-clause-usage_alone
returns-clause-usage_alone g c = two_alone c.args.words.now c.tell_on.result (returns-clause-code g c)
