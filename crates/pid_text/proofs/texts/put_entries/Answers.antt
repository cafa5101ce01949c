use Rattle.std.proofs.Common.{◌∙◌}
use Rattle.pid_text.proofs.PidsLaws.{entry_put}
use Rattle.pid_text.proofs.texts.put_entries.Goals as goal

pub loop-entry-preserved : goal.loop-entry-preserved
loop-entry-preserved g c =
    entry_put _ _ _ c.args.buffer.now c.loop-entry.buffer c.put.new.buffer c.args.entries.now c.loop-entry.entry-index _
    c.as_bytes.result.now c.loop-entry-test.true (c.as_bytes.ensures ∙ c.page_line.ensures.line) c.loop-entry.invariant
    c.put.ensures
