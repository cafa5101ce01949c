use Rattle.service_text.proofs.TellLaws.{service_put}
use Rattle.service_text.proofs.lines.put_entries.Goals as goal

pub loop-entry-preserved : goal.loop-entry-preserved
loop-entry-preserved g c =
    service_put _ _ _ c.args.buffer.now c.loop-entry.buffer c.put_service.new.buffer c.args.entries.now
    c.loop-entry.entry-index _ c.loop-entry-test.true c.loop-entry.invariant c.put_service.ensures
