use Rattle.check_text.proofs.SetLaws.{taken_nothing}
use Rattle.check_text.proofs.calls.take_first.Goals as goal

pub take_next-requires-clause-next : goal.take_next-requires-clause-next
take_next-requires-clause-next g c ended packets given stands =
    let next = c.in-Some.ensures.next packets ended given stands in
    (next.0, next.1, next.2)

pub returns-in_default-clause-sets : goal.returns-in_default-clause-sets
returns-in_default-clause-sets g c = taken_nothing _ c.args.receiver.now c.args.levels.now c.args.buffer.now

pub returns-else-first-clause-sets : goal.returns-else-first-clause-sets
returns-else-first-clause-sets g c = taken_nothing _ c.args.receiver.now c.args.levels.now c.args.buffer.now
