use Rattle.script_stream.proofs.SendLaws.{is_sent, is_writable, written_of}
use Rattle.script_stream.proofs.ShownLaws.{sent_is_shown}
use Rattle.script_stream.proofs.stream.ScriptStream.make.Goals as goal
use Rattle.shown_stream.specs.Compiled.{compiling_for}

pub invariant_of-result : goal.invariant_of-result
invariant_of-result c =
    let script = c.args.script.now in
    let timed = c.in_ok-plan-2.field-0 in
    let known = c.in_ok-plan-2.ensures.timed in
    let written = c.in-Ok-units_of.written.items in
    let own =
    written_of script c.args.page c.as_slice.result.now timed.plan.sets written c.as_slice.ensures
    c.in-Ok-units_of.ensures in
    is_writable (compiling_for c.args.profile c.args.pid c.args.page script) timed.plan.sets timed.loads.items
    timed.schedule written
    known.planned own c.requires.pid known.ready.slotted.packets known.ready.slotted.rise known.ready.slotted.small

pub returns-clause-sent : goal.returns-clause-sent
returns-clause-sent c =
    let script = c.args.script.now in
    let timed = c.in_ok-plan-2.field-0 in
    let known = c.in_ok-plan-2.ensures.timed in
    let written = c.in-Ok-units_of.written.items in
    let own =
    written_of script c.args.page c.as_slice.result.now timed.plan.sets written c.as_slice.ensures
    c.in-Ok-units_of.ensures in
    is_sent (compiling_for c.args.profile c.args.pid c.args.page script) timed.plan.sets timed.loads.items
    timed.schedule written
    known.planned own known.each known.schedule known.on_time

pub returns-clause-shown : goal.returns-clause-shown
returns-clause-shown c =
    sent_is_shown (compiling_for c.args.profile c.args.pid c.args.page c.args.script.now) _ c.requires.pid
    c.requires.profile
    (returns-clause-sent c)
