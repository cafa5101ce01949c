use Rattle.script_stream.proofs.RefusalLaws.{among}
use Rattle.script_stream.proofs.TimedLaws.{is_timed}
use Rattle.script_stream.proofs.timed.Timed.of_plan.Goals as goal

pub schedule_refused-requires : goal.schedule_refused-requires
schedule_refused-requires c =
    among c.args.script.now c.as_slice-sets.result.now c.in-Ok.loads.items c.as_slice-asked.result.now _
    c.in-Err.fault c.in-Ok.ensures.loads c.as_slice-asked.ensures.value c.in-Err.ensures.cause

pub returns-clause-timed : goal.returns-clause-timed
returns-clause-timed c =
    is_timed c.args.profile c.args.script.now c.as_slice-sets.result.now c.args.plan.sets c.in-Ok.loads.items
    c.as_slice-asked.result.now c.of-receiver.result c.in-Ok-make.schedule c.of-receiver.ensures c.requires.plan
    c.requires.sendable c.as_slice-sets.ensures c.in-Ok.ensures.loads c.in-Ok.ensures.each
    c.as_slice-asked.ensures.value c.in-Ok-make.ensures.schedule c.in-Ok-make.ensures.on_time
    c.in-Ok-make.ensures.rise c.in-Ok-make.ensures.small
