use Rattle.page_epoch.proofs.AnswerLaws.{every_fault}
use Rattle.page_epoch.proofs.OnePlan.{every_plan}
use Rattle.page_epoch.proofs.plan.Plan.make.Goals as goal

pub returns-clause-every_plan : goal.returns-clause-every_plan
returns-clause-every_plan c =
    every_plan c.args.script.now c.args.profile.now c.plan_script.result c.plan_script.ensures.plan
    c.plan_script.ensures.cause

pub returns-clause-every_fault : goal.returns-clause-every_fault
returns-clause-every_fault c =
    every_fault c.args.script.now c.args.profile.now c.plan_script.result c.plan_script.ensures.plan
    c.plan_script.ensures.cause
