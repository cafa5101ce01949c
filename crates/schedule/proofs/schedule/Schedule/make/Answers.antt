use Rattle.sub_base.specs.Pace.{pace_of}
use Rattle.schedule.proofs.AnswerLaws.{every_schedule, no_hope}
use Rattle.schedule.proofs.schedule.Schedule.make.Goals as goal

pub returns-clause-hopeless : goal.returns-clause-hopeless
returns-clause-hopeless c =
    no_hope c.args.loads.now (pace_of c.args.origin c.args.profile.now) c.search.result c.requires.loads
    c.search.ensures.cause

pub returns-clause-every_schedule : goal.returns-clause-every_schedule
returns-clause-every_schedule c =
    every_schedule c.args.loads.now (pace_of c.args.origin c.args.profile.now) c.search.result c.requires.loads
    c.search.ensures.schedule c.search.ensures.cause
