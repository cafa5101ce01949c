use Rattle.pid_text.proofs.WatchLaws.{nothing_watched}
use Rattle.pid_text.proofs.watch.Watch.make.Goals as goal

pub returns : goal.returns
returns c =
    nothing_watched c.args.pid c.in_ok-make.field-0 c.in_ok-make-2.field-0 c.in_ok-make.ensures.pid
    c.in_ok-make.ensures.size c.in_ok-make.ensures.stands c.in_ok-make-2.ensures
