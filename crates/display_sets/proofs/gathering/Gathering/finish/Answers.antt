use Rattle.display_sets.proofs.Standings.{closed_by, finish_stands}
use Rattle.display_sets.proofs.gathering.Gathering.finish.Goals as goal

pub returns-clause-stands : goal.returns-clause-stands
returns-clause-stands c =
    finish_stands c.args.self.now _
    (closed_by _ _ c.closed-self-inside.result c.closed-self-inside.ensures.hand c.self.view_is) c.requires
