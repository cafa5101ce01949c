use Rattle.std.proofs.Common.{ap}
use Rattle.decoder_model.specs.Arrivals.{loss, refused_unit}
use Rattle.display_sets.proofs.Standings.{given_up, lost_stands}
use Rattle.display_sets.proofs.gathering.Gathering.lose.Goals as goal

pub returns-clause-loss : goal.returns-clause-loss
returns-clause-loss c = lost_stands c.args.self.now _ loss tt (ap given_up c.self.view_is) c.requires

pub returns-clause-refused : goal.returns-clause-refused
returns-clause-refused c = lost_stands c.args.self.now _ refused_unit tt (ap given_up c.self.view_is) c.requires
