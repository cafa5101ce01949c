use Rattle.shown_plan.proofs.Segments.ByPlace.{set_is_named}
use Rattle.shown_plan.proofs.laws.places_are_names.Goals as goal

pub returns : goal.returns
returns c = set_is_named
