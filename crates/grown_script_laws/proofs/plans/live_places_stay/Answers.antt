use Rattle.grown_script_laws.proofs.GrownCues as own
use Rattle.grown_script_laws.proofs.plans.live_places_stay.Goals as goal

pub returns : goal.returns
returns c = own.live_places_stay
