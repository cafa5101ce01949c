use Rattle.service_mux.proofs.StopLaws.{nothing_muxed}
use Rattle.service_mux.proofs.mux.join.Goals as goal

pub returns-in_default : goal.returns-in_default
returns-in_default g c = nothing_muxed _ _ _ _

pub returns-in_default-make : goal.returns-in_default-make
returns-in_default-make g c = nothing_muxed _ _ _ _
