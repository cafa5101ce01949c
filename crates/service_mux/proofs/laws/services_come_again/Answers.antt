use Rattle.service_mux.proofs.ServicesAgain.{one_again, two_again}
use Rattle.service_mux.proofs.laws.services_come_again.Goals as goal

pub returns : goal.returns
returns c =
    λ pair first
    second. λ are. record { one = one_again pair first second are; two = two_again pair first second are }
