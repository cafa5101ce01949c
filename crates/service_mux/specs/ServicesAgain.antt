-- What a multiplex has of its services.
use Rattle.std.specs.Prelude.{◌≡◌, ℕ, List, filter}
use Rattle.service_mux.specs.Multiplex.{mux_of}
use Rattle.service_mux.specs.Taken.{of_pid, taken_of}
use Rattle.service_mux.specs.declared.mux_words.ServicePair.{ServicePair}

-- each service that is taken out of a multiplex of two streams has the packets of its PID in its stream, all of them,
-- in their order
pub record GivesServicesAgain (pair : ServicePair) (first second : List (List ℕ)) : Type 0 where
  pub one : taken_of pair.one.number (mux_of pair first second) ≡ filter (of_pid pair.one.pid) first
  pub two : taken_of pair.two.number (mux_of pair first second) ≡ filter (of_pid pair.two.pid) second
