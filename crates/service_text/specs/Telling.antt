-- What was taken of a stream for its PIDs and its services, and what is told of them.
use Rattle.std.specs.Prelude.{◌≡◌, ℕ, Bool, ◌||◌, List, [], ◌++◌}
use Rattle.pid_text.specs.PidText.{IsPidsText}
use Rattle.pid_text.specs.Watched.{HasWatched}
use Rattle.service_tables.specs.Reading.{HasRead}
use Rattle.service_text.specs.Listing.{IsListing}
use Rattle.service_text.specs.ServiceText.{IsServicesText}
use Rattle.service_text.specs.Services.{services_of}
use Rattle.service_text.specs.declared.teller.PidTeller.{PidTeller}

-- no memory was found for a PID or a programme
abbrev pub is_wanting : PidTeller → Bool
is_wanting teller = teller.pids.is_wanting || teller.programmes.is_wanting

-- these packets were taken, and nothing was put out
pub record HasTakenStream (teller : PidTeller) (packets : List (List ℕ)) (text : List ℕ) : Type 0 where
  pub pids : HasWatched teller.pids packets text
  pub programmes : HasRead teller.programmes packets
  pub services : IsListing teller.services []

-- the text of the packets of a stream: that of their PIDs, and then the lines of the services that its tables list
pub record IsStreamText (packets : List (List ℕ)) (text : List ℕ) : Type 0 where
  pub pids : List ℕ
  pub services : List ℕ
  pub told_pids : IsPidsText packets pids
  pub told_services : IsServicesText (services_of packets) services
  pub whole : text ≡ pids ++ services
