-- The samples of the clock of the programme that lists a PID, as the tables of the stream tell it.
use Rattle.std.specs.Prelude.{ℕ, List, [], ◌∷◌, ◌++◌, Option, Some, None}
use Rattle.std.specs.Option.{option_or}
use Rattle.pcr_clock.specs.Samples.{sample_of}
use Rattle.service_tables.specs.Clock.{clock_pid}

-- the PID of the clock that is told first, where packets come behind others
abbrev pub first_clock : ℕ → List (List ℕ) → List (List ℕ) → Option ℕ
first_clock pid before [] = clock_pid before pid
first_clock pid before (packet ∷ packets) =
    option_or (clock_pid before pid) (first_clock pid (before ++ packet ∷ []) packets)

-- the sample that a packet carries, where the PID of the clock is known
abbrev pub sample_by : Option ℕ → List ℕ → Option ℕ
sample_by None packet = None
sample_by (Some clock) packet = sample_of clock packet

-- the samples of packets behind others: the clock is the first that is told before each of them
abbrev pub samples_behind : ℕ → List (List ℕ) → List (List ℕ) → List (Option ℕ)
samples_behind pid before [] = []
samples_behind pid before (packet ∷ packets) =
    sample_by (first_clock pid [] before) packet ∷ samples_behind pid (before ++ packet ∷ []) packets

-- the samples of the clock of the programme that lists the PID, one for each packet of a stream, none where it carries
-- none
abbrev pub samples_of : ℕ → List (List ℕ) → List (Option ℕ)
samples_of pid packets = samples_behind pid [] packets
