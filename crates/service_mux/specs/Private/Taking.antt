-- Where the search for a service stands, and what was taken.
use Rattle.std.specs.Prelude.{◌≡◌, ℕ, ◌+◌, Bool, true, false, List, [], ◌∷◌, ◌++◌, filter, not, Some, None}
use Rattle.std.specs.Option.{is_none}
use Rattle.std.specs.List.{concat}
use Rattle.psi_tables.specs.Services.{pmt_in, pid_in}
use Rattle.section_reader.specs.First.{first_in}
use Rattle.section_reader.specs.Reading.{IsReadingOf, latest_first}
use Rattle.service_mux.specs.Reading.{TableReading}
use Rattle.service_mux.specs.Taken.{of_pid, subtitles_of, taken_of}
use Rattle.service_mux.specs.declared.sought.Sought.TheVariants as sought
use Rattle.service_mux.specs.declared.taker.Phase.{Phase}
use Rattle.service_mux.specs.declared.taker.Phase.TheVariants as phase
use Rattle.service_mux.specs.declared.taker.Taker.{Taker}

-- a PID that no packet has, one for each service
abbrev pub no_pid : ℕ → ℕ
no_pid service = 8192 + service

-- no PAT has listed the service
pub record IsBeforeTable (service : ℕ) (reader : TableReading) (packets : List (List ℕ))
    (bytes : List ℕ) : Type 0 where
  pub pid : reader.sections.pid ≡ 0
  pub sought : reader.sought ≡ sought.Table service
  pub stands : IsReadingOf reader.sections (latest_first [] packets)
  pub none : first_in (pmt_in service) 0 packets ≡ None
  pub nothing : bytes ≡ []

-- a PAT has listed it, and no PMT has named its subtitles
pub record IsBehindTable (service : ℕ) (reader : TableReading) (packets : List (List ℕ))
    (bytes : List ℕ) : Type 0 where
  pub behind : List (List ℕ)
  pub table : first_in (pmt_in service) 0 packets ≡ Some (reader.sections.pid, behind)
  pub sought : reader.sought ≡ sought.Subtitles service
  pub stands : IsReadingOf reader.sections (latest_first [] behind)
  pub none : first_in (pid_in service) reader.sections.pid behind ≡ None
  pub nothing : bytes ≡ []

-- a PMT has named their PID, and the packets behind it were taken
pub record IsBehindMap (service pid : ℕ) (packets : List (List ℕ)) (bytes : List ℕ) : Type 0 where
  pub behind : List (List ℕ)
  pub found : subtitles_of service packets ≡ Some (pid, behind)
  pub taken : bytes ≡ concat (filter (of_pid pid) behind)

-- what is true in each phase of the search for a service, once these packets came and these bytes were put out
abbrev pub StandsIn : Phase → ℕ → TableReading → List (List ℕ) → List ℕ → Type 0
StandsIn phase.BeforeTable service reader packets bytes = IsBeforeTable service reader packets bytes
StandsIn phase.BehindTable service reader packets bytes = IsBehindTable service reader packets bytes
StandsIn (phase.BehindMap pid) service reader packets bytes = IsBehindMap service pid packets bytes

-- the taker was fed these packets, and has put out these bytes
abbrev pub IsTaking : Taker → List (List ℕ) → List ℕ → Type 0
IsTaking taker packets bytes = StandsIn taker.phase taker.service taker.reader packets bytes

-- a PMT has named the subtitles
abbrev pub has_found : Phase → Bool
has_found phase.BeforeTable = false
has_found phase.BehindTable = false
has_found (phase.BehindMap pid) = true

-- a taker takes one packet more in, and puts out nothing
pub record TakesIn (old new : Taker) (packet : List ℕ) : Type 0 where
  pub service : new.service ≡ old.service
  pub stands : (packets : List (List ℕ)) (bytes : List ℕ) → IsTaking old packets bytes
      → IsTaking new (packets ++ packet ∷ []) bytes

-- these bytes are taken of the packets, and there are subtitles of the service or not
pub record Takes (service : ℕ) (has : Bool) (packets : List (List ℕ)) (text : List ℕ) : Type 0 where
  pub found : is_none (subtitles_of service packets) ≡ not has
  pub bytes : text ≡ concat (taken_of service packets)
