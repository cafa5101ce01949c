-- The clock of a PID: that of the programme to which it belongs (ISO/IEC 13818-1, 2.4.4.8).
use Rattle.std.specs.Prelude.{ℕ, ◌==◌, Bool, List, Option, find, option_and_then}
use Rattle.std.specs.List.{list_any}
use Rattle.psi_tables.specs.Services.{clock_in}
use Rattle.service_tables.specs.Tables.{ProgrammeMap, programme_maps, streams_at}

-- the PMT of a programme lists the PID
abbrev pub lists : ℕ → ProgrammeMap → Bool
lists pid programme = list_any (λ stream. stream.pid == pid) (streams_at programme.section)

-- the PID of a programme's clock
abbrev pub clock_at : ProgrammeMap → Option ℕ
clock_at programme = option_and_then clock_in programme.section

-- the PID of the clock of a PID: that of the first programme whose PMT lists it
abbrev pub clock_among : ℕ → List ProgrammeMap → Option ℕ
clock_among pid programmes = option_and_then clock_at (find (lists pid) programmes)

-- the PID of the clock of a PID, by the tables in these packets
abbrev pub clock_pid : List (List ℕ) → ℕ → Option ℕ
clock_pid packets pid = clock_among pid (programme_maps packets)
