-- The subtitles of a service, taken out of a multiplex.
use Rattle.std.specs.Prelude.{ℕ, ◌==◌, Bool, List, [], filter, Option, Some, None, option_and_then}
use Rattle.stream_syntax.specs.TransportPackets.{pid_of}
use Rattle.psi_tables.specs.Services.{pmt_in, pid_in}
use Rattle.section_reader.specs.First.{Found, first_in}

-- a PID that is named, and the packets behind the one in which the section ends that names it
abbrev pub Named : Type 0
Named = Found ℕ

-- ---- the service

-- the PID of the subtitles of a service, and the packets behind its PMT. The first valid PAT that lists the service
-- gives the PID of its PMT; the first valid PMT of the service behind it that has subtitles gives theirs. The packets
-- of the PMT's PID are read as if the stream began behind the PAT
unfoldable pub subtitles_of : ℕ → List (List ℕ) → Option Named
subtitles_of service packets =
    option_and_then (λ table. first_in (pid_in service) table.0 table.1) (first_in (pmt_in service) 0 packets)

-- a packet is of the PID
abbrev pub of_pid : ℕ → List ℕ → Bool
of_pid pid packet = pid_of packet == pid

-- the packets of the PID that is named
abbrev pub taken_by : Option Named → List (List ℕ)
taken_by None = []
taken_by (Some found) = filter (of_pid found.0) found.1

-- the packets of the subtitles of a service: those of their PID, behind the PMT that names it
abbrev pub taken_of : ℕ → List (List ℕ) → List (List ℕ)
taken_of service packets = taken_by (subtitles_of service packets)
