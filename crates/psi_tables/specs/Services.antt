-- What programme tables name: the PID of a service's PMT, and the PID of its subtitles.
use Rattle.std.specs.Prelude.{ℕ, ◌==◌, nat_lt, Bool, ◌&&◌, ◌||◌, if◌then◌else◌, List, length, Option, Some, None, find, option_map}
use Rattle.std.specs.List.{list_any}
use Rattle.stream_syntax.specs.declared.wire.TheConstants.{NULL_PID}
use Rattle.psi_tables.specs.Loops.{Descriptor, Stream, descriptors_of, entries_of, streams_of, thirteen_at}
use Rattle.psi_tables.specs.Sections.{SectionValue, Pat, Pmt, valid_section}

-- the PID that entries of a PAT list for a programme's number, the first of them: that of its PMT, and for number 0
-- that of the network
abbrev pub pid_listed : ℕ → List ℕ → Option ℕ
pid_listed service entries =
    option_map (λ entry. entry.pid) (find (λ entry. entry.number == service) (entries_of entries))

-- a descriptor of subtitles (EN 300 468, 6.2.41), whatever its length
abbrev pub is_subtitling : Descriptor → Bool
is_subtitling descriptor = descriptor.tag == 0x59

-- a stream of subtitles: private data in PES packets (stream type 06) with a descriptor of subtitles
abbrev pub is_subtitles : Stream → Bool
is_subtitles stream = stream.kind == 6 && list_any is_subtitling (descriptors_of stream.descriptors)

-- the PID of the first stream of subtitles
abbrev pub subtitle_pid : List ℕ → Option ℕ
subtitle_pid streams = option_map (λ stream. stream.pid) (find is_subtitles (streams_of streams))

-- the PID of a service's PMT that a section names, where it is a PAT
abbrev pub pmt_named : ℕ → SectionValue → Option ℕ
pmt_named service (Pat stream entries) = pid_listed service entries
pmt_named service (Pmt number streams) = None

-- the PID of a service's subtitles that a section names, where it is the PMT of that service
abbrev pub pid_named : ℕ → SectionValue → Option ℕ
pid_named service (Pat stream entries) = None
pid_named service (Pmt number streams) = if number == service then subtitle_pid streams else None

-- what a section names, where there is one
abbrev pub named_by : (SectionValue → Option ℕ) → Option SectionValue → Option ℕ
named_by named None = None
named_by named (Some section) = named section

-- the PID of a service's PMT that the bytes of a section name, where no test refuses it
abbrev pub pmt_in : ℕ → List ℕ → Option ℕ
pmt_in service section = named_by (pmt_named service) (valid_section section)

-- the PID of a service's subtitles that the bytes of a section name, where no test refuses it
abbrev pub pid_in : ℕ → List ℕ → Option ℕ
pid_in service section = named_by (pid_named service) (valid_section section)

-- ---- the clock

-- the PID of a PMT's clock (PCR_PID): the low 13 bits of the first two bytes behind the eight of the head. 1FFF says
-- that there is none
abbrev pub clock_in : List ℕ → Option ℕ
clock_in section =
    if nat_lt (length section) 10 || thirteen_at 8 section == NULL_PID then None else Some (thirteen_at 8 section)
