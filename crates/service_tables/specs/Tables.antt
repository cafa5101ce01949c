-- The programmes of a stream (ISO/IEC 13818-1, 2.4.4): those that its first valid PAT lists, each with its first valid
-- PMT.
use Rattle.std.specs.Prelude.{ℕ, ◌==◌, not, Bool, true, false, if◌then◌else◌, List, [], ◌∷◌, filter, map, Option, Some, None}
use Rattle.sub_base.specs.Lists.{first_given}
use Rattle.psi_tables.specs.Loops.{PatEntry, Stream, entries_of, streams_of}
use Rattle.psi_tables.specs.Sections.{SectionValue, Pat, Pmt, valid_section}
use Rattle.section_reader.specs.First.{Found, first_in}
use Rattle.section_reader.specs.Sections.{sections_of}
use Rattle.service_tables.specs.declared.first_section.Table.{Table}
use Rattle.service_tables.specs.declared.first_section.Table.TheVariants as table

-- ---- sections of a table

-- what a section says is a PAT
abbrev pub is_pat : SectionValue → Bool
is_pat (Pat stream entries) = true
is_pat (Pmt number streams) = false

-- what a section says is the PMT of the programme with that number
abbrev pub is_map_of : ℕ → SectionValue → Bool
is_map_of service (Pat stream entries) = false
is_map_of service (Pmt number streams) = number == service

-- what a section says is of that table
abbrev pub is_of : Table → SectionValue → Bool
is_of table.Pat value = is_pat value
is_of (table.Pmt number) value = is_map_of number value

-- there is a value, and it passes a test
abbrev pub passes : (SectionValue → Bool) → Option SectionValue → Bool
passes test None = false
passes test (Some value) = test value

-- the bytes are a valid section of that table
abbrev pub is_wanted : Table → List ℕ → Bool
is_wanted wanted section = passes (is_of wanted) (valid_section section)

-- the section, where it is a valid one of that table
abbrev pub wanted_in : Table → List ℕ → Option (List ℕ)
wanted_in wanted section = if is_wanted wanted section then Some section else None

-- ---- programmes

-- the entries of a PAT; none of a PMT, or where there is no section
abbrev pub entries_by : Option SectionValue → List PatEntry
entries_by None = []
entries_by (Some (Pat stream entries)) = entries_of entries
entries_by (Some (Pmt number streams)) = []

-- the entries that the bytes of a section list, where it is a valid one of a PAT; else none
abbrev pub entries_in : List ℕ → List PatEntry
entries_in section = entries_by (valid_section section)

-- the streams of a PMT; none of a PAT, or where there is no section
abbrev pub streams_by : Option SectionValue → List Stream
streams_by None = []
streams_by (Some (Pat stream entries)) = []
streams_by (Some (Pmt number streams)) = streams_of streams

-- the streams that the bytes of a section list, where it is a valid one of a PMT; else none
abbrev pub streams_in : List ℕ → List Stream
streams_in section = streams_by (valid_section section)

-- the programmes that entries list, in order: an entry with the number 0 lists none (it gives the network's PID), and
-- of entries with one number the first does
abbrev pub programmes_of : List PatEntry → List PatEntry
programmes_of [] = []
programmes_of (entry ∷ entries) =
    if entry.number == 0 then programmes_of entries
    else entry ∷ filter (λ other. not (other.number == entry.number)) (programmes_of entries)

-- a programme: its number, the PID of its PMT, and the section of its PMT, where one has come
pub record ProgrammeMap : Type 0 where
  pub number : ℕ
  pub pid : ℕ
  pub section : Option (List ℕ)

-- the first valid PAT of a stream, and the packets behind the one in which its section ends
abbrev pub first_pat : List (List ℕ) → Option (Found (List ℕ))
first_pat packets = first_in (wanted_in table.Pat) 0 packets

-- the first valid PMT of a programme in packets, whose PID is read as if the stream began with them
abbrev pub first_map : PatEntry → List (List ℕ) → Option (List ℕ)
first_map entry packets = first_given (wanted_in (table.Pmt entry.number)) (sections_of entry.pid packets)

-- an entry of the PAT with the first valid PMT in the packets behind it
abbrev pub with_map : List (List ℕ) → PatEntry → ProgrammeMap
with_map behind entry = record { number = entry.number; pid = entry.pid; section = first_map entry behind }

-- the programmes of a PAT, each with its PMT; none where no PAT has come
abbrev pub maps_behind : Option (Found (List ℕ)) → List ProgrammeMap
maps_behind None = []
maps_behind (Some pat) = map (with_map pat.1) (programmes_of (entries_in pat.0))

-- the programmes of a stream, in the order of its first valid PAT, each with its first valid PMT behind that. Later
-- tables change nothing
unfoldable pub programme_maps : List (List ℕ) → List ProgrammeMap
programme_maps packets = maps_behind (first_pat packets)

-- the streams that a programme's PMT lists
abbrev pub streams_at : Option (List ℕ) → List Stream
streams_at None = []
streams_at (Some section) = streams_in section
