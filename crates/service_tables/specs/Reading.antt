-- What is kept of the programmes of a stream, and what that has to do with its packets.
use Rattle.std.specs.Prelude.{◌≡◌, ℕ, ◌<◌, Bool, true, false, List, [], length, map, slice_index_or, Option, Some, None}
use Rattle.std.specs.Option.{is_some}
use Rattle.psi_tables.specs.Loops.{PatEntry}
use Rattle.section_reader.specs.Reading.{HasReadSections, SectionReading}
use Rattle.service_tables.specs.First.{FirstFound, HasFirst}
use Rattle.service_tables.specs.Tables.{ProgrammeMap, entries_in, first_pat, programmes_of}
use Rattle.service_tables.specs.declared.first_section.Table.TheVariants as table

-- ---- a programme

-- its number, the sections of the PID of its PMT, and the PMT
pub record ProgrammeReading : Type 0 where
  pub number : ℕ
  pub sections : SectionReading
  pub map : FirstFound

-- the entry of the PAT that lists it
abbrev pub entry_of : ProgrammeReading → PatEntry
entry_of programme = record { number = programme.number; pid = programme.sections.pid }

-- the programme, as it was read so far
abbrev pub map_of : ProgrammeReading → ProgrammeMap
map_of programme = record {
  number = programme.number;
  pid = programme.sections.pid;
  section = programme.map.section;
}

-- its PMT was looked for in these packets
pub record HasReadMap (programme : ProgrammeReading) (packets : List (List ℕ)) : Type 0 where
  pub table : programme.map.table ≡ table.Pmt programme.number
  pub read : HasReadSections HasFirst programme.sections programme.map packets

-- ---- all programmes

-- what is kept of a stream: its first PAT, the programmes that it lists, and whether memory was wanting for them
pub record ProgrammesRead : Type 0 where
  -- the sections of PID 0, and the PAT
  pub sections : SectionReading
  pub pat : FirstFound
  pub programmes : List ProgrammeReading
  -- no memory was found for what the PAT lists
  pub is_wanting : Bool

-- what stands for no programme
abbrev pub no_programme : ProgrammeReading
no_programme = record {
  number = 0;
  sections = record { pid = 0; last = None; hand = None };
  map = record { table = table.Pat; section = None };
}

-- the PMT of each programme was looked for in these packets
abbrev pub HaveReadMaps : List ProgrammeReading → List (List ℕ) → Type 0
HaveReadMaps programmes packets = (k : ℕ) → k < length programmes
    → HasReadMap (slice_index_or programmes k no_programme) packets

-- the PMT of one of the programmes was not there before, and is now
pub record HasCome (before now : List ProgrammeReading) : Type 0 where
  pub place : ℕ
  pub there : place < length before
  pub missing : (slice_index_or before place no_programme).map.section ≡ None
  pub found : is_some (slice_index_or now place no_programme).map.section ≡ true

-- these programmes are those of the PAT, and their PMTs were looked for in the packets behind it
pub record AreListed (pat : List ℕ) (behind : List (List ℕ)) (programmes : List ProgrammeReading) : Type 0 where
  pub listed : map entry_of programmes ≡ programmes_of (entries_in pat)
  pub read : HaveReadMaps programmes behind

-- no PAT has come
pub record IsBeforePat (read : ProgrammesRead) (packets : List (List ℕ)) : Type 0 where
  pub pid : read.sections.pid ≡ 0
  pub table : read.pat.table ≡ table.Pat
  pub none : first_pat packets ≡ None
  pub sections : HasReadSections HasFirst read.sections read.pat packets
  pub nothing : read.programmes ≡ []

-- the PAT has come, and where no memory was wanting its programmes are there
pub record IsBehindPat (read : ProgrammesRead) (pat : List ℕ) (packets : List (List ℕ)) : Type 0 where
  pub behind : List (List ℕ)
  pub first : first_pat packets ≡ Some (pat, behind)
  pub listed : read.is_wanting ≡ false → AreListed pat behind read.programmes

-- the tables were read in these packets, of which the section of a PAT is known or none has come
abbrev pub ReadBy : Option (List ℕ) → ProgrammesRead → List (List ℕ) → Type 0
ReadBy None read packets = IsBeforePat read packets
ReadBy (Some pat) read packets = IsBehindPat read pat packets

-- the tables were read in these packets of a stream, as far as there was memory for it
abbrev pub HasRead : ProgrammesRead → List (List ℕ) → Type 0
HasRead read packets = ReadBy read.pat.section read packets
