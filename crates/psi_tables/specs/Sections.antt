-- The sections of programme tables (ISO/IEC 13818-1, 2.4.4): what their bytes say, and when they are refused.
use Rattle.std.specs.Prelude.{ℕ, ◌+◌, ◌-◌, ◌%◌, ◌==◌, nat_lt, not, Bool, ◌&&◌, ◌||◌, if◌then◌else◌, List, [], ◌∷◌, length, take, drop, Option, Some, None}
use Rattle.stream_syntax.specs.Tests.{Test, test, byte_at, word_at, first_fault}
use Rattle.psi_tables.specs.Crc.{crc_of}
use Rattle.psi_tables.specs.Loops.{are_descriptors, are_entries, are_streams, twelve_at}
use Rattle.psi_tables.specs.declared.section.Section.{Section}
use Rattle.psi_tables.specs.declared.section.Section.TheVariants as variants
use Rattle.psi_tables.specs.declared.fault.SectionFault.{SectionFault}
use Rattle.psi_tables.specs.declared.fault.SectionFault.TheVariants.{Cut, BadLength, BadCrc, OtherTable, NotCurrent, BadLoop}

-- ---- the bytes of a section

-- how many bytes a section has: three, and as many as its length says (section_length)
abbrev pub section_size : List ℕ → ℕ
section_size bytes = 3 + twelve_at 1 bytes

-- the bytes end before the section does that begins them
abbrev pub is_cut : List ℕ → Bool
is_cut bytes = nat_lt (length bytes) 3 || nat_lt (length bytes) (section_size bytes)

-- the section that begins these bytes, where all of it is there
abbrev pub whole_section : List ℕ → Option (List ℕ)
whole_section bytes = if is_cut bytes then None else Some (take (section_size bytes) bytes)

-- the bytes between the eight of the head and the four of the CRC
abbrev pub body_of : List ℕ → List ℕ
body_of bytes = take (section_size bytes - 12) (drop 8 bytes)

-- ---- the body

-- the bytes of descriptors of the service in the body of a PMT, behind the PCR PID and the length that counts them
-- (program_info_length)
abbrev pub head_descriptors : List ℕ → List ℕ
head_descriptors body = take (twelve_at 2 body) (drop 4 body)

-- the bytes of streams in the body of a PMT, behind the descriptors of the service
abbrev pub streams_in : List ℕ → List ℕ
streams_in body = drop (4 + twelve_at 2 body) body

-- the body is that of a PMT: it has room for its head, whole descriptors, and whole streams
abbrev pub is_pmt_body : List ℕ → Bool
is_pmt_body body =
    not (nat_lt (length body) 4 || nat_lt (length body) (4 + twelve_at 2 body))
    && (are_descriptors (head_descriptors body) && are_streams (streams_in body))

-- the body is that of a PAT (table id 00) or of a PMT (02)
abbrev pub is_body : ℕ → List ℕ → Bool
is_body table body = if table == 0 then are_entries body else is_pmt_body body

-- ---- sections that are taken

-- a PAT with its stream's id and its entries, or a PMT with its service's number and its streams
pub data SectionValue : Type 0 where
  Pat : ℕ → List ℕ → SectionValue
  Pmt : ℕ → List ℕ → SectionValue

-- what a section that was read says
abbrev pub contents : Section → SectionValue
contents (variants.Pat stream entries) = Pat stream entries.now
contents (variants.Pmt number streams) = Pmt number streams.now

-- the tests of a section, in order
abbrev pub section_tests : List ℕ → List (Test SectionFault)
section_tests bytes =
    test (is_cut bytes) (Cut (length bytes))
    ∷ test (nat_lt (twelve_at 1 bytes) 9 || nat_lt 1021 (twelve_at 1 bytes)) (BadLength (twelve_at 1 bytes))
    ∷ test (not (crc_of (take (section_size bytes) bytes) == 0)) (BadCrc (crc_of (take (section_size bytes) bytes)))
    ∷ test (not (byte_at 0 bytes == 0 || byte_at 0 bytes == 2)) (OtherTable (byte_at 0 bytes))
    ∷ test (byte_at 5 bytes % 2 == 0) NotCurrent
    ∷ test (not (is_body (byte_at 0 bytes) (body_of bytes))) BadLoop
    ∷ []

-- the fault of the section that begins these bytes: that of the first test that fails
abbrev pub section_fault : List ℕ → Option SectionFault
section_fault bytes = first_fault (section_tests bytes)

-- what such a section says, where no test refuses it
abbrev pub section_value : List ℕ → SectionValue
section_value bytes =
    if byte_at 0 bytes == 0 then Pat (word_at 3 bytes) (body_of bytes)
    else Pmt (word_at 3 bytes) (streams_in (body_of bytes))

-- what a section says, where it has no fault
abbrev pub value_by : List ℕ → Option SectionFault → Option SectionValue
value_by bytes None = Some (section_value bytes)
value_by bytes (Some fault) = None

-- the section that begins these bytes, where no test refuses it
abbrev pub valid_section : List ℕ → Option SectionValue
valid_section bytes = value_by bytes (section_fault bytes)
