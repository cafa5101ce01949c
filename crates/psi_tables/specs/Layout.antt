-- The layout of sections: the syntax tables of the PAT (ISO/IEC 13818-1, table 2-30) and of the PMT (table 2-33), and
-- the descriptors in them, as rows of bits.
use Rattle.std.specs.Prelude.{◌≡◌, ◌+◌, ◌*◌, ◌≤◌, ℕ, List, [], ◌∷◌, ◌++◌, length, sum_by}
use Rattle.std.specs.List.{flat_map, AllByRecursion}
use Rattle.stream_syntax.specs.Fields.{Field, FitsFields, HasFields, number, reserved}
use Rattle.stream_syntax.specs.PixelCodes.{bits_of}
use Rattle.stream_syntax.specs.Segments.{bytes_fields}
use Rattle.psi_tables.specs.Crc.{crc_of}
use Rattle.psi_tables.specs.Loops.{Descriptor, PatEntry, Stream, entries_of, stream_size, streams_of}
use Rattle.psi_tables.specs.Sections.{SectionValue, Pat, Pmt}

-- a table: a PAT with its stream's id and its entries; or a PMT with its service's number, its PCR PID, the bytes of
-- its own descriptors, and its streams
pub data Table : Type 0 where
  pat_table : ℕ → List PatEntry → Table
  pmt_table : ℕ → ℕ → List ℕ → List Stream → Table

-- ---- descriptors

-- a tag, a length, and the bytes that it counts
abbrev pub descriptor_bytes : Descriptor → List ℕ
descriptor_bytes descriptor = descriptor.tag ∷ length descriptor.content ∷ descriptor.content

-- the bytes are descriptors one after another, and no more
abbrev pub AreDescriptors : List ℕ → Type 0
AreDescriptors bytes = (descriptors : List Descriptor) × (bytes ≡ flat_map descriptor_bytes descriptors)

-- the descriptors of a table and of its streams are whole
abbrev pub HasDescriptors : Table → Type 0
HasDescriptors (pat_table id entries) = Unit {0}
HasDescriptors (pmt_table service pcr descriptors streams) =
    AreDescriptors descriptors × AllByRecursion (λ stream. AreDescriptors stream.descriptors) streams

-- ---- rows of bits

-- program_number, reserved, and network_PID or program_map_PID
abbrev pub entry_rows : PatEntry → List Field
entry_rows entry = number 16 entry.number ∷ reserved 3 ∷ number 13 entry.pid ∷ []

-- stream_type, reserved, elementary_PID, reserved, ES_info_length, descriptors
abbrev pub stream_rows : Stream → List Field
stream_rows stream =
    number 8 stream.kind ∷ reserved 3 ∷ number 13 stream.pid
    ∷ reserved 4 ∷ number 12 (length stream.descriptors) ∷ bytes_fields stream.descriptors

-- the loop of a PAT; or reserved, PCR_PID, reserved, program_info_length, descriptors, and the loop of a PMT
abbrev pub body_rows : Table → List Field
body_rows (pat_table id entries) = flat_map entry_rows entries
body_rows (pmt_table service pcr descriptors streams) =
    reserved 3 ∷ number 13 pcr ∷ reserved 4 ∷ number 12 (length descriptors)
    ∷ (bytes_fields descriptors ++ flat_map stream_rows streams)

-- how many bytes these rows have
abbrev pub body_size : Table → ℕ
body_size (pat_table id entries) = 4 * length entries
body_size (pmt_table service pcr descriptors streams) = 4 + length descriptors + sum_by stream_size streams

-- table_id: 00 for a PAT, 02 for a PMT
abbrev pub table_id : Table → ℕ
table_id (pat_table id entries) = 0
table_id (pmt_table service pcr descriptors streams) = 2

-- transport_stream_id of a PAT, program_number of a PMT
abbrev pub table_number : Table → ℕ
table_number (pat_table id entries) = id
table_number (pmt_table service pcr descriptors streams) = service

-- what stands in a section beside its table: version_number, section_number, last_section_number, CRC_32
pub record Marks : Type 0 where
  pub version : ℕ
  pub section : ℕ
  pub last : ℕ
  pub check : ℕ

-- table_id, section_syntax_indicator with a bit 0 and two reserved ones (none of which is looked at), section_length,
-- the number, reserved, version_number, current_next_indicator, section_number, last_section_number, the body, CRC_32
abbrev pub section_rows : Table → Marks → List Field
section_rows table marks =
    number 8 (table_id table) ∷ reserved 4 ∷ number 12 (9 + body_size table) ∷ number 16 (table_number table)
    ∷ reserved 2 ∷ number 5 marks.version ∷ number 1 1 ∷ number 8 marks.section ∷ number 8 marks.last
    ∷ (body_rows table ++ number 32 marks.check ∷ [])

-- ---- sections

-- the bytes are a section of that table, which is current: they have its rows, and the CRC of all of them is 0
pub record IsSection (bytes : List ℕ) (table : Table) : Type 0 where
  pub marks : Marks
  pub short : 9 + body_size table ≤ 1021
  pub fits : FitsFields (section_rows table marks)
  pub layout : HasFields (section_rows table marks) (bits_of bytes)
  pub descriptors : HasDescriptors table
  pub right_crc : crc_of bytes ≡ 0

-- what a section says is what that table has: the number, and the entries or the streams
abbrev pub Says : SectionValue → Table → Type 0
Says (Pat id entries) (pat_table table_id listed) = (id ≡ table_id) × (entries_of entries ≡ listed)
Says (Pmt service streams) (pmt_table table_service pcr descriptors listed) =
    (service ≡ table_service) × (streams_of streams ≡ listed)
Says (Pat id entries) (pmt_table table_service pcr descriptors listed) = ⊥
Says (Pmt service streams) (pat_table table_id listed) = ⊥
