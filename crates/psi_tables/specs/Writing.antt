-- The sections of programme tables as they are written (ISO/IEC 13818-1, 2.4.4.3 and 2.4.4.8).
use Rattle.std.specs.Prelude.{ℕ, ◌+◌, List, [], ◌∷◌, ◌++◌, length}
use Rattle.std.specs.List.{flat_map}
use Rattle.byteorder.specs.Endian.{big_bytes}
use Rattle.stream_syntax.specs.declared.wire.TheConstants.{NULL_PID}
use Rattle.psi_tables.specs.Crc.{crc_of}
use Rattle.psi_tables.specs.declared.service.Service.{Service}

-- a section before its body of so many bytes: the table id, 1011 and the length, the id, 11 with version 0 and current
-- 1, and the numbers of the section and of the last one
abbrev pub head_bytes : ℕ → ℕ → ℕ → List ℕ
head_bytes table id size = table ∷ (big_bytes 2 (0xB000 + 9 + size) ++ (big_bytes 2 id ++ 0xC1 ∷ 0 ∷ 0 ∷ []))

-- a section before its CRC
abbrev pub before_crc : ℕ → ℕ → List ℕ → List ℕ
before_crc table id body = head_bytes table id (length body) ++ body

-- the section with that table id, that id (transport_stream_id or program_number) and that body, and its CRC
abbrev pub written_section : ℕ → ℕ → List ℕ → List ℕ
written_section table id body = before_crc table id body ++ big_bytes 4 (crc_of (before_crc table id body))

-- an entry of a PAT: the number of a service, 111, and the PID of its PMT
abbrev pub pat_entry : Service → List ℕ
pat_entry service = big_bytes 2 service.number ++ big_bytes 2 (0xE000 + service.pmt)

-- the PAT of services, in stream 1
abbrev pub written_pat : List Service → List ℕ
written_pat services = written_section 0 1 (flat_map pat_entry services)

-- the descriptor of a subtitle stream (EN 300 468, 6.2.41): the language, the type (subtitles for a display of any
-- shape), the composition page, and the ancillary page, which is the same
abbrev pub subtitling : Service → List ℕ
subtitling service =
    0x59 ∷ 8 ∷ (service.language ++ 0x10 ∷ (big_bytes 2 service.page ++ big_bytes 2 service.page))

-- the body of a PMT: 111 and no PCR PID, 1111 and no descriptors; private data in PES packets, 111 and its PID, 1111
-- and the length of its descriptor
abbrev pub pmt_body : Service → List ℕ
pmt_body service =
    big_bytes 2 (0xE000 + NULL_PID) ++ (big_bytes 2 0xF000
    ++ 6 ∷ (big_bytes 2 (0xE000 + service.pid) ++ (big_bytes 2 (0xF000 + length (subtitling service))
    ++ subtitling service)))

-- the PMT of a service
abbrev pub written_pmt : Service → List ℕ
written_pmt service = written_section 2 service.number (pmt_body service)
