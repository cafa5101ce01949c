-- PES packets (ISO/IEC 13818-1, 2.4.3.6 and 2.4.3.7) that carry subtitles (EN 300 743, 6 and 7.1).
use Rattle.std.specs.Prelude.{◌≡◌, ℕ, ◌+◌, ◌*◌, ◌/◌, ◌%◌, ◌^◌, ◌≤◌, Bool, ◌==◌, ◌||◌, not, nat_lt, List, [], ◌∷◌, ◌++◌, length, drop, slice_index, Option, Some, None, Result, Ok, Err}
use Rattle.byteorder.specs.Endian.{big_number}
use Rattle.stream_syntax.specs.declared.wire.TheConstants.{DATA_IDENTIFIER, PRIVATE_STREAM_1, SUBTITLE_STREAM}
use Rattle.stream_syntax.specs.declared.pes.PesFault.{PesFault}
use Rattle.stream_syntax.specs.declared.pes.PesFault.TheVariants.{NoPrefix, OtherStream, BadHeader, Scrambled, NoPts, BadMarker, OtherField}
use Rattle.stream_syntax.specs.BitFields.{BitField, field, packed, AreGroups}
use Rattle.stream_syntax.specs.Tests.{Test, test, first_fault}

-- what a PES packet with a presentation time says, field by field
pub record PesForm : Type 0 where
  pub stream_id : ℕ
  pub packet_length : ℕ
  pub scrambling : ℕ
  pub priority : ℕ
  pub alignment : ℕ
  pub copyright : ℕ
  pub original : ℕ
  pub pts_dts_flags : ℕ
  -- the six flags of further header fields
  pub further_flags : ℕ
  pub header_length : ℕ
  -- the four bits before the presentation time
  pub pts_prefix : ℕ
  -- the presentation time in ticks of 90 kHz
  pub pts : ℕ
  -- the header's bytes after the presentation time
  pub further_header : List ℕ
  -- the PES packet's data bytes: here the PES data field
  pub data_field : List ℕ

-- the layout of the bytes before the further header bytes: fields with widths in bits, grouped by bytes. The
-- presentation time stands in three parts, each before a marker bit of 1.
abbrev pub pes_groups : PesForm → List (List BitField)
pes_groups form =
    (field 24 1 ∷ [])
    ∷ (field 8 form.stream_id ∷ [])
    ∷ (field 16 form.packet_length ∷ [])
    ∷ (field 2 2 ∷ field 2 form.scrambling ∷ field 1 form.priority ∷ field 1 form.alignment
    ∷ field 1 form.copyright
    ∷ field 1 form.original ∷ [])
    ∷ (field 2 form.pts_dts_flags ∷ field 6 form.further_flags ∷ [])
    ∷ (field 8 form.header_length ∷ [])
    ∷ (field 4 form.pts_prefix ∷ field 3 (form.pts / 2 ^ 30) ∷ field 1 1 ∷ [])
    ∷ (field 15 (form.pts / 2 ^ 15 % 2 ^ 15) ∷ field 1 1 ∷ [])
    ∷ (field 15 (form.pts % 2 ^ 15) ∷ field 1 1 ∷ [])
    ∷ []

-- the packet's bytes
abbrev pub pes_bytes : PesForm → List ℕ
pes_bytes form = packed (pes_groups form) ++ (form.further_header ++ form.data_field)

-- a form that a subtitle reader takes: private stream 1, lengths that fit the bytes, not scrambled, with a presentation
-- time, and a data field of data identifier 20 and subtitle stream id 00
pub record IsSubtitleForm (form : PesForm) (pts : ℕ) (segments : List ℕ) : Type 0 where
  pub fits : AreGroups (pes_groups form)
  pub private_stream : form.stream_id ≡ PRIVATE_STREAM_1
  pub whole : length (pes_bytes form) ≡ 6 + form.packet_length
  pub clear : form.scrambling ≡ 0
  pub timed : 2 ≤ form.pts_dts_flags
  pub header : form.header_length ≡ 5 + length form.further_header
  pub time : form.pts ≡ pts
  pub subtitles : form.data_field ≡ DATA_IDENTIFIER ∷ SUBTITLE_STREAM ∷ segments

-- the bytes are a PES packet with this presentation time and these bytes of segments
pub record IsPes (bytes : List ℕ) (pts : ℕ) (segments : List ℕ) : Type 0 where
  pub form : PesForm
  pub taken : IsSubtitleForm form pts segments
  pub layout : bytes ≡ pes_bytes form

-- what a writer writes: data alignment, no further flags and no further header bytes
abbrev pub written_form : ℕ → List ℕ → PesForm
written_form time field_bytes = record {
  stream_id = PRIVATE_STREAM_1;
  packet_length = 8 + length field_bytes;
  scrambling = 0;
  priority = 0;
  alignment = 1;
  copyright = 0;
  original = 0;
  pts_dts_flags = 2;
  further_flags = 0;
  header_length = 5;
  pts_prefix = 2;
  pts = time;
  further_header = [];
  data_field = field_bytes;
}

-- the bytes before the data field of a packet with that presentation time and that PES_packet_length
abbrev pub written_header : ℕ → ℕ → List ℕ
written_header time count = packed (pes_groups (record (written_form time []) { packet_length = count }))

-- the bytes of the packet that a writer makes of a presentation time and the bytes of a data field
abbrev pub written_pes : ℕ → List ℕ → List ℕ
written_pes pts field_bytes = pes_bytes (written_form pts field_bytes)

-- the start code prefix
abbrev pub has_prefix : List ℕ → Bool
has_prefix bytes = big_number 3 bytes == 1

-- PES_packet_length: how many bytes follow it
abbrev pub length_in : List ℕ → ℕ
length_in bytes = big_number 2 (drop 4 bytes)

-- PES_packet_length and the six bytes before what it counts
abbrev pub need_of : List ℕ → ℕ
need_of bytes = 6 + length_in bytes

-- fewer bytes than start code prefix, stream id and length, or another prefix
abbrev pub lacks_prefix : List ℕ → Bool
lacks_prefix bytes = nat_lt (length bytes) 6 || not (has_prefix bytes)

-- a head that is cut, a count of bytes other than the length says, or a header that does not begin with the bits 10
abbrev pub has_bad_head : List ℕ → Bool
has_bad_head bytes =
    nat_lt (length bytes) 9 || not (length bytes == need_of bytes) || not (slice_index bytes 6 / 64 == 2)

-- the place of the data field behind the header
abbrev pub field_place : List ℕ → ℕ
field_place bytes = 9 + slice_index bytes 8

-- a header without room for the time, or a data field of fewer than two bytes
abbrev pub has_bad_header_length : List ℕ → Bool
has_bad_header_length bytes = nat_lt (slice_index bytes 8) 5 || nat_lt (length bytes) (field_place bytes + 2)

-- a marker bit of 0 in the presentation time
abbrev pub lacks_marker : List ℕ → Bool
lacks_marker bytes =
    not (slice_index bytes 9 % 2 == 1) || not (slice_index bytes 11 % 2 == 1) || not (slice_index bytes 13 % 2 == 1)

-- another data identifier than 20, or another subtitle stream id than 00
abbrev pub is_other_field : List ℕ → Bool
is_other_field bytes =
    not (slice_index bytes (field_place bytes) == DATA_IDENTIFIER)
    || not (slice_index bytes (field_place bytes + 1) == SUBTITLE_STREAM)

-- the tests of a reader, in order
abbrev pub pes_tests : List ℕ → List (Test PesFault)
pes_tests bytes =
    test (lacks_prefix bytes) NoPrefix
    ∷ test (not (slice_index bytes 3 == PRIVATE_STREAM_1)) (OtherStream (slice_index bytes 3))
    ∷ test (has_bad_head bytes) BadHeader
    ∷ test (not (slice_index bytes 6 / 16 % 4 == 0)) Scrambled
    ∷ test (nat_lt (slice_index bytes 7 / 64) 2) NoPts
    ∷ test (has_bad_header_length bytes) BadHeader
    ∷ test (lacks_marker bytes) BadMarker
    ∷ test (is_other_field bytes) (OtherField (slice_index bytes (field_place bytes)))
    ∷ []

-- the fault of the first test that fails
abbrev pub pes_fault : List ℕ → Option PesFault
pes_fault bytes = first_fault (pes_tests bytes)

-- the presentation time in a header, in ticks of 90 kHz
abbrev pub pts_in : List ℕ → ℕ
pts_in bytes =
    slice_index bytes 9 / 2 % 8 * 2 ^ 30 + big_number 2 (drop 10 bytes) / 2 * 2 ^ 15 + big_number 2 (drop 12 bytes) / 2

-- the bytes of segments, behind the header and the first two bytes of the data field
abbrev pub segments_in : List ℕ → List ℕ
segments_in bytes = drop (field_place bytes + 2) bytes

-- the fault, where there is one, else the presentation time and the bytes of segments
abbrev pub unless_fault : Option PesFault → ℕ × List ℕ → Result (ℕ × List ℕ) PesFault
unless_fault None value = Ok value
unless_fault (Some fault) value = Err fault

-- what a reader answers: the first fault, or the time and the segments
abbrev pub pes_of : List ℕ → Result (ℕ × List ℕ) PesFault
pes_of bytes = unless_fault (pes_fault bytes) (pts_in bytes, segments_in bytes)

-- a reader's answer, seen by view, is this one
abbrev pub Gives : {X : Type 0} → (X → ℕ × List ℕ) → Result X PesFault
    → Result (ℕ × List ℕ) PesFault → Type 0
Gives view (Ok value) answer = answer ≡ Ok (view value)
Gives view (Err fault) answer = answer ≡ Err fault
