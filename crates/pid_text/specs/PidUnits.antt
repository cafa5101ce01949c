-- The PES packets of subtitles of each PID of a stream, and the pages of their segments.
use Rattle.std.specs.Prelude.{ℕ, ◌==◌, not, Bool, ◌&&◌, ◌||◌, if◌then◌else◌, List, [], ◌∷◌, filter, filter_map, count_by, sum_by, Option, Some, None, option_and_then, Result, Ok, Err, zip}
use Rattle.std.specs.List.{list_all, list_any}
use Rattle.std.specs.Option.{is_none}
use Rattle.stream_syntax.specs.DataField.{Frame, segment, broken, frames_of}
use Rattle.stream_syntax.specs.Pes.{pes_of}
use Rattle.stream_syntax.specs.Tests.{byte_at, word_at}
use Rattle.stream_syntax.specs.TransportPackets.{has_error_flag, has_payload, has_start_flag, packet_fault, payload_of, pid_of}
use Rattle.stream_syntax.specs.Units.{each_after, unit_at}
use Rattle.stream_syntax.specs.declared.pes.PesFault.{PesFault}
use Rattle.stream_syntax.specs.declared.wire.TheConstants.{CLUT_DEFINITION, OBJECT_DATA, PAGE_COMPOSITION, PRIVATE_STREAM_1}
use Rattle.sub_base.specs.declared.profile.TheConstants.{LARGEST_BUFFER}

-- ---- PES packets of subtitles

-- what the head of a segment says: its kind (segment_type), and its page (page_id)
pub record Head : Type 0 where
  pub kind : ℕ
  pub page : ℕ

-- a PES packet of subtitles: its presentation time, and the heads of its segments
pub record SubtitleUnit : Type 0 where
  pub time : ℕ
  pub heads : List Head

-- what the head in a segment's place says; bytes that begin no segment have none
abbrev pub head_in : Frame → Option Head
head_in (segment bytes) = Some (record { kind = byte_at 1 bytes; page = word_at 2 bytes })
head_in (broken fault) = None

-- the heads of the segments that stand in a field, up to bytes that begin none
unfoldable pub heads_of : List ℕ → List Head
heads_of field = filter_map head_in (frames_of field)

-- a PES packet that was read, by its presentation time and the heads in its data field; a unit that is none has nothing
abbrev pub read_as : Result (ℕ × List ℕ) PesFault → Option SubtitleUnit
read_as (Ok pes) = Some (record { time = pes.0; heads = heads_of pes.1 })
read_as (Err fault) = None

-- the PES packet of subtitles that a unit is, where it is one
unfoldable pub subtitles_in : List ℕ → Option SubtitleUnit
subtitles_in unit = read_as (pes_of unit)

-- ---- the units of a PID

-- a packet of the PID that can be taken
abbrev pub is_own : ℕ → List ℕ → Bool
is_own pid packet = (pid_of packet == pid) && is_none (packet_fault pid packet)

-- the first bytes of a PES packet of private stream 1
abbrev pub PRIVATE_START : List ℕ
PRIVATE_START = 0 ∷ 0 ∷ 1 ∷ PRIVATE_STREAM_1 ∷ []

-- as far as they go, bytes begin as such a PES packet does
abbrev pub begins_so : List ℕ → Bool
begins_so bytes = list_all (λ pair. pair.0 == pair.1) (zip bytes PRIVATE_START)

-- a packet with which a PES packet of private stream 1 may begin
abbrev pub begins_private : List ℕ → Bool
begins_private packet =
    not (has_error_flag packet) && (has_start_flag packet && (has_payload packet && begins_so (payload_of packet)))

-- the items of a list from the first one on that passes a test
abbrev pub from_first : {X : Type 0} → (X → Bool) → List X → List X
from_first test [] = []
from_first test (x ∷ xs) = if test x then x ∷ xs else from_first test xs

-- the packets of a PID in which units are looked for: those that can be taken, from the first one on with which a PES
-- packet of private stream 1 may begin
unfoldable pub watched : ℕ → List (List ℕ) → List (List ℕ)
watched pid packets = from_first begins_private (filter (is_own pid) packets)

-- the PES packets of subtitles that end in these packets of a PID. None needs more bytes than the largest buffer has,
-- and none is dropped for that: a length is a number of 16 bits
unfoldable pub subtitles_of : ℕ → List (List ℕ) → List SubtitleUnit
subtitles_of pid packets =
    filter_map (λ ended. option_and_then subtitles_in ended) (each_after (unit_at pid LARGEST_BUFFER) [] packets)

-- the PES packets of subtitles of a PID
abbrev pub units_of : ℕ → List (List ℕ) → List SubtitleUnit
units_of pid packets = subtitles_of pid (watched pid packets)

-- ---- the pages in them

-- a segment of the page
abbrev pub is_of_page : ℕ → Head → Bool
is_of_page page head = head.page == page

-- a page composition of the page
abbrev pub is_composition : ℕ → Head → Bool
is_composition page head = head.page == page && head.kind == PAGE_COMPOSITION

-- a CLUT definition or object data of the page
abbrev pub is_ancillary : ℕ → Head → Bool
is_ancillary page head = head.page == page && (head.kind == CLUT_DEFINITION || head.kind == OBJECT_DATA)

-- segments name the page
abbrev pub has_page : ℕ → List Head → Bool
has_page page heads = list_any (is_of_page page) heads

-- one of the segments is a page composition of the page
abbrev pub has_composition : ℕ → List Head → Bool
has_composition page heads = list_any (is_composition page) heads

-- the page is named in one of the PES packets
abbrev pub is_named : ℕ → List SubtitleUnit → Bool
is_named page units = list_any (λ unit. has_page page unit.heads) units

-- how many PES packets have a page composition of the page
abbrev pub compositions : ℕ → List SubtitleUnit → ℕ
compositions page units = count_by (λ unit. has_composition page unit.heads) units

-- how many CLUT definitions and object data of the page a PES packet has, where it has no page composition of it
abbrev pub alone_in : ℕ → List Head → ℕ
alone_in page heads = if has_composition page heads then 0 else count_by (is_ancillary page) heads

-- and all PES packets
abbrev pub ancillaries : ℕ → List SubtitleUnit → ℕ
ancillaries page units = sum_by (λ unit. alone_in page unit.heads) units
