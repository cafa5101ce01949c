-- The loops of programme tables: the entries of a PAT (ISO/IEC 13818-1, 2.4.4.3), the streams of a PMT (2.4.4.8), and
-- the descriptors (2.6).
use Rattle.std.specs.Prelude.{ℕ, zero, suc, ◌+◌, ◌*◌, ◌%◌, ◌^◌, ◌==◌, nat_lt, Bool, ◌&&◌, ◌||◌, if◌then◌else◌, List, [], ◌∷◌, length, take, drop, sum_by}
use Rattle.std.specs.List.{list_all}
use Rattle.stream_syntax.specs.Tests.{byte_at, word_at}

-- the number in the low 12 bits of the two bytes at a place
abbrev pub twelve_at : ℕ → List ℕ → ℕ
twelve_at place bytes = word_at place bytes % 2 ^ 12

-- the number in the low 13 bits of the two bytes at a place
abbrev pub thirteen_at : ℕ → List ℕ → ℕ
thirteen_at place bytes = word_at place bytes % 2 ^ 13

-- ---- entries

-- an entry of a PAT: the number of a service (program_number), and the PID of its PMT (program_map_PID); for number 0
-- it is that of the network (network_PID)
pub record PatEntry : Type 0 where
  pub number : ℕ
  pub pid : ℕ

-- the entries in bytes, four bytes each
abbrev pub entries_of : List ℕ → List PatEntry
entries_of (a ∷ b ∷ c ∷ d ∷ rest) =
    record { number = a * 256 + b; pid = (c * 256 + d) % 2 ^ 13 } ∷ entries_of rest
entries_of rest = []

-- the bytes are whole entries
abbrev pub are_entries : List ℕ → Bool
are_entries bytes = length bytes % 4 == 0

-- ---- descriptors

-- a descriptor: its tag (descriptor_tag), and the bytes that its length counts
pub record Descriptor : Type 0 where
  pub tag : ℕ
  pub content : List ℕ

-- the descriptors in bytes, one after another, at most so many, up to one that is cut
abbrev pub descriptors_within : ℕ → List ℕ → List Descriptor
descriptors_within zero bytes = []
descriptors_within (suc most) bytes =
    if nat_lt (length bytes) 2 || nat_lt (length bytes) (2 + byte_at 1 bytes) then []
    else record { tag = byte_at 0 bytes; content = take (byte_at 1 bytes) (drop 2 bytes) }
    ∷ descriptors_within most (drop (2 + byte_at 1 bytes) bytes)

-- the descriptors in bytes, one after another, up to one that is cut; there are no more of them than bytes
unfoldable pub descriptors_of : List ℕ → List Descriptor
descriptors_of bytes = descriptors_within (length bytes) bytes

-- how many bytes a descriptor has, its tag and its length with it
abbrev pub descriptor_size : Descriptor → ℕ
descriptor_size descriptor = 2 + length descriptor.content

-- the bytes are whole descriptors: these fill them
abbrev pub are_descriptors : List ℕ → Bool
are_descriptors bytes = sum_by descriptor_size (descriptors_of bytes) == length bytes

-- ---- streams

-- a stream of a PMT: its type (stream_type), its PID (elementary_PID), and the bytes of its descriptors
pub record Stream : Type 0 where
  pub kind : ℕ
  pub pid : ℕ
  pub descriptors : List ℕ

-- the bytes of descriptors of the stream that begins bytes (ES_info_length)
abbrev pub first_descriptors : List ℕ → List ℕ
first_descriptors bytes = take (twelve_at 3 bytes) (drop 5 bytes)

-- how many bytes the stream that begins bytes has by its ES_info_length
abbrev pub first_size : List ℕ → ℕ
first_size bytes = 5 + twelve_at 3 bytes

-- the streams in bytes, one after another, at most so many, up to one that is cut
abbrev pub streams_within : ℕ → List ℕ → List Stream
streams_within zero bytes = []
streams_within (suc most) bytes =
    if nat_lt (length bytes) 5 || nat_lt (length bytes) (first_size bytes) then []
    else record { kind = byte_at 0 bytes; pid = thirteen_at 1 bytes; descriptors = first_descriptors bytes }
    ∷ streams_within most (drop (first_size bytes) bytes)

-- the streams in bytes, one after another, up to one that is cut; there are no more of them than bytes
unfoldable pub streams_of : List ℕ → List Stream
streams_of bytes = streams_within (length bytes) bytes

-- how many bytes a stream has, its descriptors with it
abbrev pub stream_size : Stream → ℕ
stream_size stream = 5 + length stream.descriptors

-- the bytes are whole streams, each with whole descriptors
abbrev pub are_streams : List ℕ → Bool
are_streams bytes =
    sum_by stream_size (streams_of bytes) == length bytes
    && list_all (λ stream. are_descriptors stream.descriptors) (streams_of bytes)
