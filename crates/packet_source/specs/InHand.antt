-- The bytes of a stream that a reader has in hand.
use Rattle.std.specs.Prelude.{ℕ, List, [], ◌+◌, ◌*◌, ◌/◌, length, drop}
use Rattle.std.specs.Simd.{first_chunks}
use Rattle.stream_syntax.specs.declared.wire.TheConstants.{PACKET_LENGTH}

-- the bytes that were read and not given up, and the number, from 0, of the packet that they begin with
pub record InHand : Type 0 where
  pub first : ℕ
  pub bytes : List ℕ

-- nothing was read
abbrev pub nothing_read : InHand
nothing_read = record { first = 0; bytes = [] }

-- the whole packets that these bytes begin with
abbrev pub whole_packets : List ℕ → List (List ℕ)
whole_packets bytes = first_chunks PACKET_LENGTH (length bytes / PACKET_LENGTH) bytes

-- the bytes behind them
abbrev pub rest_of : List ℕ → List ℕ
rest_of bytes = drop (length bytes / PACKET_LENGTH * PACKET_LENGTH) bytes

-- how many bytes of the stream were read in all
abbrev pub read_count : InHand → ℕ
read_count hand = PACKET_LENGTH * hand.first + length hand.bytes
