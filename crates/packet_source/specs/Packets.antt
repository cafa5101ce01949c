-- What a source gave between two moments, as packets of a stream.
use Rattle.std.specs.Prelude.{◌≡◌, ℕ, ◌+◌, ◌*◌, ◌<◌, ◌≤◌, List, ◌++◌, length, All}
use Rattle.std.specs.List.{flat_map}
use Rattle.std.specs.Io.KnownBytes.{Consumes, IsAtEnd}
use Rattle.sub_base.specs.Counts.{counted}
use Rattle.sub_base.specs.Endpoints.{Supplied, HasReadFault}
use Rattle.packet_source.specs.InHand.{InHand, whole_packets, read_count}
use Rattle.packet_source.specs.declared.limits.TheConstants.{STREAM_LIMIT}
use Rattle.stream_syntax.specs.declared.wire.TheConstants.{PACKET_LENGTH}
use Rattle.packet_source.specs.declared.stream_end.StreamEnd.{StreamEnd}
use Rattle.packet_source.specs.declared.stream_end.StreamEnd.TheVariants as end

-- how many bytes these packets have, and the bytes behind them
abbrev pub stream_length : List (List ℕ) → List ℕ → ℕ
stream_length packets rest = PACKET_LENGTH * length packets + length rest

-- these packets, and the bytes behind them, are no more than a stream may have
abbrev pub IsWithin : List (List ℕ) → List ℕ → Type 0
IsWithin packets rest = stream_length packets rest ≤ STREAM_LIMIT

-- the source gave these packets, each of 188 bytes, and then these bytes
pub record Gave (before now : Supplied) (packets : List (List ℕ)) (rest : List ℕ) : Type 0 where
  pub each : All (λ packet. length packet ≡ PACKET_LENGTH) packets
  pub bytes : Consumes before.left now.left (flat_map (λ packet. packet) packets ++ rest)
  pub count : now.given ≡ counted before.given (stream_length packets rest)

-- the source gave these packets, and then the bytes in hand
pub record HasGivenInHand (before now : Supplied) (hand : InHand) (packets : List (List ℕ)) : Type 0 where
  pub count : length packets ≡ hand.first
  pub gave : Gave before now packets hand.bytes

-- whichever packets came before the old bytes in hand: before the new ones came these, and then the whole packets of
-- the old bytes
abbrev pub GivesMore : Supplied → Supplied → InHand → InHand → Type 0
GivesMore was is old new = (before : Supplied) (packets : List (List ℕ)) → HasGivenInHand before was old packets
    → HasGivenInHand before is new (packets ++ whole_packets old.bytes)

-- no whole packet is in hand, and the stream is within its limit
pub record IsLastRest (hand : InHand) : Type 0 where
  pub short : length hand.bytes < PACKET_LENGTH
  pub within : read_count hand ≤ STREAM_LIMIT

-- more was read, within the limit of a stream
pub record HasMore (old new : InHand) : Type 0 where
  pub more : read_count old < read_count new
  pub within : read_count new ≤ STREAM_LIMIT

-- why the source gives no packet more, and what is in hand then
abbrev pub IsStreamEnd : Supplied → Supplied → InHand → StreamEnd → Type 0
IsStreamEnd was is hand (end.Whole cut) = IsAtEnd is.left × (cut ≡ length hand.bytes) × IsLastRest hand
IsStreamEnd was is hand end.Unread = HasReadFault was is × IsLastRest hand
IsStreamEnd was is hand end.TooLong = STREAM_LIMIT < read_count hand
