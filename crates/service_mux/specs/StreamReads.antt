-- What a tool read of a stream of packets, of which each has to begin with the sync byte.
use Rattle.std.specs.Prelude.{◌≡◌, ℕ, ◌<◌, true, false, List, ◌++◌, length, All, None}
use Rattle.std.specs.Io.KnownBytes.{IsAtEnd}
use Rattle.packet_source.specs.Packets.{Gave, IsWithin}
use Rattle.sub_base.specs.Endpoints.{Received, Supplied}
use Rattle.sub_base.specs.Seen.{Seen, seen}
use Rattle.stream_syntax.specs.declared.wire.TheConstants.{PACKET_LENGTH}
use Rattle.stream_syntax.specs.TransportPackets.{has_sync}

-- what is seen of the source and the sink of a tool that reads one stream: there is no second source
abbrev pub seen_of_one : Supplied → Received → Seen
seen_of_one first out = seen first (record { left = None; given = 0; faults = 0 }) out

-- the source gave these packets to its end, and a rest that is shorter than one, all within the limit of a stream
pub record IsRead (before now : Supplied) (packets : List (List ℕ)) : Type 0 where
  pub rest : List ℕ
  pub gave : Gave before now packets rest
  pub within : IsWithin packets rest
  pub short : length rest < PACKET_LENGTH
  pub end : IsAtEnd now.left

-- each of these packets begins with the sync byte
abbrev pub HaveSync : List (List ℕ) → Type 0
HaveSync packets = All (λ packet. has_sync packet ≡ true) packets

-- the packet at that place, counted from 0, is the first without the sync byte among those that the source gave, which
-- are within the limit of a stream
pub record IsUnsynced (before now : Supplied) (place : ℕ) (packets : List (List ℕ)) : Type 0 where
  pub packet : List ℕ
  pub rest : List ℕ
  pub gave : Gave before now packets (packet ++ rest)
  pub within : IsWithin packets (packet ++ rest)
  pub synced : HaveSync packets
  pub whole : length packet ≡ PACKET_LENGTH
  pub no_sync : has_sync packet ≡ false
  pub place_is : place ≡ length packets
