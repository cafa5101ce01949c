-- Why the telling of a stream ended as it did, and what its output has received then. What is told of packets is a
-- relation between them and a text; the stream ends with the packets or not.
use Rattle.std.specs.Prelude.{◌≡◌, ℕ, Bool, true, false, ◌<◌, ◌≤◌, List, ◌++◌, length, Some}
use Rattle.std.specs.Io.KnownBytes.{Appends, IsAtEnd}
use Rattle.packet_source.specs.Packets.{IsWithin}
use Rattle.packet_source.specs.declared.limits.TheConstants.{STREAM_LIMIT}
use Rattle.packet_walk.specs.Taken.{AreTaken}
use Rattle.stream_syntax.specs.declared.wire.TheConstants.{PACKET_LENGTH}
use Rattle.stream_syntax.specs.TransportPackets.{packet_fault}
use Rattle.stream_syntax.specs.declared.transport.PacketFault.{PacketFault}
use Rattle.sub_base.specs.Counts.{HasRisen, HasRisenPast, counted}
use Rattle.sub_base.specs.Endpoints.{AppendsPrefix, Received, Supplied, WroteNothing}
use Rattle.packet_walk.specs.declared.told_end.ToldEnd.{ToldEnd}
use Rattle.packet_walk.specs.declared.told_end.ToldEnd.TheVariants as told_end

-- what is told: whether the stream ends with the packets, the packets, and the text
abbrev pub Telling : Type 1
Telling = Bool → List (List ℕ) → List ℕ → Type 0

-- the stream was read to its end, and the output has received the text of its packets; the rest is shorter than a
-- packet
pub record IsWhole (Told : Telling) (pid : ℕ) (before now : Supplied) (out_before out_now : Received)
    (cut : ℕ) : Type 0 where
  pub packets : List (List ℕ)
  pub rest : List ℕ
  pub taken : AreTaken pid before now packets rest
  pub within : IsWithin packets rest
  pub end : IsAtEnd now.left
  pub short : length rest < PACKET_LENGTH
  pub cut_is : cut ≡ length rest
  pub text : List ℕ
  pub told : Told true packets text
  pub written : Appends out_before.written out_now.written text

-- the packet at that place is the first that is refused, and the output has received the text of the packets before it
pub record IsUpToFault (Told : Telling) (pid : ℕ) (before now : Supplied) (out_before out_now : Received)
    (place : ℕ)
    (fault : PacketFault) : Type 0 where
  pub packets : List (List ℕ)
  pub refused : List ℕ
  pub rest : List ℕ
  pub taken : AreTaken pid before now packets (refused ++ rest)
  pub within : IsWithin packets (refused ++ rest)
  pub whole : length refused ≡ PACKET_LENGTH
  pub place_is : place ≡ length packets
  pub fault_is : packet_fault pid refused ≡ Some fault
  pub text : List ℕ
  pub told : Told false packets text
  pub written : Appends out_before.written out_now.written text

-- the stream could not be read on, and the output has received the text of the packets that were read whole
pub record IsUpToFailure (Told : Telling) (pid : ℕ) (before now : Supplied)
    (out_before out_now : Received) : Type 0 where
  pub packets : List (List ℕ)
  pub rest : List ℕ
  pub taken : AreTaken pid before now packets rest
  pub within : IsWithin packets rest
  pub short : length rest < PACKET_LENGTH
  pub text : List ℕ
  pub told : Told false packets text
  pub written : Appends out_before.written out_now.written text

-- the output has received a prefix of the text of packets that the source gave; of what the end of the stream adds only
-- where the source is at its end
pub record IsFront (Told : Telling) (pid : ℕ) (before now : Supplied) (out_before out_now : Received) : Type 0 where
  pub packets : List (List ℕ)
  pub rest : List ℕ
  pub taken : AreTaken pid before now packets rest
  pub ended : Bool
  pub at_end : ended ≡ true → IsAtEnd now.left
  pub text : List ℕ
  pub told : Told ended packets text
  pub written : AppendsPrefix out_before.written out_now.written text

-- the cause of each end, by the stream's source and the output before and now, and what the output has received then
abbrev pub IsToldEnd : Telling → ℕ → Supplied → Supplied → Received → Received → ToldEnd → Type 0
IsToldEnd Told pid before now out_before out_now (told_end.Done cut) =
    IsWhole Told pid before now out_before out_now cut
IsToldEnd Told pid before now out_before out_now (told_end.Refused refused) =
    IsUpToFault Told pid before now out_before out_now refused.packet refused.fault
IsToldEnd Told pid before now out_before out_now told_end.Unread =
    HasRisen before.faults now.faults × IsUpToFailure Told pid before now out_before out_now
IsToldEnd Told pid before now out_before out_now told_end.TooLong =
    HasRisenPast STREAM_LIMIT before.given now.given × IsFront Told pid before now out_before out_now
IsToldEnd Told pid before now out_before out_now told_end.Unwritten =
    HasRisen out_before.faults out_now.faults × IsFront Told pid before now out_before out_now
    × (now.given ≤ counted before.given STREAM_LIMIT)
IsToldEnd Told pid before now out_before out_now told_end.Memory = (now ≡ before) × WroteNothing out_before out_now

-- the stream is within its limit, and no packet of it is refused
pub record IsValidStream (pid : ℕ) (before now : Supplied) : Type 0 where
  pub within : HasRisenPast STREAM_LIMIT before.given now.given → ⊥
  pub unrefused : (packets : List (List ℕ)) (packet rest : List ℕ) (fault : PacketFault)
      → AreTaken pid before now packets (packet ++ rest) → length packet ≡ PACKET_LENGTH
      → packet_fault pid packet ≡ Some fault → ⊥

-- a stream that was read whole, within its limit, and of which no packet is refused
pub record IsReadableStream (pid : ℕ) (before now : Supplied) : Type 0 where
  pub read : HasRisen before.faults now.faults → ⊥
  pub valid : IsValidStream pid before now
