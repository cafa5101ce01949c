-- How a walk over a stream ends, before the text that waits is written.
use Rattle.std.specs.Prelude.{◌≡◌, ℕ, ◌<◌, true, List, ◌++◌, length, Some}
use Rattle.std.specs.Io.KnownBytes.{IsAtEnd}
use Rattle.sub_base.specs.Counts.{HasRisenPast}
use Rattle.sub_base.specs.Endpoints.{HasReadFault, Received, Supplied}
use Rattle.packet_source.specs.Packets.{IsWithin}
use Rattle.packet_source.specs.declared.limits.TheConstants.{STREAM_LIMIT}
use Rattle.packet_source.specs.declared.stream_end.StreamEnd.TheVariants as stream
use Rattle.stream_syntax.specs.declared.wire.TheConstants.{PACKET_LENGTH}
use Rattle.stream_syntax.specs.TransportPackets.{packet_fault}
use Rattle.command_text.specs.Putting.{Buffered, IsPutOut}
use Rattle.packet_walk.specs.Taken.{AreTaken}
use Rattle.packet_walk.specs.declared.walk.WalkEnd.{WalkEnd}
use Rattle.packet_walk.specs.declared.walk.WalkEnd.TheVariants as end

-- the source gave these packets and the rest, and a text that is told of the packets was put out
pub record IsToldFrom (Told : List (List ℕ) → List ℕ → Type 0) (pid : ℕ) (before now : Supplied)
    (start out : Received)
    (buffer : Buffered) (packets : List (List ℕ)) (rest : List ℕ) : Type 0 where
  pub taken : AreTaken pid before now packets rest
  pub text : List ℕ
  pub told : Told packets text
  pub put_out : IsPutOut start out buffer text

-- how the walk ended, and what was told of the packets that were taken
abbrev pub IsEnd : (List (List ℕ) → List ℕ → Type 0) → ℕ → Supplied → Supplied → Received
    → Received → Buffered
    → WalkEnd → Type 0
IsEnd Told pid before now start out buffer (end.Stream (stream.Whole cut)) =
    (packets : List (List ℕ)) × (rest : List ℕ) × IsToldFrom Told pid before now start out buffer packets rest
    × IsWithin packets rest × (length rest < PACKET_LENGTH) × (cut ≡ length rest) × IsAtEnd now.left
IsEnd Told pid before now start out buffer (end.Stream stream.Unread) =
    (packets : List (List ℕ)) × (rest : List ℕ) × IsToldFrom Told pid before now start out buffer packets rest
    × IsWithin packets rest × (length rest < PACKET_LENGTH) × HasReadFault before now
IsEnd Told pid before now start out buffer (end.Stream stream.TooLong) =
    (packets : List (List ℕ)) × (rest : List ℕ) × IsToldFrom Told pid before now start out buffer packets rest
    × HasRisenPast STREAM_LIMIT before.given now.given
IsEnd Told pid before now start out buffer (end.Refused refused) =
    (packets : List (List ℕ)) × (packet : List ℕ) × (rest : List ℕ)
    × IsToldFrom Told pid before now start out buffer packets (packet ++ rest) × IsWithin packets (packet ++ rest)
    × (length packet ≡ PACKET_LENGTH) × (refused.packet ≡ length packets)
    × (packet_fault pid packet ≡ Some refused.fault)
IsEnd Told pid before now start out buffer end.Unwritten =
    (packets : List (List ℕ)) × (rest : List ℕ) × IsToldFrom Told pid before now start out buffer packets rest
    × IsWithin packets rest × (buffer.failed ≡ true)
