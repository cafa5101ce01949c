-- How the bytes in hand change in the steps of a reader.
use Rattle.std.specs.Prelude.{◌≡◌, ℕ, ◌+◌, ◌/◌, List, ◌++◌, length}
use Rattle.std.specs.Io.KnownBytes.{Consumes, IsAtEnd, Keeps}
use Rattle.sub_base.specs.Counts.{counted}
use Rattle.sub_base.specs.Endpoints.{Supplied}
use Rattle.packet_source.specs.InHand.{InHand, rest_of}
use Rattle.stream_syntax.specs.declared.wire.TheConstants.{PACKET_LENGTH}

-- what is in hand once the whole packets were given up
abbrev pub given_up : InHand → InHand
given_up hand = record { first = hand.first + length hand.bytes / PACKET_LENGTH; bytes = rest_of hand.bytes }

-- so many bytes more were read: none only where the source is at its end
pub record HasRead (was is : Supplied) (old new : InHand) (count : ℕ) : Type 0 where
  pub more : List ℕ
  pub count_is : count ≡ length more
  pub hand : new ≡ record { first = old.first; bytes = old.bytes ++ more }
  pub bytes : Consumes was.left is.left more
  pub given : is.given ≡ counted was.given count
  pub end : count ≡ 0 → IsAtEnd is.left

-- nothing was read
pub record HasReadNothing (was is : Supplied) (old new : InHand) : Type 0 where
  pub hand : new ≡ old
  pub left : Keeps was.left is.left
  pub given : is.given ≡ was.given
