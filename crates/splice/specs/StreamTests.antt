-- The tests of a stream that is to be spliced: its packets, its losses, and what becomes of its display sets.
use Rattle.std.specs.Prelude.{◌≡◌, ℕ, ◌<◌, Bool, true, false, List, [], ◌∷◌, ◌++◌, length, All, Option, Some, None}
use Rattle.std.specs.List.{list_any}
use Rattle.stream_syntax.specs.TransportPackets.{packet_fault}
use Rattle.stream_syntax.specs.declared.page.State.TheVariants.{ModeChange}
use Rattle.stream_syntax.specs.declared.transport.PacketFault.{PacketFault}
use Rattle.decoder_model.specs.Arrivals.{Arrival, loss, refused_unit, aside, unit, arrivals_at, arrivals_of}
use Rattle.decoder_model.specs.Contents.{has_state}
use Rattle.decoder_model.specs.Faults.{contents_in}
use Rattle.decoder_model.specs.Kept.{lifted_time}
use Rattle.decoder_model.specs.Readings.{Reading}
use Rattle.decoder_model.specs.Received.{HasReceived, Reception}
use Rattle.decoder_model.specs.Sets.{Delivery, whole}
use Rattle.decoder_model.specs.Verdict.{verdict_of}
use Rattle.decoder_model.specs.declared.set_end.SetEnd.TheVariants.{Shown}

-- ---- packets

-- each of the packets can be taken
abbrev pub CanBeTaken : ℕ → List (List ℕ) → Type 0
CanBeTaken pid packets = All (λ packet. packet_fault pid packet ≡ None) packets

-- the packet at that place, counted from 0, is the first that cannot be taken, for that fault
pub record IsFirstRefused (pid : ℕ) (packets : List (List ℕ)) (place : ℕ) (fault : PacketFault) : Type 0 where
  pub before : List (List ℕ)
  pub packet : List ℕ
  pub rest : List (List ℕ)
  pub parts : packets ≡ before ++ packet ∷ rest
  pub place_is : place ≡ length before
  pub taken : CanBeTaken pid before
  pub is_fault : packet_fault pid packet ≡ Some fault

-- ---- losses

-- a loss, or a unit that is refused as a PES packet, which is a loss too
abbrev pub is_lost : Arrival → Bool
is_lost loss = true
is_lost refused_unit = true
is_lost aside = false
is_lost (unit one) = false

-- in these packets nothing is lost
abbrev pub IsLossless : Reception → List (List ℕ) → Type 0
IsLossless reception packets =
    list_any is_lost (arrivals_of reception.profile.coded reception.pid reception.pages packets) ≡ false

-- with the packet behind these something is lost
abbrev pub BringsLoss : Reception → List (List ℕ) → List ℕ → Type 0
BringsLoss reception before packet =
    list_any is_lost (arrivals_at reception.profile.coded reception.pid reception.pages before packet) ≡ true

-- the packet at that place, counted from 0, is the first with which something is lost
pub record IsFirstLost (reception : Reception) (packets : List (List ℕ)) (place : ℕ) : Type 0 where
  pub before : List (List ℕ)
  pub packet : List ℕ
  pub rest : List (List ℕ)
  pub parts : packets ≡ before ++ packet ∷ rest
  pub place_is : place ≡ length before
  pub lossless : IsLossless reception before
  pub brings : BringsLoss reception before packet

-- ---- sets

-- which sets have to be shown: where there is a cut, those that are not kept and those whose lifted time lies before
-- it; and else all
abbrev pub IsLookedAt : Option ℕ → Option ℕ → Type 0
IsLookedAt None lifted = Unit {0}
IsLookedAt (Some cut) None = Unit {0}
IsLookedAt (Some cut) (Some lifted) = lifted < cut

-- of what was handed over, the latest first, each set that has to be shown is shown
abbrev pub AreShownUpTo : Reception → Option ℕ → List (Delivery Reading) → Type 0
AreShownUpTo reception cut [] = Unit {0}
AreShownUpTo reception cut (delivery ∷ before) =
    (IsLookedAt cut (lifted_time reception.anchor before delivery)
    → verdict_of reception.profile reception.anchor before delivery ≡ Some Shown)
    × AreShownUpTo reception cut before

-- each set of the stream that has to be shown is shown
pub record AreSetsShown (reception : Reception) (cut : Option ℕ) (packets : List (List ℕ)) : Type 0 where
  pub past : List (Delivery Reading)
  pub received : HasReceived reception true packets past
  pub each : AreShownUpTo reception cut past

-- the set at that place, counted from 0 among all sets of a stream without losses, is the first that has to be shown
-- and is not
pub record IsFirstUnshown (reception : Reception) (cut : Option ℕ) (packets : List (List ℕ)) (place : ℕ)
    : Type 0 where
  pub past : List (Delivery Reading)
  pub received : HasReceived reception true packets past
  pub later : List (Delivery Reading)
  pub delivery : Delivery Reading
  pub before : List (Delivery Reading)
  pub parts : past ≡ later ++ delivery ∷ before
  pub place_is : place ≡ length before
  pub looked_at : IsLookedAt cut (lifted_time reception.anchor before delivery)
  pub not_shown : verdict_of reception.profile reception.anchor before delivery ≡ Some Shown → ⊥
  pub first : AreShownUpTo reception cut before

-- the stream has a first set, and that is a mode change
pub record BeginsAnew (reception : Reception) (packets : List (List ℕ)) : Type 0 where
  pub past : List (Delivery Reading)
  pub received : HasReceived reception true packets past
  pub later : List (Delivery Reading)
  pub time : ℕ
  pub size : ℕ
  pub readings : List Reading
  pub first : past ≡ later ++ whole time size readings ∷ []
  pub mode_change : has_state ModeChange (contents_in readings) ≡ true
