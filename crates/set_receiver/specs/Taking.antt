-- Sets that are taken from a receiver, and what it was handed by that.
use Rattle.std.specs.Prelude.{◌≡◌, ℕ, ◌<◌, Bool, List, All, reverse}
use Rattle.std.specs.List.{AllByRecursion}
use Rattle.decoder_model.specs.Readings.{AreDeliveriesRead, Reading}
use Rattle.decoder_model.specs.Received.{sets_received}
use Rattle.decoder_model.specs.Sets.{Delivery, lost}
use Rattle.set_receiver.specs.Receiving.{IsNextReceived, SetReceiving, HasBeenFed, reception}

-- each of these numbers is a byte
abbrev pub AreAllBytes : List ℕ → Type 0
AreAllBytes numbers = All (λ number. number < 256) numbers

-- whatever was fed and taken so far, a set or loss comes next
abbrev pub HasNextReceived : SetReceiving → Type 0
HasNextReceived receiving = (ended : Bool) (packets : List (List ℕ)) (given : List (Delivery (List ℕ)))
    → HasBeenFed ended packets given receiving
    → (delivery : Delivery (List ℕ)) × (rest : List (Delivery (List ℕ)))
    × IsNextReceived ended packets given delivery rest receiving

-- all sets and losses of what was fed were taken
abbrev pub AllReceived : SetReceiving → Type 0
AllReceived receiving = (fed : List (List ℕ)) (ended : Bool) (given : List (Delivery (List ℕ)))
    → HasBeenFed ended fed given receiving → sets_received (reception receiving) ended fed ≡ given

-- ---- as it is read

-- nothing but losses
abbrev pub AreLost : List (Delivery Reading) → Type 0
AreLost past = AllByRecursion (λ one. one ≡ lost) past

-- the receiver was fed the packets, which are of bytes, and the stream has ended with them or not; and this past was
-- taken from it, the latest first
pub record HasPast (ended : Bool) (packets : List (List ℕ)) (past : List (Delivery Reading))
    (receiving : SetReceiving) : Type 0 where
  pub bytes : All AreAllBytes packets
  pub given : List (Delivery (List ℕ))
  pub stands : HasBeenFed ended packets given receiving
  pub read : AreDeliveriesRead (reverse given) past
