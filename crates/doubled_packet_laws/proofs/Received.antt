-- Doubled packets are received as the packets are.
use Rattle.std.proofs.Common.{ℕ, Bool, List, reverse, sym, subst}
use Rattle.decoder_model.specs.Readings.{Reading, AreDeliveriesRead}
use Rattle.decoder_model.specs.Received.{HasReceived, Reception}
use Rattle.decoder_model.specs.Sets.{Delivery}
use Rattle.doubled_packet_laws.specs.Doubled.{doubled}
use Rattle.doubled_packet_laws.proofs.Copies.{sets_doubled}

pub received_twice : (reception : Reception) (ended : Bool) (packets : List (List ℕ))
    (past : List (Delivery Reading))
    → HasReceived reception ended packets past
    → HasReceived reception ended (doubled reception.pid packets) past
received_twice reception ended packets past h =
    subst (λ (sets : List (Delivery (List ℕ))). AreDeliveriesRead (reverse sets) past)
    (sym (sets_doubled reception.profile.coded reception.pid reception.pages ended packets)) h

pub received_once : (reception : Reception) (ended : Bool) (packets : List (List ℕ))
    (past : List (Delivery Reading))
    → HasReceived reception ended (doubled reception.pid packets) past
    → HasReceived reception ended packets past
received_once reception ended packets past h =
    subst (λ (sets : List (Delivery (List ℕ))). AreDeliveriesRead (reverse sets) past)
    (sets_doubled reception.profile.coded reception.pid reception.pages ended packets) h
