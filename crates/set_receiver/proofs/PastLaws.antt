-- What was taken from a receiver, with one more packet, set or loss, and that it is all that was received.
use Rattle.std.proofs.Common.{◌≡◌, ℕ, Bool, true, false, List, [], ◌∷◌, ◌++◌, reverse, append-nil, append_assoc, Some, refl, sym, subst}
use Rattle.std.proofs.lemmas.List.Elements.{All-nil, All-push}
use Rattle.decoder_model.specs.Painting.{set_load}
use Rattle.decoder_model.specs.Readings.{AreDeliveriesRead, IsDeliveryRead, Reading}
use Rattle.decoder_model.specs.Received.{HasReceived}
use Rattle.decoder_model.specs.Sets.{Delivery, lost}
use Rattle.decoder_model.specs.Verdict.{verdict_of}
use Rattle.decoder_model.specs.declared.set_end.SetEnd.{SetEnd}
use Rattle.decoder_model.proofs.Lists.{all-append}
use Rattle.reading_laws.proofs.PacketsRead.{packets_read}
use Rattle.set_receiver.specs.Receiving.{AreLosses, IsNextReceived, SetReceiving, HasBeenFed, reception}
use Rattle.set_receiver.specs.Taking.{AllReceived, AreAllBytes, AreLost, HasNextReceived, HasPast}
use Rattle.set_receiver.proofs.TakenSets.{next_read, read_more}

-- ---- before the first packet

pub nothing_taken : (receiving : SetReceiving) → HasBeenFed false [] [] receiving → HasPast false [] [] receiving
nothing_taken receiving stands = record { bytes = All-nil AreAllBytes; given = []; stands = stands; read = tt }

-- ---- a packet

-- losses are read
pub record Loses (given losses : List (Delivery (List ℕ))) (past : List (Delivery Reading)) : Type 0 where
  pub more : List (Delivery Reading)
  pub are_lost : AreLost more
  pub read : AreDeliveriesRead (reverse (given ++ losses)) (more ++ past)

pub losses_read : (losses given : List (Delivery (List ℕ))) (past : List (Delivery Reading)) → AreLosses losses
    → AreDeliveriesRead (reverse given) past → Loses given losses past
losses_read [] given past are read = record {
  more = [];
  are_lost = tt;
  read =
      subst (λ (deliveries : List (Delivery (List ℕ))). AreDeliveriesRead (reverse deliveries) past)
      (sym (append-nil given)) read;
}
losses_read (loss ∷ losses) given past are read =
    let rest = losses_read losses (given ++ loss ∷ []) (lost ∷ past) are.1
    (read_more given loss past lost read
    (subst (λ (one : Delivery (List ℕ)). IsDeliveryRead one lost) (sym are.0) refl)) in
    record {
      more = rest.more ++ lost ∷ [];
      are_lost =
          all-append (λ (one : Delivery Reading). one ≡ lost) rest.more (lost ∷ []) rest.are_lost (refl, tt);
      read =
          subst (λ (all : List (Delivery Reading)). AreDeliveriesRead (reverse (given ++ loss ∷ losses)) all)
          (sym (append_assoc rest.more (lost ∷ []) past))
          (subst (λ (deliveries : List (Delivery (List ℕ))). AreDeliveriesRead (reverse deliveries)
          (rest.more ++ lost ∷ past)) (append_assoc given (loss ∷ []) losses) rest.read);
    }

-- a packet was fed
pub record IsFed (packets : List (List ℕ)) (past : List (Delivery Reading)) (receiving : SetReceiving) : Type 0 where
  pub more : List (Delivery Reading)
  pub are_lost : AreLost more
  pub has : HasPast false packets (more ++ past) receiving

pub fed_past : (old new : SetReceiving) (packets : List (List ℕ)) (packet : List ℕ) (past : List (Delivery Reading))
    → AreAllBytes packet
    → ((fed : List (List ℕ)) (given : List (Delivery (List ℕ))) → HasBeenFed false fed given old
    → (losses : List (Delivery (List ℕ))) × AreLosses losses
    × HasBeenFed false (fed ++ packet ∷ []) (given ++ losses) new)
    → HasPast false packets past old → IsFed (packets ++ packet ∷ []) past new
fed_past old new packets packet past bytes feeds has =
    let fed = feeds packets has.given has.stands in
    let read = losses_read fed.0 has.given past fed.1 has.read in
    record {
      more = read.more;
      are_lost = read.are_lost;
      has = record {
        bytes = All-push AreAllBytes packets packet has.bytes bytes;
        given = has.given ++ fed.0;
        stands = fed.2;
        read = read.read;
      };
    }

-- the stream has ended
pub ended_past : (old new : SetReceiving) (packets : List (List ℕ)) (past : List (Delivery Reading))
    → ((fed : List (List ℕ)) (given : List (Delivery (List ℕ))) → HasBeenFed false fed given old
    → HasBeenFed true fed given new)
    → HasPast false packets past old → HasPast true packets past new
ended_past old new packets past ends has = record {
  bytes = has.bytes;
  given = has.given;
  stands = ends packets has.given has.stands;
  read = has.read;
}

-- ---- a set

-- the set that was ready was taken, with that end and load
pub record IsTaken (ended : Bool) (packets : List (List ℕ)) (past : List (Delivery Reading)) (old new : SetReceiving)
    (end : SetEnd) : Type 0 where
  pub one : Delivery Reading
  pub has : HasPast ended packets (one ∷ past) new
  pub verdict : Some end ≡ verdict_of (reception old).profile (reception old).anchor past one
  pub load : Some new.load ≡ set_load (reception old).profile (reception old).anchor past one

module _ (old new : SetReceiving) (end : SetEnd) (has_next : HasNextReceived old)
    (takes : (ended : Bool) (packets : List (List ℕ)) (given rest : List (Delivery (List ℕ)))
    (delivery : Delivery (List ℕ)) → IsNextReceived ended packets given delivery rest old
    → HasBeenFed ended packets (given ++ delivery ∷ []) new)
    (answers : (ended : Bool) (packets : List (List ℕ)) (given rest : List (Delivery (List ℕ)))
    (delivery : Delivery (List ℕ)) (past : List (Delivery Reading)) (one : Delivery Reading)
    → IsNextReceived ended packets given delivery rest old → AreDeliveriesRead (reverse given) past
    → IsDeliveryRead delivery one
    → Some end ≡ verdict_of (reception old).profile (reception old).anchor past one)
    (loads : (ended : Bool) (packets : List (List ℕ)) (given rest : List (Delivery (List ℕ)))
    (delivery : Delivery (List ℕ)) (past : List (Delivery Reading)) (one : Delivery Reading)
    → IsNextReceived ended packets given delivery rest old → AreDeliveriesRead (reverse given) past
    → IsDeliveryRead delivery one
    → Some new.load ≡ set_load (reception old).profile (reception old).anchor past one) where
  pub taken_past : (ended : Bool) (packets : List (List ℕ)) (past : List (Delivery Reading))
      → HasPast ended packets past old → IsTaken ended packets past old new end
  taken_past ended packets past has =
      let made = reception old in
      let next = has_next ended packets has.given has.stands in
      let all = packets_read made ended packets has.bytes in
      let found = next_read made ended packets has.given next.1 next.0 all.0 all.1 next.2.all in
      record {
        one = found.0;
        has = record {
          bytes = has.bytes;
          given = has.given ++ next.0 ∷ [];
          stands = takes ended packets has.given next.1 next.0 next.2;
          read = read_more has.given next.0 past found.0 has.read found.1;
        };
        verdict = answers ended packets has.given next.1 next.0 past found.0 next.2 has.read found.1;
        load = loads ended packets has.given next.1 next.0 past found.0 next.2 has.read found.1;
      }

-- ---- all of it

-- where all was taken, the past is what was received
pub past_received : (ended : Bool) (packets : List (List ℕ)) (past : List (Delivery Reading)) (receiving : SetReceiving)
    → AllReceived receiving → HasPast ended packets past receiving
    → HasReceived (reception receiving) ended packets past
past_received ended packets past receiving all has =
    subst (λ (sets : List (Delivery (List ℕ))). AreDeliveriesRead (reverse sets) past)
    (sym (all packets ended has.given has.stands)) has.read
