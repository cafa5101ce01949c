-- Packets of bytes are received as some sets and losses.
use Rattle.std.proofs.Common.{ℕ, ◌<◌, Bool, List, [], ◌∷◌, reverse, refl, sym, subst, All}
use Rattle.std.specs.List.{AllByRecursion}
use Rattle.std.proofs.lemmas.List.{reverse-append}
use Rattle.std.proofs.lemmas.List.Elements.{recursion_from_All}
use Rattle.decoder_model.specs.Readings.{Reading, AreReadings, IsDeliveryRead, AreDeliveriesRead}
use Rattle.decoder_model.specs.Received.{HasReceived, Reception, sets_received}
use Rattle.decoder_model.proofs.Lists.{all-append}
use Rattle.decoder_model.specs.Sets.{Delivery, lost, whole, refused}
use Rattle.reading_laws.proofs.ReceivedBytes.{OfBytes}
use Rattle.decoder_model.proofs.ReceivedSegments.{DeliveryHas}
use Rattle.reading_laws.proofs.ReceivedSets.{IsWhole, received_whole}
use Rattle.reading_laws.proofs.SegmentsRead.{segment_is_read}

segments_read : (segments : List (List ℕ)) → AllByRecursion IsWhole segments
    → (readings : List Reading) × AreReadings segments readings
segments_read [] h = ([], tt)
segments_read (bytes ∷ segments) h =
    let first = segment_is_read bytes h.0.bytes_are h.0.is_framed in
    let rest = segments_read segments h.1 in
    (first.0 ∷ rest.0, (first.1, rest.1))

delivery_read : (delivery : Delivery (List ℕ)) → DeliveryHas IsWhole delivery
    → (reading : Delivery Reading) × IsDeliveryRead delivery reading
delivery_read lost h = (lost, refl)
delivery_read (whole time size segments) h = let found =
    segments_read segments h.each in (whole time size found.0, (found.0, found.1, refl))
delivery_read (refused time size fault) h = (refused time size fault, refl)

deliveries_read : (deliveries : List (Delivery (List ℕ))) → AllByRecursion (DeliveryHas IsWhole) deliveries
    → (past : List (Delivery Reading)) × AreDeliveriesRead deliveries past
deliveries_read [] h = ([], tt)
deliveries_read (delivery ∷ deliveries) h =
    let first = delivery_read delivery h.0 in
    let rest = deliveries_read deliveries h.1 in
    (first.0 ∷ rest.0, (first.1, rest.1))

-- what holds of all of a list holds of all of it from behind
all_reversed : {X : Type 0} (P : X → Type 0) (xs : List X) → AllByRecursion P xs → AllByRecursion P (reverse xs)
all_reversed P [] h = tt
all_reversed P (x ∷ xs) h =
    subst (AllByRecursion P) (sym (reverse-append (x ∷ []) xs))
    (all-append P (reverse xs) (x ∷ []) (all_reversed P xs h.1) (h.0, tt))

pub packets_read : (reception : Reception) (ended : Bool) (packets : List (List ℕ))
    → All (λ (packet : List ℕ). All (λ (byte : ℕ). byte < 256) packet) packets
    → (past : List (Delivery Reading)) × HasReceived reception ended packets past
packets_read reception ended packets h =
    deliveries_read (reverse (sets_received reception ended packets))
    (all_reversed (DeliveryHas IsWhole) (sets_received reception ended packets)
    (received_whole reception.profile.coded reception.pid reception.pages ended packets
    (recursion_from_All OfBytes packets h)))
