-- What is received of packets is received of more packets too, and in the end.
use Rattle.std.proofs.Common.{◌≡◌, ◌∙◌, ℕ, Bool, true, false, List, [], ◌∷◌, ◌++◌, reverse, Option, Some, None, refl, sym, ap, subst, append-nil, append_assoc}
use Rattle.std.specs.Prelude.{find}
use Rattle.std.proofs.lemmas.List.{reverse-append}
use Rattle.sub_base.specs.Lists.{prefixes}
use Rattle.stream_syntax.specs.DataField.{Frame}
use Rattle.stream_syntax.specs.TransportPackets.{packet_fault}
use Rattle.decoder_model.specs.declared.pages.Pages.{Pages}
use Rattle.decoder_model.specs.Arrivals.{PesUnit, arrivals_of, packets_taken}
use Rattle.decoder_model.specs.Readings.{Reading, AreDeliveriesRead}
use Rattle.decoder_model.specs.Received.{HasReceived, Reception, sets_received}
use Rattle.decoder_model.specs.Sets.{Stretch, loss_between, run, runs_of, Delivery, lost, has_ended, sets_of, is_ended, frames_in, set_of, is_followed, sets_in}
use Rattle.decoder_model.proofs.Growth.{packets_add}
use Rattle.decoder_model.proofs.Lists.{all-append}
use Rattle.decoder_model.proofs.SentUnits.{all_taken}
use Rattle.received_level_laws.specs.Before.{IsMoreThan}
use Rattle.received_level_laws.proofs.TakenPackets.{sound_taken}

-- ---- the end only adds

last_ends : (coded : ℕ) (first : PesUnit) (more : List PesUnit) (found : Option (List Frame))
    → (added : List (Delivery (List ℕ)))
    × (set_of coded first.time (first ∷ more) true found ++ []
    ≡ (set_of coded first.time (first ∷ more) false found ++ []) ++ added)
last_ends coded first more (Some front) =
    ([], sym (append-nil (set_of coded first.time (first ∷ more) true (Some front) ++ [])))
last_ends coded first more None = (
  set_of coded first.time (first ∷ more) true None,
  append-nil
      (set_of coded first.time (first ∷ more) true None),
)

same_follow : (next : Stretch) (rest : List Stretch)
    → is_followed true (next ∷ rest) ≡ is_followed false (next ∷ rest)
same_follow loss_between rest = refl
same_follow (run first more) rest = refl

ends_add : (coded : ℕ) (stretches : List Stretch) → (added : List (Delivery (List ℕ)))
    × (sets_in coded true stretches ≡ sets_in coded false stretches ++ added)
ends_add coded [] = ([], refl)
ends_add coded (loss_between ∷ rest) =
    let behind = ends_add coded rest in (behind.0, ap (λ sets. lost ∷ sets) behind.1)
ends_add coded (run first more ∷ []) = last_ends coded first more
    (find (is_ended coded) (prefixes (frames_in (first ∷ more))))
ends_add coded (run first more ∷ next ∷ rest) =
    let behind = ends_add coded (next ∷ rest) in
    let found = find (is_ended coded) (prefixes (frames_in (first ∷ more))) in
    let here = set_of coded first.time (first ∷ more) (is_followed false (next ∷ rest)) found in (
      behind.0,
      ap (λ followed. set_of coded first.time (first ∷ more) followed found ++ sets_in coded true (next ∷ rest))
          (same_follow next rest)
          ∙ ap (λ sets. here ++ sets) behind.1
          ∙ sym (append_assoc here (sets_in coded false (next ∷ rest)) behind.0),
    )

end_adds : (coded pid : ℕ) (pages : Pages) (packets : List (List ℕ)) → (added : List (Delivery (List ℕ)))
    × (sets_of coded pid pages true packets ≡ sets_of coded pid pages false packets ++ added)
unfolding sets_of has_ended
end_adds coded pid pages packets = by (has_ended true pid packets)
  where
    by : (b : Bool) → (added : List (Delivery (List ℕ)))
        × (sets_in coded b (runs_of (arrivals_of coded pid pages packets))
        ≡ sets_in coded false (runs_of (arrivals_of coded pid pages packets)) ++ added)
    by true = ends_add coded (runs_of (arrivals_of coded pid pages packets))
    by false = ([], sym (append-nil (sets_in coded false (runs_of (arrivals_of coded pid pages packets)))))

-- ---- what was received before

read_behind : (front behind : List (Delivery (List ℕ))) (all : List (Delivery Reading))
    → AreDeliveriesRead (front ++ behind) all
    → (more past : List (Delivery Reading)) × (all ≡ more ++ past) × AreDeliveriesRead behind past
read_behind [] behind all h = ([], all, refl, h)
read_behind (delivery ∷ front) behind [] h = absurd h
read_behind (delivery ∷ front) behind (one ∷ all) h =
    let rest =
    read_behind front behind all h.1 in (one ∷ rest.0, rest.1, ap (λ others. one ∷ others) rest.2, rest.3)

more_than : (reception : Reception) (packets : List (List ℕ))
    (sets added : List (Delivery (List ℕ)))
    (all : List (Delivery Reading))
    → sets ≡ sets_received reception false packets ++ added → AreDeliveriesRead (reverse sets) all
    → IsMoreThan reception packets all
more_than reception packets sets added all is read =
    let front = sets_received reception false packets in
    let found = read_behind (reverse added) (reverse front) all
    (subst (λ (turned : List (Delivery (List ℕ))). AreDeliveriesRead turned all)
    (ap reverse is ∙ reverse-append front added) read) in
    record { more = found.0; past = found.1; joined = found.2; received = found.3 }

-- with one packet more
pub packet_receives_more : (reception : Reception) (packets : List (List ℕ))
    (packet : List ℕ)
    (all : List (Delivery Reading))
    → packets_taken reception.pid packets ≡ packets → packet_fault reception.pid packet ≡ None
    → HasReceived reception false (packets ++ packet ∷ []) all → IsMoreThan reception packets all
packet_receives_more reception packets packet all taken sound received =
    let longer = all_taken reception.pid (packets ++ packet ∷ [])
    (all-append (λ packet. packet_fault reception.pid packet ≡ None) packets (packet ∷ [])
    (sound_taken reception.pid packets taken)
    (sound, tt)) in
    let added = packets_add reception.profile.coded reception.pid reception.pages packets (packet ∷ []) taken longer in
    more_than reception packets (sets_received reception false (packets ++ packet ∷ [])) added.0 all
    added.1 received

-- with the end of the stream
pub end_receives_more : (reception : Reception) (packets : List (List ℕ))
    (all : List (Delivery Reading))
    → HasReceived reception true packets all → IsMoreThan reception packets all
end_receives_more reception packets all received =
    let added = end_adds reception.profile.coded reception.pid reception.pages packets in
    more_than reception packets (sets_received reception true packets) added.0 all added.1 received
