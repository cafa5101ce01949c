-- What a receiver stands for once the set that is ready was taken.
use Rattle.std.proofs.Common.{◌≡◌, ◌∙◌, ℕ, Bool, List, [], ◌∷◌, ◌++◌, length, Option, Some, option_map, append-nil, refl, sym, ap, subst, arith}
use Rattle.std.specs.Prelude.{option_and_then}
use Rattle.std.proofs.lemmas.List.{length-append}
use Rattle.decoder_model.specs.Kept.{last_time, lifted_behind, lifted_time, time_of}
use Rattle.decoder_model.specs.Readings.{IsDeliveryRead, Reading}
use Rattle.decoder_model.specs.Received.{sets_received}
use Rattle.decoder_model.specs.Sets.{Delivery, lost, refused, sets_of, whole}
use Rattle.display_sets.specs.Gathered.{Gathered, ReadySet, first_ready, ready_sets}
use Rattle.display_sets.specs.Standing.{AreReady, IsFirst, IsReady}
use Rattle.page_core.specs.Memory as cores
use Rattle.page_core.specs.Memory.{Memory}
use Rattle.set_reader.specs.Collecting.{sets_read}
use Rattle.set_reader.proofs.Feeds.{sets_gathered}
use Rattle.set_receiver.specs.Receiving.{HoldsReceived, IsNextReceived, SetReceiving, HasBeenFed, reception, set_time}

-- the sets of the packets are those that the reader gives
pub sets_read_are : (ended : Bool) (fed : List (List ℕ)) (given : List (Delivery (List ℕ))) (receiving : SetReceiving)
    → HasBeenFed ended fed given receiving
    → sets_received (reception receiving) ended fed ≡ sets_read receiving.collecting ended fed
sets_read_are ended fed given receiving stands =
    ap (λ (n : ℕ). sets_of n receiving.collecting.demux.pid receiving.collecting.sets.pages ended fed)
    (sym stands.coded)

-- the time of a set that is ready is that of its delivery
ready_time : (delivery : Delivery (List ℕ)) (set : ReadySet) → IsReady delivery set
    → time_of delivery ≡ Some set.time
ready_time lost set ready = absurd ready
ready_time (whole time size segments) set (time_is, size_is, content) = ap Some (sym time_is)
ready_time (refused time size fault) set (time_is, size_is, content) = ap Some (sym time_is)

-- where a set is ready, it comes next
pub some_ready : (ended : Bool) (fed : List (List ℕ)) (given : List (Delivery (List ℕ))) (receiving : SetReceiving)
    (set : ReadySet) → HasBeenFed ended fed given receiving
    → IsFirst (sets_read receiving.collecting ended fed) given (Some set)
    → (delivery : Delivery (List ℕ)) × (rest : List (Delivery (List ℕ)))
    × IsNextReceived ended fed given delivery rest receiving × (time_of delivery ≡ Some set.time)
some_ready ended fed given receiving set stands (delivery, rest, split, ready) = (
  delivery,
  rest,
  record { stands = stands; all = sets_read_are ended fed given receiving stands ∙ split },
  ready_time delivery set ready,
)

-- where all were given, no set comes next
pub none_next : {X : Type 0} (given rest : List X) (next : X) → given ≡ given ++ next ∷ rest → ⊥
none_next given rest next is = (let same = ap length is ∙ length-append given (next ∷ rest) in omega (arith, same))

-- what is read has the time that it had
read_time : (delivery : Delivery (List ℕ)) (one : Delivery Reading) → IsDeliveryRead delivery one
    → time_of one ≡ time_of delivery
read_time lost one read = ap time_of read
read_time (whole time size segments) one (readings, are, is) = ap time_of is
read_time (refused time size fault) one read = ap time_of read

-- the lifted time of a set that comes next
pub next_lifted : (anchor : ℕ) (past : List (Delivery Reading)) (delivery : Delivery (List ℕ))
    (one : Delivery Reading)
    (set : ReadySet) (lifted : Option ℕ) → IsReady delivery set → IsDeliveryRead delivery one
    → lifted ≡ lifted_time {S = Reading} anchor past (whole set.time 0 [])
    → lifted ≡ lifted_time anchor past one
next_lifted anchor past delivery one set lifted ready read is =
    is
    ∙ ap (λ (time : Option ℕ). option_and_then (lifted_behind anchor (last_time anchor past)) time)
    (sym (read_time delivery one read ∙ ready_time delivery set ready))

-- what stands behind equal prefixes is the same
same_next : {X : Type 0} (front : List X) (a b : X) (more rest : List X) → front ++ a ∷ more ≡ front ++ b ∷ rest
    → a ≡ b
same_next [] a b more rest is = (let same : a ≡ b = cc in same)
same_next {X} (x ∷ front) a b more rest is =
    same_next front a b more rest (let tail : front ++ a ∷ more ≡ front ++ b ∷ rest = cc in tail)

-- the first set that is ready is the next one
pub next_ready : (ended : Bool) (fed : List (List ℕ)) (given : List (Delivery (List ℕ)))
    (delivery : Delivery (List ℕ)) (rest : List (Delivery (List ℕ))) (receiving : SetReceiving) (set : ReadySet)
    → IsNextReceived ended fed given delivery rest receiving
    → IsFirst (sets_read receiving.collecting ended fed) given (Some set) → IsReady delivery set
next_ready ended fed given delivery rest receiving set next (other, more, split, ready) =
    subst (λ (d : Delivery (List ℕ)). IsReady d set)
    (same_next given other delivery more rest
    (sym split ∙ sym (sets_read_are ended fed given receiving next.stands) ∙ next.all))
    ready

-- the lifted time of the set that is ready
pub ready_lifted : (anchor : ℕ) (past : List (Delivery Reading)) (gathered : Gathered) (set : ReadySet)
    (lifted : Option ℕ) → Some set ≡ first_ready (ready_sets gathered)
    → lifted ≡ lifted_time anchor past (whole set.time 0 [])
    → lifted ≡ option_and_then (lifted_behind anchor (last_time anchor past))
    (option_map set_time (first_ready (ready_sets gathered)))
ready_lifted anchor past gathered set lifted first is =
    is
    ∙ ap (λ (found : Option ReadySet). option_and_then (lifted_behind anchor (last_time anchor past))
    (option_map set_time found)) first

-- ---- all sets are taken

none_waiting : (waiting : List (Delivery (List ℕ))) (sets : List ReadySet) → AreReady waiting sets → sets ≡ []
    → waiting ≡ []
none_waiting [] sets are none = refl
none_waiting (delivery ∷ waiting) [] are none = absurd are
none_waiting (delivery ∷ waiting) (set ∷ sets) are none = absurd (cc)

-- where nothing is ready, the sets of the packets are those that were taken
pub all_taken : (ended : Bool) (fed : List (List ℕ)) (given : List (Delivery (List ℕ))) (receiving : SetReceiving)
    → HasBeenFed ended fed given receiving → ready_sets receiving.collecting.sets ≡ []
    → sets_received (reception receiving) ended fed ≡ given
all_taken ended fed given receiving stands none =
    let sets = stands.reads.sets in
    sets_read_are ended fed given receiving stands
    ∙ sets_gathered ended fed given receiving.collecting stands.reads ∙ sets.sets
    ∙ ap (λ (waiting : List (Delivery (List ℕ))). given ++ waiting)
    (none_waiting sets.waiting (ready_sets receiving.collecting.sets) sets.are_ready none)
    ∙ append-nil given

-- ---- before the first packet

-- nothing was handed to the page memory
pub none_given : (core : Memory) → cores.IsMemoryAfter [] core → HoldsReceived [] core
none_given core stands [] are = stands
none_given core stands (one ∷ past) are = absurd are
