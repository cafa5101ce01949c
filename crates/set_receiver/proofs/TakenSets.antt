-- Sets that are taken, and losses, are read one by one.
use Rattle.std.proofs.Common.{◌≡◌, ◌∙◌, ℕ, zero, suc, ◌+◌, Bool, List, [], ◌∷◌, ◌++◌, reverse, append-nil, append_assoc, refl, sym, ap, subst, arith}
use Rattle.std.proofs.lemmas.List.{reverse-append}
use Rattle.decoder_model.specs.Readings.{AreDeliveriesRead, IsDeliveryRead, Reading}
use Rattle.decoder_model.specs.Received.{HasReceived, Reception, sets_received}
use Rattle.decoder_model.specs.Sets.{Delivery, lost}
use Rattle.page_core.specs.Memory as cores
use Rattle.page_core.specs.Memory.{IsSameReceiver, Memory}
use Rattle.set_reader.specs.Collecting.{losses}
use Rattle.set_receiver.specs.Receiving.{AreLosses, HoldsReceived, Loses}

-- ---- readings of what comes next

-- deliveries that are read, split where the deliveries do
record IsSplit (front behind : List (Delivery (List ℕ))) (past : List (Delivery Reading)) : Type 0 where
  first : List (Delivery Reading)
  rest : List (Delivery Reading)
  joined : past ≡ first ++ rest
  are_rest : AreDeliveriesRead behind rest

split_read : (front behind : List (Delivery (List ℕ))) (past : List (Delivery Reading))
    → AreDeliveriesRead (front ++ behind) past → IsSplit front behind past
split_read [] behind past are = record { first = []; rest = past; joined = refl; are_rest = are }
split_read (delivery ∷ front) behind [] are = absurd are
split_read (delivery ∷ front) behind (one ∷ past) are =
    let more = split_read front behind past are.1 in
    record {
      first = one ∷ more.first;
      rest = more.rest;
      joined = ap (λ (all : List (Delivery Reading)). one ∷ all) more.joined;
      are_rest = more.are_rest;
    }

first_read : (delivery : Delivery (List ℕ)) (behind : List (Delivery (List ℕ))) (past : List (Delivery Reading))
    → AreDeliveriesRead (delivery ∷ behind) past → (one : Delivery Reading) × IsDeliveryRead delivery one
first_read delivery behind [] are = absurd are
first_read delivery behind (one ∷ past) are = (one, are.0)

-- what comes next in packets of bytes is read
pub next_read : (reception : Reception) (ended : Bool) (packets : List (List ℕ))
    (given rest : List (Delivery (List ℕ))) (delivery : Delivery (List ℕ)) (past : List (Delivery Reading))
    → HasReceived reception ended packets past
    → sets_received reception ended packets ≡ given ++ delivery ∷ rest
    → (one : Delivery Reading) × IsDeliveryRead delivery one
next_read reception ended packets given rest delivery past received all =
    let turned : reverse (given ++ delivery ∷ rest) ≡ reverse rest ++ delivery ∷ reverse given =
    ap reverse (sym (append_assoc given (delivery ∷ []) rest)) ∙ reverse-append (given ++ delivery ∷ []) rest
    ∙ ap (λ (front : List (Delivery (List ℕ))). reverse rest ++ front) (reverse-append given (delivery ∷ []))
    in
    let split =
    split_read (reverse rest) (delivery ∷ reverse given) past
    (subst (λ (deliveries : List (Delivery (List ℕ))). AreDeliveriesRead deliveries past) turned
    (subst (λ (deliveries : List (Delivery (List ℕ))). AreDeliveriesRead (reverse deliveries) past) all
    received)) in
    first_read delivery (reverse given) split.rest split.are_rest

-- one more that is read
pub read_more : (given : List (Delivery (List ℕ))) (delivery : Delivery (List ℕ)) (past : List (Delivery Reading))
    (one : Delivery Reading) → AreDeliveriesRead (reverse given) past → IsDeliveryRead delivery one
    → AreDeliveriesRead (reverse (given ++ delivery ∷ [])) (one ∷ past)
read_more given delivery past one are read =
    subst (λ (deliveries : List (Delivery (List ℕ))). AreDeliveriesRead deliveries (one ∷ past))
    (sym (reverse-append given (delivery ∷ []))) (read, are)

-- ---- one more set or loss

-- what is so of each past, as it is read, is so with one more
pub one_more : (Was Is : List (Delivery Reading) → Type 0) (given : List (Delivery (List ℕ)))
    (delivery : Delivery (List ℕ))
    → ((past : List (Delivery Reading)) → AreDeliveriesRead (reverse given) past → Was past)
    → ((past : List (Delivery Reading)) (one : Delivery Reading) → AreDeliveriesRead (reverse given) past
    → IsDeliveryRead delivery one → Was past → Is (one ∷ past))
    → (past : List (Delivery Reading)) → AreDeliveriesRead (reverse (given ++ delivery ∷ [])) past → Is past
one_more Was Is given delivery was step past are =
    by past
    (subst (λ (all : List (Delivery (List ℕ))). AreDeliveriesRead all past) (reverse-append given (delivery ∷ []))
    are)
  where
    by : (past : List (Delivery Reading)) → AreDeliveriesRead (delivery ∷ reverse given) past → Is past
    by [] are = absurd are
    by (one ∷ past) are = step past one are.1 are.0 (was past are.1)

-- and with a loss more
pub one_lost : (Was Is : List (Delivery Reading) → Type 0) (given : List (Delivery (List ℕ)))
    → ((past : List (Delivery Reading)) → AreDeliveriesRead (reverse given) past → Was past)
    → ((past : List (Delivery Reading)) → Was past → Is (lost ∷ past))
    → (past : List (Delivery Reading)) → AreDeliveriesRead (reverse (given ++ lost ∷ [])) past → Is past
one_lost Was Is given was step =
    one_more Was Is given lost was
    (λ past one are is so. subst (λ (delivery : Delivery Reading). Is (delivery ∷ past)) (sym is) (step past so))

-- and with losses more
pub all_lost : (Holding : List (Delivery Reading) → Type 0) (lose given : List (Delivery (List ℕ)))
    → AreLosses lose
    → ((past : List (Delivery Reading)) → Holding past → Holding (lost ∷ past))
    → ((past : List (Delivery Reading)) → AreDeliveriesRead (reverse given) past → Holding past)
    → (past : List (Delivery Reading)) → AreDeliveriesRead (reverse (given ++ lose)) past → Holding past
all_lost Holding [] given are step was =
    subst
    (λ (all : List (Delivery (List ℕ))). (past : List (Delivery Reading)) → AreDeliveriesRead (reverse all) past
    → Holding past) (sym (append-nil given)) was
all_lost Holding (one ∷ lose) given are step was =
    subst
    (λ (all : List (Delivery (List ℕ))). (past : List (Delivery Reading)) → AreDeliveriesRead (reverse all) past
    → Holding past)
    (append_assoc given (lost ∷ []) lose
    ∙ ap (λ (delivery : Delivery (List ℕ)). given ++ delivery ∷ lose) (sym are.0))
    (all_lost Holding lose (given ++ lost ∷ []) are.1 step (one_lost Holding Holding given was step))

-- ---- losses

-- so many losses are losses, and one more comes behind them
pub are_losses : (count : ℕ) → AreLosses (losses count)
are_losses zero = tt
are_losses (suc count) = (refl, are_losses count)

more_losses : (count : ℕ) → losses count ++ lost ∷ [] ≡ losses (suc count)
more_losses zero = refl
more_losses (suc count) = ap (λ (all : List (Delivery (List ℕ))). lost ∷ all) (more_losses count)

-- a page memory to which nothing came
pub loses_none : (core : Memory) → Loses 0 core core
loses_none core = record {
  goes = λ given. λ holds.
      subst (λ (all : List (Delivery (List ℕ))). HoldsReceived all core) (sym (append-nil given)) holds;
}

-- and one to which a loss more came
pub loses_more : (count : ℕ) (old mid new : Memory) → Loses count old mid
    → ((past : List (Delivery Reading)) → cores.IsMemoryAfter past mid → cores.IsMemoryAfter (lost ∷ past) new)
    → Loses (count + 1) old new
loses_more count old mid new loses step = record {
  goes = λ given. λ holds.
      subst (λ (all : List (Delivery (List ℕ))). HoldsReceived all new)
      (append_assoc given (losses count) (lost ∷ [])
      ∙ ap (λ (all : List (Delivery (List ℕ))). given ++ all)
      (more_losses count ∙ ap losses (let same : suc count ≡ count + 1 = omega arith in same)))
      (one_lost (λ past. cores.IsMemoryAfter past mid) (λ past. cores.IsMemoryAfter past new) (given ++ losses count)
      (loses.goes given holds) step);
}

pub same_core : (a b c : Memory) → IsSameReceiver a b → IsSameReceiver b c → IsSameReceiver a c
same_core a b c one other = record {
  profile = other.profile ∙ one.profile;
  page = other.page ∙ one.page;
  anchor = other.anchor ∙ one.anchor;
}
