-- How late kept sets can be, and sets that are read and those that are not have the same times.
use Rattle.std.proofs.Common.{◌≡◌, ℕ, ◌+◌, ◌*◌, ◌<◌, Bool, true, false, cond, List, [], ◌∷◌, length, Option, Some, None, refl, sym, ap, arith}
use Rattle.std.specs.Prelude.{nat_le, nat_lt, ◌&&◌, option_and_then}
use Rattle.std.specs.Option.{option_or}
use Rattle.std.proofs.lemmas.Bool.Decides.{nat_tests}
use Rattle.stream_syntax.specs.declared.wire.TheConstants.{HALF_ROUND, TICK_LIMIT, TIME_ROUND}
use Rattle.decoder_model.specs.Kept.{ahead_of, last_time, lift_by, lifted_after, lifted_behind, lifted_time, time_of}
use Rattle.decoder_model.specs.Readings.{AreDeliveriesRead, IsDeliveryRead, Reading}
use Rattle.decoder_model.specs.Sets.{Delivery, lost, whole, refused}

-- ---- the same times

same_time : (delivery : Delivery (List ℕ)) (one : Delivery Reading) → IsDeliveryRead delivery one
    → time_of delivery ≡ time_of one
same_time lost one is = ap time_of (sym is)
same_time (whole time size segments) one is = ap time_of (sym is.2)
same_time (refused time size fault) one is = ap time_of (sym is)

pub same_last : (anchor : ℕ) (before : List (Delivery (List ℕ))) (past : List (Delivery Reading))
    → AreDeliveriesRead before past → last_time anchor before ≡ last_time anchor past
unfolding last_time
same_last anchor [] [] are = refl
same_last anchor [] (one ∷ past) are = absurd are
same_last anchor (delivery ∷ before) [] are = absurd are
same_last anchor (delivery ∷ before) (one ∷ past) are =
    (λ i. option_or
    (option_and_then (lifted_behind anchor (same_last anchor before past are.1 i)) (same_time delivery one are.0 i))
    (same_last anchor before past are.1 i))

-- a set that is read is lifted as it is unread
pub same_lifted : (anchor : ℕ) (before : List (Delivery (List ℕ))) (past : List (Delivery Reading))
    (delivery : Delivery (List ℕ)) (one : Delivery Reading) → AreDeliveriesRead before past
    → IsDeliveryRead delivery one → lifted_time anchor before delivery ≡ lifted_time anchor past one
same_lifted anchor before past delivery one are is =
    λ i. option_and_then (lifted_behind anchor (same_last anchor before past are i)) (same_time delivery one is i)

-- ---- how late

some_same : (x y : ℕ) → Some x ≡ Some y → x ≡ y
some_same x y e = cc

ahead_less : (from time : ℕ) → ahead_of from time < TIME_ROUND
ahead_less from time = omega arith

lift_less : (last ticks at : ℕ) → lift_by last ticks ≡ Some at → at < last + HALF_ROUND
lift_less last ticks at e =
    by (nat_le 1 ticks && (nat_lt ticks HALF_ROUND && nat_lt (last + ticks) TICK_LIMIT)) refl e
  where
    by : (kept : Bool) → (nat_le 1 ticks && (nat_lt ticks HALF_ROUND && nat_lt (last + ticks) TICK_LIMIT)) ≡ kept
        → (cond kept (Some (last + ticks)) None) ≡ Some at → at < last + HALF_ROUND
    by true passes is =
        let same : last + ticks ≡ at = some_same (last + ticks) at is in
        let few : ticks < HALF_ROUND = grind (arith, nat_tests) in
        omega (arith, same, few)
    by false passes is = absurd (cc)

behind_less : (anchor count : ℕ) (last time : Option ℕ) (at : ℕ)
    → ((before : ℕ) → last ≡ Some before → before < anchor + TIME_ROUND + count * HALF_ROUND)
    → option_and_then (lifted_behind anchor last) time ≡ Some at
    → at < anchor + TIME_ROUND + (count + 1) * HALF_ROUND
behind_less anchor count last None at low e = absurd (cc)
behind_less anchor count None (Some time) at low e =
    omega (arith, some_same (anchor + ahead_of anchor time) at e, ahead_less anchor time)
behind_less anchor count (Some before) (Some time) at low e =
    omega (arith, lift_less before (ahead_of before time) at e, low before refl)

-- each set is less than half a round later than the one before it
pub last_less : {S : Type 0} (anchor : ℕ) (past : List (Delivery S)) (at : ℕ) → last_time anchor past ≡ Some at
    → at < anchor + TIME_ROUND + length past * HALF_ROUND
unfolding last_time
last_less anchor [] at e = absurd (cc)
last_less {S = S} anchor (delivery ∷ past) at e =
    by (lifted_after anchor (last_time anchor past) delivery) refl e
    (λ before found. last_less anchor past before found)
  where
    by : (found : Option ℕ) → lifted_after anchor (last_time anchor past) delivery ≡ found
        → option_or found (last_time anchor past) ≡ Some at
        → ((before : ℕ) → last_time anchor past ≡ Some before
        → before < anchor + TIME_ROUND + length past * HALF_ROUND)
        → at < anchor + TIME_ROUND + length (delivery ∷ past) * HALF_ROUND
    by (Some lifted) is e low =
        let same : lifted ≡ at = some_same lifted at e in
        omega (
          arith,
          same,
          behind_less anchor (length past) (last_time anchor past) (time_of delivery) lifted low is,
        )
    by None is e low = omega (arith, low at e)

pub lifted_less : {S : Type 0} (anchor : ℕ) (past : List (Delivery S)) (delivery : Delivery S) (at : ℕ)
    → lifted_time anchor past delivery ≡ Some at → at < anchor + TIME_ROUND + (length past + 1) * HALF_ROUND
lifted_less anchor past delivery at e =
    behind_less anchor (length past) (last_time anchor past) (time_of delivery) at
    (λ before found. last_less anchor past before found) e
