-- A stream that is entered behind so many packets is one of which these packets are missing.
use Rattle.std.proofs.Common.{◌≡◌, ℕ, zero, suc, ◌≤◌, true, false, List, [], ◌∷◌, ◌++◌, map, drop, refl, sym, ap, subst, arith}
use Rattle.std.specs.Prelude.{count_by}
use Rattle.std.specs.List.{AllByRecursion}
use Rattle.decoder_model.specs.Streams.{entered_at, Sending, is_received, is_missed, received_of, IsShortlyCut, IsCutTo}
use Rattle.shown_stream.specs.GoodTicks.{late_sendings}

all_sent : (n : ℕ) (stream : List (List ℕ))
    → stream ≡ map (λ (sending : Sending). sending.packet) (late_sendings n stream)
all_sent zero [] = refl
all_sent zero (first ∷ stream) = ap (λ rest. first ∷ rest) (all_sent zero stream)
all_sent (suc n) [] = refl
all_sent (suc n) (first ∷ stream) = ap (λ rest. first ∷ rest) (all_sent n stream)

rest_comes : (n : ℕ) (stream : List (List ℕ)) → drop n stream ≡ received_of (late_sendings n stream)
rest_comes zero [] = refl
rest_comes zero (first ∷ stream) = ap (λ rest. first ∷ rest) (rest_comes zero stream)
rest_comes (suc n) [] = refl
rest_comes (suc n) (first ∷ stream) = rest_comes n stream

-- where all come, none is missed
none_missed : (pid : ℕ) (sendings : List Sending)
    → AllByRecursion (λ (sending : Sending). sending.received ≡ true) sendings
    → count_by (is_missed pid) sendings ≤ 14
none_missed pid sendings all = let none = count pid sendings all in omega arith
  where
    count : (pid : ℕ) (sendings : List Sending)
        → AllByRecursion (λ (sending : Sending). sending.received ≡ true) sendings
        → count_by (is_missed pid) sendings ≡ 0
    count pid [] h = refl
    count pid (sending ∷ sendings) h = rw h.0 (count pid sendings h.1)

all_come : (stream : List (List ℕ))
    → AllByRecursion (λ (sending : Sending). sending.received ≡ true) (late_sendings zero stream)
all_come [] = tt
all_come (first ∷ stream) = (refl, all_come stream)

front_comes : (xs ys : List Sending) → AllByRecursion (λ (sending : Sending). sending.received ≡ true) (xs ++ ys)
    → AllByRecursion (λ (sending : Sending). sending.received ≡ true) xs
front_comes [] ys h = tt
front_comes (x ∷ xs) ys h = (h.0, front_comes xs ys h.1)

back_comes : (xs ys : List Sending) → AllByRecursion (λ (sending : Sending). sending.received ≡ true) (xs ++ ys)
    → AllByRecursion (λ (sending : Sending). sending.received ≡ true) ys
back_comes [] ys h = h
back_comes (x ∷ xs) ys h = back_comes xs ys h.1

shortly : (pid n : ℕ) (stream : List (List ℕ)) → IsShortlyCut pid (late_sendings n stream)
shortly pid zero stream before between after first next is here there alone =
    let all = subst (AllByRecursion (λ (sending : Sending). sending.received ≡ true)) is (all_come stream) in
    none_missed pid between
    (front_comes between (next ∷ after) (back_comes before (first ∷ (between ++ next ∷ after)) all).1)
shortly pid (suc n) [] [] between after first next is here there alone = absurd (cc)
shortly pid (suc n) [] (one ∷ before) between after first next is here there alone = absurd (cc)
shortly pid (suc n) (packet ∷ stream) [] between after first next is here there alone =
    absurd (missed packet first (head_is is) here)
  where
    head_is : {xs ys : List Sending} {x y : Sending} → x ∷ xs ≡ y ∷ ys → x ≡ y
    head_is e = cc

    missed : (packet : List ℕ) (first : Sending) → record { packet = packet; received = false } ≡ first
        → is_received pid first ≡ true → ⊥
    missed packet first e come =
        let out : first.received ≡ false = sym (ap (λ (sending : Sending). sending.received) e) in cc
shortly pid (suc n) (packet ∷ stream) (one ∷ before) between after first next is here there alone =
    let rest : late_sendings n stream ≡ before ++ first ∷ (between ++ next ∷ after) = cc in
    shortly pid n stream before between after first next rest here there alone

-- a late entry is such a cut
pub late_is_cut : (pid n : ℕ) (stream : List (List ℕ))
    → IsCutTo pid stream (late_sendings n stream) (entered_at n stream)
late_is_cut pid n stream = record { sent = all_sent n stream; rest = rest_comes n stream; short = shortly pid n stream }
