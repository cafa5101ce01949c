-- Times that fall, and the first of them, down to a start.
use Rattle.std.proofs.Common.{◌≡◌, ◌∙◌, ℕ, zero, suc, ◌<◌, ◌≤◌, nat_le, Bool, true, false, cond, List, [], ◌∷◌, get_or, refl, sym, ap, subst, arith}
use Rattle.std.specs.Prelude.{All, take_while}
use Rattle.std.specs.List.{AllPairs, Contains}
use Rattle.std.proofs.lemmas.Bool.Decides.{nat_tests}
use Rattle.std.proofs.lemmas.List.Elements.{All-head, All-tail, All-cons}
use Rattle.std.proofs.lemmas.List.Kept.{AllPairs-cons}
use Rattle.std.proofs.lemmas.List.Sums.{take_while-cons}
use Rattle.page_epoch.proofs.ListLaws.{All-none}

-- each is later than the one before
abbrev pub AreFalling : List ℕ → Type 0
AreFalling times = AllPairs (λ (later before : ℕ). before < later) times

pub falling_tail : (time : ℕ) (times : List ℕ) → AreFalling (time ∷ times) → AreFalling times
falling_tail time times falls = λ i j d before within. falls (suc i) (suc j) d (omega arith) (omega arith)

-- of falling times those from a start on are the first ones
pub kept_from : (start : ℕ) (times : List ℕ) (time : ℕ) → AreFalling times → Contains times time
    → start ≤ time → Contains (take_while (nat_le start) times) time
kept_from start [] time falls there late = absurd (omega (arith, there.1))
kept_from start (first ∷ times) time falls (zero, within, is) late =
    let here : nat_le start first ≡ true = (let same : first ≡ time = is in grind (arith, nat_tests)) in
    subst (λ (kept : List ℕ). Contains kept time)
    (sym (take_while-cons (nat_le start) first times
    ∙ ap (λ b. cond b (first ∷ take_while (nat_le start) times) []) here)) (0, omega arith, is)
kept_from start (first ∷ times) time falls (suc k, within, is) late =
    let less = falls 0 (suc k) time (omega arith) (omega (arith, within)) in
    let here : nat_le start first ≡ true =
    (let same : get_or times k time ≡ time = is in grind (arith, nat_tests)) in
    let rest = kept_from start times time (falling_tail first times falls) (k, omega (arith, within), is) late in
    subst (λ (kept : List ℕ). Contains kept time)
    (sym (take_while-cons (nat_le start) first times
    ∙ ap (λ b. cond b (first ∷ take_while (nat_le start) times) []) here))
    (suc rest.0, omega (arith, rest.1), rest.2)

pub kept_all : (P : ℕ → Type 0) (start : ℕ) (times : List ℕ) → All P times
    → All P (take_while (nat_le start) times)
kept_all P start [] all = All-none P
kept_all P start (first ∷ times) all =
    by (nat_le start first) refl (kept_all P start times (All-tail P first times all))
  where
    by : (b : Bool) → nat_le start first ≡ b → All P (take_while (nat_le start) times)
        → All P (take_while (nat_le start) (first ∷ times))
    by true e again =
        subst (All P)
        (sym (take_while-cons (nat_le start) first times
        ∙ ap (λ b. cond b (first ∷ take_while (nat_le start) times) []) e))
        (All-cons P first (take_while (nat_le start) times) (All-head P first times all) again)
    by false e again =
        subst (All P)
        (sym (take_while-cons (nat_le start) first times
        ∙ ap (λ b. cond b (first ∷ take_while (nat_le start) times) []) e)) (All-none P)

pub kept_falls : (start : ℕ) (times : List ℕ) → AreFalling times → AreFalling (take_while (nat_le start) times)
kept_falls start [] falls = falls
kept_falls start (first ∷ times) falls =
    by (nat_le start first) refl (kept_falls start times (falling_tail first times falls))
  where
    below : All (λ time. time < first) times
    below = λ k d within. falls 0 (suc k) d (omega arith) (omega arith)

    by : (b : Bool) → nat_le start first ≡ b → AreFalling (take_while (nat_le start) times)
        → AreFalling (take_while (nat_le start) (first ∷ times))
    by true e again =
        subst AreFalling
        (sym (take_while-cons (nat_le start) first times
        ∙ ap (λ b. cond b (first ∷ take_while (nat_le start) times) []) e))
        (AllPairs-cons (λ (later before : ℕ). before < later) first (take_while (nat_le start) times)
        (kept_all (λ time. time < first) start times below) again)
    by false e again =
        subst AreFalling
        (sym (take_while-cons (nat_le start) first times
        ∙ ap (λ b. cond b (first ∷ take_while (nat_le start) times) []) e))
        (λ i j d before within. absurd (omega arith))

-- those that are kept are from the start on
pub kept_late : (start : ℕ) (times : List ℕ) → All (λ time. start ≤ time) (take_while (nat_le start) times)
kept_late start [] = All-none _
kept_late start (first ∷ times) = by (nat_le start first) refl (kept_late start times)
  where
    by : (b : Bool) → nat_le start first ≡ b → All (λ time. start ≤ time) (take_while (nat_le start) times)
        → All (λ time. start ≤ time) (take_while (nat_le start) (first ∷ times))
    by true e again =
        subst (All (λ time. start ≤ time))
        (sym (take_while-cons (nat_le start) first times
        ∙ ap (λ b. cond b (first ∷ take_while (nat_le start) times) []) e))
        (All-cons (λ time. start ≤ time) first (take_while (nat_le start) times) (grind (arith, nat_tests)) again)
    by false e again =
        subst (All (λ time. start ≤ time))
        (sym (take_while-cons (nat_le start) first times
        ∙ ap (λ b. cond b (first ∷ take_while (nat_le start) times) []) e)) (All-none _)
