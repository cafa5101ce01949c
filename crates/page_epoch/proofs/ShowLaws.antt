-- More cues have started by a tick than have ended, where some are live.
use Rattle.std.proofs.Common.{◌≡◌, ◌∙◌, ℕ, zero, suc, ◌+◌, ◌<◌, ◌≤◌, nat_le, nat_lt, Bool, true, false, ◌&&◌, ◌||◌, cond, List, [], ◌∷◌, map, length, All, refl, sym, ap, arith}
use Rattle.std.specs.List.{list_any, count_by}
use Rattle.std.specs.List.Sorted.{IsPartitionPoint}
use Rattle.std.proofs.lemmas.Bool.Decides.{nat_tests}
use Rattle.std.proofs.lemmas.List.Sums.{sum_by-cons, sum_by-append}
use Rattle.std.proofs.lemmas.List.Elements.{All-head, All-tail}
use Rattle.std.proofs.lemmas.List.Sorted.{sum_by-IsPermutation}
use Rattle.cue_list.specs.declared.epoch.Epoch.{Epoch}
use Rattle.cue_list.specs.declared.epoch.Cue.{Cue}
use Rattle.cue_list.specs.Authored.{is_live}
use Rattle.page_epoch.specs.declared.cue_ticks.CueTicks.{CueTicks}
use Rattle.page_epoch.specs.Instants.{shows_cue}
use Rattle.page_epoch.specs.Private.Showing.{starts_of, ends_of, AreLasting, AreCueTicks}

-- ---- counts

-- as many pass a test as stand before the place from which on none does
pub counted : {X : Type 0} (p : X → Bool) (xs : List X) (n : ℕ) → n ≤ length xs
    → IsPartitionPoint (λ x. p x ≡ true) (λ x. p x ≡ false) xs n → count_by p xs ≡ n
counted p [] n few point = omega arith
counted p (x ∷ xs) zero few point =
    let here : p x ≡ false = point.1 0 x (omega arith) (omega arith) in
    let rest =
    counted p xs zero (omega arith)
    (λ k d low high. absurd (omega arith), λ k d low high. point.1 (suc k) d (omega arith) (omega arith)) in
    let one : cond {A = ℕ} (p x) 1 0 ≡ 0 = ap (λ b. cond {A = ℕ} b 1 0) here in
    let all = sum_by-cons (λ y. cond (p y) 1 0) x xs in
    omega arith
counted p (x ∷ xs) (suc n) few point =
    let here : p x ≡ true = point.0 0 x (omega arith) (omega arith) in
    let rest =
    counted p xs n (omega arith) (
      λ k d low high. point.0 (suc k) d (omega arith) (omega arith),
      λ k d low high. point.1 (suc k) d
          (omega arith) (omega arith),
    ) in
    let one : cond {A = ℕ} (p x) 1 0 ≡ 1 = ap (λ b. cond {A = ℕ} b 1 0) here in
    let all = sum_by-cons (λ y. cond (p y) 1 0) x xs in
    omega arith

-- how many started and ended, and whether some are live
record Balance (started ended : ℕ) (shown : Bool) : Type 0 where
  live : ℕ
  sum : started ≡ ended + live
  test : shown ≡ nat_lt 0 live

either : (a b : Bool) (m n : ℕ) → a ≡ nat_lt 0 m → b ≡ nat_lt 0 n → (a || b) ≡ nat_lt 0 (m + n)
either a b m n ea eb = grind (arith, nat_tests)

both : {a b c d : ℕ} {s t : Bool} → Balance a b s → Balance c d t → Balance (a + c) (b + d) (s || t)
both {a} {b} {c} {d} {s} {t} x y = record {
  live = x.live + y.live;
  sum = let first = x.sum in let second = y.sum in omega arith;
  test = either s t x.live y.live x.test y.test;
}

abbrev pub by_tick : ℕ → List ℕ → ℕ
by_tick tick ticks = count_by (λ other. nat_le other tick) ticks

one_by : (start end tick : ℕ) (a b c : Bool) → nat_le start tick ≡ a → nat_lt tick end ≡ b
    → nat_le end tick ≡ c → start < end → Balance (cond a 1 0) (cond c 1 0) (a && b)
one_by start end tick true true false s l e lasts = record { live = 1; sum = omega arith; test = refl }
one_by start end tick true false true s l e lasts = record { live = 0; sum = omega arith; test = refl }
one_by start end tick false true false s l e lasts = record { live = 0; sum = omega arith; test = refl }
one_by start end tick true true true s l e lasts = absurd (grind (arith, nat_tests))
one_by start end tick true false false s l e lasts = absurd (grind (arith, nat_tests))
one_by start end tick false true true s l e lasts = absurd (grind (arith, nat_tests))
one_by start end tick false false true s l e lasts = absurd (grind (arith, nat_tests))
one_by start end tick false false false s l e lasts = absurd (grind (arith, nat_tests))

of_cues : (tick : ℕ) (cues : List Cue) → All (λ (cue : Cue). cue.start < cue.end) cues →
    Balance (by_tick tick (map (λ (cue : Cue). cue.start) cues)) (by_tick tick (map (λ (cue : Cue). cue.end) cues))
    (list_any (is_live tick) cues)
of_cues tick [] lasting = record { live = 0; sum = refl; test = refl }
of_cues tick (cue ∷ cues) lasting =
    let here =
    one_by cue.start cue.end tick (nat_le cue.start tick) (nat_lt tick cue.end) (nat_le cue.end tick) refl refl refl
    (All-head (λ (cue : Cue). cue.start < cue.end) cue cues lasting) in
    let rest = of_cues tick cues (All-tail (λ (cue : Cue). cue.start < cue.end) cue cues lasting) in
    let all = both here rest in
    let starts =
    sum_by-cons (λ other. cond (nat_le other tick) 1 0) cue.start (map (λ (cue : Cue). cue.start) cues) in
    let ends = sum_by-cons (λ other. cond (nat_le other tick) 1 0) cue.end (map (λ (cue : Cue). cue.end) cues) in
    record { live = all.live; sum = starts ∙ all.sum ∙ ap (λ (n : ℕ). n + all.live) (sym ends); test = all.test }

of_epochs : (tick : ℕ) (epochs : List Epoch) → AreLasting epochs
    → Balance (by_tick tick (starts_of epochs)) (by_tick tick (ends_of epochs)) (shows_cue epochs tick)
of_epochs tick [] lasting = record { live = 0; sum = refl; test = refl }
of_epochs tick (epoch ∷ epochs) lasting =
    let Lasts : Epoch → Type 0 = λ epoch. All (λ (cue : Cue). cue.start < cue.end) epoch.cues in
    let all =
    both (of_cues tick epoch.cues (All-head Lasts epoch epochs lasting))
    (of_epochs tick epochs (All-tail Lasts epoch epochs lasting)) in
    let starts =
    sum_by-append (λ other. cond (nat_le other tick) 1 0) (map (λ (cue : Cue). cue.start) epoch.cues)
    (starts_of epochs) in
    let ends =
    sum_by-append (λ other. cond (nat_le other tick) 1 0) (map (λ (cue : Cue). cue.end) epoch.cues)
    (ends_of epochs) in
    record { live = all.live; sum = starts ∙ all.sum ∙ ap (λ (n : ℕ). n + all.live) (sym ends); test = all.test }

more_by : (started ended : ℕ) (shown : Bool) → Balance started ended shown → nat_lt ended started ≡ shown
more_by started ended shown balance =
    let sum = balance.sum in
    let test = balance.test in
    grind (arith, nat_tests)

pub shown_by_counts : (epochs : List Epoch) (ticks : CueTicks) (tick started ended : ℕ) → AreCueTicks epochs ticks
    → AreLasting epochs →
    started ≡ count_by (λ other. nat_le other tick) ticks.starts
    → ended ≡ count_by (λ other. nat_le other tick) ticks.ends
    → nat_lt ended started ≡ shows_cue epochs tick
shown_by_counts epochs ticks tick started ended are lasting s e =
    let starts =
    sum_by-IsPermutation (λ other. cond (nat_le other tick) 1 0) (starts_of epochs) ticks.starts are.starts in
    let ends = sum_by-IsPermutation (λ other. cond (nat_le other tick) 1 0) (ends_of epochs) ticks.ends are.ends in
    ap (λ (n : ℕ). nat_lt n started) (e ∙ ends)
    ∙ ap (λ (n : ℕ). nat_lt (by_tick tick (ends_of epochs)) n) (s ∙ starts)
    ∙ more_by (by_tick tick (starts_of epochs)) (by_tick tick (ends_of epochs)) (shows_cue epochs tick)
    (of_epochs tick epochs lasting)
