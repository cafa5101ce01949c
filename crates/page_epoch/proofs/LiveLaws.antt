-- The live cues of a region at a tick, from those at an earlier one.
use Rattle.std.proofs.Common.{◌≡◌, ◌∙◌, ◌⊎◌, inl, inr, ℕ, ◌+◌, ◌-◌, ◌==◌, ◌<◌, ◌≤◌, nat_le, nat_lt, Bool, true, false, not, ◌&&◌, cond, List, [], ◌∷◌, ◌++◌, map, filter, take, drop, length, get_or, All, refl, sym, ap, subst, arith}
use Rattle.std.specs.List.{count_by, range_with_len, slice_range, AllWithin}
use Rattle.std.specs.List.Sorted.{IsNonDecreasing, IsPartitionPoint, IsStrictlyIncreasing}
use Rattle.std.proofs.lemmas.Bool.{false≢true}
use Rattle.std.proofs.lemmas.Bool.Decides.{nat_tests}
use Rattle.std.proofs.lemmas.List.{get_or_default, length-map, get_or-take, get_or-drop, length-take, length-drop, take-append-drop}
use Rattle.std.proofs.lemmas.List.Elements.{All-map, All-weaker, All-take}
use Rattle.std.proofs.lemmas.List.Folds.{drop_split}
use Rattle.std.proofs.lemmas.List.FromFn.{length-range_with_len, get_or-range_with_len}
use Rattle.std.proofs.lemmas.List.Kept.{IsStrictlyIncreasing-filter}
use Rattle.std.proofs.lemmas.List.Sorted.{All-permutation, sum_by-IsPermutation, length_permutation}
use Rattle.std.proofs.lemmas.List.Sums.{count_by-le-length}
use Rattle.cue_list.specs.declared.epoch.Cue.{Cue}
use Rattle.cue_list.specs.Authored.{is_live}
use Rattle.page_epoch.specs.declared.live.CueStart.{CueStart}
use Rattle.page_epoch.specs.Live.{cue_at, own_places, live_places, places_below, started_by, times, start_at, AreStarts}
use Rattle.page_epoch.specs.SentRegions.{live_before}
use Rattle.page_epoch.specs.EpochStates.{started_before, IsReachedBy}
use Rattle.page_epoch.proofs.InstantLaws.{in_order}
use Rattle.page_epoch.proofs.ListLaws.{length_kept_places}
use Rattle.page_epoch.proofs.ShowLaws.{counted}
use Rattle.page_epoch.proofs.CountLaws.{count_append, count_filter, count_map, count_agree, count_none, count_split, point_of, same_sorted}

-- ---- places in order

places_rise : (n : ℕ) → IsStrictlyIncreasing (range_with_len 0 n)
places_rise n k h =
    let long = length-range_with_len 0 n in
    let first = get_or-range_with_len 0 n k 0 (omega arith) in
    let second = get_or-range_with_len 0 n (k + 1) 0 (omega arith) in
    omega arith

pub live_rise : (cues : List Cue) (region tick : ℕ) → IsStrictlyIncreasing (live_places cues region tick)
live_rise cues region tick =
    IsStrictlyIncreasing-filter (λ place. is_live tick (cue_at cues place)) (own_places cues region)
    (IsStrictlyIncreasing-filter (λ place. (cue_at cues place).region == region) (places_below (length cues))
    (places_rise (length cues)))

pub before_rise : (cues : List Cue) (region : ℕ) (seen : List ℕ)
    → IsStrictlyIncreasing (live_before cues region seen)
before_rise cues region [] = λ k h. absurd (omega arith)
before_rise cues region (before ∷ earlier) = live_rise cues region before

pub falls_not : (xs : List ℕ) → IsStrictlyIncreasing xs → IsNonDecreasing xs
falls_not xs rise i j d low short =
    let less = in_order xs i j rise low short in
    let first = get_or_default xs i d 0 (omega arith) in
    let second = get_or_default xs j d 0 short in
    omega arith

-- ---- the parts of the cues in order of their starts

front : {X : Type 0} (P : X → Type 0) (xs : List X) (n : ℕ) → AllWithin P xs 0 n → All P (take n xs)
front P xs n all k d h =
    let short : k < n = let e = length-take n xs in omega arith in
    subst P (sym (get_or-take n xs k d short)) (all k d (omega arith) short)

back : {X : Type 0} (P : X → Type 0) (xs : List X) (n : ℕ) → AllWithin P xs n (length xs) → All P (drop n xs)
back P xs n all k d h =
    subst P (sym (get_or-drop n xs k d)) (all (n + k) d (omega arith) (let e = length-drop n xs in omega arith))

middle : {X : Type 0} (P : X → Type 0) (xs : List X) (m n : ℕ) → AllWithin P xs m (length xs)
    → All P (slice_range xs m n)
middle P xs m n all = All-take P (n - m) (drop m xs) (back P xs m all)

starts_are : (cues : List Cue) (region : ℕ) (starts : List CueStart) → AreStarts cues region starts
    → All (λ (start : CueStart). (cue_at cues start.place).start ≡ start.tick) starts
starts_are cues region starts are =
    All-permutation (λ (start : CueStart). (cue_at cues start.place).start ≡ start.tick)
    (map (start_at cues) (own_places cues region)) starts are.same
    (All-map (λ (start : CueStart). (cue_at cues start.place).start ≡ start.tick) (start_at cues)
    (own_places cues region) (λ k d h. refl))

-- what is counted of a region's cues is counted of them in any order
count_starts : (cues : List Cue) (region : ℕ) (starts : List CueStart) (g : ℕ → Bool)
    → AreStarts cues region starts
    → count_by (λ (start : CueStart). g start.place) starts ≡ count_by g (own_places cues region)
count_starts cues region starts g are =
    sum_by-IsPermutation (λ (start : CueStart). cond {A = ℕ} (g start.place) 1 0)
    (map (start_at cues) (own_places cues region)) starts are.same
    ∙ count_map (λ (start : CueStart). g start.place) (start_at cues) (own_places cues region)

started_count : (cues : List Cue) (region : ℕ) (starts : List CueStart) (tick : ℕ)
    → AreStarts cues region starts
    → count_by (λ (start : CueStart). nat_le start.tick tick) starts ≡ started_by cues region tick
started_count cues region starts tick are =
    count_agree (λ (start : CueStart). nat_le start.tick tick)
    (λ (start : CueStart). nat_le (cue_at cues start.place).start tick) starts
    (All-weaker (λ (start : CueStart). (cue_at cues start.place).start ≡ start.tick)
    (λ (start : CueStart). nat_le start.tick tick ≡ nat_le (cue_at cues start.place).start tick)
    (λ start e. ap (λ (t : ℕ). nat_le t tick) (sym e)) starts (starts_are cues region starts are))
    ∙ count_starts cues region starts (λ place. nat_le (cue_at cues place).start tick) are

-- so many cues of these have started by a tick
abbrev pub HaveStarted : List CueStart → ℕ → ℕ → Type 0
HaveStarted starts tick n =
    IsPartitionPoint (λ (start : CueStart). nat_le start.tick tick ≡ true)
    (λ (start : CueStart). nat_le start.tick tick ≡ false) starts n

pub started_are : (cues : List Cue) (region : ℕ) (starts : List CueStart) (tick n : ℕ)
    → AreStarts cues region starts → n ≤ length starts → HaveStarted starts tick n
    → n ≡ started_by cues region tick
started_are cues region starts tick n are few point =
    sym (counted (λ (start : CueStart). nat_le start.tick tick) starts n few point)
    ∙ started_count cues region starts tick are

-- ---- what is live

-- those that had started, and those that start since
record Parts (cues : List Cue) (starts : List CueStart) (tick from to : ℕ) (s : ℕ → Bool) : Type 0 where
  order : from ≤ to
  few : to ≤ length starts
  had : AllWithin (λ (start : CueStart). s start.place ≡ true) starts 0 from
  had_not : AllWithin (λ (start : CueStart). s start.place ≡ false) starts from (length starts)
  not_yet : AllWithin (λ (start : CueStart). is_live tick (cue_at cues start.place) ≡ false) starts to
      (length starts)

not_had : (a b : Bool) → a ≡ true → (not a && b) ≡ false
not_had true b e = refl
not_had false b e = cc

not_live : (a b c : Bool) → b ≡ false → (not a && (b && c)) ≡ false
not_live true b c e = refl
not_live false true c e = cc
not_live false false c e = refl

then_live : (a b : Bool) → a ≡ false → (not a && b) ≡ b
then_live true b e = cc
then_live false b e = refl

since : (cues : List Cue) (region : ℕ) (starts : List CueStart) (tick from to v : ℕ) (s : ℕ → Bool)
    → AreStarts cues region starts → Parts cues starts tick from to s →
    count_by (λ place. not (s place) && (is_live tick (cue_at cues place) && (place == v))) (own_places cues region)
    ≡ times v
    (filter (λ place. is_live tick (cue_at cues place))
    (map (λ (start : CueStart). start.place) (slice_range starts from to)))
since cues region starts tick from to v s are parts =
    let live = λ (place : ℕ). is_live tick (cue_at cues place) in
    let g = λ (place : ℕ). not (s place) && (live place && (place == v)) in
    let p = λ (start : CueStart). g start.place in
    let run = slice_range starts from to in
    let whole : starts ≡ take from starts ++ (run ++ drop to starts) =
    sym (take-append-drop from starts)
    ∙ ap (λ xs. take from starts ++ xs) (drop_split starts from to parts.order) in
    let first : count_by p (take from starts) ≡ 0 = count_none p (take from starts)
    (All-weaker (λ (start : CueStart). s start.place ≡ true) (λ (start : CueStart). p start ≡ false)
    (λ start e. not_had (s start.place) (live start.place && (start.place == v)) e) (take from starts)
    (front (λ (start : CueStart). s start.place ≡ true) starts from parts.had)) in
    let last : count_by p (drop to starts) ≡ 0 = count_none p (drop to starts)
    (All-weaker (λ (start : CueStart). live start.place ≡ false) (λ (start : CueStart). p start ≡ false)
    (λ start e. not_live (s start.place) (live start.place) (start.place == v) e) (drop to starts)
    (back (λ (start : CueStart). live start.place ≡ false) starts to parts.not_yet)) in
    let inner : count_by p run ≡ count_by (λ (start : CueStart). live start.place && (start.place == v)) run =
    count_agree p (λ (start : CueStart). live start.place && (start.place == v)) run
    (All-weaker (λ (start : CueStart). s start.place ≡ false)
    (λ (start : CueStart). p start ≡ (live start.place && (start.place == v)))
    (λ start e. then_live (s start.place) (live start.place && (start.place == v)) e) run
    (middle (λ (start : CueStart). s start.place ≡ false) starts from to parts.had_not)) in
    let sum = count_append p (take from starts) (run ++ drop to starts) in
    let rest = count_append p run (drop to starts) in
    let kept =
    count_filter (λ place. place == v) live (map (λ (start : CueStart). start.place) run)
    ∙ count_map (λ place. live place && (place == v)) (λ (start : CueStart). start.place) run in
    sym (count_starts cues region starts g are) ∙ ap (count_by p) whole
    ∙ (let all : count_by p (take from starts ++ (run ++ drop to starts))
    ≡ count_by (λ (start : CueStart). live start.place && (start.place == v)) run = omega arith in all)
    ∙ sym kept

live_next : (cues : List Cue) (region : ℕ) (starts : List CueStart) (tick from to : ℕ) (s : ℕ → Bool)
    (old new : List ℕ) → AreStarts cues region starts → Parts cues starts tick from to s →
    ((v : ℕ) → times v (filter (λ place. is_live tick (cue_at cues place)) old)
    ≡ count_by (λ place. s place && (is_live tick (cue_at cues place) && (place == v)))
    (own_places cues region)) →
    IsNonDecreasing new →
    ((v : ℕ) → times v new
    ≡ times v (filter (λ place. is_live tick (cue_at cues place)) old)
    + times v
    (filter (λ place. is_live tick (cue_at cues place))
    (map (λ (start : CueStart). start.place) (slice_range starts from to)))) →
    new ≡ live_places cues region tick
live_next cues region starts tick from to s old new are parts stay rise same =
    same_sorted new (live_places cues region tick) rise
    (falls_not (live_places cues region tick) (live_rise cues region tick)) (λ v.
    let live = λ (place : ℕ). is_live tick (cue_at cues place) in
    let all = count_filter (λ place. place == v) live (own_places cues region) in
    let split = count_split s (λ place. live place && (place == v)) (own_places cues region) in
    let first = stay v in
    let second = since cues region starts tick from to v s are parts in
    let sum = same v in
    omega arith)

-- ---- from the instants before

pub late_live : (start end tick : ℕ) → nat_le start tick ≡ false → (nat_le start tick && nat_lt tick end) ≡ false
late_live start end tick h = ap (λ b. b && nat_lt tick end) h

not_yet_live : (cues : List Cue) (region : ℕ) (starts : List CueStart) (tick to : ℕ)
    → AreStarts cues region starts → HaveStarted starts tick to
    → AllWithin (λ (start : CueStart). is_live tick (cue_at cues start.place) ≡ false) starts to (length starts)
not_yet_live cues region starts tick to are point k d low high =
    let start = starts_are cues region starts are k d high in
    let cue = cue_at cues (get_or starts k d).place in
    late_live cue.start cue.end tick (ap (λ (t : ℕ). nat_le t tick) start ∙ point.1 k d low high)

stays_by : (a b c d q : Bool) → (d ≡ true → b ≡ true)
    → ((a && b) && ((c && d) && q)) ≡ (a && ((c && d) && q))
stays_by false b c d q h = refl
stays_by true true c d q h = refl
stays_by true false false d q h = refl
stays_by true false true true q h = absurd (false≢true (h refl))
stays_by true false true false q h = refl

still_live : (tick before : ℕ) (cue : Cue) (q : Bool) → before ≤ tick
    → (is_live before cue && (is_live tick cue && q)) ≡ (nat_le cue.start before && (is_live tick cue && q))
still_live tick before cue q low =
    stays_by (nat_le cue.start before) (nat_lt before cue.end) (nat_le cue.start tick) (nat_lt tick cue.end) q
    (λ h. grind (arith, nat_tests))

order_by : (starts : List CueStart) (before tick from to : ℕ) → before ≤ tick → from ≤ length starts
    → HaveStarted starts before from → HaveStarted starts tick to → (from ≤ to) ⊎ (to < from) → from ≤ to
order_by starts before tick from to low few first second (inl h) = h
order_by starts before tick from to low few first second (inr h) =
    let d : CueStart = record { tick = 0; place = 0 } in
    let had = first.0 to d (omega arith) h in
    let not_had = second.1 to d (omega arith) (omega arith) in
    absurd (grind (arith, nat_tests))

-- the new list is that of the tick
pub live_on : (cues : List Cue) (region : ℕ) (starts : List CueStart) (tick to : ℕ) (seen new : List ℕ)
    → AreStarts cues region starts → to ≤ length starts → HaveStarted starts tick to → IsReachedBy seen tick
    → IsNonDecreasing new →
    ((v : ℕ) → times v new
    ≡ times v (filter (λ place. is_live tick (cue_at cues place)) (live_before cues region seen))
    + times v
    (filter (λ place. is_live tick (cue_at cues place))
    (map (λ (start : CueStart). start.place) (slice_range starts (started_before cues region seen) to)))) →
    new ≡ live_places cues region tick
live_on cues region starts tick to [] new are few point after rise same =
    live_next cues region starts tick 0 to (λ place. false) [] new are
    (record {
      order = omega arith;
      few = few;
      had = λ k d low high. absurd (omega arith);
      had_not = λ k d low
          high. refl;
      not_yet = not_yet_live cues region starts tick to are point;
    })
    (λ v. sym (count_none (λ place. false) (own_places cues region) (λ k d h. refl))) rise same
live_on cues region starts tick to (before ∷ earlier) new are few point after rise same =
    let from = started_by cues region before in
    let s = λ (place : ℕ). nat_le (cue_at cues place).start before in
    let count = started_count cues region starts before are in
    let had : HaveStarted starts before from =
    subst (HaveStarted starts before) count (point_of (λ (start : CueStart). start.tick) before starts are.rise) in
    let short : from ≤ length starts =
    let most = count_by-le-length (λ (start : CueStart). nat_le start.tick before) starts in omega arith in
    let own_starts = starts_are cues region starts are in
    live_next cues region starts tick from to s (live_places cues region before) new are
    (record {
      order = order_by starts before tick from to after short had point (grind arith);
      few = few;
      had = λ k d low high. ap (λ (t : ℕ). nat_le t before) (own_starts k d (omega arith)) ∙ had.0 k d low high;
      had_not = λ k d low high. ap (λ (t : ℕ). nat_le t before) (own_starts k d high) ∙ had.1 k d low high;
      not_yet = not_yet_live cues region starts tick to are point;
    })
    (λ v.
    let live = λ (place : ℕ). is_live tick (cue_at cues place) in
    let old = λ (place : ℕ). is_live before (cue_at cues place) in
    count_filter (λ place. place == v) live (live_places cues region before)
    ∙ count_filter (λ place. live place && (place == v)) old (own_places cues region)
    ∙ count_agree (λ place. old place && (live place && (place == v)))
    (λ place. s place && (live place && (place == v))) (own_places cues region)
    (λ k d h. still_live tick before (cue_at cues (get_or (own_places cues region) k d))
    (get_or (own_places cues region) k d == v) after))
    rise same

-- no fewer have started than at the instant before
pub started_order : (cues : List Cue) (region : ℕ) (starts : List CueStart) (tick to : ℕ) (seen : List ℕ)
    → AreStarts cues region starts → to ≤ length starts → HaveStarted starts tick to → IsReachedBy seen tick
    → started_before cues region seen ≤ to
started_order cues region starts tick to [] are few point after = omega arith
started_order cues region starts tick to (before ∷ earlier) are few point after =
    let count = started_count cues region starts before are in
    let had : HaveStarted starts before (started_by cues region before) =
    subst (HaveStarted starts before) count (point_of (λ (start : CueStart). start.tick) before starts are.rise) in
    let most = count_by-le-length (λ (start : CueStart). nat_le start.tick before) starts in
    order_by starts before tick (started_by cues region before) to after (omega arith) had point (grind arith)

pub few_begins : (cues : List Cue) (region : ℕ) (starts : List CueStart) → AreStarts cues region starts
    → length starts ≤ length cues
few_begins cues region starts are =
    let moved = length_permutation (map (start_at cues) (own_places cues region)) starts are.same in
    let mapped = length-map (own_places cues region) (start_at cues) in
    let kept = length_kept_places (λ place. (cue_at cues place).region == region) (length cues) in
    omega arith

-- ---- the list that is made

pub no_range : {X : Type 0} (xs : List X) (m n : ℕ) → n ≤ m → slice_range xs m n ≡ []
no_range xs m n low = ap (λ (k : ℕ). take k (drop m xs)) (let none : n - m ≡ 0 = omega arith in none)

pub few_in_range : {X : Type 0} (xs : List X) (m n : ℕ) → length (slice_range xs m n) ≤ n - m
few_in_range xs m n = let e = length-take (n - m) (drop m xs) in omega arith
