-- The last instants of an epoch, and a named tick with its refreshes or alone.
use Rattle.std.proofs.Common.{◌≡◌, ◌∙◌, ◌⊎◌, inl, inr, ℕ, ◌+◌, ◌-◌, ◌*◌, ◌<◌, ◌≤◌, ◌^◌, true, false, List, [], ◌∷◌, ◌++◌, map, length, get_or, All, sym, ap, subst, arith}
use Rattle.std.specs.List.{range_with_len, Contains, AllPairs}
use Rattle.std.specs.List.Sorted.{IsStrictlyIncreasing}
use Rattle.cue_list.specs.declared.epoch.Epoch.{Epoch}
use Rattle.page_epoch.specs.declared.events.Event.{Event}
use Rattle.page_epoch.specs.declared.instants.Instant.{Instant}
use Rattle.std.proofs.lemmas.List.{append-nil, length-map, get_or-map, get_or_default}
use Rattle.std.proofs.lemmas.List.Elements.{All-map, All-contains}
use Rattle.std.proofs.Math.Nat.{mul-le-mul_right}
use Rattle.page_epoch.specs.Instants.{named_ticks, shows_cue, IsInstant, IsRefresh}
use Rattle.page_epoch.specs.Rows.{AreLeastEvents}
use Rattle.page_epoch.specs.Private.RecordedInstants.{refresh_at, HasRefreshes, instant_ticks, AreRecordedInstants}
use Rattle.page_epoch.proofs.InstantLaws.{ticks_of_events, tick_at, in_order, named_there, AreRecordedInstantsUpTo, AreRecordedInstantsUpTo-more}

-- ---- at the end

ticks_rise : (xs : List Instant) → AllPairs (λ (first second : Instant). first.tick < second.tick) xs
    → IsStrictlyIncreasing (instant_ticks xs)
ticks_rise xs rise k h =
    let long = length-map xs (λ (x : Instant). x.tick) in
    let d : Instant = record { tick = 0; row = 0; named = false } in
    let first = get_or-map (λ (x : Instant). x.tick) xs k d 0 (omega arith) in
    let second = get_or-map (λ (x : Instant). x.tick) xs (k + 1) d 0 (omega arith) in
    let less = rise k (k + 1) d (omega arith) (omega arith) in
    omega arith

next_named : (xs : List ℕ) (k m first second : ℕ) → IsStrictlyIncreasing xs → k < length xs
    → get_or xs k first ≡ first → m < length xs → get_or xs m second ≡ second → first < second →
    (m ≤ k) ⊎ (k + 1 ≤ m) → (k + 1 ≤ m) × (get_or xs (k + 1) 0 ≤ second)
next_named xs k m first second rise h e short f less (inl low) =
    let a = get_or_default xs k first 0 h in
    let b = get_or_default xs m second 0 short in
    let c = in_order xs m k rise low h in
    absurd (omega arith)
next_named xs k m first second rise h e short f less (inr high) =
    let b = get_or_default xs m second 0 short in
    let c = in_order xs (k + 1) m rise high short in
    (high, omega arith)

closest : (first second next : ℕ) → first < next → next ≤ second → (next ≤ first) ⊎ (second ≤ next)
    → next ≡ second
closest first second next low high (inl h) = absurd (omega arith)
closest first second next low high (inr h) = omega arith

refresh_found : (epochs : List Epoch) (refresh : ℕ) (least_events : List Event) (xs : List Instant) (tick : ℕ)
    → AreLeastEvents epochs least_events
    → AreRecordedInstantsUpTo epochs refresh least_events (length least_events) xs →
    (r : IsRefresh epochs refresh tick) → Contains (ticks_of_events least_events) r.last
    → Contains (ticks_of_events least_events) r.next → Contains (instant_ticks xs) tick
refresh_found epochs refresh least_events xs tick are up r (k, h, e) (m, short, f) =
    let long = length-map least_events (λ (x : Event). x.tick) in
    let beyond =
    next_named (ticks_of_events least_events) k m r.last r.next are.rise h e short f r.neighbours.order
    (grind arith) in
    let first : tick_at least_events k ≡ r.last =
    sym (get_or_default (ticks_of_events least_events) k r.last 0 h) ∙ e in
    let rises = are.rise k (omega arith) in
    let named = named_there epochs least_events are (k + 1) (omega arith) in
    let next : tick_at least_events (k + 1) ≡ r.next =
    closest r.last r.next (tick_at least_events (k + 1)) (omega arith) beyond.1
    (All-contains (λ (t : ℕ). (t ≤ r.last) ⊎ (r.next ≤ t)) (named_ticks epochs)
    (tick_at least_events (k + 1)) r.neighbours.between named) in
    let after = r.after in
    let room = r.room in
    let same = ap (λ (t : ℕ). t + r.times * refresh) first in
    let Here : ℕ → Type 0 = λ (t : ℕ). Contains (instant_ticks xs) t in
    subst Here (same ∙ sym after)
    (up.refreshed k r.times (omega arith) (omega arith)
    (subst (λ (t : ℕ). shows_cue epochs t ≡ true) (sym first) r.shown) r.some (omega arith))

named_found : (epochs : List Epoch) (refresh : ℕ) (least_events : List Event) (xs : List Instant) (tick : ℕ)
    → AreRecordedInstantsUpTo epochs refresh least_events (length least_events) xs
    → Contains (ticks_of_events least_events) tick → Contains (instant_ticks xs) tick
named_found epochs refresh least_events xs tick up (k, h, e) =
    let long = length-map least_events (λ (x : Event). x.tick) in
    let same : tick_at least_events k ≡ tick = sym (get_or_default (ticks_of_events least_events) k tick 0 h) ∙ e in
    let Here : ℕ → Type 0 = λ (t : ℕ). Contains (instant_ticks xs) t in
    subst Here same (up.named k (omega arith))

instant_found : (epochs : List Epoch) (refresh : ℕ) (least_events : List Event) (xs : List Instant) (tick : ℕ)
    → AreLeastEvents epochs least_events
    → AreRecordedInstantsUpTo epochs refresh least_events (length least_events) xs →
    IsInstant epochs refresh tick → Contains (instant_ticks xs) tick
instant_found epochs refresh least_events xs tick are up (inl named) =
    named_found epochs refresh least_events xs tick up (are.all tick named)
instant_found epochs refresh least_events xs tick are up (inr r) =
    refresh_found epochs refresh least_events xs tick are up r (are.all r.last r.neighbours.has_first)
    (are.all r.next r.neighbours.has_second)

pub AreRecordedInstants-all : (epochs : List Epoch) (refresh : ℕ) (least_events : List Event) (xs : List Instant)
    → AreLeastEvents epochs least_events
    → AreRecordedInstantsUpTo epochs refresh least_events (length least_events) xs
    → AreRecordedInstants epochs refresh xs
AreRecordedInstants-all epochs refresh least_events xs are up = record {
  ticks = record {
    rise = ticks_rise xs up.good.rise;
    each = All-map (λ (t : ℕ). IsInstant epochs refresh t) (λ (x : Instant). x.tick) xs up.good.instant;
    all = λ tick instant. instant_found epochs refresh least_events xs tick are up instant;
  };
  each = up.good.each;
  rows = up.good.rows;
  first = up.good.first;
}

-- ---- a named tick with its refreshes, or alone

few_by : (refresh times count : ℕ) → (times ≤ count) ⊎ (count + 1 ≤ times)
    → times * refresh < (count + 1) * refresh → times ≤ count
few_by refresh times count (inl h) less = h
few_by refresh times count (inr h) less = let more = mul-le-mul_right refresh h in absurd (omega arith)

pub AreRecordedInstantsUpTo-refreshed : (epochs : List Epoch) (refresh : ℕ) (least_events : List Event) (i : ℕ)
    (xs front ys : List Instant) (m next : Event) → 1 ≤ refresh → AreLeastEvents epochs least_events →
    AreRecordedInstantsUpTo epochs refresh least_events i xs → i + 1 < length least_events
    → m ≡ get_or least_events i m → next ≡ get_or least_events (i + 1) next →
    front ≡ xs ++ record { tick = m.tick; row = m.row; named = true } ∷ []
    → HasRefreshes front ys m.tick m.row next.tick refresh → shows_cue epochs m.tick ≡ true →
    AreRecordedInstantsUpTo epochs refresh least_events (i + 1) ys
AreRecordedInstantsUpTo-refreshed epochs refresh least_events i xs front ys m next often are before short r s push has
    shown =
    let there : tick_at least_events (i + 1) ≡ next.tick =
    get_or-map (λ (e : Event). e.tick) least_events (i + 1) next 0 short ∙ ap (λ (e : Event). e.tick) (sym s) in
    let all = has.all in
    AreRecordedInstantsUpTo-more epochs refresh least_events i xs ys m has.count often are before (omega arith) r
    (has.is ∙ ap (λ zs. zs ++ map (refresh_at m.tick m.row refresh) (range_with_len 1 has.count)) push)
    (λ some. (short, shown, let last = has.last some in omega arith))
    (λ inside live times some room. few_by refresh times has.count (grind arith) (omega arith))

pub AreRecordedInstantsUpTo-alone : (epochs : List Epoch) (refresh : ℕ) (least_events : List Event) (i : ℕ)
    (xs ys : List Instant) (m : Event) → 1 ≤ refresh → AreLeastEvents epochs least_events →
    AreRecordedInstantsUpTo epochs refresh least_events i xs → i < length least_events
    → m ≡ get_or least_events i m →
    ys ≡ xs ++ record { tick = m.tick; row = m.row; named = true } ∷ []
    → (i + 1 < length least_events → shows_cue epochs m.tick ≡ true → ⊥) →
    AreRecordedInstantsUpTo epochs refresh least_events (i + 1) ys
AreRecordedInstantsUpTo-alone epochs refresh least_events i xs ys m often are before short r push none =
    AreRecordedInstantsUpTo-more epochs refresh least_events i xs ys m 0 often are before short r
    (push ∙ sym (append-nil (xs ++ record { tick = m.tick; row = m.row; named = true } ∷ [])))
    (λ some. absurd (omega arith)) (λ inside live times some room. absurd (none inside live))

pub small_there : (epochs : List Epoch) (least_events : List Event) → AreLeastEvents epochs least_events
    → All (λ (t : ℕ). t < 2 ^ 40) (named_ticks epochs) → (k : ℕ) (m : Event) → k < length least_events
    → m ≡ get_or least_events k m →
    m.tick < 2 ^ 40
small_there epochs least_events are small k m h r =
    let here : tick_at least_events k ≡ m.tick =
    get_or-map (λ (e : Event). e.tick) least_events k m 0 h ∙ ap (λ (e : Event). e.tick) (sym r) in
    let less =
    All-contains (λ (t : ℕ). t < 2 ^ 40) (named_ticks epochs) (tick_at least_events k) small
    (named_there epochs least_events are k h) in
    omega arith
