-- The instants of a script.
use Rattle.std.proofs.Common.{◌≡◌, ◌≢◌, ◌∙◌, ◌⊎◌, inl, inr, ℕ, zero, suc, ◌+◌, ◌-◌, ◌*◌, ◌<◌, ◌≤◌, ◌^◌, Bool, true, false, List, [], ◌∷◌, ◌++◌, map, length, get_or, All, ◌==◌, ◌||◌, refl, sym, ap, subst, arith}
use Rattle.std.specs.List.{flat_map, range_with_len, list_any, Contains, AllPairs, AllAdjacentBelow}
use Rattle.std.specs.List.Sorted.{IsStrictlyIncreasing}
use Rattle.cue_list.specs.declared.epoch.Epoch.{Epoch}
use Rattle.page_epoch.specs.declared.events.Event.{Event}
use Rattle.page_epoch.specs.declared.instants.Instant.{Instant}
use Rattle.std.proofs.lemmas.Bool.Decides.{nat_tests}
use Rattle.std.proofs.lemmas.List.{append-nil, length_push, length-map, get_or-map, get_or_append_left, get_or_push, get_or_default, map-append}
use Rattle.std.proofs.lemmas.List.Elements.{All-push, All-weaker, All-contains, Contains-get_or, Contains-append_left, Contains-append_right}
use Rattle.std.proofs.lemmas.List.Quantifiers.{all_pairs_push}
use Rattle.std.proofs.lemmas.List.FromFn.{length-range_with_len, get_or-range_with_len}
use Rattle.std.proofs.lemmas.List.Kept.{AllPairs-from_increasing}
use Rattle.std.proofs.Math.Nat.{mul-le-mul_right}
use Rattle.page_epoch.specs.Instants.{named_ticks, is_named, shows_cue, IsInstant, AreNeighbours}
use Rattle.page_epoch.specs.Rows.{events_of, IsLeastRow, AreLeastEvents, event}
use Rattle.page_epoch.specs.Private.RecordedInstants.{refresh_at, instant_ticks, IsRecordedInstant, KeepsRow, IsFirstNamed}
use Rattle.page_epoch.proofs.EventLaws.{contains_mapped, event_ticks}
use Rattle.page_epoch.proofs.ListLaws.{refreshes_more}

-- so many refreshes were put behind, and the next one is due at a tick
pub record AreRefreshing (old new : List Instant) (tick row next refresh due : ℕ) : Type 0 where
  pub count : ℕ
  pub is : new ≡ old ++ map (refresh_at tick row refresh) (range_with_len 1 count)
  pub due_is : due ≡ tick + (count + 1) * refresh
  pub last : 1 ≤ count → tick + count * refresh + 3600 < next
  pub small : due < 2 ^ 42

pub AreRefreshing-more : {old now next_instants : List Instant} {tick row next refresh due : ℕ}
    → AreRefreshing old now tick row next refresh due → due + 3600 < next → next < 2 ^ 40 → refresh < 2 ^ 40 →
    next_instants ≡ now ++ record { tick = due; row = row; named = false } ∷ []
    → AreRefreshing old next_instants tick row next refresh (due + refresh)
AreRefreshing-more {old} {now} {next_instants} {tick} {row} {next} {refresh} {due} before room early often push =
    let here : Instant → Type 0 = λ x. next_instants ≡ now ++ x ∷ [] in
    let due_is = before.due_is in
    let put : next_instants ≡ now ++ refresh_at tick row refresh (before.count + 1) ∷ [] =
    push ∙ ap
    (λ (k : ℕ). let made : Instant = record { tick = k; row = row; named = false } in now ++ made ∷ []) due_is
    in
    record {
      count = before.count + 1;
      is = refreshes_more (refresh_at tick row refresh) before.count old now next_instants before.is put;
      due_is = grind arith;
      last = λ some. omega arith;
      small = omega arith;
    }

-- ---- what a script names

or_right : (a b : Bool) → b ≡ true → (a || b) ≡ true
or_right true b h = refl
or_right false b h = h

any_here : (xs : List ℕ) (tick k : ℕ) → k < length xs → get_or xs k tick ≡ tick
    → list_any (λ named. named == tick) xs ≡ true
any_here [] tick k h e = absurd (omega arith)
any_here (x ∷ xs) tick zero h e =
    let t : (x == tick) ≡ true = grind (arith, nat_tests) in
    ap (λ b. b || list_any (λ named. named == tick) xs) t
any_here (x ∷ xs) tick (suc k) h e =
    let short : k < length xs = omega arith in
    or_right (x == tick) (list_any (λ named. named == tick) xs) (any_here xs tick k short e)

pub is_named-yes : (epochs : List Epoch) (tick : ℕ) → Contains (named_ticks epochs) tick
    → is_named epochs tick ≡ true
is_named-yes epochs tick (k, h, e) = any_here (named_ticks epochs) tick k h e

none_here : (xs : List ℕ) (tick : ℕ) → ((k : ℕ) → k < length xs → get_or xs k tick ≢ tick)
    → list_any (λ named. named == tick) xs ≡ false
none_here [] tick none = refl
none_here (x ∷ xs) tick none =
    let other : x ≢ tick = none 0 (omega arith) in
    let t : (x == tick) ≡ false = grind (arith, nat_tests) in
    ap (λ b. b || list_any (λ named. named == tick) xs) t ∙ none_here xs tick (λ k h. none (suc k) (omega arith))

pub is_named-no : (epochs : List Epoch) (tick : ℕ) → (Contains (named_ticks epochs) tick → ⊥)
    → is_named epochs tick ≡ false
is_named-no epochs tick none = none_here (named_ticks epochs) tick (λ k h e. none (k, h, e))

-- ---- one instant more

-- instants in order, each with its record
pub record AreGood (epochs : List Epoch) (refresh : ℕ) (instants : List Instant) : Type 0 where
  pub rise : AllPairs (λ (first second : Instant). first.tick < second.tick) instants
  pub instant : All (λ (x : Instant). IsInstant epochs refresh x.tick) instants
  pub each : All (IsRecordedInstant epochs) instants
  pub rows : AllAdjacentBelow KeepsRow instants (length instants)
  pub first : IsFirstNamed instants

first_stays : (xs : List Instant) (x : Instant) → IsFirstNamed xs → (length xs ≡ 0 → x.named ≡ true)
    → IsFirstNamed (xs ++ x ∷ [])
first_stays [] x first named = named refl
first_stays (y ∷ ys) x first named = first

keeps_by : (xs : List Instant) (x : Instant) (k : ℕ) (d : Instant) → (k + 1 < length xs) ⊎ (k + 1 ≡ length xs)
    → AllAdjacentBelow KeepsRow xs (length xs) →
    (0 < length xs → KeepsRow (get_or xs (length xs - 1) d) x)
    → KeepsRow (get_or (xs ++ x ∷ []) k d) (get_or (xs ++ x ∷ []) (k + 1) d)
keeps_by xs x k d (inl inside) rows last =
    rw (get_or_append_left xs (x ∷ []) d k (omega arith), get_or_append_left xs (x ∷ []) d (k + 1) inside)
    (rows k d inside)
keeps_by xs x k d (inr end) rows last =
    let before : k ≡ length xs - 1 = omega arith in
    let Keeps : Instant → Type 0 = λ y. KeepsRow (get_or (xs ++ x ∷ []) k d) y in
    let From : Instant → Type 0 = λ y. KeepsRow y x in
    subst Keeps (sym (get_or_push xs x d (k + 1) (sym end)))
    (subst From (sym (get_or_append_left xs (x ∷ []) d k (omega arith) ∙ ap (λ (j : ℕ). get_or xs j d) before))
    (last (omega arith)))

pub AreGood-push : {epochs : List Epoch} {refresh : ℕ} (xs : List Instant) (x : Instant)
    → AreGood epochs refresh xs → All (λ (y : Instant). y.tick < x.tick) xs →
    IsInstant epochs refresh x.tick → IsRecordedInstant epochs x → (length xs ≡ 0 → x.named ≡ true)
    → ((d : Instant) → 0 < length xs → KeepsRow (get_or xs (length xs - 1) d) x) →
    AreGood epochs refresh (xs ++ x ∷ [])
AreGood-push {epochs} {refresh} xs x good below instant step named last =
    let long = length_push xs x in
    record {
      rise = all_pairs_push (λ (first second : Instant). first.tick < second.tick) xs x good.rise below;
      instant = All-push (λ (y : Instant). IsInstant epochs refresh y.tick) xs x good.instant instant;
      each = All-push (IsRecordedInstant epochs) xs x good.each step;
      rows = λ k d h. keeps_by xs x k d (grind arith) good.rows (last d);
      first = first_stays xs x good.first named;
    }

-- ---- the refreshes after a named tick

pub record Grown (epochs : List Epoch) (refresh tick row times : ℕ) (instants : List Instant) : Type 0 where
  pub good : AreGood epochs refresh instants
  pub top : All (λ (y : Instant). y.tick ≤ tick + times * refresh) instants
  pub some : 0 < length instants
  pub row_is : (d : Instant) → (get_or instants (length instants - 1) d).row ≡ row

grown_more : {epochs : List Epoch} {refresh tick row times : ℕ} (xs : List Instant) → 1 ≤ refresh
    → Grown epochs refresh tick row times xs →
    IsInstant epochs refresh (tick + (times + 1) * refresh)
    → is_named epochs (tick + (times + 1) * refresh) ≡ false →
    Grown epochs refresh tick row (times + 1) (xs ++ refresh_at tick row refresh (times + 1) ∷ [])
grown_more {epochs} {refresh} {tick} {row} {times} xs often grown instant unnamed =
    let x = refresh_at tick row refresh (times + 1) in
    let long = length_push xs x in
    let later : tick + times * refresh < tick + (times + 1) * refresh = grind arith in
    record {
      good = AreGood-push xs x grown.good
          (All-weaker (λ (y : Instant). y.tick ≤ tick + times * refresh)
          (λ (y : Instant). y.tick < tick + (times + 1) * refresh) (λ y low. omega arith) xs grown.top)
          instant (record { named = sym unnamed; row = λ named. cc })
          (λ none. absurd (let some = grown.some in omega arith)) (λ d some named. sym (grown.row_is d));
      top = All-push (λ (y : Instant). y.tick ≤ tick + (times + 1) * refresh) xs x
          (All-weaker (λ (y : Instant). y.tick ≤ tick + times * refresh)
          (λ (y : Instant). y.tick ≤ tick + (times + 1) * refresh) (λ y low. omega arith) xs grown.top)
          (omega arith);
      some = omega arith;
      row_is = λ d. ap (λ (y : Instant). y.row) (get_or_push xs x d (length (xs ++ x ∷ []) - 1) (omega arith));
    }

pub grown_all : {epochs : List Epoch} {refresh tick row : ℕ} (n : ℕ) (xs : List Instant) → 1 ≤ refresh
    → Grown epochs refresh tick row 0 xs →
    ((times : ℕ) → 1 ≤ times → times ≤ n → IsInstant epochs refresh (tick + times * refresh)
    × (is_named epochs (tick + times * refresh) ≡ false)) →
    Grown epochs refresh tick row n (xs ++ map (refresh_at tick row refresh) (range_with_len 1 n))
grown_all {epochs} {refresh} {tick} {row} zero xs often grown each =
    subst (Grown epochs refresh tick row 0) (sym (append-nil xs)) grown
grown_all {epochs} {refresh} {tick} {row} (suc n) xs often grown each =
    let more : suc n ≡ n + 1 = omega arith in
    let before = grown_all n xs often grown (λ times some few. each times some (omega arith)) in
    let last = each (n + 1) (omega arith) (omega arith) in
    let Here : ℕ → Type 0 =
    λ k. Grown epochs refresh tick row k (xs ++ map (refresh_at tick row refresh) (range_with_len 1 k)) in
    subst Here (sym more)
    (subst (Grown epochs refresh tick row (n + 1))
    (refreshes_more (refresh_at tick row refresh) n xs
    (xs ++ map (refresh_at tick row refresh) (range_with_len 1 n))
    ((xs ++ map (refresh_at tick row refresh) (range_with_len 1 n)) ++ refresh_at tick row refresh (n + 1) ∷ [])
    refl refl)
    (grown_more (xs ++ map (refresh_at tick row refresh) (range_with_len 1 n)) often before last.0 last.1))

-- ---- named ticks in order

abbrev pub ticks_of_events : List Event → List ℕ
ticks_of_events least_events = map (λ (e : Event). e.tick) least_events

-- the tick at a place
abbrev pub tick_at : List Event → ℕ → ℕ
tick_at least_events k = get_or (ticks_of_events least_events) k 0

not_below : (xs : List ℕ) (i j : ℕ) → IsStrictlyIncreasing xs → (i < j) ⊎ (i ≡ j) → j < length xs
    → get_or xs i 0 ≤ get_or xs j 0
not_below xs i j rise (inl h) short = let less = AllPairs-from_increasing xs rise i j 0 h short in omega arith
not_below xs i j rise (inr e) short = let same = ap (λ (k : ℕ). get_or xs k 0) e in omega arith

pub in_order : (xs : List ℕ) (i j : ℕ) → IsStrictlyIncreasing xs → i ≤ j → j < length xs
    → get_or xs i 0 ≤ get_or xs j 0
in_order xs i j rise h short = not_below xs i j rise (grind arith) short

pub named_there : (epochs : List Epoch) (least_events : List Event) → AreLeastEvents epochs least_events
    → (k : ℕ) → k < length least_events → Contains (named_ticks epochs) (tick_at least_events k)
named_there epochs least_events are k h =
    let m = get_or least_events k (event 0 0) in
    let found =
    contains_mapped (λ (e : Event). e.tick) (flat_map events_of epochs) (event m.tick m.row)
    (are.rows k (event 0 0) h).among in
    let Named : ℕ → Type 0 = λ t. Contains (named_ticks epochs) t in
    subst Named (sym (get_or-map (λ (e : Event). e.tick) least_events k (event 0 0) 0 h))
    (subst (λ xs. Contains xs m.tick) (event_ticks epochs) found)

beside : (xs : List ℕ) (k m t : ℕ) → IsStrictlyIncreasing xs → k + 1 < length xs → m < length xs
    → get_or xs m t ≡ t → (m ≤ k) ⊎ (k + 1 ≤ m) → (t ≤ get_or xs k 0) ⊎ (get_or xs (k + 1) 0 ≤ t)
beside xs k m t rise h short e (inl low) =
    inl (let same = get_or_default xs m t 0 short in let less = in_order xs m k rise low (omega arith) in omega arith)
beside xs k m t rise h short e (inr high) =
    inr (let same = get_or_default xs m t 0 short in let less = in_order xs (k + 1) m rise high short in omega arith)

beside_named : (xs : List ℕ) (k t : ℕ) → IsStrictlyIncreasing xs → k + 1 < length xs → Contains xs t
    → (t ≤ get_or xs k 0) ⊎ (get_or xs (k + 1) 0 ≤ t)
beside_named xs k t rise h (m, short, e) = beside xs k m t rise h short e (grind arith)

pub neighbours_at : (epochs : List Epoch) (least_events : List Event) → AreLeastEvents epochs least_events
    → (k : ℕ) → k + 1 < length least_events →
    AreNeighbours (named_ticks epochs) (tick_at least_events k) (tick_at least_events (k + 1))
neighbours_at epochs least_events are k h =
    let long = length-map least_events (λ (e : Event). e.tick) in
    let short : k + 1 < length (ticks_of_events least_events) = omega arith in
    record {
      has_first = named_there epochs least_events are k (omega arith);
      has_second = named_there epochs least_events are (k + 1) h;
      order = are.rise k short;
      between = λ j d inside.
          beside_named (ticks_of_events least_events) k (get_or (named_ticks epochs) j d) are.rise short
          (are.all (get_or (named_ticks epochs) j d) (Contains-get_or (named_ticks epochs) j d inside));
    }

outside : (first second t : ℕ) → first < t → t < second → (t ≤ first) ⊎ (second ≤ t) → ⊥
outside first second t low high (inl h) = omega arith
outside first second t low high (inr h) = omega arith

pub unnamed_between : (epochs : List Epoch) (first second t : ℕ) → AreNeighbours (named_ticks epochs) first second
    → first < t → t < second → is_named epochs t ≡ false
unnamed_between epochs first second t near low high =
    is_named-no epochs t
    (λ named. outside first second t low high
    (All-contains (λ (tick : ℕ). (tick ≤ first) ⊎ (second ≤ tick)) (named_ticks epochs) t near.between
    named))

-- ---- all instants

-- the instants up to one of the named ticks
pub record AreRecordedInstantsUpTo (epochs : List Epoch) (refresh : ℕ) (least_events : List Event) (count : ℕ)
    (instants : List Instant) : Type 0 where
  pub good : AreGood epochs refresh instants
  pub below : (k : ℕ) → count ≤ k → k < length least_events
      → All (λ (x : Instant). x.tick < tick_at least_events k) instants
  pub named : (k : ℕ) → k < count → Contains (instant_ticks instants) (tick_at least_events k)
  pub refreshed : (k times : ℕ) → k < count → k + 1 < length least_events
      → shows_cue epochs (tick_at least_events k) ≡ true → 1 ≤ times →
      tick_at least_events k + times * refresh + 3600 < tick_at least_events (k + 1)
      → Contains (instant_ticks instants) (tick_at least_events k + times * refresh)
  pub some : 1 ≤ count → 0 < length instants
  pub none : count ≡ 0 → length instants ≡ 0

pub AreRecordedInstantsUpTo-none : (epochs : List Epoch) (refresh : ℕ) (least_events : List Event)
    → AreRecordedInstantsUpTo epochs refresh least_events 0 []
AreRecordedInstantsUpTo-none epochs refresh least_events = record {
  good = record {
    rise = λ i j d h short. absurd (omega arith);
    instant = λ k d h. absurd (omega arith);
    each = λ k d h. absurd (omega arith);
    rows = λ k d h. absurd (omega arith);
    first = tt;
  };
  below = λ k h short j d inside. absurd (omega arith);
  named = λ k h. absurd (omega arith);
  refreshed = λ k times h short shown some room. absurd (omega arith);
  some = λ h. absurd (omega arith);
  none = λ h. refl;
}

-- the named tick itself
pub grown_first : (epochs : List Epoch) (refresh : ℕ) (least_events : List Event) (i : ℕ) (xs : List Instant)
    (m : Event) → AreLeastEvents epochs least_events → AreRecordedInstantsUpTo epochs refresh least_events i xs
    → i < length least_events →
    m ≡ get_or least_events i m
    → Grown epochs refresh (tick_at least_events i) m.row 0
    (xs ++ record { tick = m.tick; row = m.row; named = true } ∷ [])
grown_first epochs refresh least_events i xs m are before h r =
    let x : Instant = record { tick = m.tick; row = m.row; named = true } in
    let here : tick_at least_events i ≡ m.tick =
    get_or-map (λ (e : Event). e.tick) least_events i m 0 h ∙ ap (λ (e : Event). e.tick) (sym r) in
    let long = length_push xs x in
    let named = subst (λ (t : ℕ). Contains (named_ticks epochs) t) here (named_there epochs least_events are i h) in
    let low = before.below i (omega arith) h in
    let least = subst (λ (e : Event). IsLeastRow (flat_map events_of epochs) e.tick e.row) (sym r) (are.rows i m h) in
    record {
      good = AreGood-push xs x before.good
          (All-weaker (λ (y : Instant). y.tick < tick_at least_events i) (λ (y : Instant). y.tick < m.tick)
          (λ y less. omega arith) xs low)
          (inl named) (record { named = sym (is_named-yes epochs m.tick named); row = λ yes. least }) (λ none. refl)
          (λ d some unnamed. cc);
      top = All-push (λ (y : Instant). y.tick ≤ tick_at least_events i + 0 * refresh) xs x
          (All-weaker (λ (y : Instant). y.tick < tick_at least_events i)
          (λ (y : Instant). y.tick ≤ tick_at least_events i + 0 * refresh) (λ y less. omega arith) xs low)
          (omega arith);
      some = omega arith;
      row_is = λ d. ap (λ (y : Instant). y.row) (get_or_push xs x d (length (xs ++ x ∷ []) - 1) (omega arith));
    }

refresh_there : (tick row refresh n times : ℕ) → 1 ≤ times → times ≤ n
    → Contains (map (λ (x : Instant). x.tick) (map (refresh_at tick row refresh) (range_with_len 1 n)))
    (tick + times * refresh)
refresh_there tick row refresh n times some few =
    let at = get_or-range_with_len 1 n (times - 1) times (omega arith) in
    let long = length-range_with_len 1 n in
    contains_mapped (λ (x : Instant). x.tick) (map (refresh_at tick row refresh) (range_with_len 1 n))
    (refresh_at tick row refresh times)
    (contains_mapped (refresh_at tick row refresh) (range_with_len 1 n) times (times - 1, omega arith, omega arith))

left_part : (xs ys : List Instant) (t : ℕ) → Contains (instant_ticks xs) t → Contains (instant_ticks (xs ++ ys)) t
left_part xs ys t h =
    subst (λ zs. Contains zs t) (sym (map-append (λ (x : Instant). x.tick) xs ys))
    (Contains-append_left (instant_ticks xs) (instant_ticks ys) t h)

right_part : (xs ys : List Instant) (t : ℕ) → Contains (instant_ticks ys) t
    → Contains (instant_ticks (xs ++ ys)) t
right_part xs ys t h =
    subst (λ zs. Contains zs t) (sym (map-append (λ (x : Instant). x.tick) xs ys))
    (Contains-append_right (instant_ticks xs) (instant_ticks ys) t h)

top_below : (tick count refresh next : ℕ) → (count ≡ 0) ⊎ (1 ≤ count) → tick < next
    → (1 ≤ count → tick + count * refresh + 3600 < next) → tick + count * refresh < next
top_below tick count refresh next (inl none) less room =
    let P : ℕ → Type 0 = λ n. tick + n * refresh < next in subst P (sym none) (omega arith)
top_below tick count refresh next (inr some) less room = let inside = room some in omega arith

either_part : (xs zs : List Instant) (i k t : ℕ) → (k < i) ⊎ (k ≡ i)
    → (k < i → Contains (instant_ticks xs) t) → (k ≡ i → Contains (instant_ticks zs) t)
    → Contains (instant_ticks (xs ++ zs)) t
either_part xs zs i k t (inl h) earlier here = left_part xs zs t (earlier h)
either_part xs zs i k t (inr e) earlier here = right_part xs zs t (here e)

pub AreRecordedInstantsUpTo-more : (epochs : List Epoch) (refresh : ℕ) (least_events : List Event) (i : ℕ)
    (xs ys : List Instant) (m : Event) (count : ℕ) → 1 ≤ refresh → AreLeastEvents epochs least_events →
    AreRecordedInstantsUpTo epochs refresh least_events i xs → i < length least_events
    → m ≡ get_or least_events i m →
    ys ≡ (xs ++ record { tick = m.tick; row = m.row; named = true } ∷ [])
    ++ map (refresh_at m.tick m.row refresh) (range_with_len 1 count) →
    (1 ≤ count → (i + 1 < length least_events) × (shows_cue epochs m.tick ≡ true)
    × (m.tick + count * refresh + 3600 < tick_at least_events (i + 1))) →
    (i + 1 < length least_events → shows_cue epochs m.tick ≡ true → (times : ℕ) → 1 ≤ times
    → m.tick + times * refresh + 3600 < tick_at least_events (i + 1) → times ≤ count) →
    AreRecordedInstantsUpTo epochs refresh least_events (i + 1) ys
AreRecordedInstantsUpTo-more epochs refresh least_events i xs ys m count often are before h r is room complete =
    let x : Instant = record { tick = m.tick; row = m.row; named = true } in
    let front : List Instant = xs ++ x ∷ [] in
    let zs = map (refresh_at m.tick m.row refresh) (range_with_len 1 count) in
    let here : tick_at least_events i ≡ m.tick =
    get_or-map (λ (e : Event). e.tick) least_events i m 0 h ∙ ap (λ (e : Event). e.tick) (sym r) in
    let long = length-map least_events (λ (e : Event). e.tick) in
    let start =
    subst (λ (t : ℕ). Grown epochs refresh t m.row 0 front) here
    (grown_first epochs refresh least_events i xs m are before h r) in
    let near : i + 1 < length least_events
    → AreNeighbours (named_ticks epochs) m.tick (tick_at least_events (i + 1)) = λ short. subst
    (λ (t : ℕ). AreNeighbours (named_ticks epochs) t (tick_at least_events (i + 1))) here
    (neighbours_at epochs least_events are i short) in
    let grown : Grown epochs refresh m.tick m.row count (front ++ zs) =
    grown_all count front often start (λ times some few.
    let inside = room (omega arith) in
    let least = mul-le-mul_right refresh some in
    let most = mul-le-mul_right refresh few in
    let neighbours = near inside.0 in (
      inr (record {
        last = m.tick;
        next = tick_at least_events (i + 1);
        times = times;
        neighbours = neighbours;
        shown = inside.1;
        some = some;
        after = refl;
        room = omega arith;
      }),
      unnamed_between epochs m.tick (tick_at least_events (i + 1)) (m.tick + times * refresh) neighbours (omega arith)
          (omega arith),
    )) in
    let all : AreRecordedInstantsUpTo epochs refresh least_events (i + 1) (front ++ zs) = record {
      good = grown.good;
      below = λ k low short.
          let order = (near (omega arith)).order in
          let later = in_order (ticks_of_events least_events) (i + 1) k are.rise low (omega arith) in
          let top =
          top_below m.tick count refresh (tick_at least_events (i + 1)) (grind arith) order (λ some. (room some).2)
          in
          All-weaker (λ (y : Instant). y.tick ≤ m.tick + count * refresh)
          (λ (y : Instant). y.tick < tick_at least_events k) (λ y low. omega arith) (front ++ zs) grown.top;
      named = λ k low.
          left_part front zs (tick_at least_events k)
          (either_part xs (x ∷ []) i k (tick_at least_events k) (grind arith) (before.named k)
          (λ same. (0, omega arith, let e = ap (λ (j : ℕ). tick_at least_events j) same in omega arith)));
      refreshed = λ k times low short shown some inside.
          either_part front zs i k (tick_at least_events k + times * refresh) (grind arith)
          (λ earlier. left_part xs (x ∷ []) (tick_at least_events k + times * refresh)
          (before.refreshed k times earlier short shown some inside))
          (λ same.
          let Here : ℕ → Type 0 = λ (t : ℕ). Contains (instant_ticks zs) (t + times * refresh) in
          let at : tick_at least_events k ≡ m.tick = ap (λ (j : ℕ). tick_at least_events j) same ∙ here in
          let next = ap (λ (j : ℕ). tick_at least_events (j + 1)) same in
          subst Here (sym at) (refresh_there m.tick m.row refresh count times some
          (complete (omega arith) (subst (λ (t : ℕ). shows_cue epochs t ≡ true) at shown) times some
          (omega arith))));
      some = λ h. grown.some;
      none = λ h. absurd (omega arith);
    } in
    subst (AreRecordedInstantsUpTo epochs refresh least_events (i + 1)) (sym is) all
