-- The runs of units of a stream of which some packets are lost, and what is handed of a set of which a unit is missing.
use Rattle.std.proofs.Common.{◌≡◌, ◌∙◌, ℕ, zero, suc, ◌+◌, ◌<◌, ◌≤◌, ◌⊎◌, inl, inr, Bool, true, false, eqb, List, [], ◌∷◌, ◌++◌, length, map, take, drop, replicate, refl, sym, ap, subst, arith}
use Rattle.std.specs.Bool.{if◌then◌else◌}
use Rattle.std.specs.List.{AllByRecursion, AllZip, list_all, list_any}
use Rattle.decoder_model.specs.declared.pages.Pages.{Pages}
use Rattle.decoder_model.specs.Arrivals.{PesUnit, Arrival, loss}
use Rattle.decoder_model.specs.Sets.{Stretch, loss_between, run, runs_of, joined_to, Delivery, lost, sets_in}
use Rattle.shown_stream.proofs.Lost.LostKinds.{Kind, Fresh, Joined, Apart, Steps, more_steps, missed_from, losses, Arrive, none_arrive, one_arrives, one_missed, lost_before}
use Rattle.sent_sets.proofs.LateSets.{rest_of_set}
use Rattle.sent_sets.proofs.Runs.{IsApart, IsPlaced, first_time, same_time}
use Rattle.sent_sets.proofs.SetEnds.{delivered}
use Rattle.sent_sets.proofs.Units.{SetUnit, TimedSet, TimedUnit, timed, timed_units, unit_of}

-- ---- steps

pub missed_step : (kind next : Kind) (n : ℕ) → Steps (missed_from kind) n next → Steps kind n next
missed_step Fresh next n h = h
missed_step Joined Fresh n h = absurd h
missed_step Joined Joined n h = tt
missed_step Joined Apart n h = tt
missed_step Apart next n h = h

-- behind missing pieces, what holds of a unit that is missed
apart_step : (kind next : Kind) (n : ℕ) → Steps Apart n next → Steps (missed_from kind) n next
apart_step Fresh Fresh n h = absurd h
apart_step Fresh Joined n h = tt
apart_step Fresh Apart n h = tt
apart_step Joined next n h = h
apart_step Apart next n h = h

-- how many losses stand before what comes
abbrev pub count_before : Kind → ℕ
count_before Fresh = 0
count_before Joined = 0
count_before Apart = 1

pub join_step : (kind : Kind) → Steps kind (count_before kind) Joined
join_step Fresh = tt
join_step Joined = tt
join_step Apart = omega arith

-- ---- losses

abbrev pub losts : ℕ → List (Delivery (List ℕ))
losts n = replicate n lost

pub losts-add : (n k : ℕ) (rest : List (Delivery (List ℕ)))
    → losts n ++ (losts k ++ rest) ≡ losts (n + k) ++ rest
losts-add zero k rest = let same : k ≡ 0 + k = omega arith in ap (λ count. losts count ++ rest) same
losts-add (suc n) k rest =
    let same : suc (n + k) ≡ suc n + k = omega arith in ap (λ all. lost ∷ all) (losts-add n k rest)
    ∙ ap (λ count. losts count ++ rest) same

pub lose_first : (coded n : ℕ) (arrivals : List Arrival)
    → sets_in coded true (runs_of (losses n ++ arrivals)) ≡ losts n ++ sets_in coded true (runs_of arrivals)
lose_first coded zero arrivals = refl
lose_first coded (suc n) arrivals = ap (λ rest. lost ∷ rest) (lose_first coded n arrivals)

pub before_is : (kind : Kind) (arrivals : List Arrival)
    → lost_before kind ++ arrivals ≡ losses (count_before kind) ++ arrivals
before_is Fresh arrivals = refl
before_is Joined arrivals = refl
before_is Apart arrivals = refl

-- ---- what stands behind missing pieces

-- none of these comes
abbrev pub AllFalse : List Bool → Type 0
AllFalse come = AllByRecursion (λ b. b ≡ false) come

-- behind missing pieces a loss comes first, or nothing
pub gap_led : {units : List TimedUnit} (come : List Bool) (arrivals : List Arrival) → Arrive Apart units come arrivals
    → ((arrivals ≡ []) × AllFalse come) ⊎ ((rest : List Arrival) × (arrivals ≡ loss ∷ rest))
gap_led [] arrivals (none_arrive) = inl (refl, tt)
gap_led (true ∷ come) arrivals (one_arrives place rest) = inr (_, refl)
gap_led (false ∷ come) arrivals (one_missed {next = Fresh} count steps rest) = absurd steps
gap_led (false ∷ come) arrivals (one_missed {next = Joined} zero steps rest) = absurd (omega (arith, steps))
gap_led (false ∷ come) arrivals (one_missed {next = Joined} (suc count) steps rest) = inr (_, refl)
gap_led (false ∷ come) arrivals (one_missed {next = Apart} {arrivals = left} zero steps rest) = by
    (gap_led come left rest)
  where
    by : ((left ≡ []) × AllFalse come) ⊎ ((rest : List Arrival) × (left ≡ loss ∷ rest))
        → ((left ≡ []) × AllFalse (false ∷ come)) ⊎ ((rest : List Arrival) × (left ≡ loss ∷ rest))
    by (inl none) = inl (none.0, (refl, none.1))
    by (inr some) = inr some
gap_led (false ∷ come) arrivals (one_missed {next = Apart} (suc count) steps rest) = inr (_, refl)

-- ---- what is handed of a set of which a unit is missing

-- later units of a set, which come with its end
abbrev pub IsMiddle : Kind → TimedSet → List TimedSet → Type 0
IsMiddle next set [] = Unit {0}
IsMiddle next set (one ∷ []) =
    (k : ℕ) × (next ≡ Joined) × (1 ≤ k) × (k < length set.units) × (one ≡ rest_of_set k set)
IsMiddle next set (one ∷ two ∷ more) = ⊥

-- units of a set without its end
abbrev pub part_of_set : ℕ → ℕ → TimedSet → TimedSet
part_of_set k p set = record { time = set.time; units = take p (drop k set.units) }

-- all of the first so many come, and some of them do
abbrev pub all_come : ℕ → List Bool → Bool
all_come n come = list_all (λ b. b) (take n come)

abbrev pub some_come : ℕ → List Bool → Bool
some_come n come = list_any (λ b. b) (take n come)

-- where nothing arrives of units behind missing pieces, nothing does of the later ones
pub none_left : (units more : List TimedUnit) (come : List Bool) (arrivals : List Arrival)
    → Arrive Apart (units ++ more) come arrivals → arrivals ≡ []
    → Arrive Apart more (drop (length units) come) []
none_left [] more come arrivals arrive e = subst (Arrive Apart more come) e arrive
none_left (one ∷ units) more [] arrivals arrive e = elim arrive [ ]
none_left (one ∷ units) more (true ∷ come) arrivals (one_arrives place rest) e = absurd (omega (arith, ap length e))
none_left (one ∷ units) more (false ∷ come) arrivals (one_missed {next = Fresh} count steps rest) e = absurd steps
none_left (one ∷ units) more (false ∷ come) arrivals (one_missed {next = Joined} zero steps rest) e = absurd
    (omega (arith, steps))
none_left (one ∷ units) more (false ∷ come) arrivals (one_missed {next = Joined} (suc count) steps rest) e = absurd
    (omega (arith, ap length e))
none_left (one ∷ units) more (false ∷ come) arrivals (one_missed {next = Apart} {arrivals = left} zero steps rest)
    e = none_left units more come left rest e
none_left (one ∷ units) more (false ∷ come) arrivals (one_missed {next = Apart} (suc count) steps rest) e = absurd
    (omega (arith, ap length e))

module _ (coded : ℕ) (pages : Pages) where
  -- what is handed of the sets behind one
  pub record Bound (kind : Kind) (sets : List TimedSet) (come : List Bool)
      (left : List (Delivery (List ℕ))) : Type 0 where
    pub arrivals : List Arrival
    pub arrive : Arrive kind (timed_units sets) come arrivals
    pub are : left ≡ sets_in coded true (runs_of arrivals)

  -- of a set that does not come whole so many losses are handed, and perhaps its later units; or, at the end of the
  -- stream, some of its units
  pub data MissedOut (kind : Kind) (set : TimedSet) (sets : List TimedSet) (come : List Bool)
      (deliveries : List (Delivery (List ℕ))) : Type 0 where
    goes_by : (next : Kind) (n : ℕ) (middle : List TimedSet) (left : List (Delivery (List ℕ)))
        → Steps kind n next → IsMiddle next set middle → Bound next sets come left
        → deliveries ≡ losts n ++ (map delivered middle ++ left) → MissedOut kind set sets come deliveries
    stays_open : (n k p : ℕ) → Arrive Apart (timed_units sets) come []
        → deliveries ≡ losts n ++ delivered (part_of_set k p set) ∷ [] → MissedOut kind set sets come deliveries

  pub lose_more : (kind first : Kind) (count : ℕ) (set : TimedSet) (sets : List TimedSet) (come : List Bool)
      (deliveries : List (Delivery (List ℕ))) → Steps kind count first
      → MissedOut first set sets come deliveries → MissedOut kind set sets come (losts count ++ deliveries)
  lose_more kind first count set sets come deliveries step (goes_by next n middle left steps is bound are) =
      goes_by next (count + n) middle left (more_steps kind first next count n step steps) is bound
      (ap (λ all. losts count ++ all) are ∙ losts-add count n (map delivered middle ++ left))
  lose_more kind first count set sets come deliveries step (stays_open n k p none are) =
      stays_open (count + n) k p none
      (ap (λ all. losts count ++ all) are ∙ losts-add count n (delivered (part_of_set k p set) ∷ []))

  pub from_apart : (kind : Kind) (set : TimedSet) (sets : List TimedSet) (come : List Bool)
      (deliveries : List (Delivery (List ℕ))) → MissedOut Apart set sets come deliveries
      → MissedOut (missed_from kind) set sets come deliveries
  from_apart kind set sets come deliveries (goes_by next n middle left steps is bound are) =
      goes_by next n middle left (apart_step kind next n steps) is bound are
  from_apart kind set sets come deliveries (stays_open n k p none are) = stays_open n k p none are

  pub weaken : (kind : Kind) (set : TimedSet) (sets : List TimedSet) (come : List Bool)
      (deliveries : List (Delivery (List ℕ))) → MissedOut (missed_from kind) set sets come deliveries
      → MissedOut kind set sets come deliveries
  weaken kind set sets come deliveries (goes_by next n middle left steps is bound are) =
      goes_by next n middle left (missed_step kind next n steps) is bound are
  weaken kind set sets come deliveries (stays_open n k p none are) = stays_open n k p none are

  -- ---- runs

  -- no run of this time leads
  abbrev pub IsOther : ℕ → List Stretch → Type 0
  IsOther time [] = Unit {0}
  IsOther time (loss_between ∷ rest) = Unit {0}
  IsOther time (run first more ∷ rest) = eqb time first.time ≡ false

  abbrev pub led_by : List PesUnit → List Stretch → List Stretch
  led_by [] behind = behind
  led_by (first ∷ more) behind = run first more ∷ behind

  pub joins : (place time : ℕ) (one : SetUnit) (found : List PesUnit) (units : List SetUnit) (behind : List Stretch)
      → AllZip (IsPlaced time) found units → IsOther time behind
      → joined_to (unit_of place time one) (led_by found behind) ≡ run (unit_of place time one) found ∷ behind
  joins place time one [] units [] placed other = refl
  joins place time one [] units (loss_between ∷ behind) placed other = refl
  joins place time one [] units (run first more ∷ behind) placed other =
      ap (λ same. if same then run (unit_of place time one) (first ∷ more) ∷ behind
      else run (unit_of place time one) [] ∷ run first more ∷ behind) other
  joins place time one (first ∷ more) units behind placed other =
      let same : eqb time first.time ≡ true =
      ap (eqb time) (first_time time first more units placed) ∙ same_time time in
      ap (λ same. if same then run (unit_of place time one) (first ∷ more) ∷ behind
      else run (unit_of place time one) [] ∷ run first more ∷ behind) same

  led_other : (time : ℕ) (one : PesUnit) (stretches : List Stretch) → eqb time one.time ≡ false
      → IsOther time (joined_to one stretches)
  led_other time one [] other = other
  led_other time one (loss_between ∷ rest) other = other
  led_other time one (run next more ∷ rest) other = by (eqb one.time next.time)
    where
      by : (same : Bool)
          → IsOther time (if same then run one (next ∷ more) ∷ rest else run one [] ∷ run next more ∷ rest)
      by true = other
      by false = other

  gap_other : (time : ℕ) (arrivals : List Arrival) (units : List TimedUnit) (come : List Bool)
      → Arrive Apart units come arrivals → IsOther time (runs_of arrivals)
  gap_other time arrivals units come arrive = by (gap_led come arrivals arrive)
    where
      by : ((arrivals ≡ []) × AllFalse come) ⊎ ((rest : List Arrival) × (arrivals ≡ loss ∷ rest))
          → IsOther time (runs_of arrivals)
      by (inl none) = subst (λ (all : List Arrival). IsOther time (runs_of all)) (sym none.0) tt
      by (inr some) = subst (λ (all : List Arrival). IsOther time (runs_of all)) (sym some.1) tt

  -- behind a set no run of its time leads
  pub next_other : (time : ℕ) (sets : List TimedSet) (come : List Bool) (arrivals : List Arrival)
      → IsApart time sets
      → AllByRecursion (λ (set : TimedSet). 1 ≤ length set.units) sets
      → Arrive Joined (timed_units sets) come arrivals → IsOther time (runs_of arrivals)
  next_other time [] come arrivals apart some arrive = by arrive
    where
      by : {come : List Bool} {arrivals : List Arrival} → Arrive Joined [] come arrivals
          → IsOther time (runs_of arrivals)
      by (none_arrive) = tt
  next_other time (next ∷ sets) come arrivals apart some arrive = by next.units some.0 arrive
    where
      by : (units : List SetUnit) {come : List Bool} {arrivals : List Arrival} → 1 ≤ length units
          → Arrive Joined (map (timed next.time) units ++ timed_units sets) come arrivals
          → IsOther time (runs_of arrivals)
      by [] some arrive = absurd (omega arith)
      by (one ∷ units) some (one_arrives {arrivals = left} place rest) = led_other time (unit_of place next.time one)
          (runs_of left) apart
      by (one ∷ units) some (one_missed {whole = come} {arrivals = left} count steps rest) =
          gap_other time (losses count ++ left)
          (timed next.time one ∷ (map (timed next.time) units ++ timed_units sets)) (false ∷ come)
          (one_missed {one = timed next.time one} count steps rest)

  -- ---- the units of a set in a row

  -- the units of a set that come in a row up to its end, or up to one that is missing
  pub data GroupEnds (set : TimedSet) (units : List SetUnit) (sets : List TimedSet) (come : List Bool)
      (found : List PesUnit) (behind : List Stretch) : Type 0 where
    group_all : all_come (length units) come ≡ true → AllZip (IsPlaced set.time) found units
        → Bound Joined sets (drop (length units) come) (sets_in coded true behind)
        → GroupEnds set units sets come found behind
    group_part : (p : ℕ) → p < length units → all_come (length units) come ≡ false
        → AllZip (IsPlaced set.time) found (take p units)
        → ((behind ≡ []) × Arrive Apart (timed_units sets) (drop (length units) come) [])
        ⊎ ((rest : List Stretch) × (behind ≡ loss_between ∷ rest))
        → MissedOut Apart set sets (drop (length units) come) (sets_in coded true behind)
        → GroupEnds set units sets come found behind

  pub record Group (set : TimedSet) (units : List SetUnit) (sets : List TimedSet) (come : List Bool)
      (stretches : List Stretch) : Type 0 where
    pub found : List PesUnit
    pub behind : List Stretch
    pub are : stretches ≡ led_by found behind
    pub other : IsOther set.time behind
    pub ends : GroupEnds set units sets come found behind

  -- what is known from a unit of a set on
  abbrev pub Suffix : TimedSet → List SetUnit → List TimedSet → List Bool → Type 0
  Suffix set units sets come =
      ((arrivals : List Arrival) → Arrive Joined (map (timed set.time) units ++ timed_units sets) come arrivals
      → Group set units sets come (runs_of arrivals))
      × ((kind : Kind) (arrivals : List Arrival)
      → Arrive kind (map (timed set.time) units ++ timed_units sets) come arrivals
      → MissedOut kind set sets (drop (length units) come) (sets_in coded true (runs_of arrivals)))
