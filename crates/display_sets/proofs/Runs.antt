-- What one unit more adds to the runs and to the sets, by the last run.
use Rattle.std.proofs.Common.{◌≡◌, ◌∙◌, ℕ, Bool, true, false, ◌||◌, ◌==◌, cond, List, [], ◌∷◌, ◌++◌, refl, sym, ap, arith}
use Rattle.std.specs.Bool.{if◌then◌else◌}
use Rattle.std.specs.List.{AllByRecursion, list_any}
use Rattle.std.proofs.lemmas.Bool.Decides.{nat_tests}
use Rattle.std.proofs.lemmas.Bool.{eq-eqb}
use Rattle.decoder_model.specs.Arrivals.{PesUnit, Arrival, loss, refused_unit, aside, unit}
use Rattle.decoder_model.specs.PacketArrivals.{of_time}
use Rattle.decoder_model.specs.Sets.{Stretch, loss_between, run, runs_of, joined_to}

-- ---- times

same_times : (a b c : ℕ) → (a == b) ≡ true → (b == c) ≡ true → (a == c) ≡ true
same_times a b c e f = grind (arith, nat_tests)

other_times : (a b c : ℕ) → (a == b) ≡ true → (b == c) ≡ false → (a == c) ≡ false
other_times a b c e f = grind (arith, nat_tests)

-- all units have that time
abbrev pub HaveTime : ℕ → List PesUnit → Type 0
HaveTime time units = AllByRecursion (λ (one : PesUnit). one.time ≡ time) units

pub all_of_time : (own time : ℕ) (units : List PesUnit) → HaveTime own units → (own == time) ≡ true
    → of_time time units ≡ units
all_of_time own time [] h e = refl
all_of_time own time (one ∷ units) h e =
    let same : (one.time == time) ≡ true = same_times one.time own time (eq-eqb one.time own h.0) e in
    ap (λ b. cond b (one ∷ of_time time units) (of_time time units)) same
    ∙ ap (λ rest. one ∷ rest) (all_of_time own time units h.1 e)

pub none_of_time : (own time : ℕ) (units : List PesUnit) → HaveTime own units → (own == time) ≡ false
    → of_time time units ≡ []
none_of_time own time [] h e = refl
none_of_time own time (one ∷ units) h e =
    let other : (one.time == time) ≡ false = other_times one.time own time (eq-eqb one.time own h.0) e in
    ap (λ b. cond b (one ∷ of_time time units) (of_time time units)) other ∙ none_of_time own time units h.1 e

abbrev pub has_time : ℕ → List PesUnit → Bool
has_time time units = list_any (λ (other : PesUnit). other.time == time) units

pub none_has_time : (own time : ℕ) (units : List PesUnit) → HaveTime own units → (own == time) ≡ false
    → has_time time units ≡ false
none_has_time own time [] h e = refl
none_has_time own time (one ∷ units) h e =
    let other : (one.time == time) ≡ false = other_times one.time own time (eq-eqb one.time own h.0) e in
    ap (λ b. b || has_time time units) other ∙ none_has_time own time units h.1 e

-- ---- the runs

-- the runs with one unit more: it begins them, has the time of the last run, or begins a run behind it
pub data Extends (one : PesUnit) : List Stretch → List Stretch → Type 0 where
  begins : Extends one [] (run one [] ∷ [])
  same_run : {first : PesUnit} {units : List PesUnit} → (first.time == one.time) ≡ true
      → Extends one (run first units ∷ []) (run first (units ++ one ∷ []) ∷ [])
  other_run : {first : PesUnit} {units : List PesUnit} → (first.time == one.time) ≡ false
      → Extends one (run first units ∷ []) (run first units ∷ run one [] ∷ [])
  behind_loss : {some all : List Stretch} → Extends one some all
      → Extends one (loss_between ∷ some) (loss_between ∷ all)
  behind_run : {first : PesUnit} {units : List PesUnit} {next : Stretch} {some all : List Stretch}
      → Extends one (next ∷ some) all → Extends one (run first units ∷ next ∷ some) (run first units ∷ all)

joined_extends : (one ahead : PesUnit) (some all : List Stretch) → Extends one some all
    → Extends one (joined_to ahead some) (joined_to ahead all)
joined_extends one ahead some all (begins) = by (ahead.time == one.time) refl
  where
    by : (same : Bool) → (ahead.time == one.time) ≡ same
        → Extends one (run ahead [] ∷ [])
        (if same then run ahead (one ∷ []) ∷ [] else run ahead [] ∷ run one [] ∷ [])
    by true e = same_run e
    by false e = other_run e
joined_extends one ahead some all (same_run {first = first} {units = units} e) = by (ahead.time == first.time) refl
  where
    by : (same : Bool) → (ahead.time == first.time) ≡ same
        → Extends one (if same then run ahead (first ∷ units) ∷ [] else run ahead [] ∷ run first units ∷ [])
        (if same then run ahead (first ∷ (units ++ one ∷ [])) ∷ []
        else run ahead [] ∷ run first (units ++ one ∷ []) ∷ [])
    by true f = same_run (same_times ahead.time first.time one.time f e)
    by false f = behind_run (same_run e)
joined_extends one ahead some all (other_run {first = first} {units = units} e) = by (ahead.time == first.time) refl
  where
    by : (same : Bool) → (ahead.time == first.time) ≡ same
        → Extends one (if same then run ahead (first ∷ units) ∷ [] else run ahead [] ∷ run first units ∷ [])
        (if same then run ahead (first ∷ units) ∷ run one [] ∷ []
        else run ahead [] ∷ run first units ∷ run one [] ∷ [])
    by true f = other_run (other_times ahead.time first.time one.time f e)
    by false f = behind_run (other_run e)
joined_extends one ahead some all (behind_loss more) = behind_run (behind_loss more)
joined_extends one ahead some all
    (behind_run {first = first} {units = units} {next = next} {some = behind} {all = rest} more) = by
    (ahead.time == first.time)
  where
    by : (same : Bool)
        → Extends one
        (if same then run ahead (first ∷ units) ∷ next ∷ behind
        else run ahead [] ∷ run first units ∷ next ∷ behind)
        (if same then run ahead (first ∷ units) ∷ rest else run ahead [] ∷ run first units ∷ rest)
    by true = behind_run more
    by false = behind_run (behind_run more)

pub unit_extends : (arrivals : List Arrival) (one : PesUnit)
    → Extends one (runs_of arrivals) (runs_of (arrivals ++ unit one ∷ []))
unit_extends [] one = begins
unit_extends (loss ∷ arrivals) one = behind_loss (unit_extends arrivals one)
unit_extends (refused_unit ∷ arrivals) one = behind_loss (unit_extends arrivals one)
unit_extends (aside ∷ arrivals) one = unit_extends arrivals one
unit_extends (unit ahead ∷ arrivals) one =
    joined_extends one ahead (runs_of arrivals) (runs_of (arrivals ++ unit one ∷ [])) (unit_extends arrivals one)

-- ---- the last run

-- the units of the last run where it ends the stretches, and none behind a loss; those in hand where there are no
-- stretches
abbrev pub last_of : List PesUnit → List Stretch → List PesUnit
last_of hand [] = hand
last_of hand (loss_between ∷ rest) = last_of [] rest
last_of hand (run first units ∷ rest) = last_of (first ∷ units) rest

-- units are in hand only where stretches follow
abbrev pub IsStart : List PesUnit → List Stretch → Type 0
IsStart hand stretches = stretches ≡ [] → hand ≡ []

-- all units have the time of the first
abbrev pub AreAlike : List PesUnit → Type 0
AreAlike [] = Unit {0}
AreAlike (first ∷ units) = HaveTime first.time units

pub some_follow : (hand : List PesUnit) (next : Stretch) (rest : List Stretch) → IsStart hand (next ∷ rest)
some_follow hand next rest = λ e. absurd (cc)

pub last_extends : (one : PesUnit) (hand : List PesUnit) (some all : List Stretch) → Extends one some all
    → IsStart hand some → AreAlike (last_of hand some)
    → last_of hand all ≡ of_time one.time (last_of hand some) ++ one ∷ []
last_extends one hand some all (begins) start alike =
    sym (ap (λ units. of_time one.time units ++ one ∷ []) (start refl))
last_extends one hand some all (same_run {first = first} {units = units} e) start alike =
    ap (λ units. units ++ one ∷ []) (sym (all_of_time first.time one.time (first ∷ units) (refl, alike) e))
last_extends one hand some all (other_run {first = first} {units = units} e) start alike =
    ap (λ units. units ++ one ∷ []) (sym (none_of_time first.time one.time (first ∷ units) (refl, alike) e))
last_extends one hand some all (behind_loss {some = behind} {all = rest} more) start alike = last_extends one [] behind
    rest more (λ e. refl) alike
last_extends one hand some all
    (behind_run {first = first} {units = units} {next = next} {some = behind} {all = rest} more) start alike =
    last_extends one (first ∷ units) (next ∷ behind) rest more (some_follow (first ∷ units) next behind) alike

pub last_of-loss : (hand : List PesUnit) (stretches : List Stretch)
    → last_of hand (stretches ++ loss_between ∷ []) ≡ []
last_of-loss hand [] = refl
last_of-loss hand (loss_between ∷ rest) = last_of-loss [] rest
last_of-loss hand (run first units ∷ rest) = last_of-loss (first ∷ units) rest
