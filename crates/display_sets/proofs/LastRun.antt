-- The last run of all that arrived, and what one arrival more adds.
use Rattle.std.proofs.Common.{◌≡◌, ◌∙◌, ℕ, Bool, true, false, ◌==◌, cond, List, [], ◌∷◌, ◌++◌, reverse, refl, sym, ap, subst}
use Rattle.std.proofs.lemmas.List.{reverse-append, reverse-reverse}
use Rattle.std.proofs.lemmas.Bool.{eqb-true}
use Rattle.decoder_model.specs.Arrivals.{PesUnit, Arrival, loss, refused_unit, aside, unit}
use Rattle.decoder_model.specs.PacketArrivals.{of_time, last_run}
use Rattle.decoder_model.specs.Sets.{runs_of, sets_in, lost}
use Rattle.decoder_model.proofs.OnePacket.{IsLossArrival, runs_loss, loss_adds, runs_aside}
use Rattle.decoder_model.proofs.Lists.{all-append}
use Rattle.display_sets.proofs.Runs.{HaveTime, unit_extends, last_of, AreAlike, last_extends, last_of-loss}
use Rattle.display_sets.proofs.RunSets.{added_by, sets_extend, open_set, sets_finish}

-- ---- units of one time

pub have_time : (time : ℕ) (units : List PesUnit) → HaveTime time (of_time time units)
have_time time [] = tt
have_time time (one ∷ units) = by (one.time == time) refl (have_time time units)
  where
    by : (b : Bool) → (one.time == time) ≡ b → HaveTime time (of_time time units)
        → HaveTime time (cond b (one ∷ of_time time units) (of_time time units))
    by true is rest = (eqb-true one.time time is, rest)
    by false is rest = rest

pub have_time_too : (time : ℕ) (units : List PesUnit) (one : PesUnit) → HaveTime time units → one.time ≡ time
    → HaveTime time (units ++ one ∷ [])
have_time_too time units one h is = all-append (λ (one : PesUnit). one.time ≡ time) units (one ∷ []) h (is, tt)

alike_by : (time : ℕ) (units : List PesUnit) → HaveTime time units → AreAlike units
alike_by time [] h = tt
alike_by time (first ∷ units) h = subst (λ (own : ℕ). HaveTime own units) (sym h.0) h.1

alike_run : (before : List Arrival) → AreAlike (last_run before)
alike_run [] = tt
alike_run (loss ∷ before) = tt
alike_run (refused_unit ∷ before) = tt
alike_run (aside ∷ before) = alike_run before
alike_run (unit one ∷ before) =
    alike_by one.time (of_time one.time (last_run before) ++ one ∷ [])
    (have_time_too one.time (of_time one.time (last_run before)) one (have_time one.time (last_run before)) refl)

-- ---- the last run

reverse-cons : (last : Arrival) (before : List Arrival) → reverse (last ∷ before) ≡ reverse before ++ last ∷ []
reverse-cons last before = reverse-append (last ∷ []) before

is_last : (before : List Arrival) → last_of [] (runs_of (reverse before)) ≡ last_run before
is_last [] = refl
is_last (loss ∷ before) =
    ap (λ all. last_of [] (runs_of all)) (reverse-cons loss before)
    ∙ ap (last_of []) (runs_loss (reverse before) loss tt) ∙ last_of-loss [] (runs_of (reverse before))
is_last (refused_unit ∷ before) =
    ap (λ all. last_of [] (runs_of all)) (reverse-cons refused_unit before)
    ∙ ap (last_of []) (runs_loss (reverse before) refused_unit tt) ∙ last_of-loss [] (runs_of (reverse before))
is_last (aside ∷ before) =
    ap (λ all. last_of [] (runs_of all)) (reverse-cons aside before)
    ∙ ap (last_of []) (runs_aside (reverse before)) ∙ is_last before
is_last (unit one ∷ before) =
    let there = is_last before in
    ap (λ all. last_of [] (runs_of all)) (reverse-cons (unit one) before)
    ∙ last_extends one [] (runs_of (reverse before)) (runs_of (reverse before ++ unit one ∷ []))
    (unit_extends (reverse before) one) (λ e. refl) (subst AreAlike (sym there) (alike_run before))
    ∙ ap (λ units. of_time one.time units ++ one ∷ []) there

pub last_run_is : (arrivals : List Arrival) → last_of [] (runs_of arrivals) ≡ last_run (reverse arrivals)
last_run_is arrivals =
    ap (λ all. last_of [] (runs_of all)) (sym (reverse-reverse arrivals)) ∙ is_last (reverse arrivals)

-- ---- one arrival more

pub latest_first : (arrivals : List Arrival) (last : Arrival)
    → reverse (arrivals ++ last ∷ []) ≡ last ∷ reverse arrivals
latest_first arrivals last = reverse-append arrivals (last ∷ [])

pub unit_adds : (coded : ℕ) (arrivals : List Arrival) (one : PesUnit)
    → sets_in coded false (runs_of (arrivals ++ unit one ∷ [])) ≡ sets_in coded false (runs_of arrivals)
    ++ added_by coded (last_run (reverse arrivals)) one
unit_adds coded arrivals one =
    let same = last_run_is arrivals in
    sets_extend coded one [] (runs_of arrivals) (runs_of (arrivals ++ unit one ∷ [])) (unit_extends arrivals one)
    (λ e. refl) (subst AreAlike (sym same) (alike_run (reverse arrivals)))
    ∙ ap (λ units. sets_in coded false (runs_of arrivals) ++ added_by coded units one) same

pub a_loss_adds : (coded : ℕ) (arrivals : List Arrival) (last : Arrival) → IsLossArrival last
    → sets_in coded false (runs_of (arrivals ++ last ∷ [])) ≡ sets_in coded false (runs_of arrivals) ++ lost
    ∷ []
a_loss_adds coded arrivals last h =
    ap (sets_in coded false) (runs_loss arrivals last h) ∙ loss_adds coded (runs_of arrivals)

pub aside_adds : (coded : ℕ) (arrivals : List Arrival)
    → sets_in coded false (runs_of (arrivals ++ aside ∷ [])) ≡ sets_in coded false (runs_of arrivals)
aside_adds coded arrivals = ap (sets_in coded false) (runs_aside arrivals)

pub end_adds : (coded : ℕ) (arrivals : List Arrival)
    → sets_in coded true (runs_of arrivals) ≡ sets_in coded false (runs_of arrivals)
    ++ open_set coded (last_run (reverse arrivals))
end_adds coded arrivals =
    sets_finish coded [] (runs_of arrivals) (λ e. refl)
    ∙ ap (λ units. sets_in coded false (runs_of arrivals) ++ open_set coded units) (last_run_is arrivals)
