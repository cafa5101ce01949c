-- A view at a tick stays as it is once a set with a later lifted time was kept, whatever comes behind it.
use Rattle.std.proofs.Common.{◌≡◌, ◌∙◌, ℕ, ◌+◌, ◌<◌, ◌≤◌, Bool, true, false, List, [], ◌∷◌, ◌++◌, Option, Some, None, refl, sym, ap, arith}
use Rattle.std.specs.Prelude.{nat_le, nat_lt, ◌&&◌, option_and_then}
use Rattle.std.specs.Bool.{if◌then◌else◌}
use Rattle.std.specs.Option.{option_or}
use Rattle.std.proofs.lemmas.Bool.Decides.{nat_tests}
use Rattle.sub_base.specs.declared.profile.Profile.{Profile}
use Rattle.decoder_model.specs.Kept.{ahead_of, lift_by, lifted_behind, time_of, lifted_after, lifted_time, last_time}
use Rattle.decoder_model.specs.Readings.{Reading}
use Rattle.decoder_model.specs.Sets.{Delivery}
use Rattle.decoder_model.specs.Shown.{view_at}
use Rattle.decoder_model.proofs.Views.{view_without, view_before}
use Rattle.stream_syntax.specs.declared.wire.TheConstants.{HALF_ROUND, TICK_LIMIT}

-- a kept set is later than those before it
pub lift_above : (last ticks at : ℕ) → lift_by last ticks ≡ Some at → last < at
lift_above last ticks at e = by (nat_le 1 ticks && (nat_lt ticks HALF_ROUND && nat_lt (last + ticks) TICK_LIMIT)) refl e
  where
    by : (kept : Bool) → (nat_le 1 ticks && (nat_lt ticks HALF_ROUND && nat_lt (last + ticks) TICK_LIMIT)) ≡ kept
        → (if kept then Some (last + ticks) else None) ≡ Some at → last < at
    by true passes is =
        let same : last + ticks ≡ at = cc in let some : 1 ≤ ticks = grind (arith, nat_tests) in omega arith
    by false passes is = absurd (cc)

above_last : (anchor last at : ℕ) (time : Option ℕ)
    → option_and_then (lifted_behind anchor (Some last)) time ≡ Some at → last < at
above_last anchor last at None e = absurd (cc)
above_last anchor last at (Some time) e = lift_above last (ahead_of last time) at e

-- the greatest lifted time is above a tick
pub record IsPast (anchor tick : ℕ) (past : List (Delivery Reading)) : Type 0 where
  pub last : ℕ
  pub is_last : last_time anchor past ≡ Some last
  pub early : tick < last

-- one more set or loss
one_later : (profile : Profile) (anchor tick : ℕ) (past : List (Delivery Reading)) (delivery : Delivery Reading)
    → IsPast anchor tick past
    → IsPast anchor tick (delivery ∷ past)
    × (view_at profile anchor tick (delivery ∷ past) ≡ view_at profile anchor tick past)
unfolding last_time
one_later profile anchor tick past delivery is = by (lifted_time anchor past delivery) refl
  where
    by : (lifted : Option ℕ) → lifted_time anchor past delivery ≡ lifted
        → IsPast anchor tick (delivery ∷ past)
        × (view_at profile anchor tick (delivery ∷ past) ≡ view_at profile anchor tick past)
    by None e = (
      record {
        last = is.last;
        is_last = ap (λ found. option_or found (last_time anchor past)) e
            ∙ is.is_last;
        early = is.early;
      },
      view_without profile anchor tick past delivery e,
    )
    by (Some at) e =
        let early = is.early in
        let above : is.last < at =
        above_last anchor is.last at (time_of delivery)
        (ap (λ last. lifted_after anchor last delivery) (sym is.is_last) ∙ e) in (
          record { last = at; is_last = ap (λ found. option_or found (last_time anchor past)) e; early = omega arith },
          view_before profile anchor tick at past delivery e (omega arith),
        )

-- and any more
pub view_stays : (profile : Profile) (anchor tick : ℕ) (more past : List (Delivery Reading))
    → IsPast anchor tick past
    → IsPast anchor tick (more ++ past)
    × (view_at profile anchor tick (more ++ past) ≡ view_at profile anchor tick past)
view_stays profile anchor tick [] past is = (is, refl)
view_stays profile anchor tick (delivery ∷ more) past is =
    let rest = view_stays profile anchor tick more past is in
    let one = one_later profile anchor tick (more ++ past) delivery rest.0 in
    (one.0, one.1 ∙ rest.1)
