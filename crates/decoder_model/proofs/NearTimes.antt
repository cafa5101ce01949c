-- The times at which sets are kept lie near one another, and a receiver that gets times that do so keeps the sets at
-- these times again, from any anchor that suits them. A list of times has the latest first.
use Rattle.std.proofs.Common.{◌≡◌, ◌∙◌, ℕ, ◌+◌, ◌-◌, ◌%◌, ◌<◌, ◌≤◌, Bool, true, false, List, [], ◌∷◌, ◌++◌, map, Option, Some, None, refl, sym, ap, arith}
use Rattle.std.specs.Prelude.{nat_le, nat_lt, ◌&&◌, option_and_then}
use Rattle.std.specs.Bool.{if◌then◌else◌}
use Rattle.std.specs.List.{AllByRecursion}
use Rattle.std.specs.Option.{option_or}
use Rattle.std.proofs.lemmas.Bool.Decides.{nat_tests}
use Rattle.stream_syntax.specs.declared.wire.TheConstants.{HALF_ROUND, TICK_LIMIT, TIME_ROUND}
use Rattle.decoder_model.specs.Kept.{ahead_of, lift_by, lifted_behind, time_of, lifted_after, lifted_time, last_time}
use Rattle.decoder_model.specs.Sets.{Delivery}
use Rattle.decoder_model.proofs.Lifts.{lifted_first, lifted_next}

-- ---- times

-- each time is later than the one before it, by less than half a round
abbrev pub IsNear : ℕ → ℕ → Type 0
IsNear last time = (last < time) × (time < last + HALF_ROUND)

abbrev pub AreNear : List ℕ → Type 0
AreNear [] = Unit {0}
AreNear (time ∷ []) = Unit {0}
AreNear (time ∷ last ∷ times) = IsNear last time × AreNear (last ∷ times)

pub near_rest : (time : ℕ) (times : List ℕ) → AreNear (time ∷ times) → AreNear times
near_rest time [] near = tt
near_rest time (last ∷ times) near = near.1

-- neighbours anywhere among them
pub near_at : (later : List ℕ) (time last : ℕ) (times : List ℕ) → AreNear (later ++ time ∷ last ∷ times)
    → IsNear last time
near_at [] time last times near = near.0
near_at (first ∷ later) time last times near =
    near_at later time last times (near_rest first (later ++ time ∷ last ∷ times) near)

-- the first time, which stands last, is the least
pub least_near : (later : List ℕ) (first : ℕ) → AreNear (later ++ first ∷ [])
    → AllByRecursion (λ time. first ≤ time) (later ++ first ∷ [])
least_near [] first near = (omega arith, tt)
least_near (time ∷ []) first near = let above = near.0.0 in (omega (arith, above), (omega arith, tt))
least_near (time ∷ next ∷ later) first near =
    let rest = least_near (next ∷ later) first near.1 in
    let above = near.0.0 in
    (omega (arith, above, rest.0), rest)

-- times behind others, of which the first is near to the last of those
pub near_joined : (later : List ℕ) (first last : ℕ) (times : List ℕ) → AreNear (later ++ first ∷ [])
    → AreNear (last ∷ times) → IsNear last first → AreNear ((later ++ first ∷ []) ++ last ∷ times)
near_joined [] first last times near before joint = (joint, before)
near_joined (time ∷ []) first last times near before joint = (near.0, (joint, before))
near_joined (time ∷ next ∷ later) first last times near before joint =
    (near.0, near_joined (next ∷ later) first last times near.1 before joint)

-- times that are moved stay near
pub near_moved : (begin to : ℕ) (times : List ℕ) → AllByRecursion (λ time. begin ≤ time) times → AreNear times
    → AreNear (map (λ time. time + to - begin) times)
near_moved begin to [] from near = tt
near_moved begin to (time ∷ []) from near = tt
near_moved begin to (time ∷ last ∷ times) from near =
    let above = near.0.0 in
    let close = near.0.1 in
    let one = from.0 in
    let two = from.1.0 in (
      (omega (arith, above, one, two), omega (arith, close, one, two)),
      near_moved begin to (last ∷ times) from.1 near.1,
    )

-- and near times differ as packets tell them, modulo 2 to the 33
pub near_apart : (last time : ℕ) → IsNear last time → last % TIME_ROUND ≡ time % TIME_ROUND → ⊥
near_apart last time near same =
    let above = near.0 in
    let close = near.1 in
    omega (arith, above, close, same)

-- ---- kept sets

-- these are all kept, each at its time
abbrev pub AreKeptAt : {S : Type 0} → ℕ → List (Delivery S) → List ℕ → Type 0
AreKeptAt anchor [] [] = Unit {0}
AreKeptAt anchor [] (time ∷ times) = ⊥
AreKeptAt anchor (set ∷ past) [] = ⊥
AreKeptAt anchor (set ∷ past) (time ∷ times) =
    (lifted_time anchor past set ≡ Some time) × AreKeptAt anchor past times

abbrev pub latest : List ℕ → Option ℕ
latest [] = None
latest (time ∷ times) = Some time

-- the greatest lifted time is the latest of them
pub last_kept : {S : Type 0} (anchor : ℕ) (past : List (Delivery S)) (times : List ℕ)
    → AreKeptAt anchor past times → last_time anchor past ≡ latest times
unfolding last_time
last_kept anchor [] [] kept = refl
last_kept anchor [] (time ∷ times) kept = absurd kept
last_kept anchor (set ∷ past) [] kept = absurd kept
last_kept anchor (set ∷ past) (time ∷ times) kept = ap (λ found. option_or found (last_time anchor past)) kept.0

lift_near : (last ticks at : ℕ) → lift_by last ticks ≡ Some at → IsNear last at
lift_near last ticks at e =
    by (nat_le 1 ticks && (nat_lt ticks HALF_ROUND && nat_lt (last + ticks) TICK_LIMIT)) refl e
  where
    by : (kept : Bool) → (nat_le 1 ticks && (nat_lt ticks HALF_ROUND && nat_lt (last + ticks) TICK_LIMIT)) ≡ kept
        → (if kept then Some (last + ticks) else None) ≡ Some at → IsNear last at
    by true passes is =
        let same : last + ticks ≡ at = cc in
        let some : 1 ≤ ticks = grind (arith, nat_tests) in
        let few : ticks < HALF_ROUND = grind (arith, nat_tests) in (omega arith, omega arith)
    by false passes is = absurd (cc)

pub behind_last : (anchor last at : ℕ) (time : Option ℕ)
    → option_and_then (lifted_behind anchor (Some last)) time ≡ Some at → IsNear last at
behind_last anchor last at None e = absurd (cc)
behind_last anchor last at (Some time) e = lift_near last (ahead_of last time) at e

-- times at which sets are kept are near
pub near_kept : {S : Type 0} (anchor : ℕ) (past : List (Delivery S)) (times : List ℕ)
    → AreKeptAt anchor past times → AreNear times
near_kept anchor [] [] kept = tt
near_kept anchor [] (time ∷ times) kept = absurd kept
near_kept anchor (set ∷ past) [] kept = absurd kept
near_kept anchor (set ∷ past) (time ∷ []) kept = tt
near_kept anchor (set ∷ []) (time ∷ last ∷ times) kept = absurd kept.1
near_kept anchor (set ∷ before ∷ past) (time ∷ last ∷ times) kept = (
  behind_last anchor last time (time_of set)
      (ap (λ found. lifted_after anchor found set) (sym (last_kept anchor (before ∷ past) (last ∷ times) kept.1))
      ∙ kept.0),
  near_kept anchor (before ∷ past) (last ∷ times) kept.1,
)

-- ---- kept again

-- a set is told with that time, modulo 2 to the 33
abbrev pub AreTold : {S : Type 0} → List (Delivery S) → List ℕ → Type 0
AreTold [] [] = Unit {0}
AreTold [] (time ∷ times) = ⊥
AreTold (set ∷ past) [] = ⊥
AreTold (set ∷ past) (time ∷ times) = (time_of set ≡ Some (time % TIME_ROUND)) × AreTold past times

-- the anchor suits a time: the time is from the anchor on, and less than 2 to the 33 ticks behind
abbrev pub IsWithinRound : ℕ → ℕ → Type 0
IsWithinRound anchor time = (anchor ≤ time) × (time < anchor + TIME_ROUND)

-- sets with near times are kept at these times, from an anchor that suits all of them
pub kept_again : {S : Type 0} (anchor : ℕ) (past : List (Delivery S)) (times : List ℕ) → AreTold past times
    → AreNear times → AllByRecursion (IsWithinRound anchor) times → anchor + TIME_ROUND ≤ TICK_LIMIT
    → AreKeptAt anchor past times
unfolding last_time
kept_again anchor [] [] told near suits low = tt
kept_again anchor [] (time ∷ times) told near suits low = absurd told
kept_again anchor (set ∷ past) [] told near suits low = absurd told
kept_again anchor (set ∷ []) (time ∷ []) told near suits low =
    (ap (option_and_then (lifted_behind anchor None)) told.0 ∙ lifted_first anchor time suits.0.0 suits.0.1, tt)
kept_again anchor (set ∷ before ∷ past) (time ∷ []) told near suits low = absurd told.1
kept_again anchor (set ∷ []) (time ∷ last ∷ times) told near suits low = absurd told.1
kept_again anchor (set ∷ before ∷ past) (time ∷ last ∷ times) told near suits low =
    let rest = kept_again anchor (before ∷ past) (last ∷ times) told.1 near.1 suits.1 low in
    let within = suits.0.1 in (
      ap (λ found. lifted_after anchor found set) (last_kept anchor (before ∷ past) (last ∷ times) rest)
          ∙ ap (option_and_then (lifted_behind anchor (Some last))) told.0
          ∙ lifted_next anchor last time near.0.0 near.0.1 (omega (arith, within, low)),
      rest,
    )
