-- Lifted times: a time from the anchor to the anchor and 2 to the 33, less 1, is lifted from its remainder by the
-- anchor, and a later one by the one before, where it is less than 2 to the 32 ahead.
use Rattle.std.proofs.Common.{◌≡◌, ◌∙◌, ℕ, ◌+◌, ◌-◌, ◌%◌, ◌<◌, ◌≤◌, true, Some, None, ap, arith}
use Rattle.std.specs.Bool.{if◌then◌else◌}
use Rattle.std.specs.Prelude.{nat_le, nat_lt, ◌&&◌}
use Rattle.std.proofs.lemmas.Bool.Decides.{nat_tests}
use Rattle.decoder_model.specs.Kept.{ahead_of, lift_by, lifted_behind}
use Rattle.stream_syntax.specs.declared.wire.TheConstants.{TIME_ROUND, HALF_ROUND, TICK_LIMIT}

-- a time is as far ahead of a number, as they differ by
pub ahead_by : (from time : ℕ) → from ≤ time → time < from + TIME_ROUND
    → ahead_of from (time % TIME_ROUND) ≡ time - from
ahead_by from time later near = omega arith

-- the first set of all
pub lifted_first : (anchor time : ℕ) → anchor ≤ time → time < anchor + TIME_ROUND
    → lifted_behind anchor None (time % TIME_ROUND) ≡ Some time
lifted_first anchor time later near =
    ap Some (ap (λ ticks. anchor + ticks) (ahead_by anchor time later near) ∙ omega arith)

kept_by : (last ticks : ℕ) → 1 ≤ ticks → ticks < HALF_ROUND → last + ticks < TICK_LIMIT
    → lift_by last ticks ≡ Some (last + ticks)
kept_by last ticks some few low =
    let passes : (nat_le 1 ticks && (nat_lt ticks HALF_ROUND && nat_lt (last + ticks) TICK_LIMIT)) ≡ true =
    grind (arith, nat_tests) in
    ap (λ kept. if kept then Some (last + ticks) else None) passes

-- a set behind others
pub lifted_next : (anchor last time : ℕ) → last < time → time < last + HALF_ROUND → time < TICK_LIMIT
    → lifted_behind anchor (Some last) (time % TIME_ROUND) ≡ Some time
lifted_next anchor last time later near low =
    ap (lift_by last) (ahead_by last time (omega arith) (omega arith))
    ∙ kept_by last (time - last) (omega arith) (omega arith) (omega arith) ∙ ap Some (omega arith)

-- the first lifted time is the least number from the anchor on that has this remainder
pub lifted_is_least : (anchor time other : ℕ) → time < TIME_ROUND → anchor ≤ other
    → other % TIME_ROUND ≡ time → anchor + ahead_of anchor time ≤ other
lifted_is_least anchor time other round from same = omega arith

pub lifted_has_remainder : (anchor time : ℕ) → time < TIME_ROUND
    → (anchor + ahead_of anchor time) % TIME_ROUND ≡ time
lifted_has_remainder anchor time round = omega arith
