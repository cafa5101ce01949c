-- The ticks of packets between two samples do not fall.
use Rattle.std.proofs.Common.{ℕ, ◌+◌, ◌-◌, ◌*◌, ◌<◌, ◌≤◌, inl, inr, arith, mul-le-mul_left, mul-le-mul_right}
use Rattle.std.proofs.Math.Nat.{le_of_mul-le-mul_right}
use Rattle.std.proofs.lemmas.Bool.{cases_lt}
use Rattle.std.proofs.lemmas.Grind.{div_ceil_times}
use Rattle.pcr_clock.specs.Arrivals.{div_up, spread_tick, tick_of_time}

-- a quotient that is rounded up is the least number of which so many times the divisor is no less
up_least : (a c q : ℕ) → 0 < c → a ≤ q * c → div_up a c ≤ q
up_least a c q some enough =
    let over : q < div_up a c → (1 + q) * c ≤ div_up a c * c = λ below. mul-le-mul_right c (omega (arith, below)) in
    elim (cases_lt q (div_up a c)) [
      | inl below ↦ absurd (omega (arith, enough, (div_ceil_times a c some).1, over below))
      | inr above ↦ above
    ]

pub spread_next : (before after since all : ℕ) → 0 < all
    → spread_tick before after since all ≤ spread_tick before after (since + 1) all
spread_next before after since all some =
    let upper = (div_ceil_times (before * all + (since + 1) * (after - before)) (300 * all) (omega (arith, some))).0 in
    up_least (before * all + since * (after - before)) (300 * all) (spread_tick before after (since + 1) all)
    (omega (arith, some)) (omega (arith, upper))

pub spread_first : (before after since all : ℕ) → before ≤ after → 0 < all
    → tick_of_time before ≤ spread_tick before after since all
spread_first before after since all order some =
    let tick = spread_tick before after since all in
    let upper = (div_ceil_times (before * all + since * (after - before)) (300 * all) (omega (arith, some))).0 in
    let whole : before * all ≤ (tick * 300) * all = omega (arith, upper) in
    up_least before 300 tick (omega arith) (le_of_mul-le-mul_right whole some)

pub spread_last : (before after since all : ℕ) → before ≤ after → 0 < all → since ≤ all
    → spread_tick before after since all ≤ tick_of_time after
spread_last before after since all order some within =
    let tick = tick_of_time after in
    let upper : after ≤ tick * 300 = (div_ceil_times after 300 (omega arith)).0 in
    let part : since * (after - before) ≤ all * (after - before) = mul-le-mul_right (after - before) within in
    let whole : before + (after - before) ≤ tick * 300 = omega (arith, order, upper) in
    let scaled : all * (before + (after - before)) ≤ all * (tick * 300) = mul-le-mul_left all whole in
    up_least (before * all + since * (after - before)) (300 * all) tick (omega (arith, some))
    (omega (arith, part, scaled))

pub time_rises : (before after : ℕ) → before ≤ after → tick_of_time before ≤ tick_of_time after
time_rises before after order =
    up_least before 300 (tick_of_time after) (omega arith)
    (omega (arith, order, (div_ceil_times after 300 (omega arith)).0))
