-- The ticks at which packets arrive that are sent at an even rate.
use Rattle.std.proofs.Common.{ℕ, ◌+◌, ◌*◌, ◌<◌, ◌≤◌, inl, inr, arith, mul-le-mul_right}
use Rattle.std.proofs.lemmas.Bool.{cases_lt}
use Rattle.std.proofs.lemmas.Grind.{div_ceil_times}
use Rattle.stream_syntax.specs.declared.wire.TheConstants.{PACKET_LENGTH}
use Rattle.sub_base.specs.declared.pace.TheConstants.{SECOND}
use Rattle.pcr_clock.specs.Arrivals.{div_up}
use Rattle.level_text.specs.RateClock.{arrival_tick}

-- a quotient that is rounded up rises with what is divided
up_rises : (a b c : ℕ) → 0 < c → a ≤ b → div_up a c ≤ div_up b c
up_rises a b c some less =
    let over : div_up b c < div_up a c → (1 + div_up b c) * c ≤ div_up a c * c =
    λ below. mul-le-mul_right c (omega (arith, below)) in
    elim (cases_lt (div_up b c) (div_up a c)) [
      | inl below ↦ absurd
          (omega (
            arith,
            less,
            (div_ceil_times a c some).1,
            (div_ceil_times b c some).0,
            over below,
          ))
      | inr above ↦ above
    ]

-- no packet arrives before the one ahead of it
pub tick_rises : (rate place : ℕ) → 0 < rate → arrival_tick rate place ≤ arrival_tick rate (place + 1)
tick_rises rate place some =
    up_rises (place * (8 * PACKET_LENGTH) * SECOND) ((place + 1) * (8 * PACKET_LENGTH) * SECOND) rate some
    (omega arith)
