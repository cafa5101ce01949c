-- When the packets of a stream arrive that is sent at an even rate.
use Rattle.std.specs.Prelude.{ℕ, ◌*◌}
use Rattle.pcr_clock.specs.Arrivals.{div_up}
use Rattle.stream_syntax.specs.declared.wire.TheConstants.{PACKET_LENGTH}
use Rattle.sub_base.specs.declared.pace.TheConstants.{SECOND}

-- the tick of 90 kHz at which the packet of a place, counted from 0, arrives of a stream of so many bits a second that
-- begins at tick 0: all bits before it have been sent then
abbrev pub arrival_tick : ℕ → ℕ → ℕ
arrival_tick rate place = div_up (place * (8 * PACKET_LENGTH) * SECOND) rate
