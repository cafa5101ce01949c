-- Packets that come to a receiver by the tick of 90 kHz, and not in a profile's slots.
use Rattle.sub_base.specs.declared.pace.Pace.{Pace}
use Rattle.sub_base.specs.declared.profile.Profile.{Profile}

-- slot s is at tick s, so that a packet's slot is the tick at which it arrives
abbrev pub by_ticks : Profile → Pace
by_ticks profile = record { origin = 0; step = 1; coded = profile.coded }
