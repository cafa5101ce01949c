-- What `levels` tells of the packets of a stream: each display set with its end, its load and the tick at which it is
-- done, then the greatest level of the coded data buffer, and the first breach, all as `check` tells it.
use Rattle.std.specs.Prelude.{ℕ, Bool, List}
use Rattle.buffer_model.specs.Ticks.{by_ticks}
use Rattle.check_text.specs.Courses.{Course, IsTextBy}
use Rattle.decoder_model.specs.Received.{Reception}
use Rattle.sub_base.specs.declared.profile.Profile.{Profile}
use Rattle.level_text.specs.RateClock.{arrival_tick}

-- packets that come to a receiver of a profile at an even rate, in bits a second: a slot is a tick, and the packet of
-- each place arrives at its tick
abbrev pub by_rate : ℕ → Profile → Course
by_rate rate profile = record { slot_of = arrival_tick rate; pace = by_ticks profile }

-- the text of the sets and levels that these packets, which come at that rate, have in a receiver; `breach coded` names
-- the tick at which the packet arrives, and then the level. The stream ends with the packets or not
abbrev pub IsLevelText : ℕ → Reception → Bool → List (List ℕ) → List ℕ → Type 0
IsLevelText rate reception ended packets text =
    IsTextBy (by_rate rate reception.profile) reception ended packets text
