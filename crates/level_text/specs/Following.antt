-- What `levels` keeps of a stream whose packets arrive by the clock of the programme that lists their PID, and what
-- that has to do with the packets that it took and the text that it put out.
use Rattle.std.specs.Prelude.{◌≡◌, ℕ, Bool, true, false, ◌||◌, List, [], ◌++◌, Option}
use Rattle.command_text.specs.Putting.{Buffered, PutsOut}
use Rattle.service_tables.specs.Reading.{HasRead, ProgrammesRead}
use Rattle.sub_base.specs.Endpoints.{Received}
use Rattle.level_text.specs.ClockText.{IsClockText}
use Rattle.level_text.specs.Clocking.{Clocking, HasClocked}
use Rattle.level_text.specs.ProgrammeClock.{first_clock, samples_of}

-- the sets and levels, the programmes of the stream, and the PID of the clock where it is known
pub record Following : Type 0 where
  pub levels : Clocking
  pub programmes : ProgrammesRead
  pub clock : Option ℕ

-- no memory was found for the receiver, or for what a table lists
abbrev pub is_wanting : Following → Bool
is_wanting followed = followed.programmes.is_wanting || followed.levels.meter.is_wanting

-- these packets were taken, by the clock of the programme that lists the PID, and the text is of those whose ticks are
-- known; where no memory was found for what a table lists, those from there on were passed over
pub record HasFollowed (followed : Following) (packets : List (List ℕ)) (text : List ℕ) : Type 0 where
  pub front : List (List ℕ)
  pub passed : List (List ℕ)
  pub all : packets ≡ front ++ passed
  pub none : followed.programmes.is_wanting ≡ false → passed ≡ []
  pub read : followed.programmes.is_wanting ≡ false → HasRead followed.programmes packets
  pub clock : followed.programmes.is_wanting ≡ false
      → followed.clock ≡ first_clock followed.levels.meter.asked.pid [] packets
  pub clocked : HasClocked followed.levels (samples_of followed.levels.meter.asked.pid front) front text

-- no packet comes any more, whether the stream has ended or not: the text is of all packets; where memory is wanting
-- nothing was put out
pub record FinishesFollowing (ended : Bool) (before now : Received) (followed : Following) (wanting : Bool)
    (was is : Buffered) : Type 0 where
  pub goes : (packets : List (List ℕ)) (text : List ℕ) → HasFollowed followed packets text
      → (more : List ℕ) × (wanting ≡ true → text ++ more ≡ [])
      × (wanting ≡ false → IsClockText (samples_of followed.levels.meter.asked.pid packets)
      followed.levels.meter.asked ended packets (text ++ more))
      × PutsOut before now was is more
