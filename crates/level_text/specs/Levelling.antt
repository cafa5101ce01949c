-- What `levels` keeps, and what that has to do with the packets that it took and the text that it put out.
use Rattle.std.specs.Prelude.{◌≡◌, ℕ, ◌≤◌, Bool, List, length}
use Rattle.buffer_model.specs.Ticks.{by_ticks}
use Rattle.check_text.specs.Checking.{Checking, HasMetered}
use Rattle.check_text.specs.Courses.{IsTextBy}
use Rattle.set_receiver.specs.Receiving.{reception}
use Rattle.level_text.specs.LevelText.{by_rate}
use Rattle.level_text.specs.RateClock.{arrival_tick}
use Rattle.level_text.specs.declared.rate_clock.TheConstants.{GREATEST_RATE, LEAST_RATE}

-- a receiver with the meter of its coded data buffer, and the rate of the stream in bits a second
pub record Levelling : Type 0 where
  pub sets : Checking
  pub rate : ℕ

-- the rate is one that may be asked for
pub record IsLevelling (levelling : Levelling) : Type 0 where
  pub least : LEAST_RATE ≤ levelling.rate
  pub most : levelling.rate ≤ GREATEST_RATE

-- the packets, which arrive at that rate, were taken with all sets that they make ready, and the text is of these sets;
-- slots are ticks, and the packet behind them may arrive at its tick
pub record HasLevelled (levelling : Levelling) (packets : List (List ℕ)) (text : List ℕ) : Type 0 where
  pub metered : HasMetered (arrival_tick levelling.rate) levelling.sets packets text
  pub pace : levelling.sets.meter.pace ≡ by_ticks (reception levelling.sets.receiving).profile
  pub last : levelling.sets.meter.last ≤ arrival_tick levelling.rate (length packets)

-- what is told of packets by a receiver at work, with which the stream ends or not
abbrev pub levels_tell : Levelling → Bool → List (List ℕ) → List ℕ → Type 0
levels_tell levelling ended packets text =
    IsTextBy (by_rate levelling.rate (reception levelling.sets.receiving).profile)
    (reception levelling.sets.receiving) ended packets text
