-- What `levels` keeps of a stream whose packets arrive by the samples of its clock, and what that has to do with the
-- packets that it took and the text that it put out.
use Rattle.std.specs.Prelude.{◌≡◌, ℕ, ◌+◌, ◌-◌, ◌<◌, ◌≤◌, Bool, true, false, List, [], ◌∷◌, ◌++◌, length, Option, Some, None, replicate}
use Rattle.command_text.specs.Putting.{Buffered, PutsOut}
use Rattle.packet_source.specs.declared.limits.TheConstants.{STREAM_LIMIT}
use Rattle.pcr_clock.specs.Arrivals.{IsClockAt, last_tick}
use Rattle.pcr_clock.specs.declared.arrival.TheConstants.{MOST_BETWEEN}
use Rattle.pcr_clock.specs.declared.sample.TheConstants.{CLOCK_LIMIT}
use Rattle.sub_base.specs.Endpoints.{Received}
use Rattle.level_text.specs.Anchoring.{Anchoring, HasTimed, last_told}
use Rattle.level_text.specs.ClockText.{IsClockText}
use Rattle.level_text.specs.Held.{AreHeld, IsRun}
use Rattle.level_text.specs.declared.held.HeldPacket.{HeldPacket}

-- ---- what is kept

-- the receiver; the packets of its PID among those whose tick is not known yet, each with its place behind the last
-- sample; the time of that sample; how many packets the first whose tick is not known stands behind it, or behind the
-- stream's begin; and how many these are, of whatever PID
pub record Clocking : Type 0 where
  pub meter : Anchoring
  pub held : List HeldPacket
  pub last : Option ℕ
  pub since : ℕ
  pub waiting : ℕ

-- the last sample is of a time below the limit, and stands before the packets whose tick is not known
abbrev pub IsLastSample : Option ℕ → ℕ → Type 0
IsLastSample None since = Unit {0}
IsLastSample (Some time) since = (time < CLOCK_LIMIT) × (0 < since)

-- no more packets wait for their tick than may stand between two samples, and those of the PID among them can be taken;
-- none that was taken arrived behind the last sample; and all are within the limit of a stream
pub record IsClocking (clocking : Clocking) : Type 0 where
  pub sample : IsLastSample clocking.last clocking.since
  pub few : clocking.waiting ≤ MOST_BETWEEN - clocking.since
  pub fewer : length clocking.held ≤ clocking.waiting
  pub waits : AreHeld clocking.meter.asked.pid clocking.since (clocking.since + clocking.waiting) clocking.held
  pub told : last_told clocking.meter.sets ≤ last_tick clocking.last
  pub within : clocking.since + clocking.waiting ≤ STREAM_LIMIT

-- ---- what it has to do with the packets

-- the packets were taken, each with the sample that it carries or none: those up to the last sample, and those whose
-- ticks are known behind it, were taken by the receiver, and the text is of these; of the others, which wait, those of
-- the PID are held
pub record HasClocked (clocking : Clocking) (samples : List (Option ℕ)) (packets : List (List ℕ)) (text : List ℕ)
    : Type 0 where
  pub taken : List (List ℕ)
  pub behind : List (List ℕ)
  pub known : List (Option ℕ)
  pub ticks : List ℕ
  pub matched : length known ≡ length taken
  pub all : packets ≡ taken ++ behind
  pub run : IsRun clocking.meter.asked.pid clocking.since clocking.waiting clocking.held behind
  pub carried : samples ≡ known ++ replicate clocking.waiting None
  pub clock : IsClockAt known ticks clocking.last clocking.since
  pub timed : HasTimed ticks clocking.meter taken text
  pub counted : clocking.since + clocking.waiting ≤ length packets

-- ---- steps

-- a packet more without a sample waits, whatever was taken and put out before
pub record Holds (old new : Clocking) (packet : List ℕ) : Type 0 where
  pub goes : (samples : List (Option ℕ)) (packets : List (List ℕ)) (text : List ℕ)
      → HasClocked old samples packets text → HasClocked new (samples ++ None ∷ []) (packets ++ packet ∷ []) text

-- a packet more was taken, with the sample that it carries or none, and this text was put out
pub record TakesSampled (before now : Received) (old new : Clocking) (was is : Buffered) (sample : Option ℕ)
    (packet : List ℕ) : Type 0 where
  pub goes : (samples : List (Option ℕ)) (packets : List (List ℕ)) (text : List ℕ)
      → HasClocked old samples packets text
      → (more : List ℕ) × HasClocked new (samples ++ sample ∷ []) (packets ++ packet ∷ []) (text ++ more)
      × PutsOut before now was is more

-- no packet comes any more, whether the stream has ended or not: the text is of all packets, by all samples; where
-- memory is wanting nothing was put out
pub record FinishesClocked (ended : Bool) (before now : Received) (clocking : Clocking) (is_wanting : Bool)
    (was is : Buffered) : Type 0 where
  pub goes : (samples : List (Option ℕ)) (packets : List (List ℕ)) (text : List ℕ)
      → HasClocked clocking samples packets text
      → (more : List ℕ) × (is_wanting ≡ true → text ++ more ≡ [])
      × (is_wanting ≡ false → IsClockText samples clocking.meter.asked ended packets (text ++ more))
      × PutsOut before now was is more
