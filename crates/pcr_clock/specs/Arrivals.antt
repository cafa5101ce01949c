-- When packets arrive by the samples of their programme's clock: evenly between two samples (ISO/IEC 13818-1, 2.4.2.2),
-- in ticks of 90 kHz.
use Rattle.std.specs.Prelude.{◌≡◌, ℕ, zero, suc, ⊤, ◌<◌, ◌≤◌, ◌+◌, ◌-◌, ◌*◌, ◌/◌, ◌%◌, min, nat_le, if◌then◌else◌, List, [], ◌∷◌, ◌++◌, get_or, Option, Some, None}
use Rattle.pcr_clock.specs.Samples.{times_behind}
use Rattle.pcr_clock.specs.declared.arrival.NextSample.{NextSample}
use Rattle.pcr_clock.specs.declared.arrival.TheConstants.{MOST_BETWEEN}

-- a quotient, rounded up
abbrev pub div_up : ℕ → ℕ → ℕ
div_up a b = a / b + min 1 (a % b)

-- the tick of a time in units of 27 MHz, rounded up
abbrev pub tick_of_time : ℕ → ℕ
tick_of_time time = div_up time 300

-- the tick of a packet that stands so many packets behind a sample, where the next one is so many behind it: the time
-- before, and the same part of the time between
abbrev pub spread_tick : (before after since all : ℕ) → ℕ
spread_tick before after since all = div_up (before * all + since * (after - before)) (300 * all)

-- the first sample of packets, of which the first stands so many packets behind
abbrev pub next_sample : ℕ → List (Option ℕ) → Option NextSample
next_sample behind [] = None
next_sample behind (None ∷ times) = next_sample (behind + 1) times
next_sample behind (Some time ∷ times) = Some (record { behind = behind; time = time })

-- the tick of the last sample, and 0 where there was none
abbrev pub last_tick : Option ℕ → ℕ
last_tick None = 0
last_tick (Some before) = tick_of_time before

-- the tick of a packet between the last sample, where there was one, and the next, so many packets behind the last one
-- or behind the stream's begin: the next sample's where it is the first of all
abbrev pub spread_between : Option ℕ → ℕ → NextSample → ℕ
spread_between None since next = tick_of_time next.time
spread_between (Some before) since next = spread_tick before next.time since next.behind

-- the tick of a packet without a sample, by the last sample and the next one. Where that is too far, or none comes, the
-- packet arrives at the last one
abbrev pub tick_between : Option ℕ → ℕ → Option NextSample → ℕ
tick_between last since None = last_tick last
tick_between last since (Some next) =
    if nat_le next.behind MOST_BETWEEN then spread_between last since next else last_tick last

-- the ticks of packets, the first of which stands so many packets behind the last sample
abbrev pub ticks_behind : Option ℕ → ℕ → List (Option ℕ) → List ℕ
ticks_behind last since [] = []
ticks_behind last since (Some time ∷ times) = tick_of_time time ∷ ticks_behind (Some time) 1 times
ticks_behind last since (None ∷ times) =
    tick_between last since (next_sample (since + 1) times) ∷ ticks_behind last (since + 1) times

-- the ticks at which packets arrive, by the samples that they carry, none where a packet has none
abbrev pub ticks_of : List (Option ℕ) → List ℕ
ticks_of samples = ticks_behind None 0 (times_behind None samples)

-- the tick of the packet of a place
abbrev pub tick_at : List ℕ → ℕ → ℕ
tick_at ticks place = get_or ticks place 0

-- the ticks of so many packets without a sample, the first of which stands so many packets behind the last sample, by
-- the next one
abbrev pub ticks_of_run : Option ℕ → ℕ → ℕ → Option NextSample → List ℕ
ticks_of_run last since zero next = []
ticks_of_run last since (suc more) next = tick_between last since next ∷ ticks_of_run last (since + 1) more next

-- the next sample is no earlier than the last one, and does not stand with it
abbrev pub IsBehind : Option ℕ → Option NextSample → Type 0
IsBehind last None = ⊤
IsBehind None (Some next) = ⊤
IsBehind (Some before) (Some next) = (before ≤ next.time) × (0 < next.behind)

-- behind packets with these samples, whatever comes, the ticks are these and then those behind the last sample, which
-- stands so many packets before
pub record IsClockAt (samples : List (Option ℕ)) (ticks : List ℕ) (last : Option ℕ) (since : ℕ) : Type 0 where
  pub goes : (more : List (Option ℕ))
      → ticks_of (samples ++ more) ≡ ticks ++ ticks_behind last since (times_behind last more)
