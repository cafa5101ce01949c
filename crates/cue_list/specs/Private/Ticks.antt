-- The ticks that were named, kept by spans of 3,601 ticks: no two different ticks of one span are far enough apart.
use Rattle.std.specs.Prelude.{◌≡◌, ℕ, ◌+◌, ◌-◌, ◌/◌, Bool, false, ◌||◌, Option, Some, None}
use Rattle.std.specs.Ordering.{nat_cmp}
use Rattle.std.specs.BTreeMap.{get}
use Rattle.cue_records.specs.declared.limits.TheConstants.{CLOSE_TICKS}
use Rattle.cue_list.specs.declared.ticks.Ticks.{Ticks}
use Rattle.cue_list.specs.Past.{is_close}

-- the span of a tick
abbrev pub span_of : ℕ → ℕ
span_of tick = tick / (CLOSE_TICKS + 1)

-- the tick that was named in a span, where there is one, is close to another
abbrev pub is_close_to : ℕ → Option ℕ → Bool
is_close_to tick None = false
is_close_to tick (Some named) = is_close tick named

-- a tick that was named in the span or in one beside it is close
abbrev pub is_near_by : (ℕ → Option ℕ) → ℕ → Bool
is_near_by named_in tick =
    is_close_to tick (named_in (span_of tick - 1)) || is_close_to tick (named_in (span_of tick))
    || is_close_to tick (named_in (span_of tick + 1))

-- each tick is kept by its own span
abbrev pub AreSpans : (ℕ → Option ℕ) → Type 0
AreSpans named_in = (span tick : ℕ) → named_in span ≡ Some tick → span_of tick ≡ span

-- the tick that was named in a span, where one was
abbrev pub named_by : Ticks → ℕ → Option ℕ
named_by ticks = get nat_cmp ticks.spans

-- a tick is close to one of the ticks that were named
abbrev pub near_by : Ticks → ℕ → Bool
near_by ticks = is_near_by (named_by ticks)

-- what is true of the ticks that a reader keeps: each is kept by its own span
abbrev pub IsTicks : Ticks → Type 0
IsTicks ticks = AreSpans (named_by ticks)

-- the ticks that are near, with one more that was named
abbrev pub near_with : ℕ → (ℕ → Bool) → ℕ → Bool
near_with named is_near tick = is_close tick named || is_near tick
