-- Which display sets are kept, at which times, and with which of them an epoch begins (EN 300 743, clause 5.1;
-- page_state, 7.2.2). What a receiver was handed stands in a list, the latest first. Presentation times have 33 bits
-- and go round (ISO/IEC 13818-1, 2.4.3.7); a lifted time is a number of ticks without end, which begins at an anchor.
use Rattle.std.specs.Prelude.{ℕ, ◌+◌, ◌-◌, ◌%◌, ◌&&◌, nat_le, nat_lt, List, [], ◌∷◌, Option, Some, None, option_and_then, if◌then◌else◌}
use Rattle.std.specs.Option.{option_or}
use Rattle.stream_syntax.specs.declared.page.State.TheVariants.{Acquisition, ModeChange}
use Rattle.decoder_model.specs.Contents.{has_state}
use Rattle.sub_base.specs.Lists.{up_to_first, up_to_last}
use Rattle.decoder_model.specs.Readings.{Content}
use Rattle.decoder_model.specs.Sets.{Delivery, lost, whole, refused}
use Rattle.stream_syntax.specs.declared.wire.TheConstants.{HALF_ROUND, TICK_LIMIT, TIME_ROUND}

-- ---- lifted times

-- how many ticks a presentation time is ahead of a number, modulo 2 to the 33
abbrev pub ahead_of : ℕ → ℕ → ℕ
ahead_of from time = (time + (TIME_ROUND - from % TIME_ROUND)) % TIME_ROUND

-- a time so many ticks behind the greatest lifted time: the set is kept where these are 1 to 2 to the 32, less 1, and
-- the time stays below 2 to the 62
abbrev pub lift_by : ℕ → ℕ → Option ℕ
lift_by last ticks =
    if nat_le 1 ticks && (nat_lt ticks HALF_ROUND && nat_lt (last + ticks) TICK_LIMIT) then Some (last + ticks)
    else None

-- the lifted time of a set with this presentation time, behind sets of which that is the greatest lifted time; none
-- where the set is not kept. The first set of all is kept, at the least number from the anchor on that is its time
-- modulo 2 to the 33
abbrev pub lifted_behind : ℕ → Option ℕ → ℕ → Option ℕ
lifted_behind anchor None time = Some (anchor + ahead_of anchor time)
lifted_behind anchor (Some last) time = lift_by last (ahead_of last time)

-- ---- kept sets

-- the time of a set, be it refused or not
abbrev pub time_of : {S : Type 0} → Delivery S → Option ℕ
time_of lost = None
time_of (whole time size segments) = Some time
time_of (refused time size fault) = Some time

-- the lifted time of what is handed behind sets of which that is the greatest: none where it is no set, or is not kept
abbrev pub lifted_after : {S : Type 0} → ℕ → Option ℕ → Delivery S → Option ℕ
lifted_after anchor last delivery = option_and_then (lifted_behind anchor last) (time_of delivery)

-- the greatest lifted time in a past, which is that of the last kept set
unfoldable pub last_time : {S : Type 0} → ℕ → List (Delivery S) → Option ℕ
last_time anchor [] = None
last_time anchor (delivery ∷ past) =
    option_or (lifted_after anchor (last_time anchor past) delivery) (last_time anchor past)

-- the lifted time of what is handed behind a past
abbrev pub lifted_time : {S : Type 0} → ℕ → List (Delivery S) → Delivery S → Option ℕ
lifted_time anchor past delivery = lifted_after anchor (last_time anchor past) delivery

-- ---- the base of an epoch

-- of kept sets since the last loss or broken set, the latest first, those of the epoch: from the last mode change on,
-- or, where there is none, from the first acquisition point on; none where there is neither, and no epoch is known
unfoldable pub epoch_of : List (List Content) → Option (List (List Content))
epoch_of sets = option_or (up_to_first (has_state ModeChange) sets) (up_to_last (has_state Acquisition) sets)
