-- What `check` keeps, and what that has to do with the packets that it took and the text that it put out.
use Rattle.std.specs.Prelude.{◌≡◌, ℕ, ◌+◌, ◌<◌, ◌≤◌, ◌^◌, Bool, false, if◌then◌else◌}
use Rattle.std.specs.Prelude.{List, [], ◌++◌, length, reverse}
use Rattle.buffer_model.specs.Calls.{Call, first_breach_of, greatest}
use Rattle.buffer_model.specs.Meters as meters
use Rattle.buffer_model.specs.Meters.{Meter}
use Rattle.command_text.specs.Putting.{Buffered, PutsOut}
use Rattle.decoder_model.specs.PacketArrivals.{PacketArrival}
use Rattle.decoder_model.specs.Readings.{Reading}
use Rattle.decoder_model.specs.Received.{HasReceived, Reception}
use Rattle.decoder_model.specs.Sets.{Delivery}
use Rattle.display_sets.specs.Gathered.{ReadySet, ready_sets, sets_behind}
use Rattle.set_receiver.specs.Receiving.{SetReceiving, reception}
use Rattle.set_receiver.specs.Taking.{HasPast}
use Rattle.received_level_laws.specs.StreamCalls.{calls_of_packet}
use Rattle.received_level_laws.specs.ToldSets.{ToldCall, calls_told, of_no_set, told_behind, told_of}
use Rattle.stream_syntax.specs.declared.transport.Event.{Event}
use Rattle.sub_base.specs.Endpoints.{Received}
use Rattle.sub_base.specs.Pace.{pace_of}
use Rattle.sub_base.specs.declared.pace.Pace.{Pace}
use Rattle.check_text.specs.CheckText.{breach_line, peak_line, sets_text}
use Rattle.check_text.specs.Courses.{told_in_slots}
use Rattle.sub_base.specs.Lists.{all_of}
use Rattle.sub_base.specs.declared.profile.TheConstants.{LARGEST_BUFFER, LONGEST_STEP}

-- ---- what is kept

-- a receiver, and the meter of its coded data buffer
pub record Checking : Type 0 where
  pub receiving : SetReceiving
  pub meter : Meter

-- no set is ready, and the coded data buffer is no larger than that of any profile
pub record IsChecking (checking : Checking) : Type 0 where
  pub none : ready_sets checking.receiving.collecting.sets ≡ []
  pub coded : (reception checking.receiving).profile.coded ≤ LARGEST_BUFFER

-- the ticks of slots are those of a profile, from an origin below 2^62 on
pub record IsSlow (pace : Pace) : Type 0 where
  pub step : pace.step ≤ LONGEST_STEP
  pub origin : pace.origin < 2 ^ 62

-- ---- what it has to do with the packets

-- the receiver was fed the packets, and this past was taken from it, the latest first; the meter, of that pace, is that
-- of the told calls; and the text is of their sets
pub record IsCheckedTo (made : Reception) (pace : Pace) (ended : Bool) (receiving : SetReceiving) (meter : Meter)
    (packets : List (List ℕ)) (past : List (Delivery Reading)) (told : List ToldCall) (text : List ℕ) : Type 0 where
  pub own : reception receiving ≡ made
  pub taken : HasPast ended packets past receiving
  pub pace_is : meter.pace ≡ pace
  pub metered : meters.IsMeterOf (calls_told told) meter
  pub whole : text ≡ sets_text pace told

-- the packets, which arrive in these slots, were taken with all sets that they make ready, and the text is of these
-- sets
pub record HasMeteredIn (made : Reception) (pace : Pace) (slot_of : ℕ → ℕ) (checking : Checking)
    (packets : List (List ℕ)) (text : List ℕ) : Type 0 where
  pub past : List (Delivery Reading)
  pub told : List ToldCall
  pub at : IsCheckedTo made pace false checking.receiving checking.meter packets past told text
  pub received : HasReceived made false packets past
  pub are : told ≡ told_in_slots slot_of (told_of made 0 packets past)

-- the same with the receiver and the pace that it has
abbrev pub HasMetered : (ℕ → ℕ) → Checking → List (List ℕ) → List ℕ → Type 0
HasMetered slot_of checking packets text =
    HasMeteredIn (reception checking.receiving) checking.meter.pace slot_of checking packets text

-- the packet of each place arrives in the slot of that number
abbrev pub own_slot : ℕ → ℕ
own_slot place = place

-- the packets were taken with all sets that they make ready, the packet of each place in the slot of that number, and
-- the text is of these sets; the packet behind them may arrive in the slot of its place
pub record HasChecked (checking : Checking) (packets : List (List ℕ)) (text : List ℕ) : Type 0 where
  pub metered : HasMetered own_slot checking packets text
  pub pace : checking.meter.pace
      ≡ pace_of (reception checking.receiving).anchor (reception checking.receiving).profile
  pub last : checking.meter.last ≤ length packets

-- ---- steps

-- the meter was told these calls more
pub record Counts (old new : Meter) (more : List ToldCall) : Type 0 where
  pub stands : (past : List Call) → meters.IsMeterOf past old → meters.IsMeterOf (calls_told more ++ past) new
  pub pace : new.pace ≡ old.pace

-- the told calls of sets and losses behind a past, the latest first
abbrev pub told_with : Reception → List (Delivery Reading) → List (Delivery Reading) → List ToldCall
told_with made past more = all_of (told_behind made.profile made.anchor past (reverse more))

-- sets were taken, as many as are ready no more: each was told as a call, and their lines were put out
pub record TakesSets (before now : Received) (old new : SetReceiving) (start end : Meter) (was is : Buffered)
    : Type 0 where
  pub goes : (made : Reception) (pace : Pace) (ended : Bool) (packets : List (List ℕ))
      (past : List (Delivery Reading)) (told : List ToldCall) (text : List ℕ)
      → IsCheckedTo made pace ended old start packets past told text
      → (more : List (Delivery Reading)) × (line : List ℕ)
      × (length (told_with made past more) + length (ready_sets new.collecting.sets)
      ≡ length (ready_sets old.collecting.sets))
      × IsCheckedTo made pace ended new end packets (more ++ past) (told ++ told_with made past more) (text ++ line)
      × PutsOut before now was is line

-- the sets that are ready once the first one was taken, where it is to be taken
abbrev pub behind_first : Bool → List ReadySet → List ReadySet
behind_first first sets = if first then sets_behind sets else sets

-- the calls of a packet that arrives in that slot were told, with those of the sets that come with it, and the lines of
-- these were put out
pub record TakesCalls (event : Event) (arrival : PacketArrival) (slot : ℕ) (before now : Received)
    (old new : SetReceiving) (start end : Meter) (was is : Buffered) : Type 0 where
  pub goes : (made : Reception) (pace : Pace) (packets : List (List ℕ)) (past : List (Delivery Reading))
      (told : List ToldCall) (text : List ℕ)
      → IsCheckedTo made pace false old start packets past told text
      → (more : List (Delivery Reading)) × (line : List ℕ)
      × IsCheckedTo made pace false new end packets (more ++ past)
      (told ++ calls_of_packet of_no_set event arrival slot (told_with made past more)) (text ++ line)
      × PutsOut before now was is line

-- what is told of a stream once it has ended was put out
pub record PutsEnd (meter : Meter) (before now : Received) (was is : Buffered) : Type 0 where
  pub puts : (past : List Call) → meters.IsMeterOf past meter
      → PutsOut before now was is
      (peak_line (greatest meter.pace past) ++ breach_line (first_breach_of meter.pace past))
