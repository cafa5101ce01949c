-- What is kept of a receiver whose lifted times begin when its first packet arrives, and what that has to do with the
-- packets that it took and the text that it put out.
use Rattle.std.specs.Prelude.{◌≡◌, ℕ, ◌<◌, Bool, true, false, List, [], ◌++◌, length, Option, Some, None}
use Rattle.buffer_model.specs.Ticks.{by_ticks}
use Rattle.check_text.specs.Checking.{Checking, HasMetered}
use Rattle.check_text.specs.Courses.{IsTextBy}
use Rattle.command_text.specs.Putting.{Buffered, PutsOut}
use Rattle.decoder_model.specs.Received.{Reception}
use Rattle.pcr_clock.specs.Arrivals.{tick_at}
use Rattle.set_receiver.specs.Receiving.{reception}
use Rattle.sub_base.specs.Endpoints.{Received}
use Rattle.sub_base.specs.Profile.{IsProfile}
use Rattle.level_text.specs.ClockText.{at_ticks, from_first}

-- ---- what is kept

-- what the receiver is for, whatever its anchor; the receiver with its meter, once a packet came; and whether no memory
-- was found for it
pub record Anchoring : Type 0 where
  pub asked : Reception
  pub sets : Option Checking
  pub is_wanting : Bool

-- the tick of the last packet with bytes
abbrev pub last_told : Option Checking → ℕ
last_told None = 0
last_told (Some sets) = sets.meter.last

-- a receiver of the profile for the PID, to which packets come by the tick
pub record IsMeterFor (asked : Reception) (sets : Checking) : Type 0 where
  pub pace : sets.meter.pace ≡ by_ticks asked.profile
  pub pid : (reception sets.receiving).pid ≡ asked.pid

-- the same of one that is there
abbrev pub IsAskedFor : Reception → Option Checking → Type 0
IsAskedFor asked None = Unit {0}
IsAskedFor asked (Some sets) = IsMeterFor asked sets

-- the profile is one that there is; and there is no receiver for which no memory was found
pub record IsAnchoring (anchoring : Anchoring) : Type 0 where
  pub profile : IsProfile anchoring.asked.profile
  pub sets : IsAskedFor anchoring.asked anchoring.sets
  pub wanting : anchoring.is_wanting ≡ true → anchoring.sets ≡ None

-- ---- what it has to do with the packets

-- the receiver, whose lifted times begin at the first of these ticks, took the packets, which arrive at them; its slots
-- are ticks
pub record IsTimed (asked : Reception) (ticks : List ℕ) (sets : Checking) (packets : List (List ℕ)) (text : List ℕ)
    : Type 0 where
  pub own : reception sets.receiving ≡ from_first ticks asked
  pub pace : sets.meter.pace ≡ by_ticks asked.profile
  pub metered : HasMetered (tick_at ticks) sets packets text

-- the same of one that is there; before it is there no packet came
abbrev pub IsTimedIn : Reception → List ℕ → Option Checking → List (List ℕ) → List ℕ → Type 0
IsTimedIn asked ticks None packets text = (packets ≡ []) × (text ≡ [])
IsTimedIn asked ticks (Some sets) packets text = (0 < length ticks) × IsTimed asked ticks sets packets text

-- the packets, which arrive at these ticks, were taken, and the text is of these; where no memory was found nothing was
-- put out
pub record HasTimed (ticks : List ℕ) (anchoring : Anchoring) (packets : List (List ℕ)) (text : List ℕ)
    : Type 0 where
  pub counted : length ticks ≡ length packets
  pub nothing : anchoring.is_wanting ≡ true → text ≡ []
  pub taken : anchoring.is_wanting ≡ false → IsTimedIn anchoring.asked ticks anchoring.sets packets text

-- one is there, and took the packets
abbrev pub IsBegunIn : Reception → List ℕ → Option Checking → List (List ℕ) → List ℕ → Type 0
IsBegunIn asked ticks None packets text = ⊥
IsBegunIn asked ticks (Some sets) packets text = IsTimed asked ticks sets packets text

-- the receiver is there, where memory was found for it, and may take a packet that arrives at the last of these ticks
pub record HasBegun (ticks : List ℕ) (anchoring : Anchoring) (packets : List (List ℕ)) (text : List ℕ)
    : Type 0 where
  pub nothing : anchoring.is_wanting ≡ true → text ≡ []
  pub taken : anchoring.is_wanting ≡ false → IsBegunIn anchoring.asked ticks anchoring.sets packets text

-- ---- steps

-- packets more, which arrive at these ticks, were taken, and this text was put out
pub record TakesTimed (before now : Received) (old new : Anchoring) (was is : Buffered) (ticks : List ℕ)
    (packets : List (List ℕ)) : Type 0 where
  pub goes : (known : List ℕ) (taken : List (List ℕ)) (text : List ℕ) → HasTimed known old taken text
      → (more : List ℕ) × HasTimed (known ++ ticks) new (taken ++ packets) (text ++ more)
      × PutsOut before now was is more

-- no packet comes any more, whether the stream has ended or not: the text is of those that were taken; where no memory
-- was found nothing was put out
pub record EndsTimed (ended : Bool) (ticks : List ℕ) (anchoring : Anchoring) (packets : List (List ℕ)) (text : List ℕ)
    : Type 0 where
  pub nothing : anchoring.is_wanting ≡ true → text ≡ []
  pub told : anchoring.is_wanting ≡ false
      → IsTextBy (at_ticks ticks anchoring.asked.profile) (from_first ticks anchoring.asked) ended packets text

-- the same after this text more was put out
pub record FinishesTimed (ended : Bool) (before now : Received) (old new : Anchoring) (was is : Buffered)
    : Type 0 where
  pub goes : (known : List ℕ) (taken : List (List ℕ)) (text : List ℕ) → HasTimed known old taken text
      → (more : List ℕ) × EndsTimed ended known new taken (text ++ more) × PutsOut before now was is more
