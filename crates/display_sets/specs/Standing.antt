-- What a gathering has to do with all that arrived (EN 300 743, clauses 5.1 and 6).
use Rattle.std.specs.Prelude.{◌≡◌, ℕ, ◌<◌, Bool, true, false, List, [], ◌∷◌, ◌++◌, length, reverse, Option, Some, None, Ok, Err}
use Rattle.std.specs.Bool.{OnFalse}
use Rattle.std.specs.List.{AllByRecursion}
use Rattle.decoder_model.specs.Arrivals.{PesUnit, Arrival, loss, refused_unit, aside, unit}
use Rattle.decoder_model.specs.PacketArrivals.{last_run, makes_ready, is_dropped}
use Rattle.decoder_model.specs.Sets.{Delivery, lost, whole, refused, is_ended, frames_in, size_in, runs_of, sets_in}
use Rattle.display_sets.specs.Filling.{AreBytes, AreOpen}
use Rattle.display_sets.specs.Gathered.{Gathered, ReadySet, ready_sets}
use Rattle.display_sets.specs.declared.hand.Hand.{Hand}
use Rattle.display_sets.specs.declared.hand.Hand.TheVariants as hand
use Rattle.display_sets.specs.declared.hand.UnitEnd.{UnitEnd}
use Rattle.display_sets.specs.declared.hand.UnitEnd.TheVariants as end

-- ---- the run in hand

-- at least one unit, and all have that time
pub record AreOfTime (time : ℕ) (units : List PesUnit) : Type 0 where
  pub some : 0 < length units
  pub all : AllByRecursion (λ (one : PesUnit). one.time ≡ time) units

-- the set of these units is open, with that size and those bytes
pub record IsOpenRun (coded : ℕ) (units : List PesUnit) (time size : ℕ) (bytes : List ℕ) : Type 0 where
  pub of_time : AreOfTime time units
  pub size_is : size ≡ size_in units
  pub frames : AreOpen coded (frames_in units) bytes

-- the set of these units has ended
pub record IsEndedRun (coded : ℕ) (units : List PesUnit) (time : ℕ) : Type 0 where
  pub of_time : AreOfTime time units
  pub ended : is_ended coded (frames_in units) ≡ true

-- what is kept of a run
abbrev pub IsInHand : ℕ → List PesUnit → Hand → List ℕ → Type 0
IsInHand coded units hand.Empty bytes = units ≡ []
IsInHand coded units (hand.Open time size) bytes = IsOpenRun coded units time size bytes
IsInHand coded units (hand.Ready head) bytes = IsEndedRun coded units head.time
IsInHand coded units (hand.Given time) bytes = IsEndedRun coded units time

-- ---- the sets that are ready

-- the set in a receiver's memory is that delivery, with its segments one after another
abbrev pub IsReady : Delivery (List ℕ) → ReadySet → Type 0
IsReady lost set = ⊥
IsReady (whole time size segments) set =
    (set.time ≡ time) × (set.size ≡ size)
    × ((bytes : List ℕ) × (set.content ≡ Ok bytes) × AreBytes segments bytes)
IsReady (refused time size fault) set = (set.time ≡ time) × (set.size ≡ size) × (set.content ≡ Err fault)

-- the sets in a receiver's memory are those deliveries, one after another
abbrev pub AreReady : List (Delivery (List ℕ)) → List ReadySet → Type 0
AreReady [] [] = Unit {0}
AreReady [] (set ∷ sets) = ⊥
AreReady (delivery ∷ deliveries) [] = ⊥
AreReady (delivery ∷ deliveries) (set ∷ sets) = IsReady delivery set × AreReady deliveries sets

-- ---- all that arrived

-- the gathering stands for these arrivals, of which the stream ends with the last or not, where these sets and losses
-- were given already: the run in hand is the last one, and what was not given is ready
pub record HasGathered (arrivals : List Arrival) (ended : Bool) (given : List (Delivery (List ℕ)))
    (gathered : Gathered) : Type 0 where
  pub in_hand : OnFalse ended (IsInHand gathered.coded (last_run (reverse arrivals)) gathered.hand gathered.bytes)
  pub waiting : List (Delivery (List ℕ))
  pub sets : sets_in gathered.coded ended (runs_of arrivals) ≡ given ++ waiting
  pub are_ready : AreReady waiting (ready_sets gathered)

-- the first that is ready behind those given, or none where all were given
abbrev pub IsFirst : List (Delivery (List ℕ)) → List (Delivery (List ℕ)) → Option ReadySet → Type 0
IsFirst sets given None = sets ≡ given
IsFirst sets given (Some set) = (delivery : Delivery (List ℕ)) × (rest : List (Delivery (List ℕ)))
    × (sets ≡ given ++ delivery ∷ rest) × IsReady delivery set

-- ---- what became of a unit

-- it was passed over
abbrev pub is_aside : UnitEnd → Bool
is_aside end.Aside = true
is_aside end.Dropped = false
is_aside end.Taken = false
is_aside end.Parted = false

-- it was dropped, as what is passed over is too
abbrev pub drops : UnitEnd → Bool
drops end.Aside = true
drops end.Dropped = true
drops end.Taken = false
drops end.Parted = false

-- it made the set in hand ready before it
abbrev pub parts : UnitEnd → Bool
parts end.Aside = false
parts end.Dropped = false
parts end.Taken = false
parts end.Parted = true

-- an arrival that is passed over
abbrev pub is_aside_arrival : Arrival → Bool
is_aside_arrival loss = false
is_aside_arrival refused_unit = false
is_aside_arrival aside = true
is_aside_arrival (unit one) = false

-- the answer says of a unit behind that run whether it is passed over, whether it is dropped, and whether it makes the
-- set in hand ready before it
pub record IsUnitEnd (coded : ℕ) (units : List PesUnit) (arrival : Arrival) (answer : UnitEnd) : Type 0 where
  pub passed_over : is_aside answer ≡ is_aside_arrival arrival
  pub dropped : drops answer ≡ is_dropped coded units (Some arrival)
  pub before : parts answer ≡ makes_ready coded units (Some arrival)
