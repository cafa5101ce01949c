-- The display sets that are to be sent, as they are kept.
use Rattle.std.specs.Prelude.{◌≡◌, ℕ, ◌≤◌, List, [], ◌∷◌, ◌++◌, length, map, All, Option, Some, None}
use Rattle.std.specs.List.{AllZip, concat}
use Rattle.sub_base.specs.declared.load.TheConstants.{UNIT_ROOM}
use Rattle.sub_base.specs.declared.load.WriteLoad.{WriteLoad}
use Rattle.schedule.specs.Slots.{IsLoad}
use Rattle.sent_sets.specs.RawSets.{RawSet, AreRawPackets}
use Rattle.sent_sets.specs.SentStream.{AreSizedAs}
use Rattle.splice.specs.SplicedSets.{IsLoadOf}
use Rattle.splice.specs.declared.joined.Joined.{Joined}

-- the bytes of each set are cut into units of the lengths that its load says
pub record AreCut (loads : List WriteLoad) (written : List (List ℕ)) (units : List (List (List ℕ))) : Type 0 where
  pub whole : map concat units ≡ written
  pub sized : AreSizedAs loads units

-- each segment of the sets has room in a PES packet
abbrev pub HaveRoom : List WriteLoad → Type 0
HaveRoom loads = All (λ (load : WriteLoad). load.longest ≤ UNIT_ROOM) loads

-- these sets are kept: what sending each takes, and, where their segments have room, their PES packets
pub record IsJoinedOf (sets : List RawSet) (joined : Joined) : Type 0 where
  pub asked : AllZip IsLoadOf sets joined.loads.items
  pub each : All IsLoad joined.loads.items
  pub many : length joined.loads.items ≡ length joined.written.items
  pub units : List (List (List ℕ))
  pub carried : AllZip AreRawPackets sets units
  pub sized : AreSizedAs joined.loads.items units
  pub written : HaveRoom joined.loads.items → map concat units ≡ joined.written.items

-- some sets are kept
abbrev pub HasSets : Joined → Type 0
HasSets joined = (sets : List RawSet) × IsJoinedOf sets joined

-- the time of the last of these sets, where there is one
abbrev pub IsLastTime : List RawSet → Option ℕ → Type 0
IsLastTime sets None = sets ≡ []
IsLastTime sets (Some time) =
    (before : List RawSet) × (set : RawSet) × (sets ≡ before ++ set ∷ []) × (time ≡ set.time)
