-- How the segments of a display set are shared out to units, the PES packets that the set is sent in. A PES packet has
-- room for 65,524 bytes of segments (ISO/IEC 13818-1, 2.4.3.7: its length is a number of 16 bits).
use Rattle.std.specs.Prelude.{◌≡◌, ℕ, ◌+◌, ◌^◌, ◌<◌, ◌≤◌, ◌⊎◌, ⊤, List, [], ◌∷◌, ◌++◌, length, map}
use Rattle.std.specs.List.{flat_map, sum_by}
use Rattle.sub_base.specs.declared.load.TheConstants.{UNIT_ROOM}
use Rattle.pes_packets.specs.declared.units.TheConstants.{OTHER_BYTES}

-- a unit has one segment, or several that have no more bytes together than a PES packet has room for
abbrev pub IsOneUnit : {X : Type 0} → (X → ℕ) → List X → Type 0
IsOneUnit bytes unit = (1 ≤ length unit) × ((length unit ≡ 1) ⊎ (sum_by bytes unit ≤ UNIT_ROOM))

-- a unit is closed before its next segment only where it has no room for it
abbrev pub IsClosed : {X : Type 0} → (X → ℕ) → List X → List (List X) → Type 0
IsClosed bytes unit [] = ⊤
IsClosed bytes unit ([] ∷ units) = ⊤
IsClosed bytes unit ((next ∷ others) ∷ units) = UNIT_ROOM < sum_by bytes unit + bytes next

-- these are units, each closed before the next
abbrev pub AreUnits : {X : Type 0} → (X → ℕ) → List (List X) → Type 0
AreUnits bytes [] = ⊤
AreUnits bytes (unit ∷ units) = IsOneUnit bytes unit × IsClosed bytes unit units × AreUnits bytes units

-- these are the units of a list of segments, of which each has that many bytes
pub record IsSharedOut {X : Type 0} (bytes : X → ℕ) (segments : List X) (units : List (List X)) : Type 0 where
  pub whole : flat_map (λ unit. unit) units ≡ segments
  pub each : AreUnits bytes units

-- the bytes of a unit: its segments, and 17 more
abbrev pub unit_length : {X : Type 0} → (X → ℕ) → List X → ℕ
unit_length bytes unit = OTHER_BYTES + sum_by bytes unit

-- a segment that can be sent: it has a head of 6 bytes
abbrev pub IsSegmentLength : ℕ → Type 0
IsSegmentLength bytes = (6 ≤ bytes) × (bytes ≤ 2 ^ 31)

-- these are the lengths of the units that segments of these lengths are shared out to
pub record AreUnitLengths (segments lengths : List ℕ) : Type 0 where
  pub units : List (List ℕ)
  pub shared : IsSharedOut (λ bytes. bytes) segments units
  pub are : lengths ≡ map (unit_length (λ bytes. bytes)) units

-- segments of these lengths have been shared out so far: the last unit is open, with so many bytes of them, and these
-- are the lengths of the units before it, which are closed
pub data IsOpenAfter (segments lengths : List ℕ) (bytes : ℕ) : Type 0 where
  no_segment : segments ≡ [] → lengths ≡ [] → bytes ≡ 0 → IsOpenAfter segments lengths bytes
  some_segments : (closed : List (List ℕ)) (last : List ℕ)
      → IsSharedOut (λ bytes. bytes) segments (closed ++ last ∷ [])
      → 1 ≤ sum_by (λ bytes. bytes) last →
      lengths ≡ map (unit_length (λ bytes. bytes)) closed → bytes ≡ sum_by (λ bytes. bytes) last
      → IsOpenAfter segments lengths bytes
