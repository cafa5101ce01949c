-- What sending the sets of two scripts takes, and the bytes of their PES packets.
use Rattle.std.specs.Prelude.{◌≡◌, ℕ, ◌+◌, ◌%◌, ◌<◌, ◌≤◌, List, [], ◌∷◌, length, map, All, zip}
use Rattle.std.specs.List.{AllZip, concat}
use Rattle.sub_base.specs.declared.load.TheConstants.{UNIT_ROOM}
use Rattle.sub_base.specs.declared.load.WriteLoad.{WriteLoad}
use Rattle.stream_syntax.specs.DataField.{data_field}
use Rattle.stream_syntax.specs.Pes.{written_pes}
use Rattle.stream_syntax.specs.Segments.{IsWritable}
use Rattle.stream_syntax.specs.declared.wire.TheConstants.{TIME_ROUND}
use Rattle.pes_packets.specs.declared.units.TheConstants.{OTHER_BYTES}
use Rattle.cue_list.specs.declared.script.Script.{Script}
use Rattle.page_epoch.specs.declared.planned_set.PlannedSet.{PlannedSet}
use Rattle.schedule.specs.Slots.{IsLoad}
use Rattle.sent_sets.specs.RawSets.{RawSet, AreRawPackets}
use Rattle.sent_sets.specs.SentStream.{AreSizedAs}
use Rattle.page_pair.specs.PairSets.{Paged, ArePairSegments, pair_raw, pair_size, segments_size}
use Rattle.page_pair.specs.PairStream.{ArePairLoads, ArePairSets, IsPairLoad, IsPairTooLong}
use Rattle.page_pair.specs.Private.Writing.{AreWritten, CanBeWritten}
use Rattle.page_pair.specs.declared.pages.TwoPages.{TwoPages}
use Rattle.page_pair.specs.declared.pair_set.SetStop.{SetStop}
use Rattle.page_pair.specs.declared.pair_set.SetStop.TheVariants as set_stop
use Rattle.page_pair.specs.declared.units.PairUnit.{PairUnit}
use Rattle.page_pair.specs.declared.units.PairUnits.{PairUnits}
use Rattle.page_pair.specs.declared.units.UnitsStop.{UnitsStop}
use Rattle.page_pair.specs.declared.units.UnitsStop.TheVariants.{Memory, TooLong}
use Rattle.page_pair.specs.declared.written.Written.{Written}

-- ---- the sets of both at one place

-- their segments are written, and have room in one PES packet
pub record IsWrittenPair (pages : TwoPages) (first second : Script) (one two : PlannedSet)
    (written : Written) : Type 0 where
  pub of_set : List Paged
  pub paired : ArePairSegments pages first second one two of_set
  pub are : AreWritten of_set written
  pub short : length written.bytes.items ≤ UNIT_ROOM

-- their segments have no room in one PES packet, which would have this size
pub record IsLongPair (pages : TwoPages) (first second : Script) (one two : PlannedSet) (size : ℕ) : Type 0 where
  pub of_set : List Paged
  pub paired : ArePairSegments pages first second one two of_set
  pub long : UNIT_ROOM < segments_size of_set
  pub size_is : size ≡ pair_size of_set

-- why their segments are not written. Memory may want at any time
abbrev pub IsPairStop : TwoPages → Script → Script → PlannedSet → PlannedSet → SetStop → Type 0
IsPairStop pages first second one two set_stop.Memory = Unit {0}
IsPairStop pages first second one two (set_stop.TooLong size) = IsLongPair pages first second one two size

-- the same, told of the place at which they stand
abbrev pub stop_at : ℕ → SetStop → UnitsStop
stop_at place set_stop.Memory = Memory
stop_at place (set_stop.TooLong size) = TooLong place size

-- why the sets at this place are not written: their segments have no room in one PES packet, which would have that
-- size. Memory may want at any time
abbrev pub IsStopAt : TwoPages → Script → Script → PlannedSet → PlannedSet → ℕ → UnitsStop → Type 0
IsStopAt pages first second one two place Memory = Unit {0}
IsStopAt pages first second one two place (TooLong set size) =
    (set ≡ place) × IsLongPair pages first second one two size

-- the PES packet of segments with these bytes, at that tick
abbrev pub packet_of : ℕ → List ℕ → List ℕ
packet_of time segments = written_pes (time % TIME_ROUND) (data_field segments)

-- what sending written segments in one PES packet takes, at that tick and with so long a painting
pub record IsLoadOf (time painted : ℕ) (written : Written) (load : WriteLoad) : Type 0 where
  pub time_is : load.load.pts ≡ time
  pub size : load.load.size ≡ OTHER_BYTES + length written.bytes.items
  pub painted_is : load.load.painted ≡ painted
  pub longest : load.longest ≡ written.longest
  pub units : load.units ≡ (OTHER_BYTES + length written.bytes.items) ∷ []

-- what sending the sets of both takes, and their PES packet
pub record IsPairUnit (pages : TwoPages) (first second : Script) (one two : PlannedSet)
    (unit : PairUnit) : Type 0 where
  pub of_set : List Paged
  pub paired : ArePairSegments pages first second one two of_set
  pub short : segments_size of_set ≤ UNIT_ROOM
  pub fit : All CanBeWritten of_set
  pub asked : IsPairLoad first second one two of_set unit.load
  pub is_load : IsLoad unit.load
  pub carried : AreRawPackets (pair_raw one.pts of_set) (unit.bytes ∷ [])
  pub sized : map length (unit.bytes ∷ []) ≡ unit.load.units

-- ---- the sets at all places

-- what sending the two sets of one place takes, and their PES packet
abbrev pub IsUnitAt : TwoPages → Script → Script → PlannedSet × PlannedSet → PairUnit → Type 0
IsUnitAt pages first second pair unit = IsPairUnit pages first second pair.0 pair.1 unit

-- the loads and PES packets of these pairs of sets, and no more
pub record AreMade (pages : TwoPages) (first second : Script) (sets : List (PlannedSet × PlannedSet))
    (made : PairUnits) : Type 0 where
  pub units : List PairUnit
  pub each : AllZip (IsUnitAt pages first second) sets units
  pub loads : made.loads.items ≡ map (λ (unit : PairUnit). unit.load) units
  pub written : made.written.items ≡ map (λ (unit : PairUnit). unit.bytes) units

-- these loads, and these bytes of PES packets, are those of the sets of two scripts
pub record AreSetUnits (pages : TwoPages) (first second : Script) (one two : List PlannedSet)
    (loads : List WriteLoad) (written : List (List ℕ)) : Type 0 where
  pub segments : List (List Paged)
  pub paired : ArePairSets pages first second one two segments
  pub short : All (λ of_set. segments_size of_set ≤ UNIT_ROOM) segments
  pub fit : All (All (λ segment. IsWritable segment.page segment.value)) segments
  pub asked : ArePairLoads first second one two segments loads
  pub each : All IsLoad loads
  pub raw : List RawSet
  pub are_raw : AllZip (λ (sets : PlannedSet × List Paged) (set : RawSet). set ≡ pair_raw sets.0.pts sets.1)
      (zip one segments) raw
  pub units : List (List (List ℕ))
  pub carried : AllZip AreRawPackets raw units
  pub sized : AreSizedAs loads units
  pub times : map (λ (load : WriteLoad). load.load.pts) loads ≡ map (λ (set : RawSet). set.time) raw
  pub whole : map concat units ≡ written

-- what sending the sets of two scripts takes, and the bytes of their PES packets
abbrev pub AreUnitsOf : TwoPages → Script → Script → List PlannedSet → List PlannedSet → PairUnits → Type 0
AreUnitsOf pages first second one two made =
    AreSetUnits pages first second one two made.loads.items made.written.items

-- why the sets have no PES packets: those at this place are the first that have no room. Memory may want at any time
abbrev pub IsUnitsStop : TwoPages → Script → Script → List PlannedSet → List PlannedSet → UnitsStop → Type 0
IsUnitsStop pages first second one two Memory = Unit {0}
IsUnitsStop pages first second one two (TooLong set size) = IsPairTooLong pages first second one two set size
