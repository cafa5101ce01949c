-- Two scripts of equal timing, and the packets in which the sets of both are sent.
use Rattle.std.specs.Prelude.{◌≡◌, ℕ, ◌+◌, ◌<◌, ◌≤◌, ◌⊎◌, List, [], ◌∷◌, length, map, All, Some, slice_get, zip}
use Rattle.std.specs.List.{AllZip}
use Rattle.sub_base.specs.Pace.{pace_of}
use Rattle.sub_base.specs.Profile.{profile_of}
use Rattle.sub_base.specs.declared.load.TheConstants.{UNIT_ROOM}
use Rattle.sub_base.specs.declared.load.WriteLoad.{WriteLoad}
use Rattle.sub_base.specs.declared.profile.ProfileName.{ProfileName}
use Rattle.stream_syntax.specs.Segments.{IsWritable}
use Rattle.cue_list.specs.declared.script.Script.{Script}
use Rattle.page_epoch.specs.Plan.{IsPlan}
use Rattle.page_epoch.specs.declared.planned_set.PlannedSet.{PlannedSet}
use Rattle.schedule.specs.Slots.{Timetable}
use Rattle.set_coder.specs.SetSizes.{IsPaintedIn}
use Rattle.sent_sets.specs.RawSets.{RawSet}
use Rattle.sent_sets.specs.SentStream.{IsSentTo}
use Rattle.page_pair.specs.PairSets.{Paged, ArePairSegments, segments_size, pair_size, pair_raw, paged_length, greatest_of}
use Rattle.page_pair.specs.declared.pages.TwoPages.{TwoPages}
use Rattle.page_pair.specs.declared.pair_words.Pairing.{Pairing}

-- ---- two plans of equal timing

-- two sets have one time and one state
abbrev pub IsEven : PlannedSet → PlannedSet → Type 0
IsEven one two = (one.pts ≡ two.pts) × (one.state ≡ two.state)

-- both plans have a set at a place, and these are even
pub record AreEvenAt (one two : List PlannedSet) (place : ℕ) : Type 0 where
  pub first : PlannedSet
  pub second : PlannedSet
  pub has_first : slice_get one place ≡ Some first
  pub has_second : slice_get two place ≡ Some second
  pub even : IsEven first second

-- the first place at which the plans, of which one has a set there, have not both a set of one time and one state
pub record IsUneven (one two : List PlannedSet) (place : ℕ) : Type 0 where
  pub before : (n : ℕ) → n < place → AreEvenAt one two n
  pub uneven : AreEvenAt one two place → ⊥
  pub some : (place < length one) ⊎ (place < length two)

-- the numbers of the first three records are the same
pub record HaveEqualHeads (first second : Script) : Type 0 where
  pub origin : first.origin ≡ second.origin
  pub display : (first.width ≡ second.width) × (first.height ≡ second.height)
  pub refresh : first.refresh ≡ second.refresh

-- this record is the first of the first three in which numbers differ: origin, display or refresh
abbrev pub IsOtherHead : Script → Script → ℕ → Type 0
IsOtherHead first second row =
    ((row ≡ 1) × (first.origin ≡ second.origin → ⊥))
    ⊎ ((row ≡ 2) × (first.origin ≡ second.origin)
    × ((first.width ≡ second.width) × (first.height ≡ second.height) → ⊥))
    ⊎ ((row ≡ 3) × (first.origin ≡ second.origin) × (first.width ≡ second.width) × (first.height ≡ second.height)
    × (first.refresh ≡ second.refresh → ⊥))

-- the plans of two scripts of equal heads, set by set of one time and one state
pub record ArePairPlans (profile : ProfileName) (first second : Script) (one two : List PlannedSet) : Type 0 where
  pub heads : HaveEqualHeads first second
  pub first_plan : IsPlan first (profile_of profile) one
  pub second_plan : IsPlan second (profile_of profile) two
  pub even : AllZip IsEven one two

-- ---- sets and loads

-- the segments of the sets at each place
abbrev pub ArePairSets : TwoPages → Script → Script → List PlannedSet → List PlannedSet → List (List Paged) → Type 0
ArePairSets pages first second one two segments =
    AllZip (λ (sets : PlannedSet × PlannedSet) (of_set : List Paged). ArePairSegments pages first second sets.0 sets.1
    of_set)
    (zip one two) segments

-- What sending a set of both takes: one PES packet at the set's time; it is painted as long as the sets of both; and
-- its longest segment.
pub record IsPairLoad (first second : Script) (one two : PlannedSet) (of_set : List Paged)
    (load : WriteLoad) : Type 0 where
  pub time : load.load.pts ≡ one.pts
  pub size : load.load.size ≡ pair_size of_set
  pub units : load.units ≡ pair_size of_set ∷ []
  pub first_painted : ℕ
  pub second_painted : ℕ
  pub is_first : IsPaintedIn first one first_painted
  pub is_second : IsPaintedIn second two second_painted
  pub painted : load.load.painted ≡ first_painted + second_painted
  pub longest : load.longest ≡ greatest_of (map paged_length of_set)

-- the loads of the sets at each place
pub record ArePairLoads (first second : Script) (one two : List PlannedSet) (segments : List (List Paged))
    (loads : List WriteLoad) : Type 0 where
  pub counts : length loads ≡ length segments
  pub each : (n : ℕ) (a b : PlannedSet) (of_set : List Paged) (load : WriteLoad) → slice_get one n ≡ Some a
      → slice_get two n ≡ Some b → slice_get segments n ≡ Some of_set → slice_get loads n ≡ Some load
      → IsPairLoad first second a b of_set load

-- the segments of the sets of both have room in one PES packet
abbrev pub HavePairRoom : TwoPages → Script → Script → PlannedSet → PlannedSet → Type 0
HavePairRoom pages first second one two =
    (of_set : List Paged) × ArePairSegments pages first second one two of_set × (segments_size of_set ≤ UNIT_ROOM)

-- the sets at this place are the first whose segments have no room in one PES packet, which would have this size
pub record IsPairTooLong (pages : TwoPages) (first second : Script) (one two : List PlannedSet)
    (place size : ℕ) : Type 0 where
  pub first_set : PlannedSet
  pub second_set : PlannedSet
  pub has_first : slice_get one place ≡ Some first_set
  pub has_second : slice_get two place ≡ Some second_set
  pub of_set : List Paged
  pub paired : ArePairSegments pages first second first_set second_set of_set
  pub long : UNIT_ROOM < segments_size of_set
  pub size_is : size ≡ pair_size of_set
  pub before : (n : ℕ) (a b : PlannedSet) → n < place → slice_get one n ≡ Some a → slice_get two n ≡ Some b
      → HavePairRoom pages first second a b

-- ---- the packets

-- Two scripts of equal timing are sent in these packets: the segments of the sets at each place of their plans in one
-- PES packet, in the slots of the schedule of their loads, and null packets at all slots between.
pub record IsPairedTo (pairing : Pairing) (first second : Script)
    (packets : List ℕ) : Type 0 where
  pub one : List PlannedSet
  pub two : List PlannedSet
  pub plans : ArePairPlans pairing.profile first second one two
  pub segments : List (List Paged)
  pub paired : ArePairSets pairing.pages first second one two segments
  pub short : All (λ of_set. segments_size of_set ≤ UNIT_ROOM) segments
  pub fit : All (All (λ segment. IsWritable segment.page segment.value)) segments
  pub loads : List WriteLoad
  pub asked : ArePairLoads first second one two segments loads
  pub raw : List RawSet
  pub are_raw : AllZip (λ (sets : PlannedSet × List Paged) (set : RawSet). set ≡ pair_raw sets.0.pts sets.1)
      (zip one segments) raw
  pub table : Timetable
  pub sent : IsSentTo (pace_of first.origin (profile_of pairing.profile)) pairing.pid raw loads table packets
