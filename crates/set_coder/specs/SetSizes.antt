-- How many bytes the PES packets of a display set have, and how long its regions are painted.
use Rattle.std.specs.Prelude.{◌≡◌, ℕ, ◌^◌, ◌==◌, ◌<◌, ◌≤◌, true, List, [], ◌∷◌, ◌++◌, length, map, sum, sum_by, All, Some, slice_get}
use Rattle.std.specs.List.{AllZip, concat, list_any}
use Rattle.sub_base.specs.Pace.{painting_ticks}
use Rattle.sub_base.specs.Picture.{Picture}
use Rattle.sub_base.specs.declared.load.TheConstants.{UNIT_ROOM}
use Rattle.sub_base.specs.declared.load.WriteLoad.{WriteLoad}
use Rattle.stream_syntax.specs.FieldBlocks.{AreFieldSizes}
use Rattle.stream_syntax.specs.declared.page.State.{State}
use Rattle.stream_syntax.specs.declared.page.State.TheVariants.{Normal}
use Rattle.segments.specs.Sizes as segments
use Rattle.segments.specs.declared.size.TheConstants.{DISPLAY_SIZE, END_SIZE}
use Rattle.pes_packets.specs.Units.{IsSharedOut, unit_length}
use Rattle.pes_packets.specs.declared.units.TheConstants.{OTHER_BYTES}
use Rattle.cue_list.specs.declared.epoch.Epoch.{Epoch}
use Rattle.cue_list.specs.declared.script.Script.{Script}
use Rattle.page_epoch.specs.declared.planned_set.PlannedSet.{PlannedSet}
use Rattle.page_epoch.specs.declared.planned_set.SentClut.{SentClut}
use Rattle.page_epoch.specs.declared.planned_set.SentRegion.{SentRegion}
use Rattle.set_coder.specs.SetSegments.{epoch_region, picture_of_cue, depth_of_cue, AreSetPackets}

-- a set that is not normal has a display definition
abbrev pub display_sizes : State → List ℕ
display_sizes Normal = []
display_sizes state = DISPLAY_SIZE ∷ []

-- the page, which lists each region that it shows
abbrev pub page_size : PlannedSet → ℕ
page_size set = segments.page_size (length set.shown)

-- the bytes of a region segment, which lists the object of each of its cues
abbrev pub region_size : SentRegion → ℕ
region_size sent = segments.region_size (length sent.cues)

-- the bytes of a CLUT segment, with an entry for each of its colour rows
abbrev pub clut_size : SentClut → ℕ
clut_size sent = segments.clut_size (length sent.rows)

-- the segments before the objects, in their order
abbrev pub leading_sizes : PlannedSet → List ℕ
leading_sizes set =
    display_sizes set.state ++ (page_size set ∷ (map region_size set.regions ++ map clut_size set.cluts))

-- the object of the cue at a place, with its two blocks
abbrev pub IsObjectSize : List Picture → Epoch → ℕ → ℕ → Type 0
IsObjectSize pictures epoch place size =
    (top : ℕ) × (bottom : ℕ)
    × AreFieldSizes (picture_of_cue pictures epoch place) (depth_of_cue epoch place) top bottom
    × (size ≡ segments.object_size top bottom)

-- the objects of the cues at these places
abbrev pub AreObjectSizes : List Picture → Epoch → List ℕ → List ℕ → Type 0
AreObjectSizes pictures epoch places sizes = AllZip (IsObjectSize pictures epoch) places sizes

-- These are the bytes of the segments of a set, in their order: those before the objects, the objects, and the end of
-- the set.
pub record AreSegmentSizes (script : Script) (set : PlannedSet) (sizes : List ℕ) : Type 0 where
  pub epoch : Epoch
  pub found : slice_get script.epochs set.epoch ≡ Some epoch
  pub objects : List ℕ
  pub coded : AreObjectSizes script.pictures epoch set.cues objects
  pub whole : sizes ≡ leading_sizes set ++ (objects ++ END_SIZE ∷ [])

-- these are the lengths of the PES packets of a set: of the units that segments of these sizes are shared out to
pub record AreUnitSizes (script : Script) (set : PlannedSet) (lengths : List ℕ) : Type 0 where
  pub sizes : List ℕ
  pub segments : AreSegmentSizes script set sizes
  pub units : List (List ℕ)
  pub shared : IsSharedOut (λ bytes. bytes) sizes units
  pub are : lengths ≡ map (unit_length (λ bytes. bytes)) units

-- the PES packets of a set stand behind the bytes that there were, and have the lengths that are measured
abbrev pub IsSetAppended : Script → ℕ → PlannedSet → (old new : List ℕ) → Type 0
IsSetAppended script page set old new =
    (packets : List (List ℕ)) × (new ≡ old ++ concat packets) × AreSetPackets script page set packets
    × AreUnitSizes script set (map length packets)

-- the size of a set: that of all of its PES packets together
pub record IsSetSize (script : Script) (set : PlannedSet) (size : ℕ) : Type 0 where
  pub lengths : List ℕ
  pub sized : AreUnitSizes script set lengths
  pub whole : size ≡ sum lengths

-- the bytes of the longest segment of a set
pub record IsLongestSegment (script : Script) (set : PlannedSet) (longest : ℕ) : Type 0 where
  pub sizes : List ℕ
  pub segments : AreSegmentSizes script set sizes
  pub one : list_any (λ size. size == longest) sizes ≡ true
  pub greatest : All (λ size. size ≤ longest) sizes

-- the ticks that painting a region that is sent takes
abbrev pub sent_painting : Epoch → SentRegion → ℕ
sent_painting epoch sent = painting_ticks (epoch_region epoch sent.id).width (epoch_region epoch sent.id).height

-- the ticks that painting the regions of a set takes
pub record IsPaintedIn (script : Script) (set : PlannedSet) (painted : ℕ) : Type 0 where
  pub epoch : Epoch
  pub found : slice_get script.epochs set.epoch ≡ Some epoch
  pub sum : painted ≡ sum_by (sent_painting epoch) set.regions

-- what sending the set takes: its presentation time, the bytes of its PES packets, how long it is painted, and its
-- longest segment
pub record IsSetLoad (script : Script) (set : PlannedSet) (load : WriteLoad) : Type 0 where
  pub time : load.load.pts ≡ set.pts
  pub units : AreUnitSizes script set load.units
  pub size : load.load.size ≡ sum load.units
  pub painted : IsPaintedIn script set load.load.painted
  pub longest : IsLongestSegment script set load.longest

-- What is answered of a set: its load and no other, and what a schedule asks of a load, that the set has bytes, each
-- PES packet those besides its segments, and that its time and its painting are numbers that can be counted with.
pub record IsLoadAnswer (script : Script) (set : PlannedSet) (answer : WriteLoad) : Type 0 where
  pub load : IsSetLoad script set answer
  pub only : (other : WriteLoad) → IsSetLoad script set other → answer ≡ other
  pub some : 1 ≤ answer.load.size
  pub each : All (λ unit. OTHER_BYTES ≤ unit) answer.units
  pub early : answer.load.pts < 2 ^ 34
  pub short : answer.load.painted ≤ 2 ^ 38

-- each segment of the set has room in a PES packet
pub record FitsPackets (script : Script) (set : PlannedSet) : Type 0 where
  pub longest : ℕ
  pub is_longest : IsLongestSegment script set longest
  pub few : longest ≤ UNIT_ROOM
