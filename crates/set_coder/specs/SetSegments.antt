-- The segments that a display set of a plan is sent as, and its PES packets (EN 300 743, clauses 5 and 7).
use Rattle.std.specs.Prelude.{◌≡◌, ℕ, ◌+◌, ◌*◌, ◌/◌, ◌%◌, Bool, List, [], ◌∷◌, ◌++◌, length, map, All, Option, Some, None, slice_get}
use Rattle.std.specs.List.{flat_map}
use Rattle.sub_base.specs.Depth.{is_same_depth}
use Rattle.sub_base.specs.Picture.{Picture}
use Rattle.sub_base.specs.declared.depth.Depth.{Depth}
use Rattle.sub_base.specs.declared.depth.Depth.TheVariants.{Two, Four, Eight}
use Rattle.sub_base.specs.declared.pace.TheConstants.{SECOND}
use Rattle.stream_syntax.specs.declared.wire.TheConstants.{TIME_ROUND}
use Rattle.stream_syntax.specs.DataField.{data_field}
use Rattle.stream_syntax.specs.FieldBlocks.{AreFieldBlocks, DrawsPicture}
use Rattle.stream_syntax.specs.Pes.{written_pes}
use Rattle.stream_syntax.specs.Segments.{SegmentValue, of_page, of_region, of_clut, of_object, of_display, end_of_set, Display, Object, spelled, IsWritable}
use Rattle.stream_syntax.specs.declared.clut.ClutEntry.{ClutEntry}
use Rattle.stream_syntax.specs.declared.page.PageEntry.{PageEntry}
use Rattle.stream_syntax.specs.declared.page.State.{State}
use Rattle.stream_syntax.specs.declared.page.State.TheVariants.{Normal}
use Rattle.stream_syntax.specs.declared.region.Listing.{Listing}
use Rattle.pes_packets.specs.Units.{IsSharedOut}
use Rattle.cue_list.specs.Authored.{picture_at_place}
use Rattle.cue_list.specs.declared.epoch.Epoch.{Epoch}
use Rattle.cue_records.specs.declared.region.Region.{Region}
use Rattle.cue_list.specs.declared.script.Script.{Script}
use Rattle.cue_list.specs.Past.{region_with}
use Rattle.page_epoch.specs.Live.{cue_at, no_region}
use Rattle.page_epoch.specs.SentCluts.{row_at}
use Rattle.page_epoch.specs.declared.planned_set.PlannedSet.{PlannedSet}
use Rattle.page_epoch.specs.declared.planned_set.SentClut.{SentClut}
use Rattle.page_epoch.specs.declared.planned_set.SentRegion.{SentRegion}

-- ---- what the numbers of a set name in its epoch

-- the region that was found, and else none
abbrev pub region_or_none : Option Region → Region
region_or_none None = no_region
region_or_none (Some region) = region

-- the region of that number
abbrev pub epoch_region : Epoch → ℕ → Region
epoch_region epoch id = region_or_none (region_with id epoch.regions)

-- the picture of the cue at that place
abbrev pub picture_of_cue : List Picture → Epoch → ℕ → Picture
picture_of_cue pictures epoch place = picture_at_place pictures (cue_at epoch.cues place).picture

-- the depth of the region of the cue at that place
abbrev pub depth_of_cue : Epoch → ℕ → Depth
depth_of_cue epoch place = (epoch_region epoch (cue_at epoch.cues place).region).depth

-- ---- segments

-- the display of a script: its sides, and no window
abbrev pub display_of_script : Script → Display
display_of_script script = record { version = 0; width = script.width; height = script.height; window = None }

-- a set that is not normal begins with the display
abbrev pub display_segments : Script → State → List SegmentValue
display_segments script Normal = []
display_segments script state = of_display (display_of_script script) ∷ []

-- the seconds after which a receiver clears a page that is not sent again: twice those after which it is, and two more
abbrev pub time_out_of : Script → ℕ
time_out_of script = 2 * (script.refresh / SECOND) + 2

-- a region that is shown, at its place on the display
abbrev pub page_entry_of : Epoch → ℕ → PageEntry
page_entry_of epoch id = record { region = id; x = (epoch_region epoch id).x; y = (epoch_region epoch id).y }

-- the page, with the regions that are shown
abbrev pub page_segment : Script → Epoch → PlannedSet → SegmentValue
page_segment script epoch set =
    of_page (record {
      time_out = time_out_of script;
      version = set.page_version;
      state = set.state;
      entries = map
          (page_entry_of epoch) set.shown;
    })

-- a cue that a region lists: the object has the number of the cue's place, and stands at the cue's place in the region
abbrev pub listing_of : Epoch → ℕ → Listing
listing_of epoch place = record { object = place; x = (cue_at epoch.cues place).x; y = (cue_at epoch.cues place).y }

-- a region that lists these objects; where it is filled, with code 0
abbrev pub listed_region : Epoch → SentRegion → List Listing → SegmentValue
listed_region epoch sent listings =
    of_region (record {
      head = record {
        region = sent.id;
        version = sent.version;
        fill = sent.fill;
        width = (epoch_region epoch sent.id).width;
        height = (epoch_region epoch sent.id).height;
        depth = (epoch_region epoch sent.id).depth;
        clut = (epoch_region epoch sent.id).clut;
        code8 = 0;
        code4 = 0;
        code2 = 0;
      };
      listings = listings;
    })

-- a region, with the cues that it lists
abbrev pub region_segment_of : Epoch → SentRegion → SegmentValue
region_segment_of epoch sent = listed_region epoch sent (map (listing_of epoch) sent.cues)

-- an entry of a CLUT: the one that the colour row sets, in the table of its depth alone
abbrev pub clut_entry_of : Epoch → ℕ → ClutEntry
clut_entry_of epoch place =
    record {
      entry = (row_at epoch.colours place).entry;
      two = is_same_depth (row_at epoch.colours place).depth Two;
      four = is_same_depth (row_at epoch.colours place).depth Four;
      eight = is_same_depth (row_at epoch.colours place).depth Eight;
      colour = (row_at epoch.colours place).colour;
    }

-- a CLUT, with the entries that are sent
abbrev pub clut_segment_of : Epoch → SentClut → SegmentValue
clut_segment_of epoch sent =
    of_clut (record { clut = sent.clut; version = sent.version; entries = map (clut_entry_of epoch) sent.rows })

-- the segments before the objects
abbrev pub leading_segments : Script → Epoch → PlannedSet → List SegmentValue
leading_segments script epoch set =
    display_segments script set.state
    ++ (page_segment script epoch set
    ∷ (map (region_segment_of epoch) set.regions ++ map (clut_segment_of epoch) set.cluts))

-- an object of that number with these blocks of its two fields; its version is 0, whatever its number
abbrev pub object_with : ℕ → Bool → List ℕ → List ℕ → Object
object_with number see_through top bottom =
    record { object = number; version = 0; see_through = see_through; top = top; bottom = bottom }

-- the segment of that object
abbrev pub object_segment : ℕ → Bool → List ℕ → List ℕ → SegmentValue
object_segment number see_through top bottom = of_object (object_with number see_through top bottom)

-- The object of the cue at a place: the blocks of the fields of the cue's picture, for the depth of its region. They
-- draw the picture.
pub record IsObjectOf (pictures : List Picture) (epoch : Epoch) (place : ℕ) (segment : SegmentValue) : Type 0 where
  pub top : List ℕ
  pub bottom : List ℕ
  pub blocks : AreFieldBlocks (picture_of_cue pictures epoch place) (depth_of_cue epoch place) top bottom
  pub drawn : DrawsPicture (picture_of_cue pictures epoch place) (depth_of_cue epoch place) top bottom
  pub value : segment ≡ object_segment place (cue_at epoch.cues place).see_through top bottom

-- an object for each cue, in order
abbrev pub AreObjectsOf : List Picture → Epoch → List ℕ → List SegmentValue → Type 0
AreObjectsOf pictures epoch [] [] = Unit {0}
AreObjectsOf pictures epoch [] (segment ∷ segments) = ⊥
AreObjectsOf pictures epoch (place ∷ places) [] = ⊥
AreObjectsOf pictures epoch (place ∷ places) (segment ∷ segments) =
    IsObjectOf pictures epoch place segment × AreObjectsOf pictures epoch places segments

-- ---- the packets

-- how many bytes a segment of that page has
abbrev pub segment_bytes : ℕ → SegmentValue → ℕ
segment_bytes page segment = length (spelled page segment)

-- the data field of a PES packet with these segments
abbrev pub segments_field : ℕ → List SegmentValue → List ℕ
segments_field page segments = data_field (flat_map (spelled page) segments)

-- the PES packet of a unit of a set: its segments, at the set's presentation time, which a packet tells modulo 2 to the
-- 33
abbrev pub unit_packet : ℕ → ℕ → List SegmentValue → List ℕ
unit_packet page time unit = written_pes (time % TIME_ROUND) (segments_field page unit)

-- These are the segments of a set of the script, in their order: those before the objects, an object for each cue of
-- the set, and the end of the set. Each of them fits its table on that page.
pub record AreSetSegments (script : Script) (page : ℕ) (set : PlannedSet)
    (segments : List SegmentValue) : Type 0 where
  pub epoch : Epoch
  pub found : slice_get script.epochs set.epoch ≡ Some epoch
  pub objects : List SegmentValue
  pub drawn : AreObjectsOf script.pictures epoch set.cues objects
  pub fit : All (IsWritable page) segments
  pub whole : segments ≡ leading_segments script epoch set ++ (objects ++ end_of_set ∷ [])

-- These are the PES packets of a set of the script: one for each unit that its segments are shared out to, in their
-- order.
pub record AreSetPackets (script : Script) (page : ℕ) (set : PlannedSet) (packets : List (List ℕ)) : Type 0 where
  pub segments : List SegmentValue
  pub carried : AreSetSegments script page set segments
  pub units : List (List SegmentValue)
  pub shared : IsSharedOut (segment_bytes page) segments units
  pub are : packets ≡ map (unit_packet page set.pts) units
