-- Why a kept display set is broken, or waits: the tests in order (EN 300 743, clauses 5.1, 5.2 and 7.2).
use Rattle.std.specs.Prelude.{ℕ, ◌+◌, ◌-◌, ◌/◌, ◌==◌, ◌||◌, ◌&&◌, Bool, false, nat_lt, if◌then◌else◌, List, [], ◌∷◌, length, filter_map, Option, Some, None, option_map, option_and_then}
use Rattle.std.specs.List.{list_any, range_with_len}
use Rattle.std.specs.Option.{is_some, is_none, option_or}
use Rattle.sub_base.specs.Depth as depths
use Rattle.sub_base.specs.declared.depth.Depth.{Depth}
use Rattle.sub_base.specs.declared.profile.Profile.{Profile}
use Rattle.stream_syntax.specs.declared.wire.TheConstants.{DEFAULT_DISPLAY_HEIGHT, DEFAULT_DISPLAY_WIDTH}
use Rattle.stream_syntax.specs.PixelBlocks.{Part, string, table, line_end, table_size}
use Rattle.stream_syntax.specs.PixelCodes.{string_of}
use Rattle.stream_syntax.specs.Segments.{SegmentValue, of_page, of_region, of_clut, of_object, of_display, end_of_set, passed_over, Page, Region, Object, Display}
use Rattle.stream_syntax.specs.declared.code_fault.CodeKind.TheVariants.{TooDeep}
use Rattle.stream_syntax.specs.declared.page.PageEntry.{PageEntry}
use Rattle.stream_syntax.specs.declared.region.RegionHead.{RegionHead}
use Rattle.stream_syntax.specs.declared.segment_fault.SegmentKind.TheVariants.{Code}
use Rattle.decoder_model.specs.Contents.{page_of, region_of, object_of, display_of, display_in_set, region_named, in_order}
use Rattle.sub_base.specs.Lists.{first_given, with_earlier}
use Rattle.decoder_model.specs.Nodes.{nodes_of, region_bytes, pixels_used}
use Rattle.decoder_model.specs.Pixels.{depth_of, painted_listings}
use Rattle.decoder_model.specs.Readings.{Content, Reading, read, faulty}
use Rattle.decoder_model.specs.Taken.{Taken, segments_of, taken_of, taken_region, is_taken, last_region, last_display}
use Rattle.decoder_model.specs.declared.set_fault.SetFault.{SetFault}
use Rattle.decoder_model.specs.declared.set_fault.SetFault.TheVariants as fault
use Rattle.stream_syntax.specs.declared.wire.TheConstants.{DISPLAY_DEFINITION, PAGE_COMPOSITION, REGION_COMPOSITION}

-- ---- the segments of a set, one by one

-- what a segment stands for, where it was read without a fault
abbrev pub content_in : Reading → Option Content
content_in (read content) = Some content
content_in (faulty fault) = None

-- what the segments without a fault of their own stand for, in their order
abbrev pub contents_in : List Reading → List Content
contents_in readings = filter_map content_in readings

-- a page, a display, or a region of the same id stands among contents already
abbrev pub twice_among : List Content → SegmentValue → Option SetFault
twice_among before (of_page value) =
    if list_any (λ content. is_some (page_of content)) before
    then Some (fault.TwiceInSet PAGE_COMPOSITION 0) else None
twice_among before (of_display value) =
    if list_any (λ content. is_some (display_of content)) before
    then Some (fault.TwiceInSet DISPLAY_DEFINITION 0) else None
twice_among before (of_region value) =
    if list_any (λ content. is_some (region_named value.head.region content)) before
    then Some (fault.TwiceInSet REGION_COMPOSITION value.head.region) else None
twice_among before (of_clut value) = None
twice_among before (of_object value) = None
twice_among before end_of_set = None
twice_among before passed_over = None

-- the fault of a segment behind others of its set: its own, or that it is the second
abbrev pub fault_of_segment : List Reading → Reading → Option SetFault
fault_of_segment before (faulty found) = Some (fault.Segment found)
fault_of_segment before (read content) = twice_among (contents_in before) content.value

-- the first segment with a fault
abbrev pub segment_fault : List Reading → Option SetFault
segment_fault readings =
    first_given (λ (placed : Reading × List Reading). fault_of_segment placed.1 placed.0) (with_earlier [] readings)

-- ---- the display

-- the display of an epoch: the last one that is defined, and else 720 by 576 pixels without a window (7.2.1)
abbrev pub display_or_default : Option Display → Display
display_or_default None =
    record { version = 0; width = DEFAULT_DISPLAY_WIDTH; height = DEFAULT_DISPLAY_HEIGHT; window = None }
display_or_default (Some display) = display

-- the display of an epoch with these segments, the latest first (7.2.1)
abbrev pub display_in_force : List Content → Display
display_in_force segments = display_or_default (last_display segments)

-- a display with more columns or rows than the profile
abbrev pub display_fault : Profile → Display → Option SetFault
display_fault profile display =
    if nat_lt profile.width display.width || nat_lt profile.height display.height
    then Some (fault.DisplayTooLarge display.width display.height) else None

-- ---- regions

-- the region of an entry of the page, where none of the segments defines it
abbrev pub unknown_region : List Content → PageEntry → Option SetFault
unknown_region segments entry =
    if is_none (last_region entry.region segments) then Some (fault.NoSuchRegion entry.region) else None

-- the first region that the page shows and none of the segments defines
abbrev pub page_fault : List Content → Page → Option SetFault
page_fault segments page = first_given (unknown_region segments) page.entries

-- two regions have the same size and depth
abbrev pub has_same_shape : RegionHead → RegionHead → Bool
has_same_shape a b =
    (a.width == b.width) && ((a.height == b.height) && depths.is_same_depth a.depth b.depth)

-- a region segment has another size or depth than the taken one before it
abbrev pub changed_from : Region → Option Region → Option SetFault
changed_from region None = None
changed_from region (Some last) =
    if has_same_shape region.head last.head then None else Some (fault.RegionChanged region.head.region)

-- a taken region segment, behind earlier segments, that changes its region
abbrev pub changed_region : List Content → SegmentValue → Option Region → Option SetFault
changed_region earlier value None = None
changed_region earlier value (Some region) =
    if is_taken earlier value then changed_from region (taken_region region.head.region (taken_of earlier)) else None

-- a region that is new in the epoch, behind earlier taken segments, and needs more bytes than these leave free
abbrev pub region_too_large : Profile → Taken → Region → Option SetFault
region_too_large profile taken region =
    if is_none (taken_region region.head.region taken)
    && nat_lt (profile.pixels - pixels_used taken) (region_bytes region.head)
    then Some (fault.PixelFull (region_bytes region.head) (profile.pixels - pixels_used taken)) else None

-- ---- nodes

-- a composition with more nodes than the profile
abbrev pub composition_fault : Profile → Taken → Page → Option SetFault
composition_fault profile taken page =
    if nat_lt profile.nodes (nodes_of taken page) then Some (fault.CompositionFull (nodes_of taken page)) else None

-- ---- the depth of objects

-- how many bytes a sub-block has: its type, and what follows
abbrev pub part_size : Part → ℕ
part_size (string depth codes) = 1 + (length (string_of depth codes) + 7) / 8
part_size (table kind entries) = 1 + table_size kind
part_size line_end = 1

-- a sub-block is a string that is deeper than a region
abbrev pub is_too_deep : Depth → Part → Bool
is_too_deep region (string depth codes) = nat_lt (depths.bits_of region) (depths.bits_of depth)
is_too_deep region (table kind entries) = false
is_too_deep region line_end = false

-- the place of the first string of a block that is deeper than a region, in bytes
abbrev pub too_deep_at : Depth → List Part → Option ℕ
too_deep_at region [] = None
too_deep_at region (part ∷ parts) =
    if is_too_deep region part then Some 0 else option_map (λ place. part_size part + place) (too_deep_at region parts)

-- the fault of a string at that place of a block, the first byte of which has a place in the segment
abbrev pub too_deep_fault : ℕ → ℕ → SetFault
too_deep_fault block place =
    fault.Segment (record { place = block + place; kind = Code (record { place = place; kind = TooDeep }) })

-- the fault of an object in a region of a depth: in its top block, or else in its bottom block
abbrev pub depth_fault : Depth → Content → Object → Option SetFault
depth_fault region content object =
    option_or
    (option_map (too_deep_fault 13) (too_deep_at region content.top))
    (option_map (too_deep_fault (13 + length object.top)) (too_deep_at region content.bottom))

-- the fault of an object, behind earlier taken segments, in a region in which it paints a listing
abbrev pub fault_in_region : Taken → Content → Object → ℕ → Option SetFault
fault_in_region earlier content object id =
    if length (painted_listings earlier id object) == 0 then None
    else depth_fault (depth_of (taken_region id earlier)) content object

-- the ids that a region can have, rising; an id is a byte
unfoldable pub all_region_ids : List ℕ
all_region_ids = range_with_len 0 256

-- the fault of an object in the region of the least id in which it has one
abbrev pub fault_in_regions : Taken → Content → Object → Option SetFault
fault_in_regions earlier content object = first_given (fault_in_region earlier content object) all_region_ids

-- ---- all of a set

-- the first fault that the segments of a set have by a test, each behind the earlier segments of the epoch, the latest
-- first
abbrev pub first_fault_by : (List Content → Content → Option SetFault) → List Content → List Content
    → Option SetFault
first_fault_by test older set =
    first_given (λ (placed : Content × List Content). test placed.1 placed.0) (with_earlier older (in_order set))

-- a segment behind earlier segments is a taken region segment that changes the size or depth of its region
abbrev pub region_changed : List Content → Content → Option SetFault
region_changed earlier content = changed_region earlier content.value (region_of content)

-- a region segment behind earlier segments that needs more bytes of pixels than are free
abbrev pub pixels_full : Profile → List Content → Content → Option SetFault
pixels_full profile earlier content = option_and_then (region_too_large profile (taken_of earlier)) (region_of content)

-- an object behind earlier segments whose pixel code strings are deeper than a region that it is painted in
abbrev pub object_too_deep : List Content → Content → Option SetFault
object_too_deep earlier content = option_and_then (fault_in_regions (taken_of earlier) content) (object_of content)

-- the first fault of a set by what the epoch is with it: the sets of the epoch before it, the latest first, and the set
-- with its page
unfoldable pub epoch_fault : Profile → List (List Content) → List Content → Page → Option SetFault
epoch_fault profile before set page =
    first_given (λ (found : Option SetFault). found)
    (option_and_then (display_fault profile) (display_in_set set)
    ∷ page_fault (segments_of (set ∷ before)) page
    ∷ first_fault_by region_changed (segments_of before) set
    ∷ first_fault_by (pixels_full profile) (segments_of before) set
    ∷ composition_fault profile (taken_of (segments_of (set ∷ before))) page
    ∷ first_fault_by object_too_deep (segments_of before) set
    ∷ [])
