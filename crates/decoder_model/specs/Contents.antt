-- The contents of the segments of a display set, by kind (EN 300 743, clause 7.2).
use Rattle.std.specs.Prelude.{ℕ, ◌==◌, Bool, if◌then◌else◌, List, ◌++◌, filter, filter_map, Option, Some, None, option_and_then}
use Rattle.std.specs.List.{list_any}
use Rattle.std.specs.Option.{is_some}
use Rattle.stream_syntax.specs.Segments.{SegmentValue, of_page, of_region, of_clut, of_object, of_display, end_of_set, passed_over, Page, Region, Clut, Object, Display, state_number}
use Rattle.stream_syntax.specs.declared.page.State.{State}
use Rattle.sub_base.specs.Lists.{first_given}
use Rattle.decoder_model.specs.Readings.{Content}

-- ---- the kinds

-- the page composition that a segment stands for (7.2.2); none of another kind
abbrev pub page_in : SegmentValue → Option Page
page_in (of_page value) = Some value
page_in (of_region value) = None
page_in (of_clut value) = None
page_in (of_object value) = None
page_in (of_display value) = None
page_in end_of_set = None
page_in passed_over = None

-- the region composition that a segment stands for (7.2.3); none of another kind
abbrev pub region_in : SegmentValue → Option Region
region_in (of_page value) = None
region_in (of_region value) = Some value
region_in (of_clut value) = None
region_in (of_object value) = None
region_in (of_display value) = None
region_in end_of_set = None
region_in passed_over = None

-- the CLUT definition that a segment stands for (7.2.4); none of another kind
abbrev pub clut_in : SegmentValue → Option Clut
clut_in (of_page value) = None
clut_in (of_region value) = None
clut_in (of_clut value) = Some value
clut_in (of_object value) = None
clut_in (of_display value) = None
clut_in end_of_set = None
clut_in passed_over = None

-- the object data that a segment stands for (7.2.5); none of another kind
abbrev pub object_in : SegmentValue → Option Object
object_in (of_page value) = None
object_in (of_region value) = None
object_in (of_clut value) = None
object_in (of_object value) = Some value
object_in (of_display value) = None
object_in end_of_set = None
object_in passed_over = None

-- the display definition that a segment stands for (7.2.1); none of another kind
abbrev pub display_in : SegmentValue → Option Display
display_in (of_page value) = None
display_in (of_region value) = None
display_in (of_clut value) = None
display_in (of_object value) = None
display_in (of_display value) = Some value
display_in end_of_set = None
display_in passed_over = None

-- the page composition of a segment that was read; none of another kind
abbrev pub page_of : Content → Option Page
page_of content = page_in content.value

-- the region composition of a segment that was read; none of another kind
abbrev pub region_of : Content → Option Region
region_of content = region_in content.value

-- the CLUT definition of a segment that was read; none of another kind
abbrev pub clut_of : Content → Option Clut
clut_of content = clut_in content.value

-- the object data of a segment that was read; none of another kind
abbrev pub object_of : Content → Option Object
object_of content = object_in content.value

-- the display definition of a segment that was read; none of another kind
abbrev pub display_of : Content → Option Display
display_of content = display_in content.value

-- ---- those with an id

-- the value, where it passes a test
abbrev pub where_passes : {X : Type 0} → (X → Bool) → Option X → Option X
where_passes test found = option_and_then (λ x. if test x then Some x else None) found

-- the region composition of a segment, where its region_id is that one
abbrev pub region_named : ℕ → Content → Option Region
region_named id content = where_passes (λ region. region.head.region == id) (region_of content)

-- the CLUT definition of a segment, where its CLUT_id is that one
abbrev pub clut_named : ℕ → Content → Option Clut
clut_named id content = where_passes (λ clut. clut.clut == id) (clut_of content)

-- the object data of a segment, where its object_id is that one
abbrev pub object_named : ℕ → Content → Option Object
object_named id content = where_passes (λ object. object.object == id) (object_of content)

-- ---- a set

-- the page of a set: its first page composition segment
abbrev pub page_in_set : List Content → Option Page
page_in_set set = first_given page_of set

-- the display of a set: its first display definition segment; none where it has no such segment
abbrev pub display_in_set : List Content → Option Display
display_in_set set = first_given display_of set

-- the set has a page of this state (7.2.2, page_state)
abbrev pub has_state : State → List Content → Bool
has_state state set =
    list_any (λ (page : Page). state_number page.state == state_number state) (filter_map page_of set)

-- the segments of a set in the order in which they are handled: display, page, regions, CLUTs, objects, each kind as it
-- stands
abbrev pub in_order : List Content → List Content
in_order set =
    filter (λ content. is_some (display_of content)) set
    ++ (filter (λ content. is_some (page_of content)) set
    ++ (filter (λ content. is_some (region_of content)) set
    ++ (filter (λ content. is_some (clut_of content)) set
    ++ filter (λ content. is_some (object_of content)) set)))
