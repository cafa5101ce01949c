-- The pixel codes in a region (EN 300 743, clauses 7.2.3 and 7.2.5): the last write to each pixel.
use Rattle.std.specs.Prelude.{ℕ, ◌+◌, ◌*◌, ◌==◌, ◌&&◌, Bool, true, false, not, nat_le, nat_lt, if◌then◌else◌, List, [], ◌∷◌, filter, take_while, Option, Some, None, unwrap_or}
use Rattle.std.specs.Option.{is_none, option_or}
use Rattle.sub_base.specs.declared.depth.Depth.{Depth}
use Rattle.sub_base.specs.declared.depth.Depth.TheVariants.{Two, Four, Eight}
use Rattle.stream_syntax.specs.PixelBlocks.{Part, runs_after}
use Rattle.stream_syntax.specs.Segments.{SegmentValue, of_page, of_region, of_clut, of_object, of_display, end_of_set, passed_over, Region, Object}
use Rattle.stream_syntax.specs.declared.pixel_run.Run.{Run}
use Rattle.stream_syntax.specs.declared.region.Listing.{Listing}
use Rattle.stream_syntax.specs.declared.region.RegionHead.{RegionHead}
use Rattle.decoder_model.specs.Contents.{region_named, object_named}
use Rattle.sub_base.specs.Lists.{first_given, last_given}
use Rattle.decoder_model.specs.Readings.{Content}
use Rattle.decoder_model.specs.Taken.{Taken, taken_region, has_new_version}

-- ---- which listings an object paints

-- the object_version_number of an object, where there is one
abbrev pub version_of_object : Option Object → Option ℕ
version_of_object None = None
version_of_object (Some object) = Some object.version

-- the segments after the last region segment of that id
abbrev pub since_region : ℕ → Taken → List Content
since_region id taken = take_while (λ segment. is_none (region_named id segment)) taken.segments

-- behind earlier segments the object paints the listings of a region that name it: since the region's last segment it
-- was not there, or the last time with another version
abbrev pub is_painting : Taken → ℕ → Object → Bool
is_painting earlier id object =
    has_new_version object.version
    (version_of_object (first_given (object_named object.object) (since_region id earlier)))

-- the listings among some that name an object
abbrev pub listings_naming : ℕ → List Listing → List Listing
listings_naming id listings = filter (λ listing. listing.object == id) listings

-- the listings that the object paints in a region, by the region's last segment
abbrev pub listings_by : Bool → Object → Option Region → List Listing
listings_by false object region = []
listings_by true object None = []
listings_by true object (Some region) = listings_naming object.object region.listings

-- the listings that an object behind earlier taken segments paints in the region of that id: those that name it, where
-- it is new, or has another version than the last time, since the region's last segment
unfoldable pub painted_listings : Taken → ℕ → Object → List Listing
painted_listings earlier id object = listings_by (is_painting earlier id object) object (taken_region id earlier)

-- ---- what an object writes

-- an empty bottom block stands for the top block
abbrev pub bottom_parts : List Part → List Part → List Part
bottom_parts top [] = top
bottom_parts top (part ∷ parts) = part ∷ parts

-- a run of a field covers a column and a row of the region, from the corner of a listing on: the lines of the top field
-- are rows 0, 2, 4 and so on, those of the bottom field rows 1, 3, 5 and so on
abbrev pub is_covered : Listing → ℕ → ℕ → ℕ → Run → Bool
is_covered listing first_row x y run =
    (y == listing.y + 2 * run.line + first_row) && nat_le (listing.x + run.x) x
    && nat_lt x (listing.x + run.x + run.length)

-- a run changes what it covers, but for code 1, as it is read, of an object that is seen through
abbrev pub is_changed : Bool → Run → Bool
is_changed see_through run = not (see_through && (run.read == 1))

-- the code that a run of a field puts there
abbrev pub code_by_run : Bool → Listing → ℕ → ℕ → ℕ → Run → Option ℕ
code_by_run see_through listing first_row x y run =
    if is_covered listing first_row x y run && is_changed see_through run then Some run.code else None

-- the code that the runs of a field put there last
abbrev pub code_by_field : Bool → Listing → ℕ → ℕ → ℕ → List Run → Option ℕ
code_by_field see_through listing first_row x y runs = last_given (code_by_run see_through listing first_row x y) runs

-- the code that the fields of an object put there, for a region of a depth
abbrev pub code_by_listing : Depth → Bool → List Part → List Part → ℕ → ℕ → Listing → Option ℕ
code_by_listing depth see_through top bottom x y listing =
    option_or
    (code_by_field see_through listing 1 x y (runs_after depth [] (bottom_parts top bottom)))
    (code_by_field see_through listing 0 x y (runs_after depth [] top))

-- the code that an object puts there, through all of its listings in order
abbrev pub code_by_listings : Depth → Bool → List Part → List Part → ℕ → ℕ → List Listing → Option ℕ
code_by_listings depth see_through top bottom x y listings =
    last_given (code_by_listing depth see_through top bottom x y) listings

-- the depth of a region, by its last segment
abbrev pub depth_of : Option Region → Depth
depth_of None = Eight
depth_of (Some region) = region.head.depth

-- ---- the last write

-- the code with which a region of a depth is filled (7.2.3)
abbrev pub fill_code : Depth → RegionHead → ℕ
fill_code Two head = head.code2
fill_code Four head = head.code4
fill_code Eight head = head.code8

-- the code that a region segment puts in each pixel of the region of that id
abbrev pub code_by_fill : ℕ → RegionHead → Option ℕ
code_by_fill id head = if (head.region == id) && head.fill then Some (fill_code head.depth head) else None

-- the code that a segment behind earlier ones puts in a pixel of a region
abbrev pub code_by_segment : Taken → SegmentValue → List Part → List Part → ℕ → ℕ → ℕ → Option ℕ
code_by_segment earlier (of_region value) top bottom id x y = code_by_fill id value.head
code_by_segment earlier (of_object value) top bottom id x y =
    code_by_listings (depth_of (taken_region id earlier)) value.see_through top bottom x y
    (painted_listings earlier id value)
code_by_segment earlier (of_page value) top bottom id x y = None
code_by_segment earlier (of_clut value) top bottom id x y = None
code_by_segment earlier (of_display value) top bottom id x y = None
code_by_segment earlier end_of_set top bottom id x y = None
code_by_segment earlier passed_over top bottom id x y = None

-- the code that the last write to a pixel put there, of taken segments, the latest first
abbrev pub last_code : List Content → ℕ → ℕ → ℕ → Option ℕ
last_code [] id x y = None
last_code (segment ∷ earlier) id x y =
    option_or (code_by_segment (record { segments = earlier }) segment.value segment.top segment.bottom id x y)
    (last_code earlier id x y)

-- the code in a column and a row of a region, and 0 where nothing was written
unfoldable pub pixel_of : Taken → ℕ → ℕ → ℕ → ℕ
pixel_of taken id x y = unwrap_or (last_code taken.segments id x y) 0
