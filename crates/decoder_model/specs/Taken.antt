-- Which region and CLUT segments of an epoch are taken (EN 300 743, clauses 7.2.3 and 7.2.4, version numbers). The
-- segments of an epoch stand in a list, the latest first.
use Rattle.std.specs.Prelude.{ℕ, ◌==◌, Bool, true, not, if◌then◌else◌, List, [], ◌∷◌, flat_map, reverse, Option, Some, None}
use Rattle.stream_syntax.specs.Segments.{SegmentValue, of_page, of_region, of_clut, of_object, of_display, end_of_set, passed_over, Region, Clut, Display}
use Rattle.decoder_model.specs.Contents.{region_named, clut_named, display_of, in_order}
use Rattle.sub_base.specs.Lists.{first_given}
use Rattle.decoder_model.specs.Readings.{Content}

-- the segments of sets, the latest set first and in each the latest segment first
unfoldable pub segments_of : List (List Content) → List Content
segments_of sets = flat_map (λ set. reverse (in_order set)) sets

-- the last region segment of that id
abbrev pub last_region : ℕ → List Content → Option Region
last_region id segments = first_given (region_named id) segments

-- the last CLUT segment of that id
abbrev pub last_clut : ℕ → List Content → Option Clut
last_clut id segments = first_given (clut_named id) segments

-- the last display definition
abbrev pub last_display : List Content → Option Display
last_display segments = first_given display_of segments

-- no version is there, or another one
abbrev pub has_new_version : ℕ → Option ℕ → Bool
has_new_version version None = true
has_new_version version (Some last) = not (last == version)

-- the region_version_number of a region, where there is one (7.2.3)
abbrev pub version_of_region : Option Region → Option ℕ
version_of_region None = None
version_of_region (Some region) = Some region.head.version

-- the CLUT_version_number of a CLUT, where there is one (7.2.4)
abbrev pub version_of_clut : Option Clut → Option ℕ
version_of_clut None = None
version_of_clut (Some clut) = Some clut.version

-- behind earlier segments a region or CLUT segment is taken where it is the first of its id, or the last one of its id
-- has another version; all other segments are taken
abbrev pub is_taken : List Content → SegmentValue → Bool
is_taken earlier (of_region value) =
    has_new_version value.head.version (version_of_region (last_region value.head.region earlier))
is_taken earlier (of_clut value) = has_new_version value.version (version_of_clut (last_clut value.clut earlier))
is_taken earlier (of_page value) = true
is_taken earlier (of_object value) = true
is_taken earlier (of_display value) = true
is_taken earlier end_of_set = true
is_taken earlier passed_over = true

-- the taken segments of an epoch, the latest first
pub record Taken : Type 0 where
  pub segments : List Content

-- of the segments of an epoch those that are taken
unfoldable pub taken_among : List Content → List Content
taken_among [] = []
taken_among (segment ∷ earlier) =
    if is_taken earlier segment.value then segment ∷ taken_among earlier else taken_among earlier

-- the taken segments among those of an epoch, the latest first
abbrev pub taken_of : List Content → Taken
taken_of segments = record { segments = taken_among segments }

-- a region by its last taken segment
abbrev pub taken_region : ℕ → Taken → Option Region
taken_region id taken = last_region id taken.segments
