-- The numbers of a region segment's head fit their fields.
use Rattle.std.proofs.Common.{subst, ℕ, List}
use Rattle.stream_syntax.specs.Fields.{Field, FitsFields}
use Rattle.stream_syntax.specs.Segments.{SegmentValue, Region, of_page, of_region, of_clut, of_object, of_display, end_of_set, passed_over, region_fields, segment_fields, IsSegment}
use Rattle.page_core.specs.Private.Painted.{FitsHead}
use Rattle.page_core.specs.Private.RegionSteps.{IsValidHead, IsValidValue}

-- the numbers of a segment fit
pub fields_of_head : (bytes : List ℕ) (region : Region) → IsSegment bytes (of_region region)
    → FitsHead region.head
fields_of_head bytes region is =
    let body : List Field = region_fields is.is_body.1 region in
    let fits : FitsFields (segment_fields is.kind is.page body) =
    subst (λ (fields : List Field). FitsFields (segment_fields is.kind is.page fields)) is.is_body.2 is.fits in
    let from_clut = fits.1.1.1.1.1.1.1.1.1.1.1.1.1 in
    record { clut = from_clut.0; code8 = from_clut.1.0; code4 = from_clut.1.1.0; code2 = from_clut.1.1.1.0 }

-- so does its id, and the sides of a region are at least 1
pub valid_head : (bytes : List ℕ) (region : Region) → IsSegment bytes (of_region region) → IsValidHead region.head
valid_head bytes region is =
    let body : List Field = region_fields is.is_body.1 region in
    let fits : FitsFields (segment_fields is.kind is.page body) =
    subst (λ (fields : List Field). FitsFields (segment_fields is.kind is.page fields)) is.is_body.2 is.fits in
    record { fits = fields_of_head bytes region is; region = fits.1.1.1.1.0; width = is.valid.0; height = is.valid.1 }

pub valid_value : (bytes : List ℕ) (value : SegmentValue) → IsSegment bytes value → IsValidValue value
valid_value bytes (of_page value) is = tt
valid_value bytes (of_region value) is = valid_head bytes value is
valid_value bytes (of_clut value) is = tt
valid_value bytes (of_object value) is = tt
valid_value bytes (of_display value) is = tt
valid_value bytes end_of_set is = tt
valid_value bytes passed_over is = tt
