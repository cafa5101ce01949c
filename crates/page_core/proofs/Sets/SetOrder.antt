-- The segments of a set in the order in which they are handled, kind by kind.
use Rattle.std.proofs.Common.{◌≡◌, ◌∙◌, refl, ap, Bool, true, false, List, ◌∷◌, ◌++◌, filter, reverse, Option, None, append_assoc}
use Rattle.std.specs.List.{list_any}
use Rattle.std.specs.Option.{option_or, is_some}
use Rattle.std.proofs.lemmas.List.{reverse-append}
use Rattle.stream_syntax.specs.Segments.{SegmentValue, of_page, of_region, of_clut, of_object, of_display, end_of_set, passed_over}
use Rattle.decoder_model.specs.Contents.{page_in, region_in, clut_in, object_in, display_in}
use Rattle.decoder_model.specs.Faults.{first_fault_by, object_too_deep, fault_in_regions}
use Rattle.std.specs.Prelude.{option_and_then}
use Rattle.decoder_model.specs.Readings.{Content}
use Rattle.decoder_model.specs.Taken.{taken_of, segments_of}
use Rattle.decoder_model.specs.declared.set_fault.SetFault.{SetFault}
use Rattle.page_core.specs.Private.RegionTests.{first_in, IsQuiet, before_regions}
use Rattle.page_core.specs.Private.SetSteps.{before_cluts, before_objects}
use Rattle.page_core.specs.Private.Walks as walks
use Rattle.page_core.proofs.Sets.Defining.{any_reversed, any_of_none, no_region_in_clut, no_region_in_object}
use Rattle.page_core.proofs.Sets.Orders.{is_display, is_page, is_region, is_clut, is_object, first_in-append, nothing_in}
use Rattle.page_core.proofs.Sets.TestsInOrder.{segments_with}

-- ---- a value is of one kind

no_object_in_page : (value : SegmentValue) → is_some (page_in value) ≡ true → object_in value ≡ None
no_object_in_page (of_page value) is = refl
no_object_in_page (of_region value) is = absurd (cc)
no_object_in_page (of_clut value) is = absurd (cc)
no_object_in_page (of_object value) is = absurd (cc)
no_object_in_page (of_display value) is = absurd (cc)
no_object_in_page end_of_set is = absurd (cc)
no_object_in_page passed_over is = absurd (cc)

no_object_in_region : (value : SegmentValue) → is_some (region_in value) ≡ true → object_in value ≡ None
no_object_in_region (of_page value) is = absurd (cc)
no_object_in_region (of_region value) is = refl
no_object_in_region (of_clut value) is = absurd (cc)
no_object_in_region (of_object value) is = absurd (cc)
no_object_in_region (of_display value) is = absurd (cc)
no_object_in_region end_of_set is = absurd (cc)
no_object_in_region passed_over is = absurd (cc)

no_object_in_clut : (value : SegmentValue) → is_some (clut_in value) ≡ true → object_in value ≡ None
no_object_in_clut (of_page value) is = absurd (cc)
no_object_in_clut (of_region value) is = absurd (cc)
no_object_in_clut (of_clut value) is = refl
no_object_in_clut (of_object value) is = absurd (cc)
no_object_in_clut (of_display value) is = absurd (cc)
no_object_in_clut end_of_set is = absurd (cc)
no_object_in_clut passed_over is = absurd (cc)

no_object_in_display : (value : SegmentValue) → is_some (display_in value) ≡ true → object_in value ≡ None
no_object_in_display (of_page value) is = absurd (cc)
no_object_in_display (of_region value) is = absurd (cc)
no_object_in_display (of_clut value) is = absurd (cc)
no_object_in_display (of_object value) is = absurd (cc)
no_object_in_display (of_display value) is = refl
no_object_in_display end_of_set is = absurd (cc)
no_object_in_display passed_over is = absurd (cc)

no_clut_in_region : (value : SegmentValue) → is_some (region_in value) ≡ true → clut_in value ≡ None
no_clut_in_region (of_page value) is = absurd (cc)
no_clut_in_region (of_region value) is = refl
no_clut_in_region (of_clut value) is = absurd (cc)
no_clut_in_region (of_object value) is = absurd (cc)
no_clut_in_region (of_display value) is = absurd (cc)
no_clut_in_region end_of_set is = absurd (cc)
no_clut_in_region passed_over is = absurd (cc)

no_clut_in_object : (value : SegmentValue) → is_some (object_in value) ≡ true → clut_in value ≡ None
no_clut_in_object (of_page value) is = absurd (cc)
no_clut_in_object (of_region value) is = absurd (cc)
no_clut_in_object (of_clut value) is = absurd (cc)
no_clut_in_object (of_object value) is = refl
no_clut_in_object (of_display value) is = absurd (cc)
no_clut_in_object end_of_set is = absurd (cc)
no_clut_in_object passed_over is = absurd (cc)

-- ---- kinds of a set

pub no_regions_in_cluts : (set : List Content) → list_any walks.is_region (reverse (filter is_clut set)) ≡ false
no_regions_in_cluts set =
    any_reversed is_region (filter is_clut set)
    ∙ any_of_none is_region is_clut set (λ content is. ap is_some (no_region_in_clut content.value is))

pub no_regions_in_objects : (set : List Content) → list_any walks.is_region (reverse (filter is_object set)) ≡ false
no_regions_in_objects set =
    any_reversed is_region (filter is_object set)
    ∙ any_of_none is_region is_object set (λ content is. ap is_some (no_region_in_object content.value is))

pub no_cluts_in_regions : (set : List Content) → list_any walks.is_clut (reverse (filter is_region set)) ≡ false
no_cluts_in_regions set =
    any_reversed is_clut (filter is_region set)
    ∙ any_of_none is_clut is_region set (λ content is. ap is_some (no_clut_in_region content.value is))

pub no_cluts_in_objects : (set : List Content) → list_any walks.is_clut (reverse (filter is_object set)) ≡ false
no_cluts_in_objects set =
    any_reversed is_clut (filter is_object set)
    ∙ any_of_none is_clut is_object set (λ content is. ap is_some (no_clut_in_object content.value is))

-- ---- objects

quiet_display : IsQuiet object_too_deep is_display
quiet_display before content is =
    ap (option_and_then (fault_in_regions (taken_of before) content)) (no_object_in_display content.value is)

quiet_page : IsQuiet object_too_deep is_page
quiet_page before content is =
    ap (option_and_then (fault_in_regions (taken_of before) content)) (no_object_in_page content.value is)

quiet_region : IsQuiet object_too_deep is_region
quiet_region before content is =
    ap (option_and_then (fault_in_regions (taken_of before) content)) (no_object_in_region content.value is)

quiet_clut : IsQuiet object_too_deep is_clut
quiet_clut before content is =
    ap (option_and_then (fault_in_regions (taken_of before) content)) (no_object_in_clut content.value is)

-- a test that finds nothing in a kind begins behind it
passes_kind : (test : List Content → Content → Option SetFault) (kind : Content → Bool)
    (older set rest : List Content) → IsQuiet test kind
    → first_in test older (filter kind set ++ rest) ≡ first_in test (reverse (filter kind set) ++ older) rest
passes_kind test kind older set rest quiet =
    first_in-append test older (filter kind set) rest
    ∙ ap (λ f. option_or f (first_in test (reverse (filter kind set) ++ older) rest))
    (nothing_in test kind older set quiet)

-- the first fault of the objects of a set
pub objects_in_order : (older set : List Content)
    → first_fault_by object_too_deep older set
    ≡ first_in object_too_deep (before_objects older set) (filter walks.is_object set)
objects_in_order older set =
    let d = filter is_display set in
    let p = filter is_page set in
    let r = filter is_region set in
    let c = filter is_clut set in
    let o = filter is_object set in
    passes_kind object_too_deep is_display older set (p ++ (r ++ (c ++ o))) quiet_display
    ∙ passes_kind object_too_deep is_page (reverse d ++ older) set (r ++ (c ++ o)) quiet_page
    ∙ passes_kind object_too_deep is_region (before_regions older set) set (c ++ o) quiet_region
    ∙ passes_kind object_too_deep is_clut (before_cluts older set) set o quiet_clut

-- ---- all of a set

turned_first : (xs ys older : List Content) → reverse (xs ++ ys) ++ older ≡ reverse ys ++ (reverse xs ++ older)
turned_first xs ys older =
    ap (λ zs. zs ++ older) (reverse-append xs ys) ∙ append_assoc (reverse ys) (reverse xs) older

-- the segments of an epoch with a set are those of its objects behind those of the other kinds
pub set_in_order : (set : List Content) (before : List (List Content))
    → segments_of (set ∷ before) ≡ reverse (filter walks.is_object set) ++ before_objects (segments_of before) set
set_in_order set before =
    let older = segments_of before in
    let d = filter is_display set in
    let p = filter is_page set in
    let r = filter is_region set in
    let c = filter is_clut set in
    let o = filter is_object set in
    segments_with set before
    ∙ turned_first d (p ++ (r ++ (c ++ o))) older
    ∙ turned_first p (r ++ (c ++ o)) (reverse d ++ older)
    ∙ turned_first r (c ++ o) (before_regions older set)
    ∙ turned_first c o (before_cluts older set)
