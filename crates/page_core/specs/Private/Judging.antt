-- What the tests of a set know of the epoch and of the set.
use Rattle.std.specs.Prelude.{◌≡◌, ℕ, ◌<◌, Bool, false, List, [], ◌∷◌, slice_index_or, Option, option_and_then}
use Rattle.std.specs.Option.{is_some}
use Rattle.sub_base.specs.Lists.{first_given}
use Rattle.sub_base.specs.declared.profile.Profile.{Profile}
use Rattle.stream_syntax.specs.Segments.{Page}
use Rattle.decoder_model.specs.Contents.{display_in_set}
use Rattle.decoder_model.specs.Faults.{display_fault, page_fault, first_fault_by, region_changed, pixels_full}
use Rattle.decoder_model.specs.Readings.{Content}
use Rattle.decoder_model.specs.Taken.{last_region, segments_of}
use Rattle.decoder_model.specs.declared.set_fault.SetFault.{SetFault}
use Rattle.page_core.specs.Composition.{Composition, region_in}
use Rattle.page_core.specs.Private.Seen.{defines}

-- a composition has a region of each id that these segments of an epoch have, and no other
abbrev pub KnowsRegions : List Content → Composition → Type 0
KnowsRegions segments composition =
    (id : ℕ) → is_some (region_in composition id) ≡ is_some (last_region id segments)

-- the flags tell which regions a set defines
abbrev pub AreDefined : List Content → List Bool → Type 0
AreDefined set flags = (id : ℕ) → id < 256 → slice_index_or flags id false ≡ defines id set

-- the first fault of a set by its display, by the regions of its page, and by its own regions: the tests of a set by
-- its epoch that come before its nodes are counted
abbrev pub fault_before_nodes : Profile → List (List Content) → List Content → Page → Option SetFault
fault_before_nodes profile before set page =
    first_given (λ (found : Option SetFault). found)
    (option_and_then (display_fault profile) (display_in_set set)
    ∷ page_fault (segments_of (set ∷ before)) page
    ∷ first_fault_by region_changed (segments_of before) set
    ∷ first_fault_by (pixels_full profile) (segments_of before) set
    ∷ [])
