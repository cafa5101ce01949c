-- The tests of a set by its epoch, one after another.
use Rattle.std.proofs.Common.{◌≡◌, ◌∙◌, List, [], ◌∷◌, ◌++◌, reverse, Option, Some, None, option_map, refl, sym, ap}
use Rattle.std.specs.Option.{option_or, is_some}
use Rattle.sub_base.specs.Lists.{first_given}
use Rattle.std.specs.Prelude.{option_and_then}
use Rattle.sub_base.specs.declared.profile.Profile.{Profile}
use Rattle.stream_syntax.specs.Segments.{Display, Page, Region}
use Rattle.decoder_model.specs.Contents.{display_in_set, in_order}
use Rattle.decoder_model.specs.Faults.{display_fault, page_fault}
use Rattle.decoder_model.specs.Readings.{Content}
use Rattle.decoder_model.specs.Taken.{last_region, version_of_region, segments_of, taken_of, taken_region}
use Rattle.decoder_model.specs.declared.set_fault.SetFault.{SetFault}
use Rattle.page_core.specs.Composition.{Composition, KeptRegion, region_in}
use Rattle.page_core.specs.Private.Judging.{KnowsRegions}
use Rattle.page_core.specs.Memory.{head_of}
use Rattle.page_core.specs.Private.RegionTests.{HasHeads}
use Rattle.page_core.proofs.Regions.Versions.{version_of_taken}

some_mapped : {X Y : Type 0} (f : X → Y) (o : Option X) → is_some (option_map f o) ≡ is_some o
some_mapped f None = refl
some_mapped f (Some x) = refl

some_version : (o : Option Region) → is_some (version_of_region o) ≡ is_some o
some_version None = refl
some_version (Some region) = refl

-- who has the heads of an epoch's regions knows its regions
pub knows_by_heads : (segments : List Content) (composition : Composition) → HasHeads segments composition
    → KnowsRegions segments composition
knows_by_heads segments composition has id =
    sym (some_mapped (λ (kept : KeptRegion). kept.head) (region_in composition id))
    ∙ ap is_some (has id)
    ∙ some_mapped head_of (taken_region id (taken_of segments))
    ∙ sym (some_version (taken_region id (taken_of segments)))
    ∙ ap is_some (version_of_taken id segments)
    ∙ some_version (last_region id segments)

-- the segments of an epoch with one more set
pub segments_with : (set : List Content) (before : List (List Content))
    → segments_of (set ∷ before) ≡ reverse (in_order set) ++ segments_of before
unfolding segments_of
segments_with set before = refl

-- the first of four
pub first_is : (a b c d : Option SetFault) (fault : SetFault) → a ≡ Some fault
    → first_given (λ (found : Option SetFault). found) (a ∷ b ∷ c ∷ d ∷ []) ≡ Some fault
first_is a b c d fault is = ap (λ (o : Option SetFault). option_or o (option_or b (option_or c (option_or d None)))) is

pub second_is : (a b c d : Option SetFault) (fault : SetFault) → a ≡ None → b ≡ Some fault
    → first_given (λ (found : Option SetFault). found) (a ∷ b ∷ c ∷ d ∷ []) ≡ Some fault
second_is a b c d fault first is =
    ap (λ (o : Option SetFault). option_or o (option_or b (option_or c (option_or d None)))) first
    ∙ ap (λ (o : Option SetFault). option_or o (option_or c (option_or d None))) is

pub third_is : (a b c d : Option SetFault) (fault : SetFault) → a ≡ None → b ≡ None → c ≡ Some fault
    → first_given (λ (found : Option SetFault). found) (a ∷ b ∷ c ∷ d ∷ []) ≡ Some fault
third_is a b c d fault first second is =
    ap (λ (o : Option SetFault). option_or o (option_or b (option_or c (option_or d None)))) first
    ∙ ap (λ (o : Option SetFault). option_or o (option_or c (option_or d None))) second
    ∙ ap (λ (o : Option SetFault). option_or o (option_or d None)) is

pub last_is : (a b c d found : Option SetFault) → a ≡ None → b ≡ None → c ≡ None → d ≡ found
    → first_given (λ (one : Option SetFault). one) (a ∷ b ∷ c ∷ d ∷ []) ≡ found
last_is a b c d found first second third is =
    ap (λ (o : Option SetFault). option_or o (option_or b (option_or c (option_or d None)))) first
    ∙ ap (λ (o : Option SetFault). option_or o (option_or c (option_or d None))) second
    ∙ ap (λ (o : Option SetFault). option_or o (option_or d None)) third ∙ or_none d ∙ is
  where
    or_none : (o : Option SetFault) → option_or o None ≡ o
    or_none None = refl
    or_none (Some x) = refl

-- ---- what each test is

pub display_is : (profile : Profile) (set : List Content) (display : Option Display) (answer : Option SetFault)
    → display_in_set set ≡ display → answer ≡ option_and_then (display_fault profile) display
    → option_and_then (display_fault profile) (display_in_set set) ≡ answer
display_is profile set display answer same is = ap (option_and_then (display_fault profile)) same ∙ sym is

pub page_is : (set : List Content) (before : List (List Content)) (page : Page) (answer : Option SetFault)
    → answer ≡ page_fault (reverse (in_order set) ++ segments_of before) page
    → page_fault (segments_of (set ∷ before)) page ≡ answer
page_is set before page answer is = ap (λ segments. page_fault segments page) (segments_with set before) ∙ sym is
