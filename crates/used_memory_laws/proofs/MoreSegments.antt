-- With the segments of a set that has no fault the regions of an epoch still fit the pixel buffer.
use Rattle.std.proofs.Common.{◌≡◌, ◌∙◌, ℕ, ◌+◌, ◌-◌, ◌&&◌, ◌≤◌, nat_lt, refl, sym, ap, subst, arith}
use Rattle.std.proofs.Common.{Bool, true, false, cond, List, [], ◌∷◌, ◌++◌, reverse, Option, Some, None}
use Rattle.std.specs.Option.{is_none}
use Rattle.std.proofs.lemmas.Bool.Decides.{nat_tests}
use Rattle.std.proofs.lemmas.List.{append_assoc, reverse-append}
use Rattle.sub_base.specs.Lists.{first_given, with_earlier}
use Rattle.sub_base.specs.declared.profile.Profile.{Profile}
use Rattle.stream_syntax.specs.Segments.{Region}
use Rattle.decoder_model.specs.Contents.{region_of}
use Rattle.decoder_model.specs.Faults.{changed_region, changed_from, region_changed}
use Rattle.decoder_model.specs.Faults.{region_too_large, pixels_full}
use Rattle.decoder_model.specs.Nodes.{region_bytes, pixels_used}
use Rattle.decoder_model.specs.Readings.{Content}
use Rattle.decoder_model.specs.Taken.{is_taken, last_region, taken_among, taken_of}
use Rattle.decoder_model.specs.declared.set_fault.SetFault.{SetFault}
use Rattle.decoder_model.specs.declared.set_fault.SetFault.TheVariants.{PixelFull}
use Rattle.decoder_model.proofs.TakenLaws.{taken_first, held_first}
use Rattle.page_core.proofs.Counts.PixelRoom.{neither, of_segments, same_bytes, shape_kept, used_with_new, used_with_same, used_with_other}

-- the regions of taken segments fit the buffer
abbrev pub HaveRoom : Profile → List Content → Type 0
HaveRoom profile taken = pixels_used (of_segments taken) ≤ profile.pixels

-- ---- what a region without a fault needs

-- the fault of a region that needs so many bytes where so many are free
abbrev too_large_by : ℕ → ℕ → Bool → Option SetFault
too_large_by need free large = cond large (Some (PixelFull need free)) None

within_free : (need free : ℕ) (large : Bool) → nat_lt free need ≡ large → too_large_by need free large ≡ None
    → need ≤ free
within_free need free true is none = absurd (cc)
within_free need free false is none = grind (arith, nat_tests)

fits : (profile : Profile) (taken : List Content) (region : Region) → last_region region.head.region taken ≡ None
    → region_too_large profile (of_segments taken) region ≡ None
    → region_bytes region.head ≤ profile.pixels - pixels_used (of_segments taken)
fits profile taken region new none =
    let need : ℕ = region_bytes region.head in
    let free : ℕ = profile.pixels - pixels_used (of_segments taken) in
    within_free need free (nat_lt free need) refl
    (sym (ap (λ (last : Option Region). too_large_by need free (is_none last && nat_lt free need)) new) ∙ none)

-- ---- one segment

-- a taken segment without a fault leaves the regions within the buffer
with_taken : (profile : Profile) (earlier : List Content) (content : Content)
    → is_taken earlier content.value ≡ true
    → region_changed earlier content ≡ None → pixels_full profile earlier content ≡ None
    → HaveRoom profile (taken_among earlier) → HaveRoom profile (content ∷ taken_among earlier)
with_taken profile earlier content taken shape room within = by (region_of content) refl
  where
    changed_by : Bool → Region → Option SetFault
    changed_by b region = cond b (changed_from region (last_region region.head.region (taken_among earlier))) None

    with_region : (region : Region) → region_of content ≡ Some region
        → changed_from region (last_region region.head.region (taken_among earlier)) ≡ None
        → region_too_large profile (taken_of earlier) region ≡ None
        → (last : Option Region) → last_region region.head.region (taken_among earlier) ≡ last
        → HaveRoom profile (content ∷ taken_among earlier)
    with_region region is same small None new =
        let more : region_bytes region.head ≤ profile.pixels - pixels_used (taken_of earlier) =
        fits profile (taken_among earlier) region new small in
        omega (arith, used_with_new content region (taken_among earlier) is new, more, within)
    with_region region is same small (Some last) known =
        let size : region_bytes region.head ≡ region_bytes last.head =
        same_bytes region.head last.head
        (shape_kept region last (sym (ap (changed_from region) known) ∙ same)) in
        omega (arith, used_with_same content region last (taken_among earlier) is known size, within)

    by : (found : Option Region) → region_of content ≡ found → HaveRoom profile (content ∷ taken_among earlier)
    by None is = omega (arith, used_with_other content (taken_among earlier) is, within)
    by (Some region) is =
        let same : changed_from region (last_region region.head.region (taken_among earlier)) ≡ None =
        sym (ap (λ b. changed_by b region) taken) ∙ sym (ap (changed_region earlier content.value) is) ∙ shape in
        let small : region_too_large profile (taken_of earlier) region ≡ None =
        sym (ap (λ (found : Option Region). too_large found) is) ∙ room in
        with_region region is same small (last_region region.head.region (taken_among earlier)) refl
      where
        too_large : Option Region → Option SetFault
        too_large None = None
        too_large (Some region) = region_too_large profile (taken_of earlier) region

with_one : (profile : Profile) (earlier : List Content) (content : Content) → region_changed earlier content ≡ None
    → pixels_full profile earlier content ≡ None → HaveRoom profile (taken_among earlier)
    → HaveRoom profile (taken_among (content ∷ earlier))
with_one profile earlier content shape room within = by (is_taken earlier content.value) refl
  where
    by : (taken : Bool) → is_taken earlier content.value ≡ taken
        → HaveRoom profile (taken_among (content ∷ earlier))
    by true is =
        subst (HaveRoom profile) (sym (taken_first earlier content is))
        (with_taken profile earlier content is shape room within)
    by false is = subst (HaveRoom profile) (sym (held_first earlier content is)) within

-- ---- several segments

-- what a test finds first at segments, each behind those before it and older ones
abbrev found_by : (List Content → Content → Option SetFault) → List Content → List Content → Option SetFault
found_by test older set =
    first_given (λ (placed : Content × List Content). test placed.1 placed.0) (with_earlier older set)

pub with_more : (profile : Profile) (older set : List Content) → found_by region_changed older set ≡ None
    → found_by (pixels_full profile) older set ≡ None → HaveRoom profile (taken_among older)
    → HaveRoom profile (taken_among (reverse set ++ older))
with_more profile older [] shape room within = within
with_more profile older (content ∷ set) shape room within =
    let after : List Content = content ∷ older in
    let shapes = neither (region_changed older content) (found_by region_changed after set) shape in
    let rooms = neither (pixels_full profile older content) (found_by (pixels_full profile) after set) room in
    let joined : reverse (content ∷ set) ++ older ≡ reverse set ++ (content ∷ older) =
    ap (λ all. all ++ older) (reverse-append (content ∷ []) set)
    ∙ append_assoc (reverse set) (content ∷ []) older in
    subst (λ (segments : List Content). HaveRoom profile (taken_among segments)) (sym joined)
    (with_more profile after set shapes.1 rooms.1 (with_one profile older content shapes.0 rooms.0 within))
