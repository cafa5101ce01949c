-- The last version of a region or CLUT is that of its last taken segment.
use Rattle.std.proofs.Common.{◌≡◌, ◌∙◌, ℕ, ◌==◌, Bool, true, false, cond, not, List, [], ◌∷◌, Option, Some, None, refl, sym, ap}
use Rattle.std.specs.Option.{option_or}
use Rattle.std.proofs.lemmas.Bool.{eqb-true}
use Rattle.sub_base.specs.Lists.{first_given}
use Rattle.stream_syntax.specs.Segments.{SegmentValue, of_page, of_region, of_clut, of_object, of_display, end_of_set, passed_over, Region}
use Rattle.decoder_model.specs.Contents.{region_named, region_in, where_passes}
use Rattle.decoder_model.specs.Readings.{Content}
use Rattle.decoder_model.specs.Taken.{last_region, version_of_region, has_new_version, is_taken, taken_among, taken_of, taken_region}

-- ---- versions

not_new : (version : ℕ) (last : Option ℕ) → has_new_version version last ≡ false → last ≡ Some version
not_new version None is = absurd (cc)
not_new version (Some last) is = ap Some (eqb-true last version (by_not (last == version) is))
  where
    by_not : (b : Bool) → not b ≡ false → b ≡ true
    by_not true is = refl
    by_not false is = absurd (cc)

chosen : (id : ℕ) (v region : Region) (hit : Bool) → (v.head.region == id) ≡ hit
    → cond hit (Some v) None ≡ Some region → (v.head.region ≡ id) × (v ≡ region)
chosen id v region true is found = (eqb-true v.head.region id is, (cc))
chosen id v region false is found = absurd (cc)

-- a region segment that is not taken has the version of the last one before it
held_version : (id : ℕ) (earlier : List Content) (value : SegmentValue) (region : Region)
    → is_taken earlier value ≡ false → where_passes (λ r. r.head.region == id) (region_in value) ≡ Some region
    → version_of_region (last_region id earlier) ≡ Some region.head.version
held_version id earlier (of_region v) region held found =
    let both = chosen id v region (v.head.region == id) refl found in
    ap (λ n. version_of_region (last_region n earlier)) (sym both.0)
    ∙ not_new v.head.version (version_of_region (last_region v.head.region earlier)) held
    ∙ ap (λ (r : Region). Some r.head.version) both.1
held_version id earlier (of_page v) region held found = absurd (cc)
held_version id earlier (of_clut v) region held found = absurd (cc)
held_version id earlier (of_object v) region held found = absurd (cc)
held_version id earlier (of_display v) region held found = absurd (cc)
held_version id earlier end_of_set region held found = absurd (cc)
held_version id earlier passed_over region held found = absurd (cc)

one_more : (named : Option Region) (taken : Bool) (kept rest : Option Region)
    → version_of_region kept ≡ version_of_region rest
    → (taken ≡ false → (region : Region) → named ≡ Some region
    → version_of_region rest ≡ Some region.head.version)
    → version_of_region (cond taken (option_or named kept) kept) ≡ version_of_region (option_or named rest)
one_more None true kept rest same held = same
one_more None false kept rest same held = same
one_more (Some region) true kept rest same held = refl
one_more (Some region) false kept rest same held = same ∙ held refl region refl

pub given_by : {X Y : Type 0} (f : X → Option Y) (x : X) (xs : List X) (b : Bool)
    → first_given f (cond b (x ∷ xs) xs) ≡ cond b (option_or (f x) (first_given f xs)) (first_given f xs)
given_by f x xs true = refl
given_by f x xs false = refl

-- the last version of a region is that of its last taken segment
pub version_of_taken : (id : ℕ) (segments : List Content)
    → version_of_region (taken_region id (taken_of segments)) ≡ version_of_region (last_region id segments)
unfolding taken_among
version_of_taken id [] = refl
version_of_taken id (segment ∷ earlier) =
    ap version_of_region (given_by (region_named id) segment (taken_among earlier) (is_taken earlier segment.value))
    ∙ one_more (region_named id segment) (is_taken earlier segment.value) (last_region id (taken_among earlier))
    (last_region id earlier) (version_of_taken id earlier)
    (λ held region found. held_version id earlier segment.value region held found)
