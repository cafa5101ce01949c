-- Taken segments: the last taken and the last segment of an id have one version, and what segments of one set add.
use Rattle.std.proofs.Common.{◌≡◌, ◌∙◌, ℕ, Bool, true, false, not, cond, eqb, List, [], ◌∷◌, Option, Some, None, refl, sym, ap, subst, arith}
use Rattle.std.specs.Option.{option_or}
use Rattle.std.proofs.lemmas.Bool.Decides.{nat_tests}
use Rattle.stream_syntax.specs.Segments.{SegmentValue, of_page, of_region, of_clut, of_object, of_display, end_of_set, passed_over, Region, Clut}
use Rattle.decoder_model.specs.Contents.{region_named, clut_named}
use Rattle.sub_base.specs.Lists.{first_given}
use Rattle.decoder_model.specs.Readings.{Content}
use Rattle.decoder_model.specs.Taken.{Taken, has_new_version, version_of_region, version_of_clut, is_taken, taken_among, last_region, last_clut}

-- ---- one segment more

-- the segment is taken
pub taken_first : (earlier : List Content) (segment : Content) → is_taken earlier segment.value ≡ true
    → taken_among (segment ∷ earlier) ≡ segment ∷ taken_among earlier
unfolding taken_among
taken_first earlier segment e = ap (λ b. cond b (segment ∷ taken_among earlier) (taken_among earlier)) e

-- it is not
pub held_first : (earlier : List Content) (segment : Content) → is_taken earlier segment.value ≡ false
    → taken_among (segment ∷ earlier) ≡ taken_among earlier
unfolding taken_among
held_first earlier segment e = ap (λ b. cond b (segment ∷ taken_among earlier) (taken_among earlier)) e

-- of no segments none is taken
pub none_taken : taken_among [] ≡ []
unfolding taken_among
none_taken = refl

-- ---- versions

-- a version that is not new is the last one
not_new : (version : ℕ) (last : Option ℕ) → has_new_version version last ≡ false → last ≡ Some version
not_new version None e = absurd (cc)
not_new version (Some last) e = let same : last ≡ version = grind (arith, nat_tests) in ap Some same

-- what is sought among the segments: things with an id, of which a segment is taken by its version
pub record IsVersioned {X : Type 0} (named : Content → Option X) (version : Option X → Option ℕ)
    (number : X → ℕ) : Type 0 where
  pub some : (x : X) → version (Some x) ≡ Some (number x)
  pub taken : (earlier : List Content) (segment : Content) (x : X) → named segment ≡ Some x
      → is_taken earlier segment.value ≡ has_new_version (number x) (version (first_given named earlier))

same_version : {X : Type 0} (named : Content → Option X) (version : Option X → Option ℕ) (number : X → ℕ)
    → IsVersioned named version number
    → (segments : List Content)
    → version (first_given named (taken_among segments)) ≡ version (first_given named segments)
same_version named version number h [] = ap (λ taken. version (first_given named taken)) none_taken
same_version {X} named version number h (segment ∷ earlier) =
    by (is_taken earlier segment.value) refl (same_version named version number h earlier)
  where
    behind : (found : Option X) → named segment ≡ found
        → version (first_given named (taken_among earlier)) ≡ version (first_given named earlier)
        → version (option_or (named segment) (first_given named (taken_among earlier)))
        ≡ version (option_or (named segment) (first_given named earlier))
    behind None e again = rw e again
    behind (Some x) e again = rw e refl

    held : (found : Option X) → named segment ≡ found → is_taken earlier segment.value ≡ false
        → version (first_given named (taken_among earlier)) ≡ version (first_given named earlier)
        → version (first_given named (taken_among earlier))
        ≡ version (option_or (named segment) (first_given named earlier))
    held None e old again = rw e again
    held (Some x) e old again =
        let last : version (first_given named earlier) ≡ Some (number x) =
        not_new (number x) (version (first_given named earlier)) (sym (h.taken earlier segment x e) ∙ old) in
        rw e (again ∙ last ∙ sym (h.some x))

    by : (b : Bool) → is_taken earlier segment.value ≡ b
        → version (first_given named (taken_among earlier)) ≡ version (first_given named earlier)
        → version (first_given named (taken_among (segment ∷ earlier)))
        ≡ version (first_given named (segment ∷ earlier))
    by true e again =
        ap (λ all. version (first_given named all)) (taken_first earlier segment e)
        ∙ behind (named segment) refl again
    by false e again =
        ap (λ all. version (first_given named all)) (held_first earlier segment e)
        ∙ held (named segment) refl e again

-- ---- regions and CLUTs

-- the value of a region segment of that id
pub region_value : (id : ℕ) (segment : Content) (region : Region) → region_named id segment ≡ Some region
    → (segment.value ≡ of_region region) × (region.head.region ≡ id)
region_value id segment region e = by segment.value refl
  where
    of_value : (found : Region) (b : Bool) → eqb found.head.region id ≡ b
        → cond b (Some found) None ≡ Some region → (found ≡ region) × (found.head.region ≡ id)
    of_value found true same is = (cc, grind (arith, nat_tests))
    of_value found false same is = absurd (cc)

    by : (value : SegmentValue) → segment.value ≡ value → (segment.value ≡ of_region region)
        × (region.head.region ≡ id)
    by value is =
        elim value as
        (λ v. segment.value ≡ v → (segment.value ≡ of_region region) × (region.head.region ≡ id)) [
          | of_page v ↦ λ is. absurd (let no : None ≡ Some region = rw is at e in cc)
          | of_region v ↦ λ is. let both =
              of_value v (eqb v.head.region id) refl (rw is at e) in
              (is ∙ ap of_region both.0, subst (λ (r : Region). r.head.region ≡ id) both.0 both.1)
          | of_clut v ↦ λ is. absurd (let no : None ≡ Some region = rw is at e in cc)
          | of_object v ↦ λ is. absurd (let no : None ≡ Some region = rw is at e in cc)
          | of_display v ↦ λ is. absurd (let no : None ≡ Some region = rw is at e in cc)
          | end_of_set ↦ λ is. absurd (let no : None ≡ Some region = rw is at e in cc)
          | passed_over ↦ λ is. absurd (let no : None ≡ Some region = rw is at e in cc)
        ] is

-- the value of a CLUT segment of that id
pub clut_value : (id : ℕ) (segment : Content) (clut : Clut) → clut_named id segment ≡ Some clut
    → (segment.value ≡ of_clut clut) × (clut.clut ≡ id)
clut_value id segment clut e = by segment.value refl
  where
    of_value : (found : Clut) (b : Bool) → eqb found.clut id ≡ b → cond b (Some found) None ≡ Some clut
        → (found ≡ clut) × (found.clut ≡ id)
    of_value found true same is = (cc, grind (arith, nat_tests))
    of_value found false same is = absurd (cc)

    by : (value : SegmentValue) → segment.value ≡ value → (segment.value ≡ of_clut clut) × (clut.clut ≡ id)
    by value is = elim value as (λ v. segment.value ≡ v → (segment.value ≡ of_clut clut) × (clut.clut ≡ id)) [
      | of_page v ↦ λ is. absurd (let no : None ≡ Some clut = rw is at e in cc)
      | of_region v ↦ λ is. absurd (let no : None ≡ Some clut = rw is at e in cc)
      | of_clut v ↦ λ is. let both =
          of_value v (eqb v.clut id) refl (rw is at e) in
          (is ∙ ap of_clut both.0, subst (λ (c : Clut). c.clut ≡ id) both.0 both.1)
      | of_object v ↦ λ is. absurd (let no : None ≡ Some clut = rw is at e in cc)
      | of_display v ↦ λ is. absurd (let no : None ≡ Some clut = rw is at e in cc)
      | end_of_set ↦ λ is. absurd (let no : None ≡ Some clut = rw is at e in cc)
      | passed_over ↦ λ is. absurd (let no : None ≡ Some clut = rw is at e in cc)
    ] is

regions_are_versioned : (id : ℕ) → IsVersioned (region_named id) version_of_region (λ region. region.head.version)
regions_are_versioned id =
    record {
      some = λ region. refl;
      taken = λ earlier segment region e.
          let is = region_value id segment region e in
          ap (is_taken earlier) is.0
          ∙ ap (λ (own : ℕ). has_new_version region.head.version (version_of_region (last_region own earlier)))
          is.1;
    }

cluts_are_versioned : (id : ℕ) → IsVersioned (clut_named id) version_of_clut (λ clut. clut.version)
cluts_are_versioned id =
    record {
      some = λ clut. refl;
      taken = λ earlier segment clut e.
          let is = clut_value id segment clut e in
          ap (is_taken earlier) is.0
          ∙ ap (λ (own : ℕ). has_new_version clut.version (version_of_clut (last_clut own earlier))) is.1;
    }

-- the last taken and the last region segment of an id have one version
pub taken_region_version : (id : ℕ) (segments : List Content)
    → version_of_region (last_region id (taken_among segments)) ≡ version_of_region (last_region id segments)
taken_region_version id segments =
    same_version (region_named id) version_of_region (λ region. region.head.version) (regions_are_versioned id)
    segments

-- and so have the CLUT segments of an id
pub taken_clut_version : (id : ℕ) (segments : List Content)
    → version_of_clut (last_clut id (taken_among segments)) ≡ version_of_clut (last_clut id segments)
taken_clut_version id segments =
    same_version (clut_named id) version_of_clut (λ clut. clut.version) (cluts_are_versioned id) segments

-- so whether a segment is taken is told by the taken segments alone
pub taken_by_taken : (segments : List Content) (value : SegmentValue)
    → is_taken (taken_among segments) value ≡ is_taken segments value
taken_by_taken segments value = elim value as (λ v. is_taken (taken_among segments) v ≡ is_taken segments v) [
  | of_page v ↦ refl
  | of_region v ↦ ap (has_new_version v.head.version) (taken_region_version v.head.region segments)
  | of_clut v ↦ ap (has_new_version v.version) (taken_clut_version v.clut segments)
  | of_object v ↦ refl
  | of_display v ↦ refl
  | end_of_set ↦ refl
  | passed_over ↦ refl
]
