-- What the segments of a set add to the taken segments of an epoch, and which of them leave a region as it is.
use Rattle.std.proofs.Common.{◌≡◌, ◌∙◌, ◌⊎◌, inl, inr, ℕ, suc, Bool, true, false, not, ◌==◌, cond, eqb, List, [], ◌∷◌, ◌++◌, filter, Option, Some, None, refl, sym, ap, subst, arith}
use Rattle.std.specs.Prelude.{All, take_while}
use Rattle.std.specs.List.{AllPairs, list_any}
use Rattle.std.specs.Option.{option_or, is_none}
use Rattle.std.proofs.lemmas.Bool.Decides.{nat_tests}
use Rattle.std.proofs.lemmas.List.Elements.{All-head, All-tail, All-cons}
use Rattle.std.proofs.lemmas.List.Sums.{take_while-cons}
use Rattle.stream_syntax.specs.Segments.{SegmentValue, of_page, of_region, of_clut, of_object, of_display, end_of_set, passed_over, Region, Object}
use Rattle.stream_syntax.specs.declared.region.Listing.{Listing}
use Rattle.decoder_model.specs.Contents.{region_named, clut_named, display_of}
use Rattle.decoder_model.specs.Pixels.{since_region, is_painting, listings_naming, listings_by, painted_listings, code_by_fill}
use Rattle.decoder_model.specs.Readings.{Content}
use Rattle.decoder_model.specs.Taken.{Taken, has_new_version, version_of_region, version_of_clut, is_taken, taken_among, taken_region, last_region, last_clut, last_display}
use Rattle.decoder_model.proofs.Searches.{first_given-append, first_given-all_none}
use Rattle.decoder_model.proofs.TakenLaws.{none_taken, taken_first, held_first, taken_by_taken}

-- ---- lists by place

-- the first of a list stands so to each later one
pairs_head : {X : Type 0} (R : X → X → Type 0) (x : X) (xs : List X) → AllPairs R (x ∷ xs) → All (R x) xs
pairs_head R x xs all = λ k d within. all 0 (suc k) d (omega arith) (omega arith)

pairs_tail : {X : Type 0} (R : X → X → Type 0) (x : X) (xs : List X) → AllPairs R (x ∷ xs) → AllPairs R xs
pairs_tail R x xs all = λ i j d before within. all (suc i) (suc j) d (omega arith) (omega arith)

-- ---- a set behind earlier segments

-- two segments are of different regions, and of different CLUTs
abbrev pub IsOther : Content → Content → Type 0
IsOther a b = (id : ℕ) → ((region_named id a ≡ None) ⊎ (region_named id b ≡ None))
    × ((clut_named id a ≡ None) ⊎ (clut_named id b ≡ None))

-- a region segment is found by its own id
named_itself : (segment : Content) (region : Region) → segment.value ≡ of_region region
    → region_named region.head.region segment ≡ Some region
named_itself segment region is =
    rw is (ap (λ b. cond b (Some region) None)
    (let same : eqb region.head.region region.head.region ≡ true = grind (arith, nat_tests) in same))

not_named : {X : Type 0} (found other : Option X) (x : X) → found ≡ Some x → (found ≡ None)
    ⊎ (other ≡ None) → other ≡ None
not_named found other x some (inl none) = absurd (cc)
not_named found other x some (inr none) = none

-- whether a segment is taken is not changed by segments of other regions and CLUTs
others_aside : (segment : Content) (new earlier : List Content) → All (IsOther segment) new
    → is_taken (new ++ earlier) segment.value ≡ is_taken earlier segment.value
others_aside segment new earlier others = by segment.value refl
  where
    by : (value : SegmentValue) → segment.value ≡ value
        → is_taken (new ++ earlier) segment.value ≡ is_taken earlier segment.value
    by value is =
        elim value as
        (λ v. segment.value ≡ v → is_taken (new ++ earlier) segment.value ≡ is_taken earlier segment.value) [
          | of_page v ↦ λ is. rw is refl
          | of_region v ↦ λ is.
              let none : All (λ c. region_named v.head.region c ≡ None) new =
              λ k d within. not_named _ _ v (named_itself segment v is) (others k d within v.head.region).0 in
              let same : last_region v.head.region (new ++ earlier) ≡ last_region v.head.region earlier =
              first_given-append (region_named v.head.region) new earlier
              ∙ ap (λ found. option_or found (last_region v.head.region earlier))
              (first_given-all_none (region_named v.head.region) new none) in
              rw is (ap (λ found. has_new_version v.head.version (version_of_region found)) same)
          | of_clut v ↦ λ is.
              let own : clut_named v.clut segment ≡ Some v =
              rw is (ap (λ b. cond b (Some v) None)
              (let same : eqb v.clut v.clut ≡ true = grind (arith, nat_tests) in same)) in
              let none : All (λ c. clut_named v.clut c ≡ None) new =
              λ k d within. not_named _ _ v own (others k d within v.clut).1 in
              let same : last_clut v.clut (new ++ earlier) ≡ last_clut v.clut earlier =
              first_given-append (clut_named v.clut) new earlier
              ∙ ap (λ found. option_or found (last_clut v.clut earlier))
              (first_given-all_none (clut_named v.clut) new none) in
              rw is (ap (λ found. has_new_version v.version (version_of_clut found)) same)
          | of_object v ↦ λ is. rw is refl
          | of_display v ↦ λ is. rw is refl
          | end_of_set ↦ λ is. rw is refl
          | passed_over ↦ λ is. rw is refl
        ] is

-- of segments of different regions and CLUTs those are taken that the taken ones before all of them let in
pub taken_front : (new earlier : List Content) → AllPairs IsOther new
    → taken_among (new ++ earlier) ≡ filter (λ (c : Content). is_taken (taken_among earlier) c.value) new
    ++ taken_among earlier
taken_front [] earlier others = refl
taken_front (segment ∷ new) earlier others =
    by (is_taken (taken_among earlier) segment.value) refl
    (taken_front new earlier (pairs_tail IsOther segment new others))
  where
    same : is_taken (new ++ earlier) segment.value ≡ is_taken (taken_among earlier) segment.value
    same =
        others_aside segment new earlier (pairs_head IsOther segment new others)
        ∙ sym (taken_by_taken earlier segment.value)

    by : (b : Bool) → is_taken (taken_among earlier) segment.value ≡ b
        → taken_among (new ++ earlier) ≡ filter (λ (c : Content). is_taken (taken_among earlier) c.value) new
        ++ taken_among earlier
        → taken_among (segment ∷ (new ++ earlier))
        ≡ filter (λ (c : Content). is_taken (taken_among earlier) c.value) (segment ∷ new)
        ++ taken_among earlier
    by true e again = taken_first (new ++ earlier) segment (same ∙ e) ∙ (rw e (ap (λ all. segment ∷ all) again))
    by false e again = held_first (new ++ earlier) segment (same ∙ e) ∙ (rw e again)

-- the last display definition is taken
pub taken_display : (segments : List Content) → last_display (taken_among segments) ≡ last_display segments
taken_display [] = ap last_display none_taken
taken_display (segment ∷ earlier) = by (is_taken earlier segment.value) refl (taken_display earlier)
  where
    no_display : (value : SegmentValue) → segment.value ≡ value → is_taken earlier segment.value ≡ false
        → display_of segment ≡ None
    no_display value is =
        elim value as
        (λ v. segment.value ≡ v → is_taken earlier segment.value ≡ false → display_of segment ≡ None) [
          | of_page v ↦ λ is held. rw is refl
          | of_region v ↦ λ is held. rw is refl
          | of_clut v ↦ λ is held. rw is refl
          | of_object v ↦ λ is held. rw is refl
          | of_display v ↦ λ is held. absurd (let no : true ≡ false = rw is at held in cc)
          | end_of_set ↦ λ is held. rw is refl
          | passed_over ↦ λ is held. rw is refl
        ] is

    by : (b : Bool) → is_taken earlier segment.value ≡ b
        → last_display (taken_among earlier) ≡ last_display earlier
        → last_display (taken_among (segment ∷ earlier)) ≡ last_display (segment ∷ earlier)
    by true e again =
        ap last_display (taken_first earlier segment e) ∙ ap (λ found. option_or (display_of segment) found) again
    by false e again =
        ap last_display (held_first earlier segment e) ∙ again
        ∙ ap (λ found. option_or found (last_display earlier)) (sym (no_display segment.value refl e))

-- what holds of all segments holds of those that are taken
pub taken_all : (P : Content → Type 0) (segments : List Content) → All P segments → All P (taken_among segments)
taken_all P [] all = subst (All P) (sym none_taken) all
taken_all P (segment ∷ earlier) all =
    by (is_taken earlier segment.value) refl (taken_all P earlier (All-tail P segment earlier all))
  where
    by : (b : Bool) → is_taken earlier segment.value ≡ b → All P (taken_among earlier)
        → All P (taken_among (segment ∷ earlier))
    by true e again =
        subst (All P) (sym (taken_first earlier segment e))
        (All-cons P segment (taken_among earlier) (All-head P segment earlier all) again)
    by false e again = subst (All P) (sym (held_first earlier segment e)) again

-- ---- segments that leave a region as it is

-- the segments stand behind the last segment of a region where none of them is one of its own
pub since_behind : (id : ℕ) (new earlier : List Content) → All (λ c. region_named id c ≡ None) new
    → since_region id (record { segments = new ++ earlier }) ≡ new
    ++ since_region id (record { segments = earlier })
since_behind id [] earlier none = refl
since_behind id (c ∷ new) earlier none =
    let here : is_none (region_named id c) ≡ true =
    ap (λ found. is_none found) (All-head (λ c. region_named id c ≡ None) c new none) in
    take_while-cons (λ segment. is_none (region_named id segment)) c (new ++ earlier)
    ∙ ap (λ b. cond b (c ∷ take_while (λ segment. is_none (region_named id segment)) (new ++ earlier)) []) here
    ∙ ap (λ all. c ∷ all) (since_behind id new earlier (All-tail (λ c. region_named id c ≡ None) c new none))

-- the last segment of a region stays
pub last_behind : (id : ℕ) (new earlier : List Content) → All (λ c. region_named id c ≡ None) new
    → last_region id (new ++ earlier) ≡ last_region id earlier
last_behind id new earlier none =
    first_given-append (region_named id) new earlier
    ∙ ap (λ found. option_or found (last_region id earlier)) (first_given-all_none (region_named id) new none)

-- a segment of another region does not fill this one
pub other_fill : (id : ℕ) (segment : Content) (region : Region) → segment.value ≡ of_region region
    → region_named id segment ≡ None → code_by_fill id region.head ≡ None
other_fill id segment region is none = by (eqb region.head.region id) refl (rw is at none)
  where
    by : (b : Bool) → eqb region.head.region id ≡ b
        → cond (eqb region.head.region id) (Some region) None ≡ None → code_by_fill id region.head ≡ None
    by true e none = absurd (let no : Some region ≡ None = rw e at none in cc)
    by false e none = rw e refl

-- the listings that an object paints are none where it paints nothing
pub nothing_painted : (earlier : Taken) (id : ℕ) (object : Object) → is_painting earlier id object ≡ false
    → painted_listings earlier id object ≡ []
unfolding painted_listings
nothing_painted earlier id object e = ap (λ b. listings_by b object (taken_region id earlier)) e

-- an object that the region does not list paints none
pub not_listed : (earlier : Taken) (id : ℕ) (object : Object) (last : Region)
    → taken_region id earlier ≡ Some last
    → list_any (λ (listing : Listing). listing.object == object.object) last.listings ≡ false
    → painted_listings earlier id object ≡ []
unfolding painted_listings
not_listed earlier id object last known none = by (is_painting earlier id object) refl
  where
    unnamed : (listings : List Listing)
        → list_any (λ (listing : Listing). listing.object == object.object) listings ≡ false
        → listings_naming object.object listings ≡ []
    unnamed [] e = refl
    unnamed (listing ∷ listings) e = one (eqb listing.object object.object) refl e (unnamed listings)
      where
        one : (b : Bool) → eqb listing.object object.object ≡ b
            → list_any (λ (listing : Listing). listing.object == object.object) (listing ∷ listings) ≡ false
            → (list_any (λ (listing : Listing). listing.object == object.object) listings ≡ false
            → listings_naming object.object listings ≡ [])
            → listings_naming object.object (listing ∷ listings) ≡ []
        one true is e again = absurd (let no : true ≡ false = rw is at e in cc)
        one false is e again =
            let rest : list_any (λ (listing : Listing). listing.object == object.object) listings
            ≡ false = rw is at e in rw is (again rest)

    by : (b : Bool) → is_painting earlier id object ≡ b
        → listings_by (is_painting earlier id object) object (taken_region id earlier) ≡ []
    by false e = rw e refl
    by true e = rw (e, known) (unnamed last.listings none)

pub unlisted : (earlier : Taken) (id : ℕ) (object : Object) → taken_region id earlier ≡ None
    → painted_listings earlier id object ≡ []
unfolding painted_listings
unlisted earlier id object none = by (is_painting earlier id object) refl
  where
    by : (b : Bool) → is_painting earlier id object ≡ b
        → listings_by (is_painting earlier id object) object (taken_region id earlier) ≡ []
    by false e = rw e refl
    by true e = rw (e, none) refl
