-- Segments that change no pixel of a region: those of other regions, and objects that the region does not list, or has
-- had since its last segment.
use Rattle.std.proofs.Common.{◌≡◌, ◌∙◌, ◌⊎◌, inl, inr, ℕ, Bool, true, false, not, ◌==◌, cond, eqb, List, [], ◌∷◌, ◌++◌, Option, Some, None, refl, sym, ap, subst}
use Rattle.std.specs.Prelude.{All}
use Rattle.std.specs.List.{list_any}
use Rattle.std.specs.Option.{option_or}
use Rattle.std.proofs.lemmas.List.Elements.{All-head, All-tail}
use Rattle.stream_syntax.specs.Segments.{SegmentValue, of_page, of_region, of_clut, of_object, of_display, end_of_set, passed_over, Region, Object}
use Rattle.stream_syntax.specs.declared.region.Listing.{Listing}
use Rattle.decoder_model.specs.Contents.{where_passes, region_named, object_named, object_of}
use Rattle.sub_base.specs.Lists.{first_given}
use Rattle.decoder_model.specs.Pixels.{version_of_object, since_region, painted_listings, code_by_listings, depth_of, code_by_segment, last_code}
use Rattle.decoder_model.specs.Readings.{Content}
use Rattle.decoder_model.specs.Taken.{has_new_version, taken_region, last_region}
use Rattle.decoder_model.proofs.Searches.{first_given-append}
use Rattle.decoder_model.proofs.TakenSets.{since_behind, last_behind, other_fill, nothing_painted, not_listed, unlisted}

-- since the last segment of a region an object of version 0 was there
abbrev pub HasHad : ℕ → List Content → ℕ → Type 0
HasHad id taken object =
    (had : Object) × (first_given (object_named object) (since_region id (record { segments = taken })) ≡ Some had)
    × (had.version ≡ 0)

-- a region does not list an object, or has had it
abbrev pub IsUsedUp : ℕ → List Content → ℕ → Region → Type 0
IsUsedUp id taken object last =
    (list_any (λ (listing : Listing). listing.object == object) last.listings ≡ false) ⊎ HasHad id taken object

-- A segment that changes nothing in a region, behind taken ones: it is no segment of the region and, where it is an
-- object, the region does not list it, or has had it. Objects have version 0.
pub record IsIdle (id : ℕ) (taken : List Content) (content : Content) : Type 0 where
  pub other : region_named id content ≡ None
  pub version : (object : Object) → object_of content ≡ Some object → object.version ≡ 0
  pub object : (object : Object) → object_of content ≡ Some object → (last : Region)
      → last_region id taken ≡ Some last → IsUsedUp id taken object.object last

-- ---- the object is not painted

-- a version of 0, or none
abbrev IsZero : Option Object → Type 0
IsZero None = Unit {0}
IsZero (Some object) = object.version ≡ 0

zero_or : (a b : Option Object) → IsZero a → IsZero b → IsZero (option_or a b)
zero_or None b za zb = zb
zero_or (Some x) b za zb = za

zero_named : (id object : ℕ) (taken : List Content) (content : Content) → IsIdle id taken content
    → IsZero (object_named object content)
zero_named id object taken content idle = by (object_of content) refl
  where
    by : (found : Option Object) → object_of content ≡ found → IsZero (object_named object content)
    by None e = subst IsZero (sym (ap (λ found. where_passes (λ (o : Object). o.object == object) found) e)) tt
    by (Some o) e =
        subst IsZero (sym (ap (λ found. where_passes (λ (o : Object). o.object == object) found) e))
        (one (eqb o.object object) (idle.version o e))
      where
        one : (b : Bool) → o.version ≡ 0 → IsZero (cond b (Some o) None)
        one true zero = zero
        one false zero = tt

zero_among : (id object : ℕ) (taken new : List Content) → All (IsIdle id taken) new
    → IsZero (first_given (object_named object) new)
zero_among id object taken [] idle = tt
zero_among id object taken (c ∷ new) idle =
    zero_or (object_named object c) (first_given (object_named object) new)
    (zero_named id object taken c (All-head (IsIdle id taken) c new idle))
    (zero_among id object taken new (All-tail (IsIdle id taken) c new idle))

-- behind an object of version 0, or none, and then one of version 0, an object of version 0 has no new version
not_painted : (found behind : Option Object) (had : Object) → IsZero found → behind ≡ Some had
    → had.version ≡ 0 → has_new_version 0 (version_of_object (option_or found behind)) ≡ false
not_painted None behind had zero is none = rw (is, none) refl
not_painted (Some o) behind had zero is none = rw zero refl

others : (id : ℕ) (taken new : List Content) → All (IsIdle id taken) new
    → All (λ c. region_named id c ≡ None) new
others id taken new idle = λ k d within. (idle k d within).other

-- an object that is idle paints no listing behind others that are
pub idle_paints_none : (id : ℕ) (new taken : List Content) (content : Content) (object : Object)
    → All (IsIdle id taken) new → IsIdle id taken content
    → object_of content ≡ Some object → painted_listings (record { segments = new ++ taken }) id object ≡ []
idle_paints_none id new taken content object idle own is = by (last_region id taken) refl
  where
    behind : last_region id (new ++ taken) ≡ last_region id taken
    behind = last_behind id new taken (others id taken new idle)

    used : (last : Region) → last_region id taken ≡ Some last → IsUsedUp id taken object.object last
        → painted_listings (record { segments = new ++ taken }) id object ≡ []
    used last e (inl none) = not_listed (record { segments = new ++ taken }) id object last (behind ∙ e) none
    used last e (inr had) =
        let since = ap (first_given (object_named object.object)) (since_behind id new taken (others id taken new idle))
        ∙ first_given-append (object_named object.object) new (since_region id (record { segments = taken })) in
        nothing_painted (record { segments = new ++ taken }) id object
        (ap (λ found. has_new_version object.version (version_of_object found)) since
        ∙ ap (λ (version : ℕ). has_new_version version
        (version_of_object
        (option_or (first_given (object_named object.object) new)
        (first_given (object_named object.object) (since_region id (record { segments = taken }))))))
        (own.version object is)
        ∙ not_painted (first_given (object_named object.object) new)
        (first_given (object_named object.object) (since_region id (record { segments = taken }))) had.0
        (zero_among id object.object taken new idle) had.1 had.2)

    by : (last : Option Region) → last_region id taken ≡ last
        → painted_listings (record { segments = new ++ taken }) id object ≡ []
    by None e = unlisted (record { segments = new ++ taken }) id object (behind ∙ e)
    by (Some last) e = used last e (own.object object is last e)

-- ---- the pixels

-- an idle segment writes nothing
idle_writes_none : (id x y : ℕ) (new taken : List Content) (content : Content) → All (IsIdle id taken) new
    → IsIdle id taken content
    → code_by_segment (record { segments = new ++ taken }) content.value content.top content.bottom id x y ≡ None
idle_writes_none id x y new taken content idle own = by content.value refl
  where
    by : (value : SegmentValue) → content.value ≡ value
        → code_by_segment (record { segments = new ++ taken }) content.value content.top content.bottom id x y
        ≡ None
    by value is =
        elim value as
        (λ v. content.value ≡ v
        → code_by_segment (record { segments = new ++ taken }) content.value content.top content.bottom id x y
        ≡ None) [
          | of_page v ↦ λ is. rw is refl
          | of_region v ↦ λ is. rw is (other_fill id content v is own.other)
          | of_clut v ↦ λ is. rw is refl
          | of_object v ↦ λ is.
              let found : object_of content ≡ Some v = rw is refl in
              rw is (ap
              (code_by_listings (depth_of (taken_region id (record { segments = new ++ taken }))) v.see_through
              content.top content.bottom x y) (idle_paints_none id new taken content v idle own found))
          | of_display v ↦ λ is. rw is refl
          | end_of_set ↦ λ is. rw is refl
          | passed_over ↦ λ is. rw is refl
        ] is

-- idle segments leave each pixel of the region as it is
pub idle_code : (id x y : ℕ) (new taken : List Content) → All (IsIdle id taken) new
    → last_code (new ++ taken) id x y ≡ last_code taken id x y
idle_code id x y [] taken idle = refl
idle_code id x y (c ∷ new) taken idle =
    let rest = All-tail (IsIdle id taken) c new idle in
    ap (λ found. option_or found (last_code (new ++ taken) id x y))
    (idle_writes_none id x y new taken c rest (All-head (IsIdle id taken) c new idle))
    ∙ idle_code id x y new taken rest

-- a segment that is neither of the region nor an object is idle
pub aside_is_idle : (id : ℕ) (taken : List Content) (content : Content) → region_named id content ≡ None
    → object_of content ≡ None → IsIdle id taken content
aside_is_idle id taken content other none =
    record {
      other = other;
      version = λ object is. absurd (let no : None ≡ Some object = sym none ∙ is in cc);
      object = λ object is last known. absurd (let no : None ≡ Some object = sym none ∙ is in cc);
    }

-- the objects that a region has had are had behind idle segments too
pub had_behind : (id object : ℕ) (new taken : List Content) → All (IsIdle id taken) new → HasHad id taken object
    → HasHad id (new ++ taken) object
had_behind id object new taken idle had =
    by (first_given (object_named object) new) refl (zero_among id object taken new idle)
  where
    since : first_given (object_named object) (since_region id (record { segments = new ++ taken }))
        ≡ option_or (first_given (object_named object) new)
        (first_given (object_named object) (since_region id (record { segments = taken })))
    since =
        ap (first_given (object_named object)) (since_behind id new taken (others id taken new idle))
        ∙ first_given-append (object_named object) new (since_region id (record { segments = taken }))

    by : (found : Option Object) → first_given (object_named object) new ≡ found → IsZero found
        → HasHad id (new ++ taken) object
    by None e zero = (
      had.0,
      since
          ∙ ap (λ f. option_or f (first_given (object_named object) (since_region id (record { segments = taken }))))
          e ∙ had.1,
      had.2,
    )
    by (Some o) e zero = (
      o,
      since
          ∙ ap (λ f. option_or f (first_given (object_named object) (since_region id (record { segments = taken }))))
          e,
      zero,
    )
