-- The codes behind an object that is painted everywhere.
use Rattle.std.proofs.Common.{◌≡◌, ◌∙◌, refl, sym, ap, subst, ℕ, zero, suc, ◌+◌, ◌<◌, ◌≤◌, Bool, true, false, cond, eqb, List, [], ◌∷◌, length, map, find, Contains, Option, Some, None, option_map, arith}
use Rattle.std.specs.Prelude.{unwrap_or}
use Rattle.std.specs.List.{range_with_len}
use Rattle.sub_base.specs.Lists.{last_given}
use Rattle.stream_syntax.specs.Segments.{SegmentValue, Object, Region, of_object}
use Rattle.stream_syntax.specs.declared.region.RegionHead.{RegionHead}
use Rattle.decoder_model.specs.Pixels.{depth_of, painted_listings, code_by_listings, code_by_segment, last_code, pixel_of}
use Rattle.decoder_model.specs.Readings.{Content}
use Rattle.decoder_model.specs.Taken.{Taken, taken_region, taken_of}
use Rattle.pixel_store.specs.Regions.{Regions, region_at, code_of}
use Rattle.page_core.specs.Composition.{Composition, KeptRegion, region_in}
use Rattle.page_core.specs.Private.Everywhere.{AreKeptWritten, painted_kept, with_all_painted}
use Rattle.page_core.specs.Private.Listings.{IsPainter, code_by_kept, painted_listing}
use Rattle.page_core.specs.Memory.{Memory, IsWholeMemory, HoldsSegments, HasSidesOf, kept_listing, head_of}
use Rattle.page_core.specs.Private.Painted.{field_runs}
use Rattle.page_core.specs.declared.composition.listings.Painter.{Painter}
use Rattle.page_core.proofs.Objects.EverywhereKept.{all_at}
use Rattle.page_core.proofs.Objects.ObjectSteps.{object_writes, object_keeps}
use Rattle.block_painting.proofs.Written.{later_first}

abbrev slots_of : List KeptRegion → List ℕ
slots_of regions = map (λ (kept : KeptRegion). kept.slot) regions

first_slot : (from n : ℕ) (kept : KeptRegion) (regions : List KeptRegion)
    → slots_of (kept ∷ regions) ≡ range_with_len from n → (kept.slot ≡ from) × (m : ℕ)
    × (slots_of regions ≡ range_with_len (suc from) m)
first_slot from zero kept regions e = absurd (cc)
first_slot from (suc n) kept regions e =
    let tail : slots_of regions ≡ range_with_len (from + 1) n = cc in
    let next : from + 1 ≡ suc from = omega arith in
    (cc, n, tail ∙ ap (λ (k : ℕ). range_with_len k n) next)

slots_from : (from n : ℕ) (regions : List KeptRegion) (kept : KeptRegion)
    → slots_of regions ≡ range_with_len from n → Contains regions kept → from ≤ kept.slot
slots_from from n [] kept e there = absurd (omega (arith, there.1))
slots_from from n (first ∷ regions) kept e (zero, short, is) =
    let here : first.slot ≡ from = (first_slot from n first regions e).0 in
    let same : first.slot ≡ kept.slot = ap (λ (r : KeptRegion). r.slot) is in
    omega (arith, here, same)
slots_from from n (first ∷ regions) kept e (suc k, short, is) =
    let more : (m : ℕ) × (slots_of regions ≡ range_with_len (suc from) m) =
    ((first_slot from n first regions e).1, (first_slot from n first regions e).2) in
    omega (arith, slots_from (suc from) more.0 regions kept more.1 (k, omega (arith, short), is))

module _ (painter : Painter) (content : Content) where
  abbrev pub IsCodeBehind : Regions → Regions → ℕ → ℕ → KeptRegion → Type 0
  IsCodeBehind old new x y kept =
      x < (region_at old kept.slot).width → y < (region_at old kept.slot).height
      → code_of (region_at new kept.slot) x y
      ≡ unwrap_or
      (last_given (code_by_kept painter (field_runs kept.head.depth content.top content.bottom) x y) kept.listings)
      (code_of (region_at old kept.slot) x y)

  others_stay : (from n : ℕ) (regions : List KeptRegion) (old new : Regions)
      → slots_of regions ≡ range_with_len from n → AreKeptWritten painter content regions old new
      → (slot : ℕ) → slot < from → region_at new slot ≡ region_at old slot
  others_stay from n [] old new e same slot below = ap (λ (s : Regions). region_at s slot) (sym same)
  others_stay from n (kept ∷ regions) old new e (between, written, more) slot below =
      let first : kept.slot ≡ from = (first_slot from n kept regions e).0 in
      let rest : (m : ℕ) × (slots_of regions ≡ range_with_len (suc from) m) =
      ((first_slot from n kept regions e).1, (first_slot from n kept regions e).2) in
      others_stay (suc from) rest.0 regions between new rest.1 more slot (omega (arith, below))
      ∙ written.others.others slot (λ same. omega (arith, same, first, below))

  -- each code of each region, where the regions have their slots in order
  pub codes_behind : (from n : ℕ) (regions : List KeptRegion) (old new : Regions)
      → slots_of regions ≡ range_with_len from n → AreKeptWritten painter content regions old new
      → (x y : ℕ) (kept : KeptRegion) → Contains regions kept → IsCodeBehind old new x y kept
  codes_behind from n [] old new e same x y kept there = absurd (omega (arith, there.1))
  codes_behind from n (first ∷ regions) old new e (between, written, more) x y kept (zero, short, is) =
      let here : first.slot ≡ from = (first_slot from n first regions e).0 in
      let rest : (m : ℕ) × (slots_of regions ≡ range_with_len (suc from) m) =
      ((first_slot from n first regions e).1, (first_slot from n first regions e).2) in
      subst (IsCodeBehind old new x y) is
      (λ narrow low. ap (λ r. code_of r x y)
      (others_stay (suc from) rest.0 regions between new rest.1 more first.slot (omega (arith, here)))
      ∙ written.codes x y narrow low)
  codes_behind from n (first ∷ regions) old new e (between, written, more) x y kept (suc k, short, is) =
      let here : first.slot ≡ from = (first_slot from n first regions e).0 in
      let rest : (m : ℕ) × (slots_of regions ≡ range_with_len (suc from) m) =
      ((first_slot from n first regions e).1, (first_slot from n first regions e).2) in
      let there : Contains regions kept = (k, omega (arith, short), is) in
      let above : suc from ≤ kept.slot = slots_from (suc from) rest.0 regions kept rest.1 there in
      let same : region_at between kept.slot ≡ region_at old kept.slot =
      written.others.others kept.slot (λ e. omega (arith, e, here, above)) in
      λ narrow low.
      codes_behind (suc from) rest.0 regions between new rest.1 more x y kept there
      (subst (λ r. x < r.width) (sym same) narrow) (subst (λ r. y < r.height) (sym same) low)
      ∙ ap (λ r. unwrap_or
      (last_given (code_by_kept painter (field_runs kept.head.depth content.top content.bottom) x y) kept.listings)
      (code_of r x y)) same

-- ---- in the words of the taken segments

found_there : {X : Type 0} (test : X → Bool) (xs : List X) (x : X) → find test xs ≡ Some x → Contains xs x
found_there test [] x e = absurd (cc)
found_there test (y ∷ ys) x e = by (test y) (λ more. found_there test ys x more) e
  where
    by : (hit : Bool) → (find test ys ≡ Some x → Contains ys x) → cond hit (Some y) (find test ys) ≡ Some x
        → Contains (y ∷ ys) x
    by true rest e = (zero, omega arith, cc)
    by false rest e =
        let there : Contains ys x = rest e in
        (suc there.0, omega (arith, there.1), there.2)

module _ (taken : Taken) (content : Content) (object : Object) (painter : Painter) (is : IsPainter painter object)
    (value_is : content.value ≡ of_object object) where
  codes_are : (id x y : ℕ) (kept : KeptRegion) (region : Region) → taken_region id taken ≡ Some region
      → kept.head ≡ region.head → kept.listings ≡ map (kept_listing taken id) region.listings
      → last_given (code_by_kept painter (field_runs kept.head.depth content.top content.bottom) x y) kept.listings
      ≡ code_by_segment taken content.value content.top content.bottom id x y
  codes_are id x y kept region here head listings =
      (λ i. last_given (code_by_kept painter (field_runs (RegionHead.depth (head i)) content.top content.bottom) x y)
      (listings i))
      ∙ object_writes taken id object painter is region (field_runs region.head.depth content.top content.bottom)
      content.top content.bottom here refl x y
      ∙ ap (λ (r : Option Region). code_by_listings (depth_of r) object.see_through content.top content.bottom x y
      (painted_listings taken id object)) (sym here)
      ∙ ap (λ (v : SegmentValue). code_by_segment taken v content.top content.bottom id x y) (sym value_is)

  -- a pixel has the code of the last write behind the object
  pub pixel_behind : (from n : ℕ) (regions : List KeptRegion) (old new : Regions)
      → slots_of regions ≡ range_with_len from n → AreKeptWritten painter content regions old new
      → (id x y : ℕ) (kept : KeptRegion) (region : Region) → Contains regions kept
      → taken_region id taken ≡ Some region → kept.head ≡ region.head
      → kept.listings ≡ map (kept_listing taken id) region.listings
      → x < (region_at old kept.slot).width → y < (region_at old kept.slot).height
      → code_of (region_at old kept.slot) x y ≡ pixel_of taken id x y
      → code_of (region_at new kept.slot) x y ≡ pixel_of (record { segments = content ∷ taken.segments }) id x y
  unfolding pixel_of
  pixel_behind from n regions old new slots written id x y kept region there here head listings narrow low before =
      codes_behind painter content from n regions old new slots written x y kept there narrow low
      ∙ ap (λ (o : Option ℕ). unwrap_or o (code_of (region_at old kept.slot) x y))
      (codes_are id x y kept region here head listings)
      ∙ ap (unwrap_or (code_by_segment taken content.value content.top content.bottom id x y)) before
      ∙ later_first (code_by_segment taken content.value content.top content.bottom id x y)
      (last_code taken.segments id x y) 0

-- the pixels behind an object, where the memory holds the segments before it
pub pixels_behind : (segments : List Content) (memory : Memory) → IsWholeMemory memory → HoldsSegments segments memory
    → (content : Content) (object : Object) (painter : Painter) → IsPainter painter object
    → content.value ≡ of_object object → (new : Regions)
    → AreKeptWritten painter content memory.composition.regions memory.store new
    → (id x y : ℕ) (kept : KeptRegion) → region_in memory.composition id ≡ Some kept → x < kept.head.width
    → y < kept.head.height
    → code_of (region_at new kept.slot) x y
    ≡ pixel_of (record { segments = content ∷ (taken_of segments).segments }) id x y
pixels_behind segments memory whole holds content object painter is value_is new written id x y kept found narrow low =
    by (taken_region id (taken_of segments)) refl
    (ap (option_map (λ (kept : KeptRegion). kept.head)) (sym found) ∙ holds.heads id)
    (ap (option_map (λ (kept : KeptRegion). kept.listings)) (sym found) ∙ holds.listings id)
  where
    by : (o : Option Region) → taken_region id (taken_of segments) ≡ o → Some kept.head ≡ option_map head_of o
        → Some kept.listings
        ≡ option_map (λ (region : Region). map (kept_listing (taken_of segments) id) region.listings) o
        → code_of (region_at new kept.slot) x y
        ≡ pixel_of (record { segments = content ∷ (taken_of segments).segments }) id x y
    by None here head listings = absurd (cc)
    by (Some region) here head listings =
        let there : Contains memory.composition.regions kept =
        found_there (λ (kept : KeptRegion). eqb kept.head.region id) memory.composition.regions kept found in
        let sides : HasSidesOf kept.head (region_at memory.store kept.slot)
        = all_at (λ (kept : KeptRegion). HasSidesOf kept.head (region_at memory.store kept.slot))
        memory.composition.regions kept whole.sides there in
        let same_head : kept.head ≡ region.head = cc in
        let same_listings : kept.listings ≡ map (kept_listing (taken_of segments) id) region.listings = cc in
        pixel_behind (taken_of segments) content object painter is value_is 0 (length memory.store.regions)
        memory.composition.regions memory.store new whole.slots written id x y kept region there here
        same_head same_listings
        (subst (λ (n : ℕ). x < n) (sym sides.width) narrow) (subst (λ (n : ℕ). y < n) (sym sides.height) low)
        (holds.pixels id x y kept found narrow low)

-- ---- the regions behind an object

pub region_behind : (painter : Painter) (id : ℕ) (regions : List KeptRegion)
    → find (λ (kept : KeptRegion). eqb kept.head.region id) (map (painted_kept painter) regions)
    ≡ option_map (painted_kept painter) (find (λ (kept : KeptRegion). eqb kept.head.region id) regions)
region_behind painter id [] = refl
region_behind painter id (kept ∷ regions) = by (eqb kept.head.region id) (region_behind painter id regions)
  where
    by : (hit : Bool)
        → find (λ (kept : KeptRegion). eqb kept.head.region id) (map (painted_kept painter) regions)
        ≡ option_map (painted_kept painter) (find (λ (kept : KeptRegion). eqb kept.head.region id) regions)
        → cond hit (Some (painted_kept painter kept))
        (find (λ (kept : KeptRegion). eqb kept.head.region id) (map (painted_kept painter) regions))
        ≡ option_map (painted_kept painter)
        (cond hit (Some kept) (find (λ (kept : KeptRegion). eqb kept.head.region id) regions))
    by true rest = refl
    by false rest = rest

-- the heads stay
pub heads_behind : (painter : Painter) (value : Composition) (id : ℕ)
    → option_map (λ (kept : KeptRegion). kept.head) (region_in (with_all_painted painter value) id)
    ≡ option_map (λ (kept : KeptRegion). kept.head) (region_in value id)
heads_behind painter value id =
    ap (option_map (λ (kept : KeptRegion). kept.head)) (region_behind painter id value.regions)
    ∙ by (region_in value id)
  where
    by : (o : Option KeptRegion)
        → option_map (λ (kept : KeptRegion). kept.head) (option_map (painted_kept painter) o)
        ≡ option_map (λ (kept : KeptRegion). kept.head) o
    by None = refl
    by (Some kept) = refl

-- the listings have the versions that the segments with the object give
pub listings_behind : (segments : List Content) (memory : Memory) → HoldsSegments segments memory
    → (content : Content) (object : Object) (painter : Painter) → IsPainter painter object
    → content.value ≡ of_object object → (id : ℕ)
    → option_map (λ (kept : KeptRegion). kept.listings) (region_in (with_all_painted painter memory.composition) id)
    ≡ option_map
    (λ (region : Region). map (kept_listing (record { segments = content ∷ (taken_of segments).segments }) id)
    region.listings) (taken_region id (taken_of segments))
listings_behind segments memory holds content object painter is value_is id =
    ap (option_map (λ (kept : KeptRegion). kept.listings)) (region_behind painter id memory.composition.regions)
    ∙ by (region_in memory.composition id) (taken_region id (taken_of segments)) (holds.listings id)
  where
    by : (o : Option KeptRegion) (r : Option Region)
        → option_map (λ (kept : KeptRegion). kept.listings) o
        ≡ option_map (λ (region : Region). map (kept_listing (taken_of segments) id) region.listings) r
        → option_map (λ (kept : KeptRegion). kept.listings) (option_map (painted_kept painter) o)
        ≡ option_map
        (λ (region : Region). map
        (kept_listing (record { segments = content ∷ (taken_of segments).segments }) id) region.listings) r
    by None None e = refl
    by None (Some region) e = absurd (cc)
    by (Some kept) None e = absurd (cc)
    by (Some kept) (Some region) e =
        let same : kept.listings ≡ map (kept_listing (taken_of segments) id) region.listings = cc in
        ap Some (ap (map (painted_listing painter)) same
        ∙ object_keeps (taken_of segments) id object painter is content value_is region.listings)
