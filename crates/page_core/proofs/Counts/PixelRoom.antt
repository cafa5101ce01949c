-- The bytes of the regions of an epoch, with one more segment.
use Rattle.std.proofs.Common.{◌≡◌, ◌∙◌, ℕ, ◌+◌, ◌-◌, ◌*◌, ◌/◌, ◌==◌, ◌||◌, ◌&&◌, Bool, true, false, cond, List, [], ◌∷◌, ◌++◌, filter, map, reverse, Option, Some, None, option_map, refl, sym, ap, arith, inl, inr}
use Rattle.std.specs.Prelude.{filter_map, sum_by, nat_lt, option_and_then}
use Rattle.std.specs.List.{list_any, cons_option}
use Rattle.std.specs.Option.{option_or, is_some, is_none}
use Rattle.std.proofs.lemmas.List.Sums.{sum_by-cons}
use Rattle.std.proofs.lemmas.Bool.{cases_eq, eq-eqb, ne_eqb, eqb-true}
use Rattle.sub_base.specs.Depth as depths
use Rattle.sub_base.specs.Lists.{different}
use Rattle.sub_base.specs.declared.profile.Profile.{Profile}
use Rattle.stream_syntax.specs.Segments.{SegmentValue, of_region, Region}
use Rattle.stream_syntax.specs.declared.region.RegionHead.{RegionHead}
use Rattle.decoder_model.specs.Contents.{region_in, region_named, region_of, where_passes, page_of, display_of}
use Rattle.decoder_model.specs.Faults.{has_same_shape, changed_region, changed_from, region_changed, region_too_large, pixels_full, first_fault_by}
use Rattle.decoder_model.specs.Nodes.{is_same, region_id, region_ids, region_bytes, bytes_of_region, pixels_used}
use Rattle.decoder_model.specs.Readings.{Content}
use Rattle.decoder_model.specs.Taken.{Taken, is_taken, last_region, taken_among, taken_of, taken_region}
use Rattle.decoder_model.specs.declared.set_fault.SetFault.{SetFault}
use Rattle.decoder_model.specs.declared.set_fault.SetFault.TheVariants.{RegionChanged, PixelFull}
use Rattle.page_core.specs.Composition.{Composition}
use Rattle.page_core.specs.Handed.{AreContents}
use Rattle.page_core.specs.Memory.{head_of}
use Rattle.page_core.specs.Private.RegionTests.{first_in, before_regions, AreApart, HasHeads, IsAsBefore, head_in, is_new, room_fault, room_left}
use Rattle.page_core.specs.Private.Walks.{is_region, IsNextOf}
use Rattle.page_core.proofs.Sets.Defining.{any_reversed, any_of_none, no_region_in_page, no_region_in_display, no_region_in_clut, no_region_in_object}
use Rattle.page_core.proofs.Sets.Orders.{first_of_regions}
use Rattle.page_core.proofs.Regions.RegionLaws.{IsTested, starts, next_tested, passes, fails, ends, taken_by_head, changed_in_order}

-- ---- ids

pub turned : (a b : ℕ) → (a == b) ≡ (b == a)
turned a b = elim (cases_eq a b) [
  | inl same ↦ eq-eqb a b same ∙ sym (eq-eqb b a (sym same))
  | inr other ↦ ne_eqb a b other ∙ sym (ne_eqb b a (λ e. other (sym e)))
]

-- an id is among those of regions, where there is a last region of that id
pub id_among : (id : ℕ) (segments : List Content)
    → list_any (is_same id) (map region_id (filter_map region_of segments)) ≡ is_some (last_region id segments)
id_among id [] = refl
id_among id (content ∷ segments) = by (id_among id segments) (region_in content.value)
  where
    hit : (region : Region) (b : Bool) (rest : Bool) (last : Option Region) → rest ≡ is_some last
        → (b || rest) ≡ is_some (option_or (cond b (Some region) None) last)
    hit region true rest last same = refl
    hit region false rest last same = same

    by : list_any (is_same id) (map region_id (filter_map region_of segments)) ≡ is_some (last_region id segments)
        → (found : Option Region)
        → list_any (is_same id) (map region_id (cons_option found (filter_map region_of segments)))
        ≡ is_some (option_or (where_passes (λ region. region.head.region == id) found) (last_region id segments))
    by rest None = rest
    by rest (Some region) =
        ap (λ b. b || list_any (is_same id) (map region_id (filter_map region_of segments)))
        (turned id region.head.region)
        ∙ hit region (region.head.region == id)
        (list_any (is_same id) (map region_id (filter_map region_of segments))) (last_region id segments) rest

-- and among the different ones of them
pub id_among_different : (id : ℕ) (ids : List ℕ)
    → list_any (is_same id) (different is_same ids) ≡ list_any (is_same id) ids
id_among_different id [] = refl
id_among_different id (x ∷ ids) = by (id_among_different id ids) (list_any (is_same x) ids) refl
  where
    absorbed : (hit : Bool) → (id == x) ≡ hit → list_any (is_same x) ids ≡ true
        → list_any (is_same id) ids ≡ (hit || list_any (is_same id) ids)
    absorbed true same there = ap (λ n. list_any (is_same n) ids) (eqb-true id x same) ∙ there
    absorbed false other there = refl

    by : list_any (is_same id) (different is_same ids) ≡ list_any (is_same id) ids → (again : Bool)
        → list_any (is_same x) ids ≡ again
        → list_any (is_same id) (cond again (different is_same ids) (x ∷ different is_same ids))
        ≡ ((id == x) || list_any (is_same id) ids)
    by rest true there = rest ∙ absorbed (id == x) refl there
    by rest false there = ap (λ b. (id == x) || b) rest

-- ---- sums over ids

-- numbers that differ at one id alone, which is not there
pub sum_apart : (f g : ℕ → ℕ) (id : ℕ) (ids : List ℕ) → ((i : ℕ) → (i ≡ id → ⊥) → f i ≡ g i)
    → list_any (is_same id) ids ≡ false → sum_by f ids ≡ sum_by g ids
sum_apart f g id [] same apart = refl
sum_apart f g id (x ∷ ids) same apart =
    let parts = either (id == x) (list_any (is_same id) ids) apart in
    let here : f x ≡ g x = same x (λ e. absurd (let hit = eq-eqb id x (sym e) in let miss = parts.0 in cc)) in
    let rest = sum_apart f g id ids same parts.1 in
    sum_by-cons f x ids ∙ (λ i. here i + rest i) ∙ sym (sum_by-cons g x ids)
  where
    either : (a b : Bool) → (a || b) ≡ false → (a ≡ false) × (b ≡ false)
    either false b is = (refl, is)
    either true b is = absurd (cc)

-- ---- one more region

pub named_same : (content : Content) (region : Region) → region_of content ≡ Some region
    → region_named region.head.region content ≡ Some region
named_same content region is =
    ap (where_passes (λ other. other.head.region == region.head.region)) is
    ∙ ap (λ b. cond b (Some region) None) (eq-eqb region.head.region region.head.region refl)

pub named_other : (content : Content) (region : Region) (id : ℕ) → region_of content ≡ Some region
    → (id ≡ region.head.region → ⊥) → region_named id content ≡ None
named_other content region id is other =
    ap (where_passes (λ one. one.head.region == id)) is
    ∙ ap (λ b. cond b (Some region) None) (ne_eqb region.head.region id (λ e. other (sym e)))

abbrev pub with_segment : Content → List Content → Taken
with_segment content segments = record { segments = content ∷ segments }

abbrev pub of_segments : List Content → Taken
of_segments segments = record { segments = segments }

abbrev pub bytes_by : List Content → ℕ → ℕ
bytes_by segments id = bytes_of_region (last_region id segments)

pub ids_with : (content : Content) (region : Region) (segments : List Content) → region_of content ≡ Some region
    → region_ids (with_segment content segments)
    ≡ cond (is_some (last_region region.head.region segments)) (region_ids (of_segments segments))
    (region.head.region ∷ region_ids (of_segments segments))
unfolding region_ids
ids_with content region segments is =
    ap (λ (found : Option Region). different is_same
    (map region_id (cons_option found (filter_map region_of segments)))) is
    ∙ ap (λ b. cond b (different is_same (map region_id (filter_map region_of segments)))
    (region.head.region ∷ different is_same (map region_id (filter_map region_of segments))))
    (id_among region.head.region segments)

pub apart_ids : (id : ℕ) (segments : List Content) → last_region id segments ≡ None
    → list_any (is_same id) (region_ids (of_segments segments)) ≡ false
unfolding region_ids
apart_ids id segments none =
    id_among_different id (map region_id (filter_map region_of segments)) ∙ id_among id segments ∙ ap is_some none

-- a region that is new takes its bytes
pub used_with_new : (content : Content) (region : Region) (segments : List Content)
    → region_of content ≡ Some region → last_region region.head.region segments ≡ None
    → pixels_used (with_segment content segments) ≡ region_bytes region.head + pixels_used (of_segments segments)
used_with_new content region segments is none =
    let ids : region_ids (with_segment content segments) ≡ region.head.region ∷ region_ids (of_segments segments) =
    ids_with content region segments is
    ∙ ap (λ (last : Option Region). cond (is_some last) (region_ids (of_segments segments))
    (region.head.region ∷ region_ids (of_segments segments))) none in
    let f : ℕ → ℕ = bytes_by (content ∷ segments) in
    let here : f region.head.region ≡ region_bytes region.head =
    ap (λ (o : Option Region). bytes_of_region (option_or o (last_region region.head.region segments)))
    (named_same content region is) in
    let rest : sum_by f (region_ids (of_segments segments))
    ≡ sum_by (bytes_by segments) (region_ids (of_segments segments)) =
    sum_apart f (bytes_by segments) region.head.region (region_ids (of_segments segments))
    (λ i other. ap (λ (o : Option Region). bytes_of_region (option_or o (last_region i segments)))
    (named_other content region i is other)) (apart_ids region.head.region segments none) in
    ap (sum_by f) ids ∙ sum_by-cons f region.head.region (region_ids (of_segments segments))
    ∙ (λ i. here i + rest i)

-- one of the size of the last one takes none
pub used_with_same : (content : Content) (region last : Region) (segments : List Content)
    → region_of content ≡ Some region → last_region region.head.region segments ≡ Some last
    → region_bytes region.head ≡ region_bytes last.head
    → pixels_used (with_segment content segments) ≡ pixels_used (of_segments segments)
used_with_same content region last segments is known size =
    let ids : region_ids (with_segment content segments) ≡ region_ids (of_segments segments) =
    ids_with content region segments is
    ∙ ap (λ (found : Option Region). cond (is_some found) (region_ids (of_segments segments))
    (region.head.region ∷ region_ids (of_segments segments))) known in
    let same : (i : ℕ) → bytes_by (content ∷ segments) i ≡ bytes_by segments i = λ i.
    elim (cases_eq i region.head.region) [
      | inl e ↦
          ap (bytes_by (content ∷ segments)) e
          ∙ ap (λ (o : Option Region). bytes_of_region (option_or o (last_region region.head.region segments)))
          (named_same content region is)
          ∙ size ∙ sym (ap bytes_of_region known) ∙ ap (bytes_by segments) (sym e)
      | inr other ↦ ap (λ (o : Option Region). bytes_of_region (option_or o (last_region i segments)))
          (named_other content region i is other)
    ] in
    ap (sum_by (bytes_by (content ∷ segments))) ids
    ∙ (λ j. sum_by (λ i. same i j) (region_ids (of_segments segments)))

-- any other segment takes none
pub used_with_other : (content : Content) (segments : List Content) → region_of content ≡ None
    → pixels_used (with_segment content segments) ≡ pixels_used (of_segments segments)
unfolding region_ids
used_with_other content segments is =
    let ids : region_ids (with_segment content segments) ≡ region_ids (of_segments segments) =
    ap (λ (found : Option Region). different is_same
    (map region_id (cons_option found (filter_map region_of segments)))) is in
    let same : (i : ℕ) → bytes_by (content ∷ segments) i ≡ bytes_by segments i =
    λ i. ap (λ (found : Option Region). bytes_of_region
    (option_or (where_passes (λ one. one.head.region == i) found) (last_region i segments))) is in
    ap (sum_by (bytes_by (content ∷ segments))) ids
    ∙ (λ j. sum_by (λ i. same i j) (region_ids (of_segments segments)))

pub taken_or_held : (content : Content) (earlier : List Content) (taken : Bool)
    → is_taken earlier content.value ≡ taken
    → pixels_used (taken_of (content ∷ earlier))
    ≡ pixels_used (cond taken (with_segment content (taken_among earlier)) (taken_of earlier))
unfolding taken_among
taken_or_held content earlier true is =
    ap (λ b. pixels_used (of_segments (cond b (content ∷ taken_among earlier) (taken_among earlier)))) is
taken_or_held content earlier false is =
    ap (λ b. pixels_used (of_segments (cond b (content ∷ taken_among earlier) (taken_among earlier)))) is

-- segments that are no regions take no bytes
pub used_behind_others : (mid base : List Content) → list_any is_region mid ≡ false
    → pixels_used (taken_of (mid ++ base)) ≡ pixels_used (taken_of base)
used_behind_others [] base none = refl
used_behind_others (content ∷ mid) base none =
    let parts = either (is_region content) (list_any is_region mid) none in
    by (is_taken (mid ++ base) content.value) refl (no_some (region_of content) parts.0)
    (used_behind_others mid base parts.1)
  where
    either : (a b : Bool) → (a || b) ≡ false → (a ≡ false) × (b ≡ false)
    either false b is = (refl, is)
    either true b is = absurd (cc)

    no_some : {X : Type 0} (o : Option X) → is_some o ≡ false → o ≡ None
    no_some None is = refl
    no_some (Some x) is = absurd (cc)

    by : (taken : Bool) → is_taken (mid ++ base) content.value ≡ taken → region_of content ≡ None
        → pixels_used (taken_of (mid ++ base)) ≡ pixels_used (taken_of base)
        → pixels_used (taken_of (content ∷ (mid ++ base))) ≡ pixels_used (taken_of base)
    by true is other rest =
        taken_or_held content (mid ++ base) true is ∙ used_with_other content (taken_among (mid ++ base)) other
        ∙ rest
    by false is other rest = taken_or_held content (mid ++ base) false is ∙ rest

-- those before the regions of a set neither
pub used_before_regions : (older set : List Content)
    → pixels_used (taken_of (before_regions older set)) ≡ pixels_used (taken_of older)
used_before_regions older set =
    let displays = filter (λ content. is_some (display_of content)) set in
    let pages = filter (λ content. is_some (page_of content)) set in
    used_behind_others (reverse pages) (reverse displays ++ older)
    (any_reversed is_region pages
    ∙ any_of_none is_region (λ content. is_some (page_of content)) set
    (λ content is. ap is_some (no_region_in_page content.value is)))
    ∙ used_behind_others (reverse displays) older
    (any_reversed is_region displays
    ∙ any_of_none is_region (λ content. is_some (display_of content)) set
    (λ content is. ap is_some (no_region_in_display content.value is)))

-- ---- rooms

pub same_bytes : (a b : RegionHead) → has_same_shape a b ≡ true → region_bytes a ≡ region_bytes b
same_bytes a b is =
    let first =
    both (a.width == b.width) ((a.height == b.height) && (depths.bits_of a.depth == depths.bits_of b.depth)) is in
    let second = both (a.height == b.height) (depths.bits_of a.depth == depths.bits_of b.depth) first.1 in
    let width = eqb-true a.width b.width first.0 in
    let height = eqb-true a.height b.height second.0 in
    let bits = eqb-true (depths.bits_of a.depth) (depths.bits_of b.depth) second.1 in
    λ i. (width i * bits i + 7) / 8 * height i
  where
    both : (x y : Bool) → (x && y) ≡ true → (x ≡ true) × (y ≡ true)
    both true y is = (refl, is)
    both false y is = absurd (cc)

none_mapped : {X Y : Type 0} (f : X → Y) (o : Option X) → is_none (option_map f o) ≡ is_none o
none_mapped f None = refl
none_mapped f (Some x) = refl

known_head : (older earlier : List Content) (region : Region) (composition : Composition)
    → HasHeads older composition → IsAsBefore older earlier region.head.region
    → head_in composition region.head.region
    ≡ option_map head_of (taken_region region.head.region (taken_of earlier))
known_head older earlier region composition has before =
    has region.head.region ∙ sym (ap (option_map head_of) before.taken)

-- whether a region has room, by what is known and left
pub room_is : (profile : Profile) (older earlier : List Content) (content : Content) (region : Region)
    (composition : Composition) (left : ℕ) → HasHeads older composition → of_region region ≡ content.value
    → IsAsBefore older earlier region.head.region → left ≡ profile.pixels - pixels_used (taken_of earlier)
    → room_fault region.head (head_in composition region.head.region) left ≡ pixels_full profile earlier content
room_is profile older earlier content region composition left has is before free =
    let need = region_bytes region.head in
    ap (λ b. cond (b && nat_lt left need) (Some (PixelFull need left)) None)
    (ap is_none (known_head older earlier region composition has before)
    ∙ none_mapped head_of (taken_region region.head.region (taken_of earlier)))
    ∙ ap (λ n. cond (is_none (taken_region region.head.region (taken_of earlier)) && nat_lt n need)
    (Some (PixelFull need n)) None) free
    ∙ ap (λ (v : SegmentValue). option_and_then (region_too_large profile (taken_of earlier)) (region_in v)) is

pub shape_kept : (region last : Region) → changed_from region (Some last) ≡ None
    → has_same_shape region.head last.head ≡ true
shape_kept region last none = by (has_same_shape region.head last.head) none
  where
    by : (same : Bool) → cond same None (Some (RegionChanged region.head.region)) ≡ None → same ≡ true
    by true is = refl
    by false is = absurd (cc)

-- and what it leaves, where it does not change a region
pub left_is : (profile : Profile) (older earlier : List Content) (content : Content) (region : Region)
    (composition : Composition) (left : ℕ) → HasHeads older composition → of_region region ≡ content.value
    → IsAsBefore older earlier region.head.region → region_changed earlier content ≡ None
    → left ≡ profile.pixels - pixels_used (taken_of earlier)
    → room_left region.head (head_in composition region.head.region) left
    ≡ profile.pixels - pixels_used (taken_of (content ∷ earlier))
left_is profile older earlier content region composition left has is before unchanged free =
    by (taken_region id (taken_of earlier)) (is_taken earlier content.value) refl refl
    (known_head older earlier region composition has before)
    (ap (is_taken earlier) (sym is) ∙ taken_by_head older earlier region before
    ∙ ap (λ (o : Option Region). is_new region.head (option_map head_of o)) (sym before.taken))
  where
    id : ℕ
    id = region.head.region

    of : region_of content ≡ Some region
    of = ap region_in (sym is)

    by : (last : Option Region) (taken : Bool) → taken_region id (taken_of earlier) ≡ last
        → is_taken earlier content.value ≡ taken
        → head_in composition id ≡ option_map head_of (taken_region id (taken_of earlier))
        → is_taken earlier content.value
        ≡ is_new region.head (option_map head_of (taken_region id (taken_of earlier)))
        → room_left region.head (head_in composition id) left
        ≡ profile.pixels - pixels_used (taken_of (content ∷ earlier))
    by None false known held head new =
        absurd (let e : is_taken earlier content.value ≡ true = new
        ∙ ap (λ (o : Option Region). is_new region.head (option_map head_of o)) known in let f = sym held
        ∙ e in cc)
    by None true known taken head new =
        let used : pixels_used (taken_of (content ∷ earlier))
        ≡ region_bytes region.head + pixels_used (taken_of earlier) = taken_or_held content earlier true taken
        ∙ used_with_new content region (taken_among earlier) of known in
        ap (λ (o : Option RegionHead). room_left region.head o left) (head ∙ ap (option_map head_of) known)
        ∙ omega (arith, free, used)
    by (Some last) false known held head new =
        let used : pixels_used (taken_of (content ∷ earlier)) ≡ pixels_used (taken_of earlier) =
        taken_or_held content earlier false held in
        ap (λ (o : Option RegionHead). room_left region.head o left) (head ∙ ap (option_map head_of) known)
        ∙ omega (arith, free, used)
    by (Some last) true known taken head new =
        let changed : changed_from region (Some last) ≡ None =
        ap (changed_from region) (sym known)
        ∙ sym (ap (λ b. cond b (changed_from region (taken_region id (taken_of earlier))) None) taken)
        ∙ ap (changed_region earlier content.value) (sym of) ∙ unchanged in
        let used : pixels_used (taken_of (content ∷ earlier)) ≡ pixels_used (taken_of earlier) =
        taken_or_held content earlier true taken
        ∙ used_with_same content region last (taken_among earlier) of known
        (same_bytes region.head last.head (shape_kept region last changed)) in
        ap (λ (o : Option RegionHead). room_left region.head o left) (head ∙ ap (option_map head_of) known)
        ∙ omega (arith, free, used)

-- ---- a walk over the regions of a set

-- how far the test has come: so much is left behind the regions so far, and none of those behind changes
pub record IsRoomed (profile : Profile) (older set : List Content) (left : ℕ) (bytes : List ℕ) : Type 0 where
  pub tested : IsTested (pixels_full profile) older set bytes
  pub free : left ≡ profile.pixels - pixels_used (taken_of (tested.mid ++ before_regions older set))
  pub unchanged : first_in region_changed (tested.mid ++ before_regions older set) (filter is_region tested.left)
      ≡ None

pub neither : {X : Type 0} (a b : Option X) → option_or a b ≡ None → (a ≡ None) × (b ≡ None)
neither None b is = (refl, is)
neither (Some x) b is = absurd (cc)

module _ (profile : Profile) (older set : List Content) where
  pub roomed_start : (left : ℕ) (bytes : List ℕ) → left ≡ profile.pixels - pixels_used (taken_of older)
      → AreContents set bytes → AreApart [] (filter is_region set)
      → first_fault_by region_changed older set ≡ None → IsRoomed profile older set left bytes
  roomed_start left bytes free are apart unchanged = record {
    tested = starts (pixels_full profile) older set bytes are apart;
    free = free ∙ ap (λ n. profile.pixels - n) (sym (used_before_regions older set));
    unchanged = sym (changed_in_order older set) ∙ unchanged;
  }

  -- a region that has no room is the fault of the set
  pub no_room : (left : ℕ) (bytes rest : List ℕ) (region : Region) (composition : Composition) (fault : SetFault)
      → HasHeads older composition
      → ((other : List Content) → AreContents other bytes → IsNextOf is_region other (of_region region) rest)
      → Some fault ≡ room_fault region.head (head_in composition region.head.region) left
      → IsRoomed profile older set left bytes
      → first_in (pixels_full profile) (before_regions older set) (filter is_region set) ≡ Some fault
  no_room left bytes rest region composition fault has next is r =
      let n = next_tested (pixels_full profile) older set bytes rest region next r.tested in
      fails (pixels_full profile) older set rest region fault n
      (sym (room_is profile older (n.mid ++ before_regions older set) n.content region composition left has n.is
      n.before r.free) ∙ sym is)

  -- one that has room leaves the rest
  pub has_room : (left new : ℕ) (bytes rest : List ℕ) (region : Region) (composition : Composition)
      → HasHeads older composition
      → ((other : List Content) → AreContents other bytes → IsNextOf is_region other (of_region region) rest)
      → None ≡ room_fault region.head (head_in composition region.head.region) left
      → new ≡ room_left region.head (head_in composition region.head.region) left
      → IsRoomed profile older set left bytes → IsRoomed profile older set new rest
  has_room left new bytes rest region composition has next none is r =
      let n = next_tested (pixels_full profile) older set bytes rest region next r.tested in
      let split = (next r.tested.left r.tested.are).split in
      let both =
      neither (region_changed (n.mid ++ before_regions older set) n.content)
      (first_in region_changed (n.content ∷ (n.mid ++ before_regions older set)) (filter is_region n.more))
      (sym (ap (first_in region_changed (n.mid ++ before_regions older set)) split) ∙ r.unchanged) in
      record {
        tested =
            passes (pixels_full profile) older set rest region n
            (sym (room_is profile older (n.mid ++ before_regions older set) n.content region composition left has n.is
            n.before r.free) ∙ sym none);
        free =
            is ∙ left_is profile older (n.mid ++ before_regions older set) n.content region composition left has n.is
            n.before both.0 r.free;
        unchanged = both.1;
      }

  pub all_roomed : (left : ℕ) (bytes : List ℕ)
      → ((other : List Content) → AreContents other bytes → filter is_region other ≡ [])
      → IsRoomed profile older set left bytes
      → first_in (pixels_full profile) (before_regions older set) (filter is_region set) ≡ None
  all_roomed left bytes none r = ends (pixels_full profile) older set bytes none r.tested

-- ---- over the set in order

pub room_in_order : (profile : Profile) (older set : List Content)
    → first_fault_by (pixels_full profile) older set
    ≡ first_in (pixels_full profile) (before_regions older set) (filter is_region set)
room_in_order profile older set =
    first_of_regions (pixels_full profile) older set
    (λ before content is. ap (option_and_then (region_too_large profile (taken_of before)))
    (no_region_in_display content.value is))
    (λ before content is. ap (option_and_then (region_too_large profile (taken_of before)))
    (no_region_in_page content.value is))
    (λ before content is. ap (option_and_then (region_too_large profile (taken_of before)))
    (no_region_in_clut content.value is))
    (λ before content is. ap (option_and_then (region_too_large profile (taken_of before)))
    (no_region_in_object content.value is))
