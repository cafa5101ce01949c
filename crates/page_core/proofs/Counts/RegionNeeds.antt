-- The nodes that the regions of a set need, and those that they free.
use Rattle.std.proofs.Common.{◌≡◌, ◌∙◌, ℕ, ◌+◌, ◌==◌, ◌||◌, Bool, true, false, cond, List, [], ◌∷◌, ◌++◌, filter, length, map, reverse, sum_by, Option, Some, None, option_map, refl, sym, ap, arith}
use Rattle.std.specs.Prelude.{filter_map}
use Rattle.std.specs.List.{list_any}
use Rattle.std.specs.Option.{is_some}
use Rattle.std.proofs.lemmas.Bool.{eqb-true, eq-eqb}
use Rattle.std.proofs.lemmas.List.Sums.{sum_by-cons}
use Rattle.sub_base.specs.Lists.{different}
use Rattle.stream_syntax.specs.Segments.{Region, SegmentValue, of_page, of_region, of_clut, of_object, of_display, end_of_set, passed_over}
use Rattle.decoder_model.specs.Contents.{region_in, region_of}
use Rattle.decoder_model.specs.Nodes.{is_same, listing_count, listings_held, region_id, region_ids}
use Rattle.decoder_model.specs.Readings.{Content}
use Rattle.decoder_model.specs.Taken.{Taken, is_taken, last_region, taken_among, taken_of, taken_region}
use Rattle.page_core.specs.Memory.{head_of}
use Rattle.page_core.specs.Private.RegionSteps.{is_renewed, nodes_needed, nodes_needed_for}
use Rattle.page_core.specs.Private.RegionTests.{AreApart, is_new}
use Rattle.page_core.specs.Private.Seen.{defines}
use Rattle.page_core.specs.Private.Walks.{is_region}
use Rattle.page_core.proofs.Sets.Orders.{moved}
use Rattle.page_core.proofs.Counts.PixelRoom.{apart_ids, id_among, id_among_different, ids_with, named_same, of_segments, sum_apart, with_segment}
use Rattle.page_core.proofs.Regions.RegionMeanings.{held_renewed, none_renewed, not_renewed}
use Rattle.page_core.proofs.Regions.RegionReady.{apart_behind, needed_is}
use Rattle.page_core.proofs.Regions.RenewedRegions.{renews_is}
use Rattle.page_core.proofs.Regions.TakenRegions.{held_then, id_of_last, is_region_of, region_then, region_then_other, taken_by_version, taken_then}

-- how many listings a region has, where the rest of a set leaves them
abbrev pub count_by : Bool → ℕ → ℕ
count_by renewed count = cond renewed 0 count

abbrev pub count_awaited : List Content → Option Region → ℕ
count_awaited left None = 0
count_awaited left (Some region) = count_by (is_renewed left region.head) (length region.listings)

abbrev pub counts : Taken → List Content → ℕ → ℕ
counts taken left id = count_awaited left (taken_region id taken)

-- the nodes of the regions and of these listings
abbrev pub nodes_awaited : Taken → List Content → ℕ
nodes_awaited taken left = length (region_ids taken) + sum_by (counts taken left) (region_ids taken)

-- ---- sums

-- two numbers at one id among others, each once
sum_once : (f g : ℕ → ℕ) (id : ℕ) (ids : List ℕ) → ((i : ℕ) → (i ≡ id → ⊥) → f i ≡ g i)
    → list_any (is_same id) ids ≡ true
    → sum_by g (different is_same ids) + f id ≡ sum_by f (different is_same ids) + g id
sum_once f g id [] same among = absurd (cc)
sum_once f g id (x ∷ ids) same among = by (list_any (is_same x) ids) refl (sum_once f g id ids same)
  where
    rest_among : (hit : Bool) → (id == x) ≡ hit → list_any (is_same x) ids ≡ true
        → (hit || list_any (is_same id) ids) ≡ true → list_any (is_same id) ids ≡ true
    rest_among true is again among = ap (λ n. list_any (is_same n) ids) (eqb-true id x is) ∙ again
    rest_among false is again among = among

    here : (hit : Bool) → (id == x) ≡ hit → list_any (is_same x) ids ≡ false
        → (hit || list_any (is_same id) ids) ≡ true
        → (list_any (is_same id) ids ≡ true
        → sum_by g (different is_same ids) + f id ≡ sum_by f (different is_same ids) + g id)
        → sum_by g (x ∷ different is_same ids) + f id ≡ sum_by f (x ∷ different is_same ids) + g id
    here true is once among rest =
        let at : id ≡ x = eqb-true id x is in
        let none : list_any (is_same id) (different is_same ids) ≡ false =
        id_among_none id ids (ap (λ n. list_any (is_same n) ids) at ∙ once) in
        omega (
          arith,
          sum_by-cons g x (different is_same ids),
          sum_by-cons f x (different is_same ids),
          sum_apart f g id
              (different is_same ids) same none,
          ap f at,
          ap g at,
        )
      where
        id_among_none : (n : ℕ) (ns : List ℕ) → list_any (is_same n) ns ≡ false
            → list_any (is_same n) (different is_same ns) ≡ false
        id_among_none n ns none = id_among_different n ns ∙ none
    here false is once among rest =
        let other : x ≡ id → ⊥ = λ e. (let hit = eq-eqb id x (sym e) in cc) in
        omega (
          arith,
          sum_by-cons g x (different is_same ids),
          sum_by-cons f x (different is_same ids),
          same x
              other,
          rest among,
        )

    by : (again : Bool) → list_any (is_same x) ids ≡ again
        → (list_any (is_same id) ids ≡ true
        → sum_by g (different is_same ids) + f id ≡ sum_by f (different is_same ids) + g id)
        → sum_by g (cond again (different is_same ids) (x ∷ different is_same ids)) + f id
        ≡ sum_by f (cond again (different is_same ids) (x ∷ different is_same ids)) + g id
    by true is rest = rest (rest_among (id == x) refl is among)
    by false is rest = here (id == x) refl is among rest

sum_once_in : (f g : ℕ → ℕ) (id : ℕ) (segments : List Content) (last : Region)
    → ((i : ℕ) → (i ≡ id → ⊥) → f i ≡ g i) → last_region id segments ≡ Some last
    → sum_by g (region_ids (of_segments segments)) + f id ≡ sum_by f (region_ids (of_segments segments)) + g id
unfolding region_ids
sum_once_in f g id segments last same is =
    sum_once f g id (map region_id (filter_map region_of segments)) same (id_among id segments ∙ ap is_some is)

sum_same : (f g : ℕ → ℕ) (ids : List ℕ) → ((i : ℕ) → f i ≡ g i) → sum_by f ids ≡ sum_by g ids
sum_same f g ids same = λ j. sum_by (λ i. same i j) ids

-- ---- one segment

module _ (segments left : List Content) (content : Content) (region : Region)
    (value : of_region region ≡ content.value) (apart : defines region.head.region left ≡ false) where
  others : (id : ℕ) → (id ≡ region.head.region → ⊥)
      → counts (taken_of segments) (content ∷ left) id
      ≡ counts (with_segment content (taken_among segments)) left id
  others id other =
      by (taken_region id (taken_of segments)) refl
      ∙ sym (ap (count_awaited left) (region_then_other content region value (taken_of segments) id other))
    where
      by : (found : Option Region) → taken_region id (taken_of segments) ≡ found
          → count_awaited (content ∷ left) found ≡ count_awaited left found
      by None is = refl
      by (Some one) is =
          ap (λ b. count_by b (length one.listings))
          (not_renewed (taken_of segments) left content region value one.head
          (λ e. other (sym (id_of_last id (taken_among segments) one is) ∙ e)))

  here : counts (with_segment content (taken_among segments)) left region.head.region ≡ length region.listings
  here =
      ap (count_awaited left) (region_then content region value (taken_of segments))
      ∙ ap (λ b. count_by b (length region.listings)) (none_renewed region.head left apart)

  pub nodes_step : nodes_awaited (taken_of segments) (content ∷ left)
      + nodes_needed_for segments content (region_of content) ≡ nodes_awaited (taken_of (content ∷ segments)) left
  nodes_step = by (taken_region region.head.region (taken_of segments)) refl
    where
      held : (last : Region) → taken_region region.head.region (taken_of segments) ≡ Some last
          → is_new region.head (Some last.head) ≡ false
          → nodes_awaited (taken_of segments) (content ∷ left)
          + nodes_needed_for segments content (region_of content)
          ≡ nodes_awaited (taken_of (content ∷ segments)) left
      held last known same_version =
          let old : is_new region.head (option_map head_of (taken_region region.head.region (taken_of segments)))
          ≡ false = ap (λ (o : Option Region). is_new region.head (option_map head_of o)) known
          ∙ same_version in
          let not_taken : is_taken segments content.value ≡ false =
          taken_by_version segments content region value ∙ old in
          let same : (id : ℕ)
          → counts (taken_of segments) (content ∷ left) id
          ≡ counts (taken_of segments) left id = λ id. each id (taken_region id (taken_of segments)) refl old in
          omega (
            arith,
            needed_is segments content region false (Some last) value not_taken known,
            sum_same (counts (taken_of segments) (content ∷ left)) (counts (taken_of segments) left)
                (region_ids (taken_of segments)) same,
            ap (λ (taken : Taken). nodes_awaited taken left) (held_then segments content not_taken),
          )
        where
          each : (id : ℕ) (found : Option Region) → taken_region id (taken_of segments) ≡ found
              → is_new region.head (option_map head_of (taken_region region.head.region (taken_of segments)))
              ≡ false
              → count_awaited (content ∷ left) found ≡ count_awaited left found
          each id None is old = refl
          each id (Some one) is old =
              ap (λ b. count_by b (length one.listings))
              (held_renewed (taken_of segments) left content region value id one old is)

      again : (last : Region) → taken_region region.head.region (taken_of segments) ≡ Some last
          → is_new region.head (Some last.head) ≡ true
          → nodes_awaited (taken_of segments) (content ∷ left)
          + nodes_needed_for segments content (region_of content)
          ≡ nodes_awaited (taken_of (content ∷ segments)) left
      again last known new_version =
          let is : is_taken segments content.value ≡ true =
          taken_by_version segments content region value
          ∙ ap (λ (o : Option Region). is_new region.head (option_map head_of o)) known ∙ new_version in
          let ids : region_ids (with_segment content (taken_among segments)) ≡ region_ids (taken_of segments) =
          ids_with content region (taken_among segments) (is_region_of content region value (taken_of segments))
          ∙ ap (λ (o : Option Region). cond (is_some o) (region_ids (taken_of segments))
          (region.head.region ∷ region_ids (taken_of segments))) known in
          let id_is : region.head.region ≡ last.head.region =
          sym (id_of_last region.head.region (taken_among segments) last known) in
          let renewed : is_renewed (content ∷ left) last.head ≡ true =
          ap (λ b. b || is_renewed left last.head)
          (renews_is last.head content region value
          ∙ ap (λ b. cond b (is_new region.head (Some last.head)) false)
          (eq-eqb region.head.region last.head.region id_is) ∙ new_version) in
          let out : counts (taken_of segments) (content ∷ left) region.head.region ≡ 0 =
          ap (count_awaited (content ∷ left)) known ∙ ap (λ b. count_by b (length last.listings)) renewed in
          omega (
            arith,
            needed_is segments content region true (Some last) value is known,
            sum_once_in (counts (taken_of segments) (content ∷ left))
                (counts (with_segment content (taken_among segments)) left) region.head.region (taken_among segments)
                last others known,
            out,
            here,
            ap (λ (all : List ℕ). length all
                + sum_by (counts (with_segment content (taken_among segments)) left) all) ids,
            ap (λ (taken : Taken). nodes_awaited taken left) (taken_then segments content is),
          )

      first : taken_region region.head.region (taken_of segments) ≡ None
          → nodes_awaited (taken_of segments) (content ∷ left)
          + nodes_needed_for segments content (region_of content)
          ≡ nodes_awaited (taken_of (content ∷ segments)) left
      first none =
          let is : is_taken segments content.value ≡ true =
          taken_by_version segments content region value
          ∙ ap (λ (o : Option Region). is_new region.head (option_map head_of o)) none in
          let ids : region_ids (with_segment content (taken_among segments)) ≡ region.head.region
          ∷ region_ids (taken_of segments) =
          ids_with content region (taken_among segments) (is_region_of content region value (taken_of segments))
          ∙ ap (λ (o : Option Region). cond (is_some o) (region_ids (taken_of segments))
          (region.head.region ∷ region_ids (taken_of segments))) none in
          omega (
            arith,
            needed_is segments content region true None value is none,
            sum_apart (counts (taken_of segments) (content ∷ left))
                (counts (with_segment content (taken_among segments)) left) region.head.region
                (region_ids (taken_of segments)) others
                (apart_ids region.head.region (taken_among segments) none),
            here,
            sum_by-cons (counts (with_segment content (taken_among segments)) left) region.head.region
                (region_ids (taken_of segments)),
            ap (λ (all : List ℕ). length all
                + sum_by (counts (with_segment content (taken_among segments)) left) all) ids,
            ap (λ (taken : Taken). nodes_awaited taken left) (taken_then segments content is),
          )

      by_version : (last : Region) → taken_region region.head.region (taken_of segments) ≡ Some last
          → (newer : Bool) → is_new region.head (Some last.head) ≡ newer
          → nodes_awaited (taken_of segments) (content ∷ left)
          + nodes_needed_for segments content (region_of content)
          ≡ nodes_awaited (taken_of (content ∷ segments)) left
      by_version last known true is = again last known is
      by_version last known false is = held last known is

      by : (known : Option Region) → taken_region region.head.region (taken_of segments) ≡ known
          → nodes_awaited (taken_of segments) (content ∷ left)
          + nodes_needed_for segments content (region_of content)
          ≡ nodes_awaited (taken_of (content ∷ segments)) left
      by None is = first is
      by (Some last) is = by_version last is (is_new region.head (Some last.head)) refl

-- ---- all of a set

-- contents that are regions
abbrev pub AreRegions : List Content → Type 0
AreRegions [] = Unit {0}
AreRegions (content ∷ contents) = ((region : Region) × (of_region region ≡ content.value)) × AreRegions contents

region_value_of : (value : SegmentValue) → is_some (region_in value) ≡ true → (region : Region)
    × (of_region region ≡ value)
region_value_of (of_page value) is = absurd (cc)
region_value_of (of_region value) is = (value, refl)
region_value_of (of_clut value) is = absurd (cc)
region_value_of (of_object value) is = absurd (cc)
region_value_of (of_display value) is = absurd (cc)
region_value_of end_of_set is = absurd (cc)
region_value_of passed_over is = absurd (cc)

pub are_regions : (set : List Content) → AreRegions (filter is_region set)
are_regions [] = tt
are_regions (content ∷ set) = by (is_region content) refl (are_regions set)
  where
    by : (hit : Bool) → is_region content ≡ hit → AreRegions (filter is_region set)
        → AreRegions (cond hit (content ∷ filter is_region set) (filter is_region set))
    by true is rest = (region_value_of content.value is, rest)
    by false is rest = rest

nothing_awaited : (taken : Taken) → nodes_awaited taken [] ≡ length (region_ids taken) + listings_held taken
nothing_awaited taken =
    ap (λ n. length (region_ids taken) + n)
    (sum_same (counts taken []) (λ id. listing_count (taken_region id taken)) (region_ids taken)
    (λ id. by (taken_region id taken)))
  where
    by : (found : Option Region) → count_awaited [] found ≡ listing_count found
    by None = refl
    by (Some region) = refl

-- what is there without the listings that a set renews, and what its regions need, are what the epoch has with the set
pub nodes_with : (segments before left : List Content) → AreRegions left → AreApart before left
    → nodes_awaited (taken_of segments) left + nodes_needed segments left
    ≡ length (region_ids (taken_of (reverse left ++ segments)))
    + listings_held (taken_of (reverse left ++ segments))
nodes_with segments before [] regions apart = omega (arith, nothing_awaited (taken_of segments))
nodes_with segments before (content ∷ left) regions apart =
    let region = regions.0.0 in
    let named : defines region.head.region (content ∷ before) ≡ true =
    ap (λ (o : Option Region). is_some o || defines region.head.region before)
    (named_same content region (ap region_in (sym regions.0.1))) in
    let others = apart_behind region.head.region (content ∷ before) left named apart.1 in
    let rest = nodes_with (content ∷ segments) (content ∷ before) left regions.1 apart.1 in
    omega (
      arith,
      nodes_step segments left content region regions.0.1 others,
      rest,
      ap (λ (all : List Content). length (region_ids (taken_of all)) + listings_held (taken_of all))
          (moved content left segments),
    )
