-- The nodes of the regions of an epoch, with one more segment.
use Rattle.std.proofs.Common.{◌≡◌, ◌∙◌, ℕ, ◌+◌, ◌==◌, ◌||◌, Bool, true, false, cond, not, List, [], ◌∷◌, ◌++◌, length, map, Option, Some, None, option_map, refl, sym, ap, arith}
use Rattle.std.specs.Prelude.{filter_map, sum_by}
use Rattle.std.specs.List.{list_any, cons_option}
use Rattle.std.specs.Option.{is_some, option_or}
use Rattle.std.proofs.lemmas.Bool.{eq-eqb, eqb-true}
use Rattle.std.proofs.lemmas.List.Sums.{sum_by-cons}
use Rattle.sub_base.specs.Lists.{different}
use Rattle.stream_syntax.specs.Segments.{of_region, Region}
use Rattle.stream_syntax.specs.declared.region.RegionHead.{RegionHead}
use Rattle.decoder_model.specs.Contents.{region_in as value_region, region_of, where_passes}
use Rattle.decoder_model.specs.Nodes.{is_same, listing_count, listings_held, region_id, region_ids}
use Rattle.decoder_model.specs.Readings.{Content}
use Rattle.decoder_model.specs.Taken.{is_taken, last_region, taken_among, taken_of, taken_region}
use Rattle.page_core.specs.Composition.{KeptRegion}
use Rattle.page_core.specs.Private.Counting.{IsKeptOf, added_by, gone_by, of_taken, region_need}
use Rattle.page_core.specs.Memory.{head_of}
use Rattle.page_core.specs.Private.RegionTests.{IsAsBefore, is_new}
use Rattle.page_core.specs.Private.Walks.{is_region}
use Rattle.page_core.proofs.ColourTables.ClutLaws.{taken_more, taken_same}
use Rattle.page_core.proofs.Counts.PixelRoom.{apart_ids, ids_with, id_among, id_among_different, named_other, named_same, sum_apart}
use Rattle.page_core.proofs.Regions.RegionLaws.{taken_by_head}

abbrev pub held_by : List Content → ℕ → ℕ
held_by taken id = listing_count (last_region id taken)

-- ---- sums over ids

-- numbers that differ at one id alone, which is there
sum_at : (f g : ℕ → ℕ) (id : ℕ) (ids : List ℕ) → ((i : ℕ) → (i ≡ id → ⊥) → f i ≡ g i)
    → list_any (is_same id) ids ≡ true
    → sum_by f (different is_same ids) + g id ≡ sum_by g (different is_same ids) + f id
sum_at f g id [] same there = absurd (cc)
sum_at f g id (x ∷ ids) same there = by (list_any (is_same x) ids) refl (id == x) refl there (sum_at f g id ids same)
  where
    by : (again : Bool) → list_any (is_same x) ids ≡ again → (hit : Bool) → (id == x) ≡ hit
        → (hit || list_any (is_same id) ids) ≡ true
        → (list_any (is_same id) ids ≡ true
        → sum_by f (different is_same ids) + g id ≡ sum_by g (different is_same ids) + f id)
        → sum_by f (cond again (different is_same ids) (x ∷ different is_same ids)) + g id
        ≡ sum_by g (cond again (different is_same ids) (x ∷ different is_same ids)) + f id
    by true known true here either rest = rest (ap (λ n. list_any (is_same n) ids) (eqb-true id x here) ∙ known)
    by true known false here either rest = rest either
    by false known true here either rest =
        let is : x ≡ id = sym (eqb-true id x here) in
        let apart : list_any (is_same id) (different is_same ids) ≡ false =
        id_among_different id ids ∙ ap (λ n. list_any (is_same n) ids) (eqb-true id x here) ∙ known in
        let others = sum_apart f g id (different is_same ids) same apart in
        omega (
          arith,
          sum_by-cons f x (different is_same ids),
          sum_by-cons g x (different is_same ids),
          others,
          ap f
              is,
          ap g is,
        )
    by false known false here either rest =
        let other : (x ≡ id) → ⊥ = λ e. (let yes = eq-eqb id x (sym e) in absurd (cc)) in
        omega (
          arith,
          sum_by-cons f x (different is_same ids),
          sum_by-cons g x (different is_same ids),
          rest
              either,
          same x other,
        )

-- ---- one more region

module _ (content : Content) (region : Region) (taken : List Content) (is : region_of content ≡ Some region) where
  held_other : (i : ℕ) → (i ≡ region.head.region → ⊥) → held_by (content ∷ taken) i ≡ held_by taken i
  held_other i other =
      ap (λ (o : Option Region). listing_count (option_or o (last_region i taken)))
      (named_other content region i is other)

  held_same : held_by (content ∷ taken) region.head.region ≡ length region.listings
  held_same =
      ap (λ (o : Option Region). listing_count (option_or o (last_region region.head.region taken)))
      (named_same content region is)

  -- one that is new takes a node, and its listings take theirs
  need_with_new : last_region region.head.region taken ≡ None
      → region_need (content ∷ taken) ≡ region_need taken + (length region.listings + 1)
  need_with_new none =
      let ids : region_ids (of_taken (content ∷ taken)) ≡ region.head.region ∷ region_ids (of_taken taken) =
      ids_with content region taken is
      ∙ ap (λ (last : Option Region). cond (is_some last) (region_ids (of_taken taken))
      (region.head.region ∷ region_ids (of_taken taken))) none in
      let others =
      sum_apart (held_by (content ∷ taken)) (held_by taken) region.head.region (region_ids (of_taken taken))
      held_other (apart_ids region.head.region taken none) in
      let all =
      ap (sum_by (held_by (content ∷ taken))) ids
      ∙ sum_by-cons (held_by (content ∷ taken)) region.head.region (region_ids (of_taken taken)) in
      omega (arith, ap length ids, all, others, held_same)

  -- the listings of one that is known take the place of its last ones
  need_with_known : (last : Region) → last_region region.head.region taken ≡ Some last
      → region_need (content ∷ taken) + length last.listings ≡ region_need taken + length region.listings
  unfolding region_ids
  need_with_known last known =
      let ids : region_ids (of_taken (content ∷ taken)) ≡ region_ids (of_taken taken) =
      ids_with content region taken is
      ∙ ap (λ (found : Option Region). cond (is_some found) (region_ids (of_taken taken))
      (region.head.region ∷ region_ids (of_taken taken))) known in
      let all = ap (sum_by (held_by (content ∷ taken))) ids in
      let at = summed (ap is_some known) in
      omega (arith, ap length ids, all, at, held_same, ap listing_count known)
    where
      summed : is_some (last_region region.head.region taken) ≡ true
          → sum_by (held_by (content ∷ taken)) (region_ids (of_taken taken)) + held_by taken region.head.region
          ≡ sum_by (held_by taken) (region_ids (of_taken taken)) + held_by (content ∷ taken) region.head.region
      summed some =
          sum_at (held_by (content ∷ taken)) (held_by taken) region.head.region
          (map region_id (filter_map region_of taken)) held_other (id_among region.head.region taken ∙ some)

-- any other segment takes none
need_with_other : (content : Content) (taken : List Content) → region_of content ≡ None
    → region_need (content ∷ taken) ≡ region_need taken
unfolding region_ids
need_with_other content taken is =
    let ids : region_ids (of_taken (content ∷ taken)) ≡ region_ids (of_taken taken) =
    ap (λ (found : Option Region). different is_same
    (map region_id (cons_option found (filter_map region_of taken)))) is in
    let same : (i : ℕ)
    → held_by (content ∷ taken) i
    ≡ held_by taken i = λ i. ap
    (λ (found : Option Region). listing_count
    (option_or (where_passes (λ one. one.head.region == i) found) (last_region i taken))) is in
    let sums : listings_held (of_taken (content ∷ taken)) ≡ listings_held (of_taken taken) =
    ap (sum_by (held_by (content ∷ taken))) ids
    ∙ (λ j. sum_by (λ i. same i j) (region_ids (of_taken taken))) in
    omega (arith, ap length ids, sums)

-- segments that are no regions take no nodes of regions
pub region_need_behind : (mid base : List Content) → list_any is_region mid ≡ false
    → region_need (taken_among (mid ++ base)) ≡ region_need (taken_among base)
region_need_behind [] base none = refl
region_need_behind (content ∷ mid) base none =
    let parts = either (is_region content) (list_any is_region mid) none in
    by (is_taken (mid ++ base) content.value) refl (no_some (region_of content) parts.0)
    (region_need_behind mid base parts.1)
  where
    either : (a b : Bool) → (a || b) ≡ false → (a ≡ false) × (b ≡ false)
    either false b is = (refl, is)
    either true b is = absurd (cc)

    no_some : {X : Type 0} (o : Option X) → is_some o ≡ false → o ≡ None
    no_some None is = refl
    no_some (Some x) is = absurd (cc)

    by : (taken : Bool) → is_taken (mid ++ base) content.value ≡ taken → region_of content ≡ None
        → region_need (taken_among (mid ++ base)) ≡ region_need (taken_among base)
        → region_need (taken_among (content ∷ (mid ++ base))) ≡ region_need (taken_among base)
    by true is other rest =
        ap region_need (taken_more content (mid ++ base) is)
        ∙ need_with_other content (taken_among (mid ++ base)) other ∙ rest
    by false is other rest = ap region_need (taken_same content (mid ++ base) is) ∙ rest

-- ---- by what is kept

-- the nodes that a region segment adds and takes away
pub need_by_kept : (older earlier : List Content) (content : Content) (region : Region) (kept : Option KeptRegion)
    → of_region region ≡ content.value → IsAsBefore older earlier region.head.region
    → IsKeptOf kept (taken_region region.head.region (taken_of older))
    → region_need (taken_among (content ∷ earlier)) + gone_by region kept
    ≡ region_need (taken_among earlier) + added_by region kept
need_by_kept older earlier content region kept is before has =
    by kept (last_region region.head.region (taken_among earlier)) (is_taken earlier content.value) refl refl
    (record {
      head = has.head ∙ ap (option_map head_of) (sym before.taken);
      listings = has.listings
          ∙ ap (option_map (λ (one : Region). length one.listings)) (sym before.taken);
    })
    (ap (is_taken earlier) (sym is) ∙ taken_by_head older earlier region before
    ∙ ap (λ (o : Option Region). is_new region.head (option_map head_of o)) (sym before.taken))
  where
    of : region_of content ≡ Some region
    of = ap value_region (sym is)

    by : (kept : Option KeptRegion) (last : Option Region) (taken : Bool)
        → last_region region.head.region (taken_among earlier) ≡ last → is_taken earlier content.value ≡ taken
        → IsKeptOf kept (last_region region.head.region (taken_among earlier))
        → is_taken earlier content.value
        ≡ is_new region.head (option_map head_of (last_region region.head.region (taken_among earlier)))
        → region_need (taken_among (content ∷ earlier)) + gone_by region kept
        ≡ region_need (taken_among earlier) + added_by region kept
    by None None taken known at has new =
        let takes : is_taken earlier content.value ≡ true =
        new ∙ ap (λ (o : Option Region). is_new region.head (option_map head_of o)) known in
        omega (
          arith,
          ap region_need (taken_more content earlier takes),
          need_with_new content region
              (taken_among earlier) of known,
        )
    by None (Some last) taken known at has new = absurd (let e = has.head ∙ ap (option_map head_of) known in cc)
    by (Some one) None taken known at has new = absurd (let e = has.head ∙ ap (option_map head_of) known in cc)
    by (Some one) (Some last) true known at has new =
        let head : one.head ≡ last.head = (let e = has.head ∙ ap (option_map head_of) known in cc) in
        let count : length one.listings ≡ length last.listings =
        (let e = has.listings ∙ ap (option_map (λ (r : Region). length r.listings)) known in cc) in
        let differs : (one.head.version == region.head.version) ≡ false =
        not_same (one.head.version == region.head.version) (last.head.version == region.head.version)
        (sym (sym at ∙ new ∙ ap (λ (o : Option Region). is_new region.head (option_map head_of o)) known))
        (ap (λ (h : RegionHead). h.version == region.head.version) head) in
        rw differs
        (omega (
          arith,
          ap region_need (taken_more content earlier at),
          need_with_known content region
              (taken_among earlier) of last known,
          count,
        ))
      where
        not_same : (b c : Bool) → not c ≡ true → b ≡ c → b ≡ false
        not_same b false is same = same
        not_same b true is same = absurd (cc)
    by (Some one) (Some last) false known at has new =
        let head : one.head ≡ last.head = (let e = has.head ∙ ap (option_map head_of) known in cc) in
        let same : (one.head.version == region.head.version) ≡ true =
        is_same_version (one.head.version == region.head.version) (last.head.version == region.head.version)
        (sym (sym at ∙ new ∙ ap (λ (o : Option Region). is_new region.head (option_map head_of o)) known))
        (ap (λ (h : RegionHead). h.version == region.head.version) head) in
        rw same (omega (arith, ap region_need (taken_same content earlier at)))
      where
        is_same_version : (b c : Bool) → not c ≡ false → b ≡ c → b ≡ true
        is_same_version b true is same = same
        is_same_version b false is same = absurd (cc)
