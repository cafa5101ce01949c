-- The regions that are kept: each has an id of its own, and is found by it.
use Rattle.std.proofs.Common.{◌≡◌, ◌∙◌, refl, sym, ap, subst, ℕ, zero, suc, ◌==◌, ◌||◌, Bool, true, false, cond, List, [], ◌∷◌, ◌++◌, map, find, reverse, Contains, Some, arith}
use Rattle.std.specs.Prelude.{filter_map}
use Rattle.std.specs.List.{list_any}
use Rattle.std.proofs.lemmas.Bool.{eq-eqb}
use Rattle.std.proofs.lemmas.List.{reverse-append}
use Rattle.std.proofs.lemmas.List.Folds.{list_any-append}
use Rattle.sub_base.specs.Lists.{different}
use Rattle.decoder_model.specs.Contents.{region_of}
use Rattle.decoder_model.specs.Nodes.{is_same, region_id, region_ids}
use Rattle.decoder_model.specs.Readings.{Content}
use Rattle.decoder_model.specs.Taken.{taken_among}
use Rattle.page_core.specs.Composition.{KeptRegion}
use Rattle.page_core.specs.Private.Everywhere.{AreIdsApart}
use Rattle.page_core.specs.Memory.{Memory, HoldsSegments}
use Rattle.page_core.proofs.Sets.Defining.{any_reversed}
use Rattle.page_core.proofs.Objects.EverywhereKept.{none_has}
use Rattle.page_core.proofs.Counts.PixelRoom.{id_among_different, turned}

-- no id comes again
abbrev pub AreDistinct : List ℕ → Type 0
AreDistinct [] = Unit {0}
AreDistinct (id ∷ ids) = (list_any (is_same id) ids ≡ false) × AreDistinct ids

distinct_different : (ids : List ℕ) → AreDistinct (different is_same ids)
distinct_different [] = tt
distinct_different (id ∷ ids) = by (list_any (is_same id) ids) refl (distinct_different ids)
  where
    by : (again : Bool) → list_any (is_same id) ids ≡ again → AreDistinct (different is_same ids)
        → AreDistinct (cond again (different is_same ids) (id ∷ different is_same ids))
    by true is rest = rest
    by false is rest = (id_among_different id ids ∙ is, rest)

either_false : (a b : Bool) → (a || b) ≡ false → (a ≡ false) × (b ≡ false)
either_false false b is = (refl, is)
either_false true b is = absurd (cc)

distinct_behind : (ids : List ℕ) (id : ℕ) → AreDistinct ids → list_any (is_same id) ids ≡ false
    → AreDistinct (ids ++ id ∷ [])
distinct_behind [] id distinct none = (refl, tt)
distinct_behind (first ∷ ids) id distinct none =
    let parts = either_false (id == first) (list_any (is_same id) ids) none in
    let other : (first == id) ≡ false = turned first id ∙ parts.0 in (
      list_any-append (is_same first) ids (id ∷ [])
          ∙ (λ i. distinct.0 i || (other i || false)),
      distinct_behind ids id distinct.1 parts.1,
    )

distinct_reversed : (ids : List ℕ) → AreDistinct ids → AreDistinct (reverse ids)
distinct_reversed [] distinct = tt
distinct_reversed (id ∷ ids) distinct =
    subst AreDistinct (sym (reverse-append (id ∷ []) ids))
    (distinct_behind (reverse ids) id (distinct_reversed ids distinct.1)
    (any_reversed (is_same id) ids ∙ distinct.0))

abbrev pub id_of_kept : KeptRegion → ℕ
id_of_kept kept = kept.head.region

among_ids : (id : ℕ) (regions : List KeptRegion)
    → list_any (λ (other : KeptRegion). other.head.region == id) regions
    ≡ list_any (is_same id) (map id_of_kept regions)
among_ids id [] = refl
among_ids id (kept ∷ regions) = λ i. turned kept.head.region id i || among_ids id regions i

apart_by_ids : (regions : List KeptRegion) → AreDistinct (map id_of_kept regions) → AreIdsApart regions
apart_by_ids [] distinct = tt
apart_by_ids (kept ∷ regions) distinct =
    (among_ids kept.head.region regions ∙ distinct.0, apart_by_ids regions distinct.1)

-- no two regions that are kept have one id
pub ids_apart : (segments : List Content) (memory : Memory) → HoldsSegments segments memory
    → AreIdsApart memory.composition.regions
unfolding region_ids
ids_apart segments memory holds =
    let ids : List ℕ = map region_id (filter_map region_of (taken_among segments)) in
    apart_by_ids memory.composition.regions
    (subst AreDistinct (sym holds.region_ids) (distinct_reversed (different is_same ids) (distinct_different ids)))

-- a region that is kept is the one of its id
pub found_by_id : (regions : List KeptRegion) → AreIdsApart regions → (kept : KeptRegion)
    → Contains regions kept
    → find (λ (other : KeptRegion). other.head.region == kept.head.region) regions ≡ Some kept
found_by_id [] apart kept there = absurd (omega (arith, there.1))
found_by_id (first ∷ regions) apart kept (zero, short, is) =
    let hit : (first.head.region == kept.head.region) ≡ true =
    eq-eqb first.head.region kept.head.region (ap id_of_kept is) in
    ap (λ b. cond b (Some first) (find (λ (other : KeptRegion). other.head.region == kept.head.region) regions)) hit
    ∙ ap Some is
found_by_id (first ∷ regions) apart kept (suc k, short, is) =
    let there : Contains regions kept = (k, omega (arith, short), is) in
    let miss : (first.head.region == kept.head.region) ≡ false =
    turned first.head.region kept.head.region
    ∙ none_has (λ (other : KeptRegion). other.head.region == first.head.region) regions kept apart.0 there in
    ap (λ b. cond b (Some first) (find (λ (other : KeptRegion). other.head.region == kept.head.region) regions))
    miss ∙ found_by_id regions apart.1 kept there
