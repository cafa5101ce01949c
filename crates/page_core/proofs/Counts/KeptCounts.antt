-- The counts of what a memory keeps are those of the epoch.
use Rattle.std.proofs.Common.{◌≡◌, ◌∙◌, ℕ, suc, ◌+◌, ◌-◌, ◌==◌, ◌≤◌, Bool, true, false, cond, List, [], ◌∷◌, find, length, map, reverse, Option, Some, None, option_map, refl, sym, ap, subst, arith}
use Rattle.std.specs.Prelude.{filter_map, sum_by}
use Rattle.std.specs.List.{list_any}
use Rattle.std.proofs.lemmas.Bool.{eq-eqb, ne_eqb}
use Rattle.std.proofs.lemmas.List.{length-map, length-reverse, reverse-append}
use Rattle.std.proofs.lemmas.List.Sums.{sum_by-append, sum_by-cons}
use Rattle.sub_base.specs.Lists.{different}
use Rattle.stream_syntax.specs.Segments.{Region}
use Rattle.stream_syntax.specs.declared.region.Listing.{Listing}
use Rattle.decoder_model.specs.Contents.{region_of}
use Rattle.decoder_model.specs.Nodes.{clut_ids, is_same, listing_count, listings_held, region_id, region_ids}
use Rattle.decoder_model.specs.Readings.{Content}
use Rattle.decoder_model.specs.Taken.{last_region, taken_among, taken_of, taken_region}
use Rattle.page_core.specs.Composition.{KeptClut, KeptListing, KeptRegion, region_in}
use Rattle.page_core.specs.Private.Counting.{AreKept, clut_need, kept_need, of_taken, region_need}
use Rattle.page_core.specs.Memory.{HoldsSegments, IsWholeMemory, Memory, kept_listing}
use Rattle.page_core.proofs.Sets.Defining.{any_reversed}
use Rattle.page_core.proofs.Counts.DifferentItems.{among_different, as_many_different, different_within}
use Rattle.page_core.proofs.Counts.PixelRoom.{sum_apart}
use Rattle.page_core.proofs.Counts.SetBounds.{equal_numbers, same_number}

-- ---- regions

as_long : (kept : Option KeptRegion) (last : Option Region) (listing : Listing → KeptListing)
    → option_map (λ (one : KeptRegion). one.listings) kept
    ≡ option_map (λ (one : Region). map listing one.listings) last
    → option_map (λ (one : KeptRegion). length one.listings) kept
    ≡ option_map (λ (one : Region). length one.listings) last
as_long None None listing same = refl
as_long (Some kept) (Some last) listing same =
    let is : kept.listings
    ≡ map listing last.listings = cc in ap Some (ap length is ∙ length-map last.listings listing)
as_long None (Some last) listing same = absurd (cc)
as_long (Some kept) None listing same = absurd (cc)

pub are_kept : (segments : List Content) (memory : Memory) → HoldsSegments segments memory
    → AreKept segments memory.composition
are_kept segments memory holds id = record {
  head = holds.heads id;
  listings =
      as_long (region_in memory.composition id) (taken_region id (taken_of segments))
      (kept_listing (taken_of segments) id) (holds.listings id);
}

count_of : Option KeptRegion → ℕ
count_of None = 0
count_of (Some kept) = length kept.listings

same_count : (kept : Option KeptRegion) (last : Option Region)
    → option_map (λ (one : KeptRegion). length one.listings) kept
    ≡ option_map (λ (one : Region). length one.listings) last → listing_count last ≡ count_of kept
unfolding count_of
same_count None None same = refl
same_count (Some kept) (Some last) same = cc
same_count None (Some last) same = absurd (cc)
same_count (Some kept) None same = absurd (cc)

-- ---- numbers that are there once

abbrev AreApart : List ℕ → Type 0
AreApart [] = Unit {0}
AreApart (x ∷ xs) = (list_any (is_same x) xs ≡ false) × AreApart xs

apart_by_count : (xs : List ℕ) → length (different is_same xs) ≡ length xs → AreApart xs
apart_by_count [] is = tt
apart_by_count (x ∷ xs) is =
    by (list_any (is_same x) xs) refl is (different_within is_same same_number equal_numbers xs) (apart_by_count xs)
  where
    by : (again : Bool) → list_any (is_same x) xs ≡ again
        → length (cond again (different is_same xs) (x ∷ different is_same xs)) ≡ suc (length xs)
        → length (different is_same xs) ≤ length xs
        → (length (different is_same xs) ≡ length xs → AreApart xs)
        → (list_any (is_same x) xs ≡ false) × AreApart xs
    by true at is few rest = absurd (omega (arith, is, few))
    by false at is few rest = (at, rest (omega (arith, is)))

different_apart : (xs : List ℕ) → AreApart (reverse (different is_same xs))
different_apart xs =
    let ys = different is_same xs in
    let once : length (different is_same ys) ≡ length ys =
    as_many_different is_same same_number equal_numbers ys xs
    (λ asked. among_different is_same same_number equal_numbers asked xs) in
    let turned : length (different is_same (reverse ys)) ≡ length (different is_same ys) =
    as_many_different is_same same_number equal_numbers (reverse ys) ys (λ asked. any_reversed (is_same asked) ys)
    in
    apart_by_count (reverse ys) (turned ∙ once ∙ sym (length-reverse ys))

sum_reversed : (f : ℕ → ℕ) (xs : List ℕ) → sum_by f (reverse xs) ≡ sum_by f xs
sum_reversed f [] = refl
sum_reversed f (x ∷ xs) =
    let one : sum_by f (x ∷ []) ≡ f x + 0 = sum_by-cons f x [] in
    ap (sum_by f) (reverse-append (x ∷ []) xs)
    ∙ omega (arith, sum_by-append f (reverse xs) (x ∷ []), one, sum_reversed f xs, sum_by-cons f x xs)

abbrev id_of : KeptRegion → ℕ
id_of kept = kept.head.region

-- each region is found by its id
sum_found : (regions : List KeptRegion) → AreApart (map id_of regions)
    → sum_by (λ id. count_of (find (λ (kept : KeptRegion). kept.head.region == id) regions)) (map id_of regions)
    ≡ sum_by (λ (kept : KeptRegion). length kept.listings) regions
unfolding count_of
sum_found [] apart = refl
sum_found (kept ∷ regions) apart =
    let all : ℕ → ℕ = λ id. count_of (find (λ (one : KeptRegion). one.head.region == id) (kept ∷ regions)) in
    let rest : ℕ → ℕ = λ id. count_of (find (λ (one : KeptRegion). one.head.region == id) regions) in
    let here : all kept.head.region ≡ length kept.listings =
    ap (λ b. count_of
    (cond b (Some kept) (find (λ (one : KeptRegion). one.head.region == kept.head.region) regions)))
    (eq-eqb kept.head.region kept.head.region refl) in
    let others =
    sum_apart all rest kept.head.region (map id_of regions)
    (λ i other. ap
    (λ b. count_of (cond b (Some kept) (find (λ (one : KeptRegion). one.head.region == i) regions)))
    (ne_eqb kept.head.region i (λ e. other (sym e)))) apart.0 in
    omega (
      arith,
      sum_by-cons all kept.head.region (map id_of regions),
      sum_by-cons
          (λ (one : KeptRegion). length one.listings) kept regions,
      here,
      others,
      sum_found regions apart.1,
    )

-- ---- all of it

pub regions_counted : (segments : List Content) (memory : Memory) → HoldsSegments segments memory
    → region_need (taken_among segments)
    ≡ length memory.composition.regions
    + sum_by (λ (kept : KeptRegion). length kept.listings) memory.composition.regions
unfolding region_ids
regions_counted segments memory holds =
    let taken = taken_among segments in
    let ids = different is_same (map region_id (filter_map region_of taken)) in
    let named : map id_of memory.composition.regions ≡ reverse ids = holds.region_ids in
    let count : length memory.composition.regions ≡ length ids =
    sym (length-map memory.composition.regions id_of) ∙ ap length named ∙ length-reverse ids in
    let apart : AreApart (map id_of memory.composition.regions) =
    subst AreApart (sym named) (different_apart (map region_id (filter_map region_of taken))) in
    let found : ℕ → ℕ = λ id. count_of (region_in memory.composition id) in
    let each : (id : ℕ)
    → listing_count (last_region id taken)
    ≡ found id = λ id. same_count (region_in memory.composition id) (last_region id taken)
    (are_kept segments memory holds id).listings in
    let held : listings_held (of_taken taken) ≡ sum_by found ids = λ i. sum_by (λ id. each id i) ids in
    let sum : sum_by found ids ≡ sum_by (λ (kept : KeptRegion). length kept.listings) memory.composition.regions =
    sym (sum_reversed found ids) ∙ ap (sum_by found) (sym named) ∙ sum_found memory.composition.regions apart in
    omega (arith, count, held, sum)

pub cluts_counted : (segments : List Content) (memory : Memory) → HoldsSegments segments memory
    → clut_need (taken_among segments) ≡ length memory.composition.cluts + length memory.composition.set_entries
cluts_counted segments memory holds =
    let ids = clut_ids (taken_of segments) in
    let count : length memory.composition.cluts ≡ length ids =
    sym (length-map memory.composition.cluts (λ (kept : KeptClut). kept.clut)) ∙ ap length holds.clut_ids
    ∙ length-reverse ids in
    omega (arith, count, holds.set_count)

-- as many nodes are taken, but for those of the entries of the page, as are neither free nor theirs
pub kept_counted : (inside value : Memory) (free entries : ℕ) → inside ≡ value → IsWholeMemory inside
    → free ≡ inside.composition.free → entries ≡ length inside.composition.entries
    → inside.profile.nodes - free - entries ≡ kept_need value.composition
kept_counted inside value free entries view whole free_is entries_is =
    omega (arith, whole.nodes, whole.counted, free_is, entries_is)
    ∙ ap (λ (memory : Memory). kept_need memory.composition) view
