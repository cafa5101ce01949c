-- What segments of other kinds leave of the regions and CLUTs of an epoch, and that further segments take none away.
use Rattle.std.proofs.Common.{◌≡◌, ◌∙◌, refl, ap, ℕ, ◌≤◌, ◌==◌, ◌||◌, Bool, true, false, cond, List, [], ◌∷◌, ◌++◌, length, map, Option, Some, None, arith}
use Rattle.std.specs.Prelude.{filter_map, flat_map, sum_by}
use Rattle.std.specs.List.{list_any, cons_option}
use Rattle.std.specs.Option.{option_or, is_some}
use Rattle.sub_base.specs.Lists.{different}
use Rattle.stream_syntax.specs.Segments.{Region, Clut}
use Rattle.decoder_model.specs.Contents.{region_of, clut_of, where_passes}
use Rattle.decoder_model.specs.Nodes.{is_same, region_id, region_ids, clut_id, clut_ids, is_same_entry, entries_of_clut, table_entries, bytes_of_region, pixels_used, listing_count, listings_held}
use Rattle.decoder_model.specs.Readings.{Content}
use Rattle.decoder_model.specs.Taken.{Taken, is_taken, last_region, taken_among, taken_of, taken_region}
use Rattle.page_core.specs.Private.Walks.{is_region, is_clut}
use Rattle.page_core.proofs.Counts.PixelRoom.{with_segment, of_segments}

either_false : (a b : Bool) → (a || b) ≡ false → (a ≡ false) × (b ≡ false)
either_false false b is = (refl, is)
either_false true b is = absurd (cc)

no_some : {X : Type 0} (o : Option X) → is_some o ≡ false → o ≡ None
no_some None is = refl
no_some (Some x) is = absurd (cc)

-- one more segment is taken or not
taken_is : (content : Content) (earlier : List Content)
    → taken_among (content ∷ earlier)
    ≡ cond (is_taken earlier content.value) (content ∷ taken_among earlier) (taken_among earlier)
unfolding taken_among
taken_is content earlier = refl

-- ---- regions

-- two lists of segments have the same regions
pub record HaveSameRegions (one other : Taken) : Type 0 where
  pub ids : region_ids one ≡ region_ids other
  pub each : (id : ℕ) → taken_region id one ≡ taken_region id other

same_with_other : (content : Content) (segments : List Content) → region_of content ≡ None
    → HaveSameRegions (with_segment content segments) (of_segments segments)
unfolding region_ids
same_with_other content segments none = record {
  ids =
      ap (λ (found : Option Region). different is_same
      (map region_id (cons_option found (filter_map region_of segments)))) none;
  each =
      λ id. ap (λ (found : Option Region). option_or (where_passes (λ one. one.head.region == id) found)
      (last_region id segments)) none;
}

-- segments that are no regions leave all regions as they were
pub regions_behind : (mid base : List Content) → list_any is_region mid ≡ false
    → HaveSameRegions (taken_of (mid ++ base)) (taken_of base)
regions_behind [] base none = record { ids = refl; each = λ id. refl }
regions_behind (content ∷ mid) base none =
    let parts = either_false (is_region content) (list_any is_region mid) none in
    by (is_taken (mid ++ base) content.value) (taken_is content (mid ++ base)) (no_some (region_of content) parts.0)
    (regions_behind mid base parts.1)
  where
    by : (taken : Bool)
        → taken_among (content ∷ (mid ++ base))
        ≡ cond taken (content ∷ taken_among (mid ++ base)) (taken_among (mid ++ base))
        → region_of content ≡ None
        → HaveSameRegions (taken_of (mid ++ base)) (taken_of base)
        → HaveSameRegions (taken_of (content ∷ (mid ++ base))) (taken_of base)
    by true is other rest =
        let here = same_with_other content (taken_among (mid ++ base)) other in
        record {
          ids = ap (λ segments. region_ids (of_segments segments)) is ∙ here.ids ∙ rest.ids;
          each = λ id. ap (λ segments. taken_region id (of_segments segments)) is ∙ here.each id ∙ rest.each id;
        }
    by false is other rest = record {
      ids = ap (λ segments. region_ids (of_segments segments)) is ∙ rest.ids;
      each = λ id. ap (λ segments. taken_region id (of_segments segments)) is ∙ rest.each id;
    }

-- what is summed over the same regions is the same
pub same_sum : (count : Option Region → ℕ) (one other : Taken) → HaveSameRegions one other
    → sum_by (λ id. count (taken_region id one)) (region_ids one)
    ≡ sum_by (λ id. count (taken_region id other)) (region_ids other)
same_sum count one other same = λ i. sum_by (λ id. count (same.each id i)) (same.ids i)

pub same_listings : (one other : Taken) → HaveSameRegions one other → listings_held one ≡ listings_held other
same_listings one other same = same_sum listing_count one other same

pub same_pixels : (one other : Taken) → HaveSameRegions one other → pixels_used one ≡ pixels_used other
same_pixels one other same = same_sum bytes_of_region one other same

pub regions-trans : {a b c : Taken} → HaveSameRegions a b → HaveSameRegions b c → HaveSameRegions a c
regions-trans first second = record { ids = first.ids ∙ second.ids; each = λ id. first.each id ∙ second.each id }

-- ---- CLUTs

-- two lists of segments have the same CLUTs, with the same entries
pub record HaveSameCluts (one other : Taken) : Type 0 where
  pub ids : clut_ids one ≡ clut_ids other
  pub entries : table_entries one ≡ table_entries other

cluts_with_other : (content : Content) (segments : List Content) → clut_of content ≡ None
    → HaveSameCluts (with_segment content segments) (of_segments segments)
unfolding clut_ids table_entries
cluts_with_other content segments none = record {
  ids =
      ap (λ (found : Option Clut). different is_same (map clut_id (cons_option found (filter_map clut_of segments))))
      none;
  entries =
      ap (λ (found : Option Clut). different is_same_entry
      (flat_map entries_of_clut (cons_option found (filter_map clut_of segments)))) none;
}

-- segments that are no CLUTs leave all CLUTs as they were
pub cluts_behind : (mid base : List Content) → list_any is_clut mid ≡ false
    → HaveSameCluts (taken_of (mid ++ base)) (taken_of base)
cluts_behind [] base none = record { ids = refl; entries = refl }
cluts_behind (content ∷ mid) base none =
    let parts = either_false (is_clut content) (list_any is_clut mid) none in
    by (is_taken (mid ++ base) content.value) (taken_is content (mid ++ base)) (no_some (clut_of content) parts.0)
    (cluts_behind mid base parts.1)
  where
    by : (taken : Bool)
        → taken_among (content ∷ (mid ++ base))
        ≡ cond taken (content ∷ taken_among (mid ++ base)) (taken_among (mid ++ base)) → clut_of content ≡ None
        → HaveSameCluts (taken_of (mid ++ base)) (taken_of base)
        → HaveSameCluts (taken_of (content ∷ (mid ++ base))) (taken_of base)
    by true is other rest =
        let here = cluts_with_other content (taken_among (mid ++ base)) other in
        record {
          ids = ap (λ segments. clut_ids (of_segments segments)) is ∙ here.ids ∙ rest.ids;
          entries = ap (λ segments. table_entries (of_segments segments)) is ∙ here.entries ∙ rest.entries;
        }
    by false is other rest = record {
      ids = ap (λ segments. clut_ids (of_segments segments)) is ∙ rest.ids;
      entries = ap (λ segments. table_entries (of_segments segments)) is ∙ rest.entries;
    }

-- ---- more segments

-- more items are no fewer different ones
more_different : {X : Type 0} (same : X → X → Bool) (more xs : List X)
    → length (different same xs) ≤ length (different same (more ++ xs))
more_different same [] xs = omega arith
more_different {X} same (x ∷ more) xs = by (list_any (same x) (more ++ xs)) (more_different same more xs)
  where
    by : (again : Bool) → length (different same xs) ≤ length (different same (more ++ xs))
        → length (different same xs)
        ≤ length (cond again (different same (more ++ xs)) (x ∷ different same (more ++ xs)))
    by true rest = rest
    by false rest = omega (arith, rest)

-- there are at least as many CLUTs and entries
pub record HasMoreCluts (few more : Taken) : Type 0 where
  pub ids : length (clut_ids few) ≤ length (clut_ids more)
  pub entries : length (table_entries few) ≤ length (table_entries more)

more_with : (content : Content) (segments : List Content)
    → HasMoreCluts (of_segments segments) (with_segment content segments)
unfolding clut_ids table_entries
more_with content segments = record { ids = (by (clut_of content)).0; entries = (by (clut_of content)).1 }
  where
    by : (found : Option Clut)
        → (length (different is_same (map clut_id (filter_map clut_of segments)))
        ≤ length (different is_same (map clut_id (cons_option found (filter_map clut_of segments)))))
        × (length (different is_same_entry (flat_map entries_of_clut (filter_map clut_of segments)))
        ≤ length (different is_same_entry
        (flat_map entries_of_clut (cons_option found (filter_map clut_of segments)))))
    by None = (omega arith, omega arith)
    by (Some clut) = (
      more_different is_same (clut_id clut ∷ []) (map clut_id (filter_map clut_of segments)),
      more_different is_same_entry (entries_of_clut clut) (flat_map entries_of_clut (filter_map clut_of segments)),
    )

-- further segments take no CLUT and no entry away
pub more_cluts : (mid base : List Content) → HasMoreCluts (taken_of base) (taken_of (mid ++ base))
more_cluts [] base = record { ids = omega arith; entries = omega arith }
more_cluts (content ∷ mid) base =
    by (is_taken (mid ++ base) content.value) (taken_is content (mid ++ base)) (more_cluts mid base)
  where
    by : (taken : Bool)
        → taken_among (content ∷ (mid ++ base))
        ≡ cond taken (content ∷ taken_among (mid ++ base)) (taken_among (mid ++ base))
        → HasMoreCluts (taken_of base) (taken_of (mid ++ base))
        → HasMoreCluts (taken_of base) (taken_of (content ∷ (mid ++ base)))
    by true is rest =
        let here = more_with content (taken_among (mid ++ base)) in
        let ids = ap (λ segments. length (clut_ids (of_segments segments))) is in
        let entries = ap (λ segments. length (table_entries (of_segments segments))) is in
        record {
          ids = omega (arith, here.ids, rest.ids, ids);
          entries = omega
              (arith, here.entries, rest.entries, entries);
        }
    by false is rest =
        let ids = ap (λ segments. length (clut_ids (of_segments segments))) is in
        let entries = ap (λ segments. length (table_entries (of_segments segments))) is in
        record { ids = omega (arith, rest.ids, ids); entries = omega (arith, rest.entries, entries) }
