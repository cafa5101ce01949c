-- The regions of a set, counted one after another.
use Rattle.std.proofs.Common.{◌≡◌, ◌∙◌, ℕ, suc, ◌+◌, ◌*◌, ◌==◌, ◌≤◌, ◌<◌, ◌^◌, ◌||◌, Bool, true, false, cond, List, [], ◌∷◌, ◌++◌, filter, length, map, reverse, Option, Some, None, refl, sym, ap, subst, arith}
use Rattle.std.specs.Prelude.{filter_map, min}
use Rattle.std.specs.List.{list_any, cons_option}
use Rattle.std.specs.Option.{is_some}
use Rattle.sub_base.specs.Lists.{different}
use Rattle.stream_syntax.specs.Segments.{SegmentValue, of_page, of_region, of_clut, of_object, of_display, end_of_set, passed_over, Region}
use Rattle.decoder_model.specs.Contents.{display_of, page_of, region_in as value_region, region_of, where_passes}
use Rattle.decoder_model.specs.Nodes.{is_same, region_id}
use Rattle.decoder_model.specs.Readings.{Content}
use Rattle.decoder_model.specs.Taken.{taken_among}
use Rattle.page_core.specs.Composition.{Composition, KeptRegion, region_in}
use Rattle.page_core.specs.Private.Counting.{AreKept, HasRegionNeed, added_by, gone_by, region_need}
use Rattle.page_core.specs.Handed.{AreContents}
use Rattle.page_core.specs.Private.RegionTests.{AreApart, before_regions}
use Rattle.page_core.specs.Private.Seen.{defines}
use Rattle.page_core.specs.Private.Walks.{IsNextOf, is_region}
use Rattle.page_core.proofs.Sets.Defining.{any_of_none, any_reversed, no_region_in_display, no_region_in_page}
use Rattle.page_core.proofs.Sets.Orders.{moved}
use Rattle.page_core.proofs.Counts.PixelRoom.{turned}
use Rattle.page_core.proofs.Counts.RegionCounts.{need_by_kept, region_need_behind}
use Rattle.page_core.proofs.Regions.RegionLaws.{as_before}
use Rattle.page_core.proofs.Counts.SetBounds.{AreBelow, AreSmall, IsSmall, few_numbers, small_contents, small_filtered}

-- ---- how many regions a set can have

ids_of : List Content → List ℕ
ids_of contents = map region_id (filter_map region_of contents)

-- an id is among those of regions, where they define it
defined_ids : (id : ℕ) (contents : List Content) → list_any (is_same id) (ids_of contents) ≡ defines id contents
unfolding ids_of
defined_ids id [] = refl
defined_ids id (content ∷ contents) = by (region_of content) (defined_ids id contents)
  where
    hit : (region : Region) (b rest other : Bool) → rest ≡ other
        → (b || rest) ≡ (is_some (cond b (Some region) None) || other)
    hit region true rest other same = refl
    hit region false rest other same = same

    by : (found : Option Region)
        → list_any (is_same id) (map region_id (filter_map region_of contents)) ≡ defines id contents
        → list_any (is_same id) (map region_id (cons_option found (filter_map region_of contents)))
        ≡ (is_some (where_passes (λ region. region.head.region == id) found) || defines id contents)
    by None rest = rest
    by (Some region) rest =
        ap (λ b. b || list_any (is_same id) (map region_id (filter_map region_of contents)))
        (turned id region.head.region)
        ∙ hit region (region.head.region == id)
        (list_any (is_same id) (map region_id (filter_map region_of contents))) (defines id contents) rest

abbrev AreRegions : List Content → Type 0
AreRegions [] = Unit {0}
AreRegions (content ∷ contents) = (is_region content ≡ true) × AreRegions contents

regions_filtered : (set : List Content) → AreRegions (filter is_region set)
regions_filtered [] = tt
regions_filtered (content ∷ set) = by (regions_filtered set) (is_region content) refl
  where
    by : AreRegions (filter is_region set) → (hit : Bool) → is_region content ≡ hit
        → AreRegions (cond hit (content ∷ filter is_region set) (filter is_region set))
    by rest true is = (is, rest)
    by rest false is = rest

small_ids : (contents : List Content) → AreSmall contents → AreBelow 256 (ids_of contents)
unfolding ids_of
small_ids [] small = tt
small_ids (content ∷ contents) small = by content.value small.0 (small_ids contents small.1)
  where
    by : (value : SegmentValue) → IsSmall value → AreBelow 256 (map region_id (filter_map region_of contents))
        → AreBelow 256 (map region_id (cons_option (value_region value) (filter_map region_of contents)))
    by (of_region region) is rest = (is.0, rest)
    by (of_page value) is rest = rest
    by (of_clut value) is rest = rest
    by (of_object value) is rest = rest
    by (of_display value) is rest = rest
    by end_of_set is rest = rest
    by passed_over is rest = rest

small_moved : (xs before : List Content) → AreSmall xs → AreSmall before → AreSmall (reverse xs ++ before)
small_moved [] before small rest = rest
small_moved (x ∷ xs) before small rest =
    subst AreSmall (sym (moved x xs before)) (small_moved xs (x ∷ before) small.1 (small.0, rest))

-- regions of different ids have as many ids
as_many_ids : (before xs : List Content) → AreRegions xs → AreApart before xs
    → length (different is_same (ids_of (reverse xs ++ before)))
    ≡ length xs + length (different is_same (ids_of before))
unfolding ids_of
as_many_ids before [] regions apart = omega arith
as_many_ids before (content ∷ xs) regions apart =
    by (region_of content) refl regions.0 (as_many_ids (content ∷ before) xs regions.1 apart.1)
  where
    by : (found : Option Region) → region_of content ≡ found → is_some found ≡ true
        → length (different is_same (map region_id (filter_map region_of (reverse xs ++ (content ∷ before)))))
        ≡ length xs
        + length (different is_same (map region_id (cons_option (region_of content) (filter_map region_of before))))
        → length (different is_same (map region_id (filter_map region_of (reverse (content ∷ xs) ++ before))))
        ≡ suc (length xs) + length (different is_same (map region_id (filter_map region_of before)))
    by None is some rest = absurd (cc)
    by (Some region) is some rest =
        let fresh : list_any (is_same region.head.region) (map region_id (filter_map region_of before)) ≡ false =
        defined_ids region.head.region before ∙ apart.0 region is in
        let one : length
        (different is_same (map region_id (cons_option (region_of content) (filter_map region_of before))))
        ≡ suc (length (different is_same (map region_id (filter_map region_of before)))) =
        ap (λ (o : Option Region). length
        (different is_same (map region_id (cons_option o (filter_map region_of before))))) is
        ∙ ap (λ b. length
        (cond b (different is_same (map region_id (filter_map region_of before)))
        (region.head.region ∷ different is_same (map region_id (filter_map region_of before))))) fresh in
        ap (λ contents. length (different is_same (map region_id (filter_map region_of contents))))
        (moved content xs before) ∙ rest ∙ omega (arith, one)

pub few_regions : (set : List Content) (bytes : List ℕ) → AreContents set bytes
    → AreApart [] (filter is_region set) → length (filter is_region set) ≤ 256
unfolding ids_of
few_regions set bytes are apart =
    let small = small_filtered is_region set (small_contents set bytes are) in
    let many = as_many_ids [] (filter is_region set) (regions_filtered set) apart in
    let few =
    few_numbers 256 (ids_of (reverse (filter is_region set) ++ []))
    (small_ids (reverse (filter is_region set) ++ []) (small_moved (filter is_region set) [] small tt)) in
    omega (arith, many, few)

-- ---- the walk

-- nothing of regions is before the regions of a set
pub need_before_regions : (older set : List Content)
    → region_need (taken_among (before_regions older set)) ≡ region_need (taken_among older)
need_before_regions older set =
    let displays = filter (λ content. is_some (display_of content)) set in
    let pages = filter (λ content. is_some (page_of content)) set in
    region_need_behind (reverse pages) (reverse displays ++ older)
    (any_reversed is_region pages
    ∙ any_of_none is_region (λ content. is_some (page_of content)) set
    (λ content is. ap is_some (no_region_in_page content.value is)))
    ∙ region_need_behind (reverse displays) older
    (any_reversed is_region displays
    ∙ any_of_none is_region (λ content. is_some (display_of content)) set
    (λ content is. ap is_some (no_region_in_display content.value is)))

-- how far the regions are counted, with these bytes left
pub record IsCountingRegions (older set : List Content) (bytes : List ℕ) (added gone : ℕ) : Type 0 where
  pub mid : List Content
  pub left : List Content
  pub are : AreContents left bytes
  pub apart : AreApart mid (filter is_region left)
  pub small : AreSmall (filter is_region left)
  pub exact : region_need (taken_among (mid ++ before_regions older set)) + gone
      ≡ region_need (taken_among (before_regions older set)) + added
  pub few : added ≤ 65536 * length mid
  pub count : length mid + length (filter is_region left) ≤ 256
  pub all : reverse (filter is_region set) ++ before_regions older set ≡ reverse (filter is_region left)
      ++ (mid ++ before_regions older set)

abbrev pub IsCountingAny : Composition → List ℕ → List ℕ → ℕ → ℕ → Type 0
IsCountingAny composition bytes rest added gone = (older set : List Content) → AreKept older composition
    → AreContents set bytes → AreApart [] (filter is_region set) → region_need (taken_among older) < 2 ^ 32
    → IsCountingRegions older set rest added gone

pub regions_begin : (composition : Composition) (bytes : List ℕ) → IsCountingAny composition bytes bytes 0 0
regions_begin composition bytes older set kept are apart few = record {
  mid = [];
  left = set;
  are = are;
  apart = apart;
  small = small_filtered is_region set (small_contents set bytes are);
  exact = refl;
  few = omega arith;
  count = omega (arith, few_regions set bytes are apart);
  all = refl;
}

few_added : (region : Region) (kept : Option KeptRegion) → length region.listings < 65536
    → added_by region kept ≤ 65536
few_added region None few = omega (arith, few)
few_added region (Some kept) few = by (kept.head.version == region.head.version)
  where
    by : (b : Bool) → cond b 0 (length region.listings) ≤ 65536
    by true = omega arith
    by false = omega (arith, few)

pub regions_go_on : (composition : Composition) (bytes here rest : List ℕ) (region : Region)
    (added gone new_added new_gone : ℕ)
    → ((other : List Content) → AreContents other here → IsNextOf is_region other (of_region region) rest)
    → new_added
    ≡ min (added + min (added_by region (region_in composition region.head.region)) 18446744073709551615)
    18446744073709551615
    → new_gone ≡ min (gone + gone_by region (region_in composition region.head.region)) 18446744073709551615
    → IsCountingAny composition bytes here added gone → IsCountingAny composition bytes rest new_added new_gone
regions_go_on composition bytes here rest region added gone new_added new_gone next added_is gone_is on older set kept
    are apart few =
    let w = on older set kept are apart few in
    let n = next w.left w.are in
    let base = before_regions older set in
    let still = subst (AreApart w.mid) n.split w.apart in
    let small = subst AreSmall n.split w.small in
    let before = as_before region.head.region set older w.mid (still.0 region (ap value_region (sym n.same))) in
    let step =
    need_by_kept older (w.mid ++ base) n.content region (region_in composition region.head.region) n.same before
    (kept region.head.region) in
    let own : length region.listings < 65536 = (subst IsSmall (sym n.same) small.0).1 in
    let adds = few_added region (region_in composition region.head.region) own in
    let counted : length w.mid + suc (length (filter is_region n.more)) ≤ 256 =
    subst (λ xs. length w.mid + length xs ≤ 256) n.split w.count in
    let same = need_before_regions older set in
    let now : new_added ≡ added + added_by region (region_in composition region.head.region) =
    by_few (length w.mid) added (added_by region (region_in composition region.head.region)) new_added w.few adds
    (omega (arith, counted)) added_is in
    let away : new_gone ≡ gone + gone_by region (region_in composition region.head.region) =
    by_all (region_need (taken_among (w.mid ++ base))) (region_need (taken_among (n.content ∷ (w.mid ++ base))))
    (region_need (taken_among base)) gone (gone_by region (region_in composition region.head.region)) added
    (added_by region (region_in composition region.head.region)) (length w.mid) new_gone w.exact step
    (omega (arith, same, few)) w.few adds (omega (arith, counted)) gone_is in
    record {
      mid = n.content ∷ w.mid;
      left = n.more;
      are = n.are;
      apart = still.1;
      small = small.1;
      exact = omega (arith, step, w.exact, now, away);
      few = omega (arith, w.few, adds, now);
      count = omega (arith, counted);
      all =
          w.all ∙ ap (λ xs. reverse xs ++ (w.mid ++ base)) n.split
          ∙ moved n.content (filter is_region n.more) (w.mid ++ base);
    }
  where
    by_few : (count added more new : ℕ) → added ≤ 65536 * count → more ≤ 65536 → count < 256
        → new ≡ min (added + min more 18446744073709551615) 18446744073709551615 → new ≡ added + more
    by_few count added more new few one low is = omega (arith, few, one, low, is)

    by_all : (need new_need base gone away added more count new : ℕ) → need + gone ≡ base + added
        → new_need + away ≡ need + more → base < 2 ^ 32 → added ≤ 65536 * count → more ≤ 65536
        → count < 256 → new ≡ min (gone + away) 18446744073709551615 → new ≡ gone + away
    by_all need new_need base gone away added more count new exact step low few one fewer is =
        omega (arith, exact, step, low, few, one, fewer, is)

pub regions_end : (composition : Composition) (bytes here : List ℕ) (added gone : ℕ) (older set : List Content)
    → ((other : List Content) → AreContents other here → filter is_region other ≡ [])
    → IsCountingAny composition bytes here added gone
    → AreKept older composition → AreContents set bytes → AreApart [] (filter is_region set)
    → region_need (taken_among older) < 2 ^ 32 → HasRegionNeed older set added gone
regions_end composition bytes here added gone older set none on kept are apart few =
    let w = on older set kept are apart few in
    let all = w.all ∙ ap (λ xs. reverse xs ++ (w.mid ++ before_regions older set)) (none w.left w.are) in
    record {
      exact =
          ap (λ (segments : List Content). region_need (taken_among segments) + gone) all ∙ w.exact
          ∙ ap (λ n. n + added) (need_before_regions older set);
      few = omega (arith, w.few, w.count);
    }
