-- The nodes that a set needs in a core.
use Rattle.std.proofs.Common.{◌≡◌, ℕ, ◌+◌, ◌-◌, ◌*◌, ◌≤◌, ◌<◌, ◌^◌, List, [], ◌∷◌, ◌++◌, filter, length, reverse, Some, sym, subst, arith}
use Rattle.std.specs.Prelude.{min}
use Rattle.stream_syntax.specs.Segments.{Page}
use Rattle.decoder_model.specs.Contents.{page_in_set}
use Rattle.decoder_model.specs.Nodes.{nodes_of}
use Rattle.decoder_model.specs.Readings.{Content}
use Rattle.decoder_model.specs.Taken.{segments_of, taken_among, taken_of}
use Rattle.page_core.specs.Private.Accepted.{IsBefore}
use Rattle.page_core.specs.Private.ClutSteps.{placed_by}
use Rattle.page_core.specs.Private.Counting.{AreCounted, AreKept, HasRegionNeed, HasVersions, clut_need, kept_need, region_need}
use Rattle.page_core.specs.Handed.{AreContents}
use Rattle.page_core.specs.Private.Inks.{ink_count}
use Rattle.page_core.specs.Private.Marks.{AreMarked}
use Rattle.page_core.specs.Memory.{IsWholeMemory, Memory}
use Rattle.page_core.specs.Private.RegionTests.{AreApart, before_regions}
use Rattle.page_core.specs.Private.Sound.{IsSound}
use Rattle.page_core.specs.Private.Walks.{is_clut, is_region}
use Rattle.page_core.specs.declared.marks.Mark.{Mark}
use Rattle.page_core.proofs.ColourTables.ClutSegments.{colours_of_holds}
use Rattle.page_core.proofs.Counts.KeptCounts.{are_kept, cluts_counted, regions_counted}
use Rattle.page_core.proofs.Counts.SetCounts.{before_cluts, before_cluts_is, counted_behind, few_in_page, need_before_cluts, need_within, no_clut_before, nodes_with, versions_behind}
use Rattle.page_core.proofs.Sets.Orders.{moved}
use Rattle.page_core.proofs.Counts.SetBounds.{AreSmall, small_contents, small_filtered}

-- the nodes with a set, by those that are kept, and what the set adds and takes away
pub record IsNeeded (need page kept added gone cluts : ℕ) : Type 0 where
  pub exact : need + gone ≡ page + kept + added + cluts
  pub away : gone ≤ kept + added
  pub few_kept : kept < 2 ^ 31
  pub few_added : added ≤ 65536 * 256
  pub few_page : page < 65536
  pub few_cluts : cluts ≤ 256 + ink_count

small_reversed : (xs ys : List Content) → AreSmall xs → AreSmall ys → AreSmall (reverse xs ++ ys)
small_reversed [] ys one other = other
small_reversed (x ∷ xs) ys one other =
    subst AreSmall (sym (moved x xs ys)) (small_reversed xs (x ∷ ys) one.1 (one.0, other))

no_end : (xs : List Content) → AreSmall (xs ++ []) → AreSmall xs
no_end [] small = tt
no_end (x ∷ xs) small = (small.0, no_end xs small.1)

pub core_needs : (before : List (List Content)) (set : List Content) (bytes : List ℕ) (inside old : Memory)
    (marks : List Mark) (page : Page) (added gone cluts : ℕ) → inside ≡ old → IsWholeMemory inside
    → inside.profile.nodes < 2 ^ 31
    → AreMarked inside.composition.set_entries [] marks
    → ((older all : List Content) → AreKept older inside.composition → AreContents all bytes
    → AreApart [] (filter is_region all) → region_need (taken_among older) < 2 ^ 32
    → HasRegionNeed older all added gone)
    → ((base all : List Content) → HasVersions base inside.composition []
    → AreCounted (placed_by (taken_among base)) inside.composition.set_entries marks → AreContents all bytes
    → clut_need (taken_among (reverse (filter is_clut all) ++ base)) < 2 ^ 63
    → clut_need (taken_among (reverse (filter is_clut all) ++ base)) ≡ clut_need (taken_among base) + cluts)
    → IsBefore before old → IsSound set bytes → page_in_set set ≡ Some page
    → IsNeeded (nodes_of (taken_of (segments_of (set ∷ before))) page) (length page.entries)
    (kept_need inside.composition) added gone cluts
core_needs before set bytes inside old marks page added gone cluts view whole few marked regions counts is_before sound
    page_is =
    let older = segments_of before in
    let holds = subst (λ (memory : Memory). IsBefore before memory) (sym view) is_before in
    let has = colours_of_holds older inside holds.holds in
    let small = small_contents set bytes sound.contents in
    let base = reverse (filter is_region set) ++ before_regions older set in
    let base_is : base ≡ before_cluts set ++ older = before_cluts_is older set in
    let kept_regions = regions_counted older inside holds.holds in
    let kept_cluts = cluts_counted older inside holds.holds in
    let few_kept : kept_need inside.composition < 2 ^ 31 = omega (arith, whole.nodes, whole.counted, few) in
    let need =
    regions older set (are_kept older inside holds.holds) sound.contents sound.apart
    (omega (arith, kept_regions, few_kept)) in
    let same_cluts : clut_need (taken_among base) ≡ clut_need (taken_among older) = need_before_cluts older set in
    let cluts_small : AreSmall (reverse (filter is_clut set)) =
    no_end (reverse (filter is_clut set))
    (small_reversed (filter is_clut set) [] (small_filtered is_clut set small) tt) in
    let within = need_within (reverse (filter is_clut set)) base cluts_small in
    let versions : HasVersions base inside.composition [] =
    subst (λ (segments : List Content). HasVersions segments inside.composition []) (sym base_is)
    (versions_behind (before_cluts set) older inside.composition (no_clut_before set) has.versions) in
    let counted : AreCounted (placed_by (taken_among base)) inside.composition.set_entries marks =
    subst (λ (segments : List Content). AreCounted (placed_by (taken_among segments)) inside.composition.set_entries
    marks) (sym base_is)
    (counted_behind (before_cluts set) older inside.composition inside.inks marks (no_clut_before set) has marked)
    in
    let more =
    counts base set versions counted sound.contents (omega (arith, within, same_cluts, kept_cluts, few_kept)) in
    let all = nodes_with set before page in
    record {
      exact = omega (arith, all, need.exact, more, kept_regions, kept_cluts, same_cluts);
      away = omega (arith, need.exact, kept_regions);
      few_kept = few_kept;
      few_added = need.few;
      few_page = few_in_page set page small page_is;
      few_cluts = omega (arith, within, more);
    }

-- the sum of a core is exact, and fits
pub sum_is : (need page kept added gone cluts result : ℕ) → IsNeeded need page kept added gone cluts
    → result ≡ min (min (min (kept + page) 18446744073709551615 + added) 18446744073709551615 - gone + cluts)
    18446744073709551615 → (result ≡ need) × (need < 2 ^ 32)
sum_is need page kept added gone cluts result is sum = (
  exact need page kept added gone cluts result is.exact is.away is.few_kept is.few_added is.few_page is.few_cluts
      sum,
  omega (arith, is.exact, is.few_kept, is.few_added, is.few_page, is.few_cluts),
)
  where
    exact : (need page kept added gone cluts result : ℕ) → need + gone ≡ page + kept + added + cluts
        → gone ≤ kept + added → kept < 2 ^ 31 → added ≤ 65536 * 256 → page < 65536
        → cluts ≤ 256 + ink_count
        → result ≡ min (min (min (kept + page) 18446744073709551615 + added) 18446744073709551615 - gone + cluts)
        18446744073709551615 → result ≡ need
    exact need page kept added gone cluts result e away k a p c sum = omega (arith, e, away, k, a, p, c, sum)
