use Rattle.std.proofs.Common.{◌≡◌, ◌∙◌, ℕ, List, [], map, length, ap, sym, subst, rules, arith}
use Rattle.std.specs.List.Sorted.{IsPermutation, IsNonDecreasingBy}
use Rattle.std.proofs.lemmas.List.Sorted.{IsNonDecreasingBy-from_sort_by_key}
use Rattle.page_epoch.specs.declared.layout.PageRegion.{PageRegion}
use Rattle.page_epoch.specs.Live.{places_below}
use Rattle.page_epoch.specs.Private.Layouts.{page_region_at}
use Rattle.page_epoch.proofs.ListLaws.{mapped_more}
use Rattle.page_epoch.proofs.layout.from_top.Goals as goal

pub loop-place-preserved : goal.loop-place-preserved
loop-place-preserved c =
    mapped_more (page_region_at c.args.regions.now) c.loop-place.place [] c.loop-place.page_regions.items
    c.push.new.self.items c.loop-place.invariant c.in_ok-push.ensures.items

pub returns : goal.returns
returns c =
    let Rises : List PageRegion → Type 0 =
    λ xs. IsNonDecreasingBy (λ (page_region : PageRegion). page_region.y) xs in
    let all : c.loop-place.place ≡ length c.args.regions.now = omega arith in
    record {
      same =
          subst (λ (xs : List PageRegion). IsPermutation xs c.new.result)
          (c.loop-place.invariant ∙ ap (λ (n : ℕ). map (page_region_at c.args.regions.now) (places_below n)) all)
          (subst (λ (xs : List PageRegion). IsPermutation c.loop-place.page_regions.items xs) (sym c.new.ensures)
          c.in_ok-sort_by_key.ensures.permutation);
      rise =
          subst Rises (sym c.new.ensures)
          (IsNonDecreasingBy-from_sort_by_key (λ (page_region : PageRegion). page_region.y) _
          c.in_ok-sort_by_key.ensures.sorted (λ a r q k. search rules));
    }
