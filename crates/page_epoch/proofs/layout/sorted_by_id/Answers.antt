use Rattle.std.proofs.Common.{List, rules, subst}
use Rattle.std.specs.List.Sorted.{IsPermutation}
use Rattle.std.proofs.lemmas.List.Sorted.{IsNonDecreasingBy-from_sort_by_key}
use Rattle.cue_records.specs.declared.region.Region.{Region}
use Rattle.page_epoch.proofs.layout.sorted_by_id.Goals as goal

pub returns : goal.returns
returns c =
    let From : List Region → Type 0 = λ regions. IsPermutation regions c.sort_by_key.new.self.items in
    record {
      same = subst From c.in_ok-ordered.ensures.items c.in_ok-sort_by_key.ensures.permutation;
      rise =
          IsNonDecreasingBy-from_sort_by_key (λ (region : Region). region.id) _ c.in_ok-sort_by_key.ensures.sorted
          (λ a r q k. search rules);
    }
