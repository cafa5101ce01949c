use Rattle.std.proofs.Common.{◌∙◌, ℕ, List, sym, ap, subst, arith}
use Rattle.std.specs.List.Sorted.{IsPermutation, IsNonDecreasing}
use Rattle.std.proofs.lemmas.List.{take_all}
use Rattle.std.proofs.lemmas.List.Sorted.{IsNonDecreasingBy-from_sort}
use Rattle.page_epoch.specs.Private.Showing.{starts_of, ends_of}
use Rattle.page_epoch.proofs.cue_ticks.CueTicks.of.Goals as goal

pub returns : goal.returns
returns c =
    let Rises : List ℕ → Type 0 = λ xs. IsNonDecreasing xs in
    let all = take_all c.loop-epoch.epoch-index c.args.epochs.now (omega arith) in
    record {
      starts = subst (λ (xs : List ℕ). IsPermutation xs c.new.result) (c.loop-epoch.invariant.0 ∙ ap starts_of all)
          (subst (λ (xs : List ℕ). IsPermutation c.loop-epoch.starts.items xs) (sym c.new.ensures)
          c.sort.ensures.permutation);
      starts_rise =
          subst Rises (sym c.new.ensures) (IsNonDecreasingBy-from_sort (λ (x : ℕ). x) _ c.in_ok-sort.ensures.sorted);
      ends = subst (λ (xs : List ℕ). IsPermutation xs c.new-2.result) (c.loop-epoch.invariant.1 ∙ ap ends_of all)
          (subst (λ (xs : List ℕ). IsPermutation c.loop-epoch.ends.items xs) (sym c.new-2.ensures)
          c.sort-2.ensures.permutation);
      ends_rise =
          subst Rises (sym c.new-2.ensures)
          (IsNonDecreasingBy-from_sort (λ (x : ℕ). x) _ c.in_ok-sort-2.ensures.sorted);
    }
