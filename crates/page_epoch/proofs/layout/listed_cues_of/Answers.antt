use Rattle.std.proofs.Common.{ℕ, List, sym, subst}
use Rattle.std.specs.List.Sorted.{IsNonDecreasing}
use Rattle.std.proofs.lemmas.List.Sorted.{IsNonDecreasingBy-from_sort}
use Rattle.page_epoch.proofs.layout.listed_cues_of.Goals as goal

pub returns-clause-order : goal.returns-clause-order
returns-clause-order c =
    let Rises : List ℕ → Type 0 = λ xs. IsNonDecreasing xs in
    subst Rises (sym c.new.ensures) (IsNonDecreasingBy-from_sort (λ (x : ℕ). x) _ c.in_ok-sort.ensures.sorted)
