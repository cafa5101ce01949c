use Rattle.std.proofs.Common.{◌≡◌, ◌==◌, ℕ, List, filter, rules, subst}
use Rattle.std.specs.List.Sorted.{IsPermutation}
use Rattle.std.proofs.lemmas.Fn.{always_returns_same}
use Rattle.std.proofs.lemmas.List.Sorted.{IsNonDecreasingBy-from_sort_by_key}
use Rattle.page_epoch.specs.SentCluts.{row_at}
use Rattle.page_epoch.proofs.WalkLaws.{stable_from}
use Rattle.page_epoch.proofs.clut_rows.in_order.Goals as goal

pub returns : goal.returns
returns c =
    let tick = λ (place : ℕ). (row_at c.args.colours.now place).tick in
    let From : List ℕ → Type 0 = λ own. IsPermutation own c.sort_by_key.new.self.items in
    record {
      moved = subst From c.in_ok-rows.ensures.items c.in_ok-sort_by_key.ensures.permutation;
      rise = IsNonDecreasingBy-from_sort_by_key tick _ c.in_ok-sort_by_key.ensures.sorted (λ a r q k. search rules);
      stable =
          subst (λ (own : List ℕ). (other : ℕ)
          → filter (λ place. tick place == tick other) c.sort_by_key.new.self.items
          ≡ filter (λ place. tick place == tick other) own) c.in_ok-rows.ensures.items
          (stable_from c.args.colours.now c.in_ok-rows.rows.items c.sort_by_key.new.self.items
          (c.in_ok-sort_by_key.ensures.stable tick (always_returns_same _ _ _ (λ a r q k. search rules))));
    }
