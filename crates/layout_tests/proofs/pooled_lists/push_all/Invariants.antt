use Rattle.std.proofs.Common.{◌≡◌, ◌<◌, ℕ, length}
use Rattle.comp_pool.specs.Pool.{NoneTwice}
use Rattle.layout_tests.specs.Private.ManyNodes.{HasIndex}
use Rattle.layout_tests.proofs.pooled_lists.push_all.Given as goal

abbrev pub invariant-loop-item : goal.invariant-loop-item
invariant-loop-item l = record {
  list : 0 < length l.pool.lists;
  distinct : NoneTwice l.pool;
  count : length l.nodes.items ≡ l.item;
  indices : (k : ℕ) → HasIndex l.pool l.nodes.items k;
}
