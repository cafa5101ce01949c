use Rattle.std.proofs.Common.{ℕ, ◌+◌, ◌*◌, ◌≤◌}
use Rattle.comp_pool.specs.Pool.{NoneTwice}
use Rattle.layout_tests.specs.Private.ManyNodes.{HasIndex}
use Rattle.layout_tests.proofs.pooled_lists.take_odd.Given as goal

abbrev pub invariant-loop-k : goal.invariant-loop-k
invariant-loop-k g l = record {
  even : (k : ℕ) → HasIndex l.pool l.nodes (2 * k);
  odd : (k : ℕ) → l.k ≤ k → HasIndex l.pool l.nodes (2 * k + 1);
  distinct : NoneTwice l.pool;
}
