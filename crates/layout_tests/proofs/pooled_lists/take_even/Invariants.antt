use Rattle.std.proofs.Common.{ℕ, ◌+◌, ◌*◌, ◌<◌}
use Rattle.comp_pool.specs.Pool.{NoneTwice}
use Rattle.layout_tests.specs.Private.ManyNodes.{HasIndex}
use Rattle.layout_tests.proofs.pooled_lists.take_even.Given as goal

abbrev pub invariant-loop-k : goal.invariant-loop-k
invariant-loop-k g l = record {
  even : (k : ℕ) → k + l.k < l.half → HasIndex l.pool l.nodes (2 * k);
  distinct : NoneTwice l.pool;
}
