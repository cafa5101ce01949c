use Rattle.std.proofs.Common.{◌≡◌, ◌+◌, length, set}
use Rattle.comp_pool.specs.Pool.{list_of, node_count}
use Rattle.comp_pool.proofs.pool.Pool.clear.Given as goal

abbrev pub invariant-loop-node : goal.invariant-loop-node
invariant-loop-node g l = record {
  lists : l.self.lists ≡ set l.initial.self.lists l.list (list_of l.self l.list);
  free : l.self.free + length (list_of l.self l.list) ≡ l.initial.self.free + length (list_of l.initial.self l.list);
  nodes : node_count l.self ≡ node_count l.initial.self;
}

abbrev pub decreases-loop-node : goal.decreases-loop-node
decreases-loop-node g l = length (list_of l.self l.list)
