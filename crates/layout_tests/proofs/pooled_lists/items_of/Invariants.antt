use Rattle.std.proofs.Common.{◌≡◌, ◌++◌, map, length}
use Rattle.std.specs.Option.{ForSome}
use Rattle.comp_pool.specs.Pool.{IsInList, list_of}
use Rattle.comp_pool.specs.Places.{rest_from}
use Rattle.layout_tests.proofs.pooled_lists.items_of.Given as goal

abbrev pub invariant-loop-place : goal.invariant-loop-place
invariant-loop-place l = record {
  so_far : l.items.items
      ++ map (λ p. p.1) (rest_from l.place (list_of l.pool l.list)) ≡ map (λ p. p.1) (list_of l.pool l.list);
  listed : ForSome l.place (λ node. IsInList l.pool l.list node);
}

abbrev pub decreases-loop-place : goal.decreases-loop-place
decreases-loop-place l = length (rest_from l.place (list_of l.pool l.list))
