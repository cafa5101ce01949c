use Rattle.std.proofs.Common.{◌≡◌, ◌<◌, ◌≤◌, ◌⊎◌, ℕ, length, get_or}
use Rattle.comp_pool.specs.Private.Links.{IsClosed, IsLast}
use Rattle.comp_pool.proofs.links.close_lists.Given as goal

abbrev pub invariant-loop-node : goal.invariant-loop-node
invariant-loop-node l = record {
  nodes : (k : ℕ) → k < l.count → get_or l.nexts k 0 ≡ get_or l.initial.nexts k 0;
  ends : (e : ℕ) → l.count ≤ e → e < length l.initial.nexts → IsClosed l.initial.nexts l.initial.backs e
      ⊎ IsLast l.initial.nexts l.count 0 e →
      IsClosed l.nexts l.backs e ⊎ IsLast l.initial.nexts l.count l.node e;
}
