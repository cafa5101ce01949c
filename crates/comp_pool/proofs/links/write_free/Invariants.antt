use Rattle.std.proofs.Common.{◌≡◌, ◌<◌, ◌≤◌, ℕ, get_or}
use Rattle.comp_pool.specs.Private.Links.{next_when_free, back_when_free}
use Rattle.comp_pool.proofs.links.write_free.Given as goal

abbrev pub invariant-loop-place : goal.invariant-loop-place
invariant-loop-place l = record {
  forward : (k : ℕ) → k < l.place → get_or l.nexts k 0 ≡ next_when_free l.count k;
  backward : (k : ℕ) → k < l.place → get_or l.backs k 0 ≡ back_when_free l.count k;
  forward_rest : (k : ℕ) → l.place ≤ k → get_or l.nexts k 0 ≡ get_or l.initial.nexts k 0;
  backward_rest : (k : ℕ) → l.place ≤ k → get_or l.backs k 0 ≡ get_or l.initial.backs k 0;
}
