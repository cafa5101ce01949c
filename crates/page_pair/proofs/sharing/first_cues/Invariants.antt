use Rattle.std.proofs.Common.{◌≡◌, ℕ, map, take}
use Rattle.page_pair.proofs.sharing.first_cues.Given as goal

abbrev pub invariant-loop-pair : goal.invariant-loop-pair
invariant-loop-pair l = l.cues.items ≡ map (λ (pair : ℕ × ℕ). pair.0) (take l.pair-index l.pairs)
