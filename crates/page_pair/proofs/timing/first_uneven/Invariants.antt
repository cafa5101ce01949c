use Rattle.std.proofs.Common.{ℕ, ◌<◌}
use Rattle.page_pair.specs.PairStream.{AreEvenAt}
use Rattle.page_pair.proofs.timing.first_uneven.Given as goal

abbrev pub invariant-loop-place : goal.invariant-loop-place
invariant-loop-place l = (n : ℕ) → n < l.place → AreEvenAt l.one l.two n
