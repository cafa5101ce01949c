use Rattle.std.proofs.Common.{◌≡◌, ℕ, ◌+◌, ◌*◌, ◌<◌}
use Rattle.sub_base.specs.Picture.{row_of}
use Rattle.indexed_picture.proofs.picture.Indexed.fields_equal.Given as goal

abbrev pub invariant-loop-pair : goal.invariant-loop-pair
invariant-loop-pair l = (k : ℕ) → k < l.pair → row_of l.self (2 * k) ≡ row_of l.self (2 * k + 1)
