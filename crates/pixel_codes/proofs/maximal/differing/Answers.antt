use Rattle.std.proofs.Common.{ℕ, not, ◌==◌, w8, arith}
use Rattle.std.proofs.lemmas.Simd.{bitmask_splat}
use Rattle.pixel_codes.proofs.maximal.differing.Goals as goal

pub returns : goal.returns
returns c = bitmask_splat w8 (λ (a b : ℕ). not (a == b)) c.args.lanes 16 c.args.code c.fits-lanes.0 (omega arith)
