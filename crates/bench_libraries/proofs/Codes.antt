use Rattle.std.proofs.Common.{ℕ, ◌<◌, ◌≤◌, arith}
use Rattle.sub_base.specs.declared.depth.Depth.{Depth}
use Rattle.sub_base.specs.declared.depth.Depth.TheVariants.{Two, Four, Eight}
use Rattle.sub_base.specs.Depth.{code_count}

-- each depth has the codes 0 to 3
pub low_code : (depth : Depth) (code : ℕ) → code ≤ 3 → code < code_count depth
low_code Two code low = omega arith
low_code Four code low = omega arith
low_code Eight code low = omega arith
