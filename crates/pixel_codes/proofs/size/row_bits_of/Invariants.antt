use Rattle.std.proofs.Common.{◌+◌, ◌-◌, ◌*◌, ◌≤◌, ℕ, length, drop}
use Rattle.stream_syntax.specs.PixelCodes.{IsLeastSum}
use Rattle.pixel_codes.specs.Private.Rows.{runs_of}
use Rattle.pixel_codes.proofs.size.row_bits_of.Given as goal

abbrev pub invariant-loop-place : goal.invariant-loop-place
invariant-loop-place l = record {
  within : l.place ≤ length l.codes;
  short : l.bits ≤ 16 * l.place;
  sum : (rest : ℕ) → IsLeastSum l.depth (runs_of (drop l.place l.codes)) rest
      → IsLeastSum l.depth (runs_of l.codes) (l.bits + rest);
}

abbrev pub decreases-loop-place : goal.decreases-loop-place
decreases-loop-place l = length l.codes - l.place
