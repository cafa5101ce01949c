-- What painting of some columns of a packed row changes.
use Rattle.std.specs.Prelude.{◌≡◌, ℕ, ◌+◌, ◌<◌, ◌≤◌, ◌⊎◌, List}
use Rattle.sub_base.specs.declared.depth.Depth.{Depth}
use Rattle.string_painting.specs.Codes.{packed_code}

-- columns from `from` up to `to` now have `code`, and the others what they had
pub record PaintsColumns (region : Depth) (from to code : ℕ) (old new : List ℕ) : Type 0 where
  pub covered : (x : ℕ) → from ≤ x → x < to → packed_code region new x ≡ code
  pub outside : (x : ℕ) → (x < from) ⊎ (to ≤ x) → packed_code region new x ≡ packed_code region old x

-- column x now has the first code and the column behind it the second, one painted after the other
pub record PaintsPair (region : Depth) (x first second : ℕ) (old new : List ℕ) : Type 0 where
  pub mid : List ℕ
  pub before : PaintsColumns region x (x + 1) first old mid
  pub behind : PaintsColumns region (x + 1) (x + 1 + 1) second mid new
