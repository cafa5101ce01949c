-- What the search for one slot relies on.
use Rattle.std.specs.Prelude.{ℕ, ◌^◌, ◌<◌, ◌≤◌, List, length, slice_index}

-- done ticks below 2^62 that do not fall
pub record AreOrdered (dones : List ℕ) : Type 0 where
  pub rise : (a b : ℕ) → a ≤ b → b < length dones → slice_index dones a ≤ slice_index dones b
  pub small : (a : ℕ) → a < length dones → slice_index dones a < 2 ^ 62

-- the first so many sets are done by a tick
pub record AreDone (dones : List ℕ) (count tick : ℕ) : Type 0 where
  pub within : count ≤ length dones
  pub each : (j : ℕ) → j < count → slice_index dones j ≤ tick
