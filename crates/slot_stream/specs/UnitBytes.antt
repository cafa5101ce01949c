-- Units as their bytes are kept: one after the other.
use Rattle.std.specs.Prelude.{◌≡◌, ℕ, List, length, map}
use Rattle.std.specs.List.{concat}

-- bytes are cut into units of these lengths
pub record AreUnitsOf (lengths bytes : List ℕ) (units : List (List ℕ)) : Type 0 where
  pub whole : concat units ≡ bytes
  pub sized : map length units ≡ lengths
