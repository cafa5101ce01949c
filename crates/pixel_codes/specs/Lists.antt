-- Lists that grow at their end.
use Rattle.std.specs.Prelude.{◌≡◌, ℕ, List, ◌++◌}

-- something was put at the end, perhaps nothing
abbrev pub Extends : List ℕ → List ℕ → Type 0
Extends old new = (more : List ℕ) × (new ≡ old ++ more)
