-- Bytes at the end of others.
use Rattle.std.specs.Prelude.{◌≡◌, ℕ, List, ◌++◌}

-- bytes were put behind those that were there, which stand
abbrev pub IsAppended : List ℕ → List ℕ → Type 0
IsAppended old new = (more : List ℕ) × (new ≡ old ++ more)
