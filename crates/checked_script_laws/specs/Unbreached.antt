-- The text of `check` of a stream in which nothing breaches.
use Rattle.std.specs.Prelude.{◌≡◌, ℕ, ◌≤◌, List, ◌++◌, None}
use Rattle.std.specs.List.{flat_map}
use Rattle.check_text.specs.CheckText.{breach_line, peak_line, set_line}
use Rattle.received_level_laws.specs.ToldSets.{ToldDoneSet}

-- behind the lines of sets stand a greatest level, which a buffer of so many bytes of coded data holds, and that there
-- is no breach
pub record EndsUnbreached (coded : ℕ) (text : List ℕ) : Type 0 where
  pub told : List ToldDoneSet
  pub peak : ℕ
  pub held : peak ≤ coded
  pub whole : text ≡ flat_map set_line told ++ (peak_line peak ++ breach_line None)
