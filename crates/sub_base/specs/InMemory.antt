-- Sources and sinks in memory, which fail at the calls that they were told to fail at.
use Rattle.std.specs.Prelude.{ℕ, List, Contains}
use Rattle.sub_base.specs.Counts.{counted}

-- a source in memory: what is left, how many bytes a call gives at most, the numbers of the calls that fail, and the
-- counts of its calls, of the bytes it gave and of its faults
pub record Supply : Type 0 where
  pub left : List ℕ
  pub most : ℕ
  pub fails : List ℕ
  pub calls : ℕ
  pub given : ℕ
  pub faults : ℕ

-- a sink in memory: what was written, how many bytes a call takes at most, the numbers of the calls that fail, and the
-- counts of its calls and of its faults
pub record Store : Type 0 where
  pub written : List ℕ
  pub most : ℕ
  pub fails : List ℕ
  pub calls : ℕ
  pub faults : ℕ

-- this call is one of those that fail
abbrev pub IsToFail : List ℕ → ℕ → Type 0
IsToFail fails calls = Contains fails (counted calls 1)
