-- What is seen of the sources and the output of a command at one moment.
use Rattle.sub_base.specs.Endpoints.{Supplied, Received}

-- what is seen at one moment of the two sources of a command and of its output
pub record Seen : Type 0 where
  pub first : Supplied
  pub second : Supplied
  pub out : Received

-- the first source, the second source and the output, seen at the same moment
abbrev pub seen : Supplied → Supplied → Received → Seen
seen first second out = record { first = first; second = second; out = out }
