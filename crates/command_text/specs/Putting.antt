-- Text that is put out line by line, and written to a sink in large pieces.
use Rattle.std.specs.Prelude.{◌≡◌, ℕ, ◌≤◌, Bool, true, false, List, ◌++◌, Option}
use Rattle.std.specs.Io.KnownBytes.{Appends}
use Rattle.sub_base.specs.Counts.{HasRisen}
use Rattle.sub_base.specs.Endpoints.{AppendsPrefix, Received}

-- what was written, and what is to be written next, are these bytes
pub record Sent (start now : Option (List ℕ)) (pending bytes : List ℕ) : Type 0 where
  pub written : List ℕ
  pub appended : Appends start now written
  pub whole : written ++ pending ≡ bytes

-- the text that waits to be written, and whether the sink failed
pub record Buffered : Type 0 where
  pub waits : List ℕ
  pub failed : Bool

-- the text was put out since the start: it was written to the sink or waits; where the sink failed, it has received a
-- front of the text, and its count of faults rose
pub record IsPutOut (start now : Received) (buffer : Buffered) (text : List ℕ) : Type 0 where
  pub sent : buffer.failed ≡ false → Sent start.written now.written buffer.waits text
  pub front : buffer.failed ≡ true → AppendsPrefix start.written now.written text
      × HasRisen start.faults now.faults
  pub kept : start.faults ≤ now.faults

-- this text was put out behind all that was put out before
pub record PutsOut (before now : Received) (old new : Buffered) (text : List ℕ) : Type 0 where
  pub extends : (start : Received) (told : List ℕ) → IsPutOut start before old told
      → IsPutOut start now new (told ++ text)
