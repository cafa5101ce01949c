-- What contracts see of sources and sinks at one moment, and what was done to them between two moments.
use Rattle.std.specs.Prelude.{◌≡◌, ℕ, ◌≤◌, List, length, take, Option}
use Rattle.std.specs.Io.KnownBytes.{Appends, Consumes, Keeps, IsAtEnd}
use Rattle.sub_base.specs.Counts.{HasRisen, counted}

-- what is seen of a source: what is left in it, where it tells that, the count of the bytes that it gave, and that of
-- its faults
pub record Supplied : Type 0 where
  pub left : Option (List ℕ)
  pub given : ℕ
  pub faults : ℕ

-- what is seen of a sink: what was written to it, where it tells that, and the count of its faults
pub record Received : Type 0 where
  pub written : Option (List ℕ)
  pub faults : ℕ

-- a read may answer that it failed: the count of the source's faults rose, or can rise no more
abbrev pub HasReadFault : Supplied → Supplied → Type 0
HasReadFault before now = HasRisen before.faults now.faults

-- a write may answer that it failed: the count of the sink's faults rose, or can rise no more
abbrev pub HasWriteFault : Received → Received → Type 0
HasWriteFault before now = HasRisen before.faults now.faults

-- the source was read to its end, and had these bytes, within the limit
pub record WasRead (limit : ℕ) (before now : Supplied) (bytes : List ℕ) : Type 0 where
  pub whole : Consumes before.left now.left bytes
  pub end : IsAtEnd now.left
  pub within : length bytes ≤ limit
  pub given : now.given ≡ counted before.given (length bytes)

-- some bytes were read, and the rest is left
abbrev pub WasReadInPart : Supplied → Supplied → Type 0
WasReadInPart before now = (bytes : List ℕ) × Consumes before.left now.left bytes

-- exactly these bytes were written
abbrev pub Wrote : Received → Received → List ℕ → Type 0
Wrote before now bytes = Appends before.written now.written bytes

-- a prefix of these bytes was appended
abbrev pub AppendsPrefix : Option (List ℕ) → Option (List ℕ) → List ℕ → Type 0
AppendsPrefix old new bytes = (n : ℕ) × (n ≤ length bytes) × Appends old new (take n bytes)

-- a prefix of these bytes was written
abbrev pub WrotePrefix : Received → Received → List ℕ → Type 0
WrotePrefix before now bytes = AppendsPrefix before.written now.written bytes

-- nothing was written
abbrev pub WroteNothing : Received → Received → Type 0
WroteNothing before now = Keeps before.written now.written
