-- What a reader of sections does at a packet, by what it keeps.
use Rattle.std.specs.Prelude.{◌≡◌, ℕ, if◌then◌else◌, List, Some}
use Rattle.stream_syntax.specs.TransportPackets.{counter_of}
use Rattle.section_reader.specs.Reading.{SectionReading, Takes}
use Rattle.section_reader.specs.Sections.{Ended, counts, ended_with}

-- the reader has ended these sections, and they were taken
pub record Ends {Taker Kept : Type 0} (stands : Taker → List (List ℕ) → Type 0) (kept : Taker → Kept)
    (old new : SectionReading) (was is : Taker) (ended : Ended) : Type 0 where
  pub pid : new.pid ≡ old.pid
  pub hand : new.hand ≡ ended.hand
  pub taken : Takes stands kept was is ended.sections

-- what is done at a packet
pub record StepsOn {Taker Kept : Type 0} (stands : Taker → List (List ℕ) → Type 0) (kept : Taker → Kept)
    (old new : SectionReading) (was is : Taker) (packet : List ℕ) : Type 0 where
  pub ends : Ends stands kept old new was is (ended_with old.pid old.last old.hand packet)
  pub last : new.last ≡ (if counts old.pid packet then Some (counter_of packet) else old.last)
