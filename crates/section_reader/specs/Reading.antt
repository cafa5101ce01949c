-- What a reader of sections keeps, and what that has to do with the packets that it was fed and the sections that were
-- taken out of them.
use Rattle.std.specs.Prelude.{◌≡◌, ℕ, List, [], ◌∷◌, ◌++◌, Option}
use Rattle.section_reader.specs.Sections.{hand_behind, last_counter, sections_of}

-- the PID whose sections are read, and what is kept of its packets
pub record SectionReading : Type 0 where
  pub pid : ℕ
  -- the counter of the last payload packet
  pub last : Option ℕ
  -- the section in hand
  pub hand : Option (List ℕ)

-- each thing that the reader keeps is what the definition gives for all packets so far, the latest first
pub record IsReadingOf (reader : SectionReading) (before : List (List ℕ)) : Type 0 where
  pub last : reader.last ≡ last_counter reader.pid before
  pub hand : reader.hand ≡ hand_behind reader.pid before

-- the new value stands for the packets that the old one stands for and this one behind them, whichever they are
pub record ReadsSectionsOn (old new : SectionReading) (packet : List ℕ) : Type 0 where
  pub pid : new.pid ≡ old.pid
  pub stands : (before : List (List ℕ)) → IsReadingOf old before → IsReadingOf new (packet ∷ before)

-- these sections were taken behind those before them, whichever they were
pub record Takes {Taker Kept : Type 0} (stands : Taker → List (List ℕ) → Type 0) (kept : Taker → Kept)
    (old new : Taker) (more : List (List ℕ)) : Type 0 where
  pub same : kept new ≡ kept old
  pub took : (sections : List (List ℕ)) → stands old sections → stands new (sections ++ more)

-- these packets behind those, the latest first
abbrev pub latest_first : List (List ℕ) → List (List ℕ) → List (List ℕ)
latest_first before [] = before
latest_first before (packet ∷ packets) = latest_first (packet ∷ before) packets

-- the reader was fed these packets, and all sections of its PID in them were taken
pub record HasReadSections {Taker : Type 0} (stands : Taker → List (List ℕ) → Type 0) (reader : SectionReading)
    (taker : Taker) (packets : List (List ℕ)) : Type 0 where
  pub reading : IsReadingOf reader (latest_first [] packets)
  pub taken : stands taker (sections_of reader.pid packets)
