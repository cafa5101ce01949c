-- The clock of a PID among programmes.
use Rattle.std.proofs.Common.{◌≡◌, ℕ, Bool, true, false, List, ◌∷◌, map, refl}
use Rattle.std.specs.Prelude.{if◌then◌else◌}
use Rattle.service_tables.specs.Clock.{clock_among, clock_at, lists}
use Rattle.service_tables.specs.Reading.{ProgrammeReading, map_of}

pub clock_next : (pid : ℕ) (programme : ProgrammeReading) (programmes : List ProgrammeReading)
    → clock_among pid (map map_of (programme ∷ programmes))
    ≡ (if lists pid (map_of programme) then clock_at (map_of programme) else clock_among pid (map map_of programmes))
clock_next pid programme programmes = by (lists pid (map_of programme)) refl
  where
    by : (b : Bool) → lists pid (map_of programme) ≡ b
        → clock_among pid (map map_of (programme ∷ programmes))
        ≡ (if lists pid (map_of programme) then clock_at (map_of programme)
        else clock_among pid (map map_of programmes))
    by true e = rw e refl
    by false e = rw e refl
