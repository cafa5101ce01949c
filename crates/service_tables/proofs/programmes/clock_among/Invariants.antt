use Rattle.std.proofs.Common.{◌≡◌, drop, map}
use Rattle.service_tables.specs.Clock.{clock_among}
use Rattle.service_tables.specs.Reading.{map_of}
use Rattle.service_tables.proofs.programmes.clock_among.Given as goal

-- no programme that lists the PID has been passed
abbrev pub invariant-loop-programme : goal.invariant-loop-programme
invariant-loop-programme l =
    clock_among l.pid (map map_of (drop l.programme-index l.programmes))
    ≡ clock_among l.pid (map map_of l.programmes)
