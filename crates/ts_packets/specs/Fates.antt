-- What becomes of a unit, as the code says it.
use Rattle.std.specs.Prelude.{◌≡◌, ℕ, ◌+◌, ◌≤◌, List, length, take, min}
use Rattle.stream_syntax.specs.Units.{Waits, Whole, Over}
use Rattle.stream_syntax.specs.Units as units
use Rattle.ts_packets.specs.declared.demux.Fate.{Fate}
use Rattle.ts_packets.specs.declared.demux.Fate.TheVariants as fate

-- a unit that waits has fewer than six bytes, or fewer than it needs
abbrev pub IsFate : ℕ → List ℕ → units.Fate → Fate → Type 0
IsFate size bytes told fate.Waits = (told ≡ Waits) × (length bytes ≤ min size 65541 + 5)
IsFate size bytes told (fate.Whole count) = (told ≡ Whole (take count bytes)) × (count ≤ length bytes)
IsFate size bytes told (fate.Over need) = told ≡ Over need

-- the bytes that a unit has at most: a waiting one has fewer than it needs, which are 65541 at most, or fewer than six,
-- and one packet's payload comes to it
abbrev pub longest_unit : ℕ
longest_unit = 65730

-- what is handed out has at most that many bytes
abbrev pub IsShort : Fate → Type 0
IsShort fate.Waits = Unit {0}
IsShort (fate.Whole count) = count ≤ longest_unit
IsShort (fate.Over need) = Unit {0}
