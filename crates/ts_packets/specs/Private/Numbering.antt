-- What a packetiser keeps.
use Rattle.std.specs.Prelude.{ℕ, ◌+◌, ◌%◌}

-- the PID of the packets, and the counter of the next one
pub record Numbering : Type 0 where
  pub pid : ℕ
  pub counter : ℕ

-- the counter rises modulo 16 with each packet that has a payload
abbrev pub after_packet : Numbering → Numbering
after_packet numbers = record { pid = numbers.pid; counter = (numbers.counter + 1) % 16 }
