-- The packets of a PID among those of a stream.
use Rattle.std.specs.Prelude.{ℕ, ◌==◌, List, filter}
use Rattle.stream_syntax.specs.TransportPackets.{pid_of}

-- the packets of that PID, in their order
abbrev pub of_pid : ℕ → List (List ℕ) → List (List ℕ)
of_pid pid packets = filter (λ packet. pid_of packet == pid) packets
