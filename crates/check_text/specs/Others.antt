-- Packets of other PIDs than that of a receiver.
use Rattle.std.specs.Prelude.{◌≡◌, ◌==◌, ℕ, false, List, None}
use Rattle.set_receiver.specs.Taking.{AreAllBytes}
use Rattle.stream_syntax.specs.TransportPackets.{packet_fault, pid_of}

-- a packet of bytes that can be taken, and is of another PID
pub record IsOther (pid : ℕ) (packet : List ℕ) : Type 0 where
  pub bytes : AreAllBytes packet
  pub faultless : packet_fault pid packet ≡ None
  pub other : (pid_of packet == pid) ≡ false
