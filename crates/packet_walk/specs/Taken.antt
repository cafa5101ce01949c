-- The packets of a stream that were taken.
use Rattle.std.specs.Prelude.{◌≡◌, ℕ, List, All, None}
use Rattle.packet_source.specs.Packets.{Gave}
use Rattle.stream_syntax.specs.TransportPackets.{packet_fault}
use Rattle.sub_base.specs.Endpoints.{Supplied}

-- the source gave these packets, none of which is refused, and the rest behind them
pub record AreTaken (pid : ℕ) (before now : Supplied) (packets : List (List ℕ)) (rest : List ℕ) : Type 0 where
  pub gave : Gave before now packets rest
  pub passed : All (λ packet. packet_fault pid packet ≡ None) packets
