-- What a demultiplexer is once the unit that it lent is given back.
use Rattle.std.specs.Prelude.{◌≡◌, ℕ, List, Result, MatchResult}
use Rattle.std.specs.Borrow.{Fml, MutBor}
use Rattle.std.specs.Io.BufRead.{Rests}
use Rattle.ts_packets.specs.Demuxing.{Demuxing, DemuxesOn}
use Rattle.ts_packets.specs.contracts.demux.Demux.{the_row}

-- it goes on over the packet, or after a fault it is as before
abbrev pub IsFed : {X E : Type 0} → MutBor Demuxing → List ℕ → Result X E → Fml
IsFed demux packet answer =
    Rests the_row demux (λ last. MatchResult answer (λ _. DemuxesOn demux.now last packet) (λ _. last ≡ demux.now))
