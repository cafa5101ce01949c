-- What a reader of sets keeps, and what that has to do with all packets that it was fed (EN 300 743, clauses 5.1 and
-- 6).
use Rattle.std.specs.Prelude.{◌≡◌, ℕ, ◌≤◌, Bool, List, ◌∷◌, ◌++◌, replicate}
use Rattle.stream_syntax.specs.declared.wire.TheConstants.{PAYLOAD_LENGTH}
use Rattle.ts_packets.specs.Demuxing as packets
use Rattle.ts_packets.specs.Demuxing.{Demuxing}
use Rattle.decoder_model.specs.Arrivals.{arrivals_of, packets_taken}
use Rattle.decoder_model.specs.PacketArrivals.{PacketArrival}
use Rattle.decoder_model.specs.Sets.{Delivery, lost, sets_of}
use Rattle.display_sets.specs.Gathered.{Gathered}
use Rattle.display_sets.specs.Standing as sets

-- ---- what is kept

-- the units in hand, the sets in hand, and what the last packet brought
pub record Collecting : Type 0 where
  pub demux : Demuxing
  pub sets : Gathered
  pub arrival : PacketArrival

-- units have as many bytes at most as the segments of a set, and a packet brought no more than its payload
pub record IsCollecting (collecting : Collecting) : Type 0 where
  pub size : collecting.demux.size ≡ collecting.sets.coded
  pub short : collecting.arrival.bytes ≤ PAYLOAD_LENGTH

-- ---- what it has to do with all that came

-- all sets and losses of packets, the first one first; the stream ends with the packets or not
abbrev pub sets_read : Collecting → Bool → List (List ℕ) → List (Delivery (List ℕ))
sets_read collecting ended fed =
    sets_of collecting.sets.coded collecting.demux.pid collecting.sets.pages ended fed

-- the reader was fed these packets, each of which it took, and the stream has ended with them or not; these sets and
-- losses were given
pub record IsReaderOf (ended : Bool) (fed : List (List ℕ)) (given : List (Delivery (List ℕ)))
    (collecting : Collecting) : Type 0 where
  pub taken : packets_taken collecting.demux.pid fed ≡ fed
  pub demux : packets.HasDemuxed collecting.demux fed
  pub sets : sets.HasGathered
      (arrivals_of collecting.sets.coded collecting.demux.pid collecting.sets.pages fed)
      ended given collecting.sets

-- so many losses
abbrev pub losses : ℕ → List (Delivery (List ℕ))
losses count = replicate count lost

-- behind those given, this set or loss comes next, and then the rest
abbrev pub IsNextRead : Bool → List (List ℕ) → List (Delivery (List ℕ)) → Delivery (List ℕ)
    → List (Delivery (List ℕ)) → Collecting → Type 0
IsNextRead ended fed given next rest collecting = sets_read collecting ended fed ≡ given ++ next ∷ rest

-- the same reader: its PID, pages, and coded bytes
pub record IsSameReader (old new : Collecting) : Type 0 where
  pub pid : new.demux.pid ≡ old.demux.pid
  pub pages : new.sets.pages ≡ old.sets.pages
  pub coded : new.sets.coded ≡ old.sets.coded
