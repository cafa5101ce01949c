-- What a receiver keeps, and what that has to do with all packets that it was fed (EN 300 743, clauses 5.1 and 6).
use Rattle.std.specs.Prelude.{◌≡◌, ℕ, Bool, List, ◌∷◌, ◌++◌, reverse}
use Rattle.sub_base.specs.declared.load.SetLoad.{SetLoad}
use Rattle.ts_packets.specs.Demuxing.{Demuxing}
use Rattle.decoder_model.specs.PacketArrivals.{PacketArrival}
use Rattle.decoder_model.specs.Readings.{Reading, AreDeliveriesRead}
use Rattle.decoder_model.specs.Received.{Reception, sets_received}
use Rattle.decoder_model.specs.Sets.{Delivery}
use Rattle.display_sets.specs.Gathered.{Gathered}
use Rattle.receiver.specs.Showing.{ArePictures, Showing, Slot}
use Rattle.set_receiver.specs.Receiving as held

-- ---- what is kept

-- the units in hand, the sets in hand, the page memory with its pictures, what the last packet brought, and what the
-- last set that was taken asked
pub record Receiving : Type 0 where
  pub demux : Demuxing
  pub sets : Gathered
  pub showing : Showing
  pub arrival : PacketArrival
  pub load : SetLoad

-- all of it but the pictures
abbrev pub without_pictures : Receiving → held.SetReceiving
without_pictures receiving = record {
  collecting = record { demux = receiving.demux; sets = receiving.sets; arrival = receiving.arrival };
  core = receiving.showing.core;
  load = receiving.load;
}

-- with these pictures
abbrev pub with_pictures : held.SetReceiving → Slot → Slot → Receiving
with_pictures receiving pending current = record {
  demux = receiving.collecting.demux;
  sets = receiving.collecting.sets;
  showing = record { core = receiving.core; pending = pending; current = current };
  arrival = receiving.collecting.arrival;
  load = receiving.load;
}

-- what the receiver is for
abbrev pub reception : Receiving → Reception
reception receiving = held.reception (without_pictures receiving)

-- ---- what it has to do with all that came

-- the pictures are those after these sets and losses, however they are read
abbrev pub ShowsAfter : List (Delivery (List ℕ)) → Receiving → Type 0
ShowsAfter given receiving = (past : List (Delivery Reading)) → AreDeliveriesRead (reverse given) past
    → ArePictures (reception receiving).profile (reception receiving).anchor past receiving.showing.pending
    receiving.showing.current

-- the receiver was fed these packets, each of which it took, and the stream has ended with them or not; these sets and
-- losses were taken from it
pub record Stands (ended : Bool) (fed : List (List ℕ)) (given : List (Delivery (List ℕ)))
    (receiving : Receiving) : Type 0 where
  pub sets : held.HasBeenFed ended fed given (without_pictures receiving)
  pub shows : ShowsAfter given receiving

-- it is for the same
abbrev pub IsSame : Receiving → Receiving → Type 0
IsSame old new = reception new ≡ reception old

-- a receiver that was fed these packets, of which these sets and losses were taken, has this set or loss next, and then
-- the rest
pub record IsNext (ended : Bool) (fed : List (List ℕ)) (given : List (Delivery (List ℕ)))
    (next : Delivery (List ℕ))
    (rest : List (Delivery (List ℕ))) (receiving : Receiving) : Type 0 where
  pub stands : Stands ended fed given receiving
  pub all : sets_received (reception receiving) ended fed ≡ given ++ next ∷ rest
