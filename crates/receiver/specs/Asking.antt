-- What a receiver keeps that draws what it is asked for, and what that has to do with all packets that it was fed (EN
-- 300 743, clauses 5.1 and 6).
use Rattle.std.specs.Prelude.{◌≡◌, ℕ, ◌≤◌, Bool, List, ◌∷◌, ◌++◌, reverse, unwrap_or}
use Rattle.sub_base.specs.declared.load.SetLoad.{SetLoad}
use Rattle.ts_packets.specs.Demuxing.{Demuxing}
use Rattle.decoder_model.specs.Kept.{last_time}
use Rattle.decoder_model.specs.PacketArrivals.{PacketArrival}
use Rattle.decoder_model.specs.Readings.{Reading, AreDeliveriesRead}
use Rattle.decoder_model.specs.Received.{Reception, sets_received}
use Rattle.decoder_model.specs.Sets.{Delivery}
use Rattle.decoder_model.specs.Shown.{view_at}
use Rattle.display_sets.specs.Gathered.{Gathered}
use Rattle.page_core.specs.Memory.{Memory}
use Rattle.receiver.specs.LastShown.{IsLastShown}
use Rattle.receiver.specs.Showing.{Slot, view_in}
use Rattle.set_receiver.specs.Receiving as held

-- ---- what is kept

-- the page memory, the picture of the last kept set, and whether it is drawn
pub record LastShowing : Type 0 where
  pub core : Memory
  pub picture : Slot
  pub drawn : Bool

-- the units in hand, the sets in hand, the page memory with its picture, what the last packet brought, and what the
-- last set that was taken asked
pub record Asking : Type 0 where
  pub demux : Demuxing
  pub sets : Gathered
  pub showing : LastShowing
  pub arrival : PacketArrival
  pub load : SetLoad

-- all of it but the picture
abbrev pub without_picture : Asking → held.SetReceiving
without_picture asking = record {
  collecting = record { demux = asking.demux; sets = asking.sets; arrival = asking.arrival };
  core = asking.showing.core;
  load = asking.load;
}

-- with this picture, which is drawn or not
abbrev pub with_picture : held.SetReceiving → Slot → Bool → Asking
with_picture receiving picture drawn = record {
  demux = receiving.collecting.demux;
  sets = receiving.collecting.sets;
  showing = record { core = receiving.core; picture = picture; drawn = drawn };
  arrival = receiving.collecting.arrival;
  load = receiving.load;
}

-- what the receiver is for
abbrev pub reception : Asking → Reception
reception asking = held.reception (without_picture asking)

-- ---- what it has to do with all that came

-- the picture is that after these sets and losses, however they are read
abbrev pub ShowsLast : List (Delivery (List ℕ)) → Asking → Type 0
ShowsLast given asking = (past : List (Delivery Reading)) → AreDeliveriesRead (reverse given) past
    → IsLastShown (reception asking).profile (reception asking).anchor past asking.showing.picture
    asking.showing.drawn

-- the receiver was fed these packets, each of which it took, and the stream has ended with them or not; these sets and
-- losses were taken from it
pub record Stands (ended : Bool) (fed : List (List ℕ)) (given : List (Delivery (List ℕ))) (asking : Asking)
    : Type 0 where
  pub sets : held.HasBeenFed ended fed given (without_picture asking)
  pub shows : ShowsLast given asking

-- it is for the same
abbrev pub IsSame : Asking → Asking → Type 0
IsSame old new = reception new ≡ reception old

-- a receiver that was fed these packets, of which these sets and losses were taken, has this set or loss next, and then
-- the rest
pub record IsNext (ended : Bool) (fed : List (List ℕ)) (given : List (Delivery (List ℕ)))
    (next : Delivery (List ℕ)) (rest : List (Delivery (List ℕ))) (asking : Asking) : Type 0 where
  pub stands : Stands ended fed given asking
  pub all : sets_received (reception asking) ended fed ≡ given ++ next ∷ rest

-- whatever was fed and taken so far, a set or loss comes next
abbrev pub HasNext : Asking → Type 0
HasNext asking = (ended : Bool) (packets : List (List ℕ)) (given : List (Delivery (List ℕ)))
    → Stands ended packets given asking
    → (delivery : Delivery (List ℕ)) × (rest : List (Delivery (List ℕ)))
    × IsNext ended packets given delivery rest asking

-- all sets and losses of what was fed were taken
abbrev pub AllTaken : Asking → Type 0
AllTaken asking = (fed : List (List ℕ)) (ended : Bool) (given : List (Delivery (List ℕ)))
    → Stands ended fed given asking → sets_received (reception asking) ended fed ≡ given

-- ---- what is drawn

-- the picture is what is shown at a tick that is no earlier than the last kept set, whatever was fed
abbrev pub IsDrawnAt : ℕ → Asking → Type 0
IsDrawnAt tick asking = (fed : List (List ℕ)) (ended : Bool) (given : List (Delivery (List ℕ)))
    (past : List (Delivery Reading))
    → Stands ended fed given asking → AreDeliveriesRead (reverse given) past
    → unwrap_or (last_time (reception asking).anchor past) 0 ≤ tick
    → view_in asking.showing.picture tick ≡ view_at (reception asking).profile (reception asking).anchor tick past

-- nothing but the picture changed, and what the old one stood for the new one does
pub record KeepsSets (old new : Asking) : Type 0 where
  pub same : without_picture new ≡ without_picture old
  pub stands : (ended : Bool) (fed : List (List ℕ)) (given : List (Delivery (List ℕ)))
      → Stands ended fed given old → Stands ended fed given new
