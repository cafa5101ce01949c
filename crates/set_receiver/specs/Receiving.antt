-- What a receiver without pictures keeps, and what that has to do with all packets that it was fed (EN 300 743, clauses
-- 5.1 and 6).
use Rattle.std.specs.Prelude.{◌≡◌, ℕ, ◌^◌, ◌<◌, Bool, List, ◌∷◌, ◌++◌, reverse}
use Rattle.std.specs.List.{AllByRecursion}
use Rattle.sub_base.specs.declared.load.SetLoad.{SetLoad}
use Rattle.decoder_model.specs.Readings.{Reading, AreDeliveriesRead}
use Rattle.decoder_model.specs.Received.{Reception, sets_received}
use Rattle.decoder_model.specs.Sets.{Delivery, lost}
use Rattle.display_sets.specs.Gathered.{HasFewBytes, ReadySet}
use Rattle.page_core.specs.Memory as cores
use Rattle.page_core.specs.Memory.{Memory}
use Rattle.set_reader.specs.Collecting as readers
use Rattle.set_reader.specs.Collecting.{Collecting, losses}

-- ---- what is kept

-- the reader of its sets, the page memory, and what the last set that was taken asked
pub record SetReceiving : Type 0 where
  pub collecting : Collecting
  pub core : Memory
  pub load : SetLoad

-- what it is for
abbrev pub reception : SetReceiving → Reception
reception receiving = record {
  profile = receiving.core.profile;
  pid = receiving.collecting.demux.pid;
  pages = receiving.collecting.sets.pages;
  anchor = receiving.core.anchor;
}

-- a set asks less than 2^62 ticks, and has less than 2^32 bytes of units for each byte of the coded data buffer, and
-- for the unit with which it ends
pub record IsBoundedLoad (coded : ℕ) (load : SetLoad) : Type 0 where
  pub pts : load.pts < 2 ^ 62
  pub painted : load.painted < 2 ^ 62
  pub size : HasFewBytes coded load.size

-- the parts are those of one receiver, and a set asked no more than it can
pub record IsReceiver (receiving : SetReceiving) : Type 0 where
  pub coded : receiving.collecting.sets.coded ≡ receiving.core.profile.coded
  pub page : receiving.collecting.sets.pages.composition ≡ receiving.core.page
  pub load : IsBoundedLoad receiving.core.profile.coded receiving.load

-- ---- what it has to do with all that came

-- the page memory is that after these sets and losses, however they are read
abbrev pub HoldsReceived : List (Delivery (List ℕ)) → Memory → Type 0
HoldsReceived given core =
    (past : List (Delivery Reading)) → AreDeliveriesRead (reverse given) past → cores.IsMemoryAfter past core

-- the receiver was fed these packets, each of which it took, and the stream has ended with them or not; these sets and
-- losses were taken from it; and the reader has as many coded bytes as the profile
pub record HasBeenFed (ended : Bool) (fed : List (List ℕ)) (given : List (Delivery (List ℕ)))
    (receiving : SetReceiving) : Type 0 where
  pub coded : receiving.collecting.sets.coded ≡ receiving.core.profile.coded
  pub reads : readers.IsReaderOf ended fed given receiving.collecting
  pub holds : HoldsReceived given receiving.core

-- the same, where so many losses came behind those sets and losses, of which the page memory was not told
pub record HasToLose (count : ℕ) (ended : Bool) (fed : List (List ℕ)) (given : List (Delivery (List ℕ)))
    (receiving : SetReceiving) : Type 0 where
  pub coded : receiving.collecting.sets.coded ≡ receiving.core.profile.coded
  pub reads : readers.IsReaderOf ended fed (given ++ losses count) receiving.collecting
  pub holds : HoldsReceived given receiving.core

-- so many losses came behind those that were given
pub record Loses (count : ℕ) (old new : Memory) : Type 0 where
  pub goes : (given : List (Delivery (List ℕ))) → HoldsReceived given old → HoldsReceived (given ++ losses count) new

-- nothing but losses
abbrev pub AreLosses : List (Delivery (List ℕ)) → Type 0
AreLosses deliveries = AllByRecursion (λ delivery. delivery ≡ lost) deliveries

-- it is for the same
abbrev pub IsSameReception : SetReceiving → SetReceiving → Type 0
IsSameReception old new = reception new ≡ reception old

-- the time of a set that is ready, as read
abbrev pub set_time : ReadySet → ℕ
set_time set = set.time

-- a receiver that was fed these packets, of which these sets and losses were taken, has this set or loss next, and then
-- the rest
pub record IsNextReceived (ended : Bool) (fed : List (List ℕ)) (given : List (Delivery (List ℕ)))
    (next : Delivery (List ℕ)) (rest : List (Delivery (List ℕ))) (receiving : SetReceiving) : Type 0 where
  pub stands : HasBeenFed ended fed given receiving
  pub all : sets_received (reception receiving) ended fed ≡ given ++ next ∷ rest
