-- What happens at a receiver that gets the packets of scheduled sets from one unit on: its packets, and the sets that
-- they make whole. Lists of calls have the latest first.
use Rattle.std.specs.Prelude.{ℕ, zero, suc, ◌-◌, ◌==◌, ◌&&◌, nat_le, nat_lt, Bool, if◌then◌else◌, List, [], ◌∷◌}
use Rattle.sub_base.specs.declared.load.SetLoad.{SetLoad}
use Rattle.sub_base.specs.declared.load.WriteLoad.{WriteLoad}
use Rattle.buffer_model.specs.Calls.{Call, Arrived, SetWhole}
use Rattle.schedule.specs.Packets.{sum_below, load_of, size_of, packets_of, payload_of}
use Rattle.schedule.specs.Slots.{slot_of}

-- where a stream is entered: the set of the first unit that is received from its beginning on, and the place of that
-- unit's first packet among the packets of the set
pub record Entry : Type 0 where
  pub set : ℕ
  pub packet : ℕ

-- the first packet of set i that counts
abbrev pub from_of : Entry → ℕ → ℕ
from_of entry i = if i == entry.set then entry.packet else 0

-- packet k of set i counts, and stands below a bound
abbrev pub counts : List WriteLoad → List ℕ → ℕ → Entry → ℕ → ℕ → Bool
counts loads slots bound entry i k = nat_le (from_of entry i) k && nat_lt (slot_of loads slots i k) bound

-- the calls of the first k packets of set i that count and stand below the bound, behind a past
abbrev pub packet_calls : List WriteLoad → List ℕ → ℕ → Entry → ℕ → ℕ → List Call → List Call
packet_calls loads slots bound entry i zero past = past
packet_calls loads slots bound entry i (suc k) past =
    if counts loads slots bound entry i k
    then Arrived (slot_of loads slots i k) (payload_of loads i k) ∷ packet_calls loads slots bound entry i k past
    else packet_calls loads slots bound entry i k past

-- what set i asks as it is received: its bytes from its first packet that counts on, and so much painting
abbrev pub heard_load : List WriteLoad → (ℕ → ℕ) → Entry → ℕ → SetLoad
heard_load loads painted entry i = record {
  pts = (load_of loads i).pts;
  size = size_of loads i - sum_below (payload_of loads i) (from_of entry i);
  painted = painted i;
}

-- the last packet of set i stands below the bound
abbrev pub is_whole : List WriteLoad → List ℕ → ℕ → ℕ → Bool
is_whole loads slots bound i = nat_lt (slot_of loads slots i (packets_of loads i - 1)) bound

-- the set itself, where it is whole
abbrev pub set_calls : List WriteLoad → List ℕ → ℕ → (ℕ → ℕ) → Entry → ℕ → List Call
    → List Call
set_calls loads slots bound painted entry i past =
    if is_whole loads slots bound i then SetWhole (heard_load loads painted entry i) ∷ past else past

-- the calls of set i behind a past
abbrev pub calls_of_set : List WriteLoad → List ℕ → ℕ → (ℕ → ℕ) → Entry → ℕ → List Call
    → List Call
calls_of_set loads slots bound painted entry i past =
    set_calls loads slots bound painted entry i (packet_calls loads slots bound entry i (packets_of loads i) past)

-- the calls of the first n sets, of the packets that stand below a bound
abbrev pub entered_calls : List WriteLoad → List ℕ → ℕ → (ℕ → ℕ) → Entry → ℕ → List Call
entered_calls loads slots bound painted entry zero = []
entered_calls loads slots bound painted entry (suc i) =
    if nat_le entry.set i
    then calls_of_set loads slots bound painted entry i (entered_calls loads slots bound painted entry i) else []

-- the whole stream
abbrev pub whole_entry : Entry
whole_entry = record { set = 0; packet = 0 }

-- the painting that the sets ask
abbrev pub planned_painting : List WriteLoad → ℕ → ℕ
planned_painting loads i = (load_of loads i).painted
