-- The slots of a schedule rise.
use Rattle.std.proofs.Common.{◌≡◌, ℕ, zero, suc, ◌+◌, ◌-◌, ◌<◌, ◌≤◌, List, [], ◌∷◌, length, get_or, ◌⊎◌, inl, inr, sym, subst, arith}
use Rattle.std.proofs.lemmas.Bool.{cases_lt}
use Rattle.schedule.specs.Packets.{packets_of, first_packet}
use Rattle.schedule.specs.Slots.{Timetable, IsSchedule}
use Rattle.sub_base.specs.declared.pace.Pace.{Pace}
use Rattle.schedule.proofs.SumLaws.{sum_below-zero, sum_below-suc}
use Rattle.sub_base.specs.declared.load.WriteLoad.{WriteLoad}
use Rattle.slot_stream.proofs.LaidPackets.{IsAhead}

-- the set of a packet, and its place there
pub record PlaceOf (loads : List WriteLoad) (n packet : ℕ) : Type 0 where
  pub set : ℕ
  pub place : ℕ
  pub among : set < n
  pub within : place < packets_of loads set
  pub there : first_packet loads set + place ≡ packet

pub place_of : (loads : List WriteLoad) (n packet : ℕ) → packet < first_packet loads n → PlaceOf loads n packet
place_of loads zero packet h = absurd (omega (arith, sum_below-zero (packets_of loads)))
place_of loads (suc n) packet h = by (cases_lt packet (first_packet loads n)) (place_of loads n packet)
  where
    by : (packet < first_packet loads n) ⊎ (first_packet loads n ≤ packet)
        → (packet < first_packet loads n → PlaceOf loads n packet) → PlaceOf loads (suc n) packet
    by (inl before) onward =
        let found = onward before in
        let below = found.among in
        record { set = found.set; place = found.place; among = omega arith; within = found.within; there = found.there }
    by (inr here) onward =
        record {
          set = n;
          place = packet - first_packet loads n;
          among = omega arith;
          within = omega
              (arith, sum_below-suc (packets_of loads) n);
          there = omega arith;
        }

-- the slot of each packet is above that of the one before
pub rises : (loads : List WriteLoad) (n : ℕ) (pace : Pace) (table : Timetable) → IsSchedule loads n pace table
    → (k : ℕ) → k + 1 < length table.slots → get_or table.slots k 0 < get_or table.slots (k + 1) 0
rises loads n pace table schedule k within =
    let packets = schedule.packets in
    let at = place_of loads n (k + 1) (omega arith) in
    let stands = schedule.stands at.set at.place at.among at.within in
    subst (λ (place : ℕ). get_or table.slots k 0 < get_or table.slots place 0) at.there
    (stands.after k (sym at.there))

ahead : (from slot : ℕ) (slots : List ℕ) → from ≤ slot
    → ((k : ℕ) → k + 1 < length (slot ∷ slots)
    → get_or (slot ∷ slots) k 0 < get_or (slot ∷ slots) (k + 1) 0) → IsAhead from (slot ∷ slots)
ahead from slot [] least h = (least, tt)
ahead from slot (next ∷ slots) least h =
    let first : slot < next = h 0 (omega arith) in
    let later : (k : ℕ) → k + 1 < length (next ∷ slots)
    → get_or (next ∷ slots) k 0 < get_or (next ∷ slots) (k + 1) 0
    = λ k within. let same : suc k + 1 ≡ suc (k + 1) =
    omega arith in subst (λ (place : ℕ). get_or (next ∷ slots) k 0 < get_or (slot ∷ next ∷ slots) place 0)
    same (h (suc k) (omega arith)) in (least, ahead (slot + 1) next slots (omega arith) later)

from_start : (slots : List ℕ) → ((k : ℕ) → k + 1 < length slots → get_or slots k 0 < get_or slots (k + 1) 0)
    → IsAhead 0 slots
from_start [] h = tt
from_start (slot ∷ slots) h = ahead 0 slot slots (omega arith) h

pub slots_rise : (loads : List WriteLoad) (n : ℕ) (pace : Pace) (table : Timetable)
    → IsSchedule loads n pace table → IsAhead 0 table.slots
slots_rise loads n pace table schedule = from_start table.slots (rises loads n pace table schedule)
