-- Where the search for slots stands, between two sets and within one.
use Rattle.std.specs.Prelude.{◌≡◌, ℕ, ◌+◌, ◌-◌, ◌*◌, ◌^◌, ◌<◌, ◌≤◌, List, length, slice_index}
use Rattle.std.specs.List.Sorted.{IsStrictlyIncreasing}
use Rattle.sub_base.specs.declared.load.WriteLoad.{WriteLoad}
use Rattle.sub_base.specs.declared.pace.Pace.{Pace}
use Rattle.sub_base.specs.declared.profile.TheConstants.{LONGEST_STEP}
use Rattle.schedule.specs.declared.place.Search.{Search}
use Rattle.schedule.specs.Private.Safe.{AreDone}
use Rattle.schedule.specs.declared.limits.TheConstants.{SEND_WINDOW}
use Rattle.schedule.specs.Packets.{sum_below, load_of, size_of, payload_of, first_packet}
use Rattle.sub_base.specs.Pace.{tick_of}
use Rattle.schedule.specs.Slots.{slot_of, CanStand}

-- a slot is the first one after all of these
pub record Follows (slots : List ℕ) (slot : ℕ) : Type 0 where
  pub above : (n : ℕ) → n < length slots → slice_index slots n < slot
  pub first : (other : ℕ) → ((n : ℕ) → n + 1 ≡ length slots → slice_index slots n < other)
      → slot ≤ other

-- the first so many packets of set i stand in the least slots in which they can
pub record HaveStood (loads : List WriteLoad) (pace : Pace) (slots dones : List ℕ) (i count : ℕ) : Type 0 where
  pub stands : (k : ℕ) → k < count → CanStand loads pace slots dones i k (slot_of loads slots i k)
  pub least : (k slot : ℕ) → k < count → CanStand loads pace slots dones i k slot
      → slot_of loads slots i k ≤ slot

-- where the search stands once the packets of the first n sets have their slots
pub record IsBetween (loads : List WriteLoad) (pace : Pace) (slots dones : List ℕ) (n : ℕ)
    (search : Search) : Type 0 where
  pub packets : length slots ≡ first_packet loads n
  pub next : Follows slots search.slot
  pub total : search.level + sum_below (size_of loads) search.gone ≡ sum_below (size_of loads) n
  pub level : search.level ≤ pace.coded
  pub gone : AreDone dones search.gone (tick_of pace search.slot)

-- how many packets of the set behind the done ones have their slots
abbrev pub sent_of : List WriteLoad → List ℕ → List ℕ → ℕ
sent_of loads slots dones = length slots - first_packet loads (length dones)

-- where the search stands once k packets of the set behind the done ones have their slots
pub record IsWithin (loads : List WriteLoad) (pace : Pace) (slots dones : List ℕ) (k : ℕ)
    (search : Search) : Type 0 where
  pub packets : length slots ≡ first_packet loads (length dones) + k
  pub rise : IsStrictlyIncreasing slots
  pub above : (n : ℕ) → n < length slots → slice_index slots n < search.slot
  pub first : (other : ℕ) → ((n : ℕ) → n + 1 ≡ length slots → slice_index slots n < other) →
      (load_of loads (length dones)).pts ≤ tick_of pace other + SEND_WINDOW → search.slot ≤ other
  pub last : 0 < k → (n : ℕ) → n + 1 ≡ length slots → search.slot ≡ slice_index slots n + 1
  pub window : (load_of loads (length dones)).pts ≤ tick_of pace search.slot + SEND_WINDOW
  pub total : search.level + sum_below (size_of loads) search.gone
      ≡ sum_below (size_of loads) (length dones) + sum_below (payload_of loads (length dones)) k
  pub level : search.level ≤ pace.coded
  pub gone : AreDone dones search.gone (tick_of pace search.slot)
  pub near : tick_of pace search.slot ≤ 2 ^ 62 + LONGEST_STEP * (k + 1)
  pub stood : HaveStood loads pace slots dones (length dones) k
