-- Packets that come to a receiver by any course, and not in the slots of a profile alone: in which slot the packet of
-- each place arrives, and at which tick a slot is; and what is told of the sets and levels of packets that come so.
use Rattle.std.specs.Prelude.{◌≡◌, ℕ, Bool, List, map}
use Rattle.buffer_model.specs.Calls.{Call, Arrived, SetWhole, Dropped}
use Rattle.received_level_laws.specs.ToldSets.{AreToldCalls, ToldCall}
use Rattle.decoder_model.specs.Received.{Reception}
use Rattle.sub_base.specs.declared.pace.Pace.{Pace}
use Rattle.check_text.specs.CheckText.{check_text}

-- the slot in which the packet of each place arrives, counted from 0, and the ticks of slots
pub record Course : Type 0 where
  pub slot_of : ℕ → ℕ
  pub pace : Pace

-- a call of a stream of which the packet of each place stands in the slot of that number: it arrives in the slot of its
-- place
abbrev pub in_slots : (ℕ → ℕ) → Call → Call
in_slots slot_of (Arrived place bytes) = Arrived (slot_of place) bytes
in_slots slot_of (SetWhole load) = SetWhole load
in_slots slot_of Dropped = Dropped

-- the same as it is told
abbrev pub one_in_slots : (ℕ → ℕ) → ToldCall → ToldCall
one_in_slots slot_of one = record { call = in_slots slot_of one.call; set = one.set }

-- the same of all that are told
abbrev pub told_in_slots : (ℕ → ℕ) → List ToldCall → List ToldCall
told_in_slots slot_of told = map (one_in_slots slot_of) told

-- the text of the sets and levels of these packets, which come by that course, in such a receiver; the stream ends with
-- the packets or not
pub record IsTextBy (course : Course) (made : Reception) (ended : Bool) (packets : List (List ℕ))
    (text : List ℕ) : Type 0 where
  pub told : List ToldCall
  pub are : AreToldCalls made 0 ended packets told
  pub whole : text ≡ check_text ended course.pace (told_in_slots course.slot_of told)
