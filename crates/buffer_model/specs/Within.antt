-- Pasts in which the buffer holds and every set is in time, and pasts that are told from a later slot on.
use Rattle.std.specs.Prelude.{◌≡◌, ℕ, ◌+◌, ◌≤◌, ⊤, Bool, true, false, List, [], ◌∷◌}
use Rattle.sub_base.specs.Pace.{tick_of}
use Rattle.sub_base.specs.declared.pace.Pace.{Pace}
use Rattle.buffer_model.specs.Calls.{Call, Arrived, SetWhole, Dropped, done_of, level_at}

-- every level is within the buffer, and every set is done by its presentation time
abbrev pub AreWithin : Pace → List Call → Type 0
AreWithin pace [] = ⊤
AreWithin pace (Arrived slot bytes ∷ past) = (level_at pace slot bytes past ≤ pace.coded) × AreWithin pace past
AreWithin pace (SetWhole load ∷ past) = (done_of pace load past ≤ load.pts) × AreWithin pace past
AreWithin pace (Dropped ∷ past) = AreWithin pace past

-- the same in slots that are so many later
abbrev pub moved : ℕ → List Call → List Call
moved by [] = []
moved by (Arrived slot bytes ∷ past) = Arrived (slot + by) bytes ∷ moved by past
moved by (SetWhole load ∷ past) = SetWhole load ∷ moved by past
moved by (Dropped ∷ past) = Dropped ∷ moved by past

-- a pace whose origin is so many slots later
abbrev pub later_by : ℕ → Pace → Pace
later_by by pace = record { origin = tick_of pace by; step = pace.step; coded = pace.coded }

-- a packet has arrived
abbrev pub has_arrived : List Call → Bool
has_arrived [] = false
has_arrived (Arrived slot bytes ∷ past) = true
has_arrived (SetWhole load ∷ past) = has_arrived past
has_arrived (Dropped ∷ past) = has_arrived past

-- each set has a packet before it
abbrev pub AllHeard : List Call → Type 0
AllHeard [] = ⊤
AllHeard (Arrived slot bytes ∷ past) = AllHeard past
AllHeard (SetWhole load ∷ past) = (has_arrived past ≡ true) × AllHeard past
AllHeard (Dropped ∷ past) = AllHeard past
