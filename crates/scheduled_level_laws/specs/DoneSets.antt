-- When the display sets of a receiver are done, by what happened, the latest first.
use Rattle.std.specs.Prelude.{◌≡◌, ℕ, ◌≤◌, ⊤, List, [], ◌∷◌, Some, slice_get}
use Rattle.sub_base.specs.declared.pace.Pace.{Pace}
use Rattle.buffer_model.specs.Calls.{Call, Arrived, SetWhole, Dropped, done_of}

-- a set: its presentation time, and the tick at which it is done
pub record DoneSet : Type 0 where
  pub time : ℕ
  pub done : ℕ

-- the sets that are whole, the latest first
abbrev pub done_sets : Pace → List Call → List DoneSet
done_sets pace [] = []
done_sets pace (Arrived slot bytes ∷ past) = done_sets pace past
done_sets pace (SetWhole load ∷ past) =
    record { time = load.pts; done = done_of pace load past } ∷ done_sets pace past
done_sets pace (Dropped ∷ past) = done_sets pace past

-- from the latest on, these are sets of the same times as others, and each is done no later than the other
abbrev pub AreDoneNoLater : List DoneSet → List DoneSet → Type 0
AreDoneNoLater [] others = ⊤
AreDoneNoLater (set ∷ sets) [] = ⊥
AreDoneNoLater (set ∷ sets) (other ∷ others) =
    (set.time ≡ other.time) × (set.done ≤ other.done) × AreDoneNoLater sets others

-- among the sets is one of that time, and it is done by then
pub record IsDecodedBy (sets : List DoneSet) (time : ℕ) : Type 0 where
  pub place : ℕ
  pub set : DoneSet
  pub found : slice_get sets place ≡ Some set
  pub shown : set.time ≡ time
  pub in_time : set.done ≤ time
