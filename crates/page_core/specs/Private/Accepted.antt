-- A kept set up to the tests by its epoch.
use Rattle.std.specs.Prelude.{◌≡◌, ◌-◌, ℕ, List, [], ◌∷◌, Some, Result, Ok, Err}
use Rattle.sub_base.specs.declared.profile.Profile.{Profile}
use Rattle.decoder_model.specs.Contents.{page_in_set}
use Rattle.decoder_model.specs.Faults.{contents_in}
use Rattle.decoder_model.specs.Kept.{epoch_of}
use Rattle.decoder_model.specs.Readings.{Content, Reading}
use Rattle.decoder_model.specs.Sets.{Delivery, whole}
use Rattle.decoder_model.specs.Verdict.{sets_since, verdict_in_epoch, verdict_on_kept}
use Rattle.decoder_model.specs.Nodes.{pixels_used}
use Rattle.decoder_model.specs.Taken.{segments_of, taken_of}
use Rattle.decoder_model.specs.declared.set_end.SetEnd.{SetEnd}
use Rattle.decoder_model.specs.declared.set_end.SetEnd.TheVariants.{Shown, Waiting, Broken, NotLater}
use Rattle.segments.specs.Contents.{page_value}
use Rattle.page_core.specs.Private.Epochs.{IsStart}
use Rattle.page_core.specs.Memory.{HoldsSegments, Memory, IsMemoryAfter}
use Rattle.page_core.specs.Private.Seen.{IsFound}
use Rattle.page_core.specs.Private.Sound.{IsSound}
use Rattle.page_core.specs.declared.epoch.Start.{Start}
use Rattle.page_core.specs.declared.epoch.Start.TheVariants as start
use Rattle.page_core.specs.declared.taking.Accepted.{Accepted}

-- a set is one of an epoch, with this page: the verdict on it is that of the tests by the epoch
pub record IsOfEpoch (profile : Profile) (sets : List (List Content)) (readings : List Reading) (bytes : List ℕ)
    (accepted : Accepted) : Type 0 where
  pub found : IsFound (contents_in readings) accepted.found
  pub sound : IsSound (contents_in readings) bytes
  pub page : page_in_set (contents_in readings) ≡ Some (page_value accepted.page)
  pub start : IsStart sets (contents_in readings) accepted.start
  pub verdict : verdict_on_kept profile sets readings
      ≡ verdict_in_epoch profile (page_value accepted.page) (epoch_of (contents_in readings ∷ sets))

-- a kept set is one of an epoch, or this is the verdict on it
abbrev pub IsAccepted : Profile → List (List Content) → List Reading → List ℕ → Result Accepted SetEnd
    → Type 0
IsAccepted profile sets readings bytes (Ok accepted) = IsOfEpoch profile sets readings bytes accepted
IsAccepted profile sets readings bytes (Err end) = verdict_on_kept profile sets readings ≡ end

-- a verdict that is known before the epoch is looked at: the set waits, or is broken
abbrev pub IsEarly : SetEnd → Type 0
IsEarly Shown = ⊥
IsEarly Waiting = Unit {0}
IsEarly (Broken fault) = Unit {0}
IsEarly (NotLater last) = ⊥

-- the memory has what the sets of an epoch before a set give, and these leave as many bytes of pixels free
pub record IsBefore (before : List (List Content)) (memory : Memory) : Type 0 where
  pub holds : HoldsSegments (segments_of before) memory
  pub free : memory.store.free ≡ memory.profile.pixels - pixels_used (taken_of (segments_of before))

-- the epoch with the set, and the memory has what its sets before the set give; a set that begins none leaves nothing
-- to say
abbrev pub IsBegun : List (List Content) → List Content → Start → Memory → Type 0
IsBegun sets set start.Waits memory = Unit {0}
IsBegun sets set start.Begins memory = (epoch_of (set ∷ sets) ≡ Some (set ∷ [])) × IsBefore [] memory
IsBegun sets set start.GoesOn memory =
    (before : List (List Content)) × (epoch_of (set ∷ sets) ≡ Some (set ∷ before)) × IsBefore before memory

-- a kept set behind a past is taken up to the tests by its epoch: it is one of an epoch, of which the memory has the
-- sets before it, or this is the verdict on it, and the memory stands for the past with it
abbrev pub IsTakenEarly : Memory → List (Delivery Reading) → ℕ → ℕ → List Reading → List ℕ → Memory
    → Result Accepted SetEnd → Type 0
IsTakenEarly old past pts size readings bytes new (Ok accepted) =
    IsOfEpoch old.profile (sets_since old.profile old.anchor past) readings bytes accepted
    × IsBegun (sets_since old.profile old.anchor past) (contents_in readings) accepted.start new
IsTakenEarly old past pts size readings bytes new (Err end) =
    IsMemoryAfter (whole pts size readings ∷ past) new
    × (verdict_on_kept old.profile (sets_since old.profile old.anchor past) readings ≡ end) × IsEarly end
