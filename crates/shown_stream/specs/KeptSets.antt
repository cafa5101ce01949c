-- The display sets of a plan that a receiver gets whole: none is broken.
use Rattle.std.specs.Prelude.{◌≡◌, ℕ, ◌≤◌, ◌⊎◌, List, ◌∷◌, ◌++◌, Option, Some, None}
use Rattle.sub_base.specs.declared.profile.Profile.{Profile}
use Rattle.page_epoch.specs.declared.planned_set.PlannedSet.{PlannedSet}
use Rattle.decoder_model.specs.Kept.{lifted_time}
use Rattle.decoder_model.specs.Readings.{Reading}
use Rattle.decoder_model.specs.Sets.{Delivery}
use Rattle.decoder_model.specs.Streams.{SentSet}
use Rattle.decoder_model.specs.Verdict.{verdict_of}
use Rattle.decoder_model.specs.declared.set_end.SetEnd.TheVariants.{Shown, Waiting}

-- a time is not before that of the entry set
abbrev pub IsFromEntry : Option SentSet → ℕ → Type 0
IsFromEntry None time = ⊥
IsFromEntry (Some entry) time = entry.time ≤ time

-- among the sets that a receiver has got, the latest first, is this set of the plan, at its own time: it is shown where
-- its time is one of those that are asked for, and else it is shown or waits
pub record IsKept (profile : Profile) (anchor : ℕ) (IsShownAt : ℕ → Type 0) (past : List (Delivery Reading))
    (set : PlannedSet) : Type 0 where
  pub later : List (Delivery Reading)
  pub delivery : Delivery Reading
  pub before : List (Delivery Reading)
  pub placed : past ≡ later ++ delivery ∷ before
  pub lifted : lifted_time anchor before delivery ≡ Some set.pts
  pub shown : IsShownAt set.pts → verdict_of profile anchor before delivery ≡ Some Shown
  pub kept : (verdict_of profile anchor before delivery ≡ Some Shown)
      ⊎ (verdict_of profile anchor before delivery ≡ Some Waiting)
