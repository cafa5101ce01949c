-- What the page memory of a receiver holds behind the sets of a plan that it gets whole.
use Rattle.std.specs.Prelude.{◌≡◌, ℕ, List, ◌∷◌, ◌++◌, length, reverse, Some, slice_get}
use Rattle.sub_base.specs.declared.profile.Profile.{Profile}
use Rattle.stream_syntax.specs.Segments.{Page}
use Rattle.cue_list.specs.declared.epoch.Epoch.{Epoch}
use Rattle.cue_list.specs.declared.script.Script.{Script}
use Rattle.page_epoch.specs.States.{seen_of}
use Rattle.page_epoch.specs.declared.planned_set.PlannedSet.{PlannedSet}
use Rattle.decoder_model.specs.Contents.{page_in_set}
use Rattle.decoder_model.specs.Kept.{lifted_time}
use Rattle.decoder_model.specs.Readings.{Content, Reading}
use Rattle.decoder_model.specs.Sets.{Delivery}
use Rattle.decoder_model.specs.Taken.{segments_of, taken_of}
use Rattle.decoder_model.specs.Verdict.{known_epoch}
use Rattle.shown_plan.specs.HoldsScript.{HoldsScript}
use Rattle.shown_plan.specs.WithinNeed.{IsWithinNeed}

-- the sets of a known epoch, the latest first, are those of the epoch of a set of the plan, behind these sets of the
-- plan; with the page of the latest the page memory holds the script, in at most the bytes of regions and the nodes
-- that the plan needs for the set
pub record HoldsSet (script : Script) (earlier : List PlannedSet) (set : PlannedSet)
    (known : List (List Content)) : Type 0 where
  pub epoch : Epoch
  pub found : slice_get script.epochs set.epoch ≡ Some epoch
  pub latest : List Content
  pub older : List (List Content)
  pub are : known ≡ latest ∷ older
  pub page : Page
  pub is_page : page_in_set latest ≡ Some page
  pub holds : HoldsScript script epoch (seen_of epoch.start earlier set.pts) set page (taken_of (segments_of known))
  pub within : IsWithinNeed epoch (seen_of epoch.start earlier set.pts) set known

-- of the sets of a plan some come whole: with each of them that a receiver has got, at the set's time, and whose epoch
-- is known, the page memory holds the script
abbrev pub HoldsWhole : Script → Profile → ℕ → List PlannedSet → (ℕ → PlannedSet → Type 0)
    → List (Delivery Reading)
    → Type 0
HoldsWhole script profile anchor sets ComesWhole past =
    (later before : List (Delivery Reading)) (delivery : Delivery Reading) → past ≡ later ++ delivery ∷ before
    → (front back : List PlannedSet) (set : PlannedSet) → sets ≡ front ++ set ∷ back
    → ComesWhole (length front) set
    → lifted_time anchor before delivery ≡ Some set.pts
    → (known : List (List Content)) → known_epoch profile anchor (delivery ∷ before) ≡ Some known
    → HoldsSet script (reverse front) set known
