-- The PES packets of sets, as their bytes are kept.
use Rattle.std.specs.Prelude.{◌≡◌, ℕ, List, length, map}
use Rattle.std.specs.List.{AllZip, concat}
use Rattle.cue_list.specs.declared.script.Script.{Script}
use Rattle.page_epoch.specs.declared.planned_set.PlannedSet.{PlannedSet}
use Rattle.set_coder.specs.SetSizes.{AreUnitSizes}
use Rattle.sub_base.specs.declared.load.WriteLoad.{WriteLoad}
use Rattle.shown_stream.specs.Compiled.{AreUnitsOfSets}
use Rattle.sent_sets.specs.SentStream.{AreSizedAs}

-- each set's packets have the lengths of its units
abbrev pub AreSized : Script → List PlannedSet → List (List (List ℕ)) → Type 0
AreSized script sets units = AllZip (λ set set_units. AreUnitSizes script set (map length set_units)) sets units

-- the PES packets of sets were written: those of each set one after the other
pub record AreWritten (script : Script) (page : ℕ) (sets : List PlannedSet) (written : List (List ℕ))
    (units : List (List (List ℕ))) : Type 0 where
  pub carried : AreUnitsOfSets script page sets units
  pub sized : AreSized script sets units
  pub whole : map concat units ≡ written

-- the bytes of each set are cut into units of the lengths that its load says
pub record AreCut (loads : List WriteLoad) (written : List (List ℕ)) (units : List (List (List ℕ))) : Type 0 where
  pub whole : map concat units ≡ written
  pub sized : AreSizedAs loads units
