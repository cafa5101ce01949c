-- The objects of the cues of a set.
use Rattle.std.proofs.Common.{◌≡◌, ◌+◌, ◌<◌, ◌≤◌, ℕ, List, [], ◌∷◌, ◌++◌, length, get_or, map, take, Some, refl, sym, subst}
use Rattle.std.specs.Prelude.{slice_get}
use Rattle.std.proofs.lemmas.List.{take_all}
use Rattle.sub_base.specs.Picture.{Picture}
use Rattle.cue_list.specs.declared.epoch.Epoch.{Epoch}
use Rattle.cue_list.specs.declared.script.Script.{Script}
use Rattle.page_epoch.specs.Sendable.{IsSendableIn}
use Rattle.page_epoch.specs.declared.planned_set.PlannedSet.{PlannedSet}
use Rattle.set_coder.specs.SetSegments.{AreObjectsOf}
use Rattle.set_coder.specs.Usable.{IsUsable}
use Rattle.script_stream.proofs.UnitLaws.{AllZip-more}
use Rattle.page_pair.specs.PairSets.{CueObject}
use Rattle.page_pair.specs.Private.Objects.{AreAt, IsAt, IsReady, by_cue}

-- one object more
pub at_more : (pictures : List Picture) (epoch : Epoch) (cues : List ℕ) (objects new : List CueObject) (i : ℕ)
    (object : CueObject) → i < length cues → AreAt pictures epoch (take i cues) objects
    → new ≡ objects ++ object ∷ [] → IsAt pictures epoch (get_or cues i 0) object
    → AreAt pictures epoch (take (i + 1) cues) new
at_more pictures epoch cues objects new i object inside so_far pushed one =
    subst (AreAt pictures epoch (take (i + 1) cues)) (sym pushed)
    (AllZip-more (IsAt pictures epoch) cues objects i 0 object inside so_far one)

pub at_all : (pictures : List Picture) (epoch : Epoch) (cues : List ℕ) (objects : List CueObject) (i : ℕ)
    → length cues ≤ i → AreAt pictures epoch (take i cues) objects → AreAt pictures epoch cues objects
at_all pictures epoch cues objects i all so_far =
    subst (λ (places : List ℕ). AreAt pictures epoch places objects) (take_all i cues all) so_far

-- they are those of the cues
at_cues : (pictures : List Picture) (epoch : Epoch) (cues : List ℕ) (objects : List CueObject)
    → AreAt pictures epoch cues objects → map (λ (object : CueObject). object.cue) objects ≡ cues
at_cues pictures epoch [] [] all = refl
at_cues pictures epoch [] (object ∷ objects) all = absurd all
at_cues pictures epoch (cue ∷ cues) [] all = absurd all
at_cues pictures epoch (cue ∷ cues) (object ∷ objects) all =
    λ i. all.0.0 i ∷ at_cues pictures epoch cues objects all.1 i

at_objects : (pictures : List Picture) (epoch : Epoch) (cues : List ℕ) (objects : List CueObject)
    → AreAt pictures epoch cues objects → AreObjectsOf pictures epoch cues (map by_cue objects)
at_objects pictures epoch [] [] all = tt
at_objects pictures epoch [] (object ∷ objects) all = absurd all
at_objects pictures epoch (cue ∷ cues) [] all = absurd all
at_objects pictures epoch (cue ∷ cues) (object ∷ objects) all =
    (all.0.1, at_objects pictures epoch cues objects all.1)

-- a set with its epoch and its objects
pub side_ready : (script : Script) (set : PlannedSet) (epoch : Epoch) (objects : List CueObject)
    → slice_get script.epochs set.epoch ≡ Some epoch → IsUsable epoch → IsSendableIn epoch set
    → AreAt script.pictures epoch set.cues objects
    → IsReady (record { script = script; set = set; epoch = epoch; objects = objects })
side_ready script set epoch objects found usable carried all = record {
  is_side = record {
    found = found;
    cues = at_cues script.pictures epoch set.cues objects all;
    coded = at_objects script.pictures epoch set.cues objects all;
  };
  usable = usable;
  carried = carried;
}
