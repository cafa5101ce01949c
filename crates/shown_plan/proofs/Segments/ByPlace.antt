-- The numbers that the compiler gives objects, the places of their cues, are names: a set that it sends is one with
-- names.
use Rattle.std.proofs.Common.{ℕ, ◌≤◌, List, [], ◌∷◌, ◌++◌, length, ap, arith}
use Rattle.std.specs.List.{AllZip}
use Rattle.std.proofs.lemmas.List.{length-append}
use Rattle.std.proofs.lemmas.List.Sorted.{IsPermutation-refl}
use Rattle.sub_base.specs.Picture.{Picture}
use Rattle.stream_syntax.specs.Segments.{SegmentValue, end_of_set}
use Rattle.cue_list.specs.declared.epoch.Epoch.{Epoch}
use Rattle.cue_list.specs.declared.script.Script.{Script}
use Rattle.page_epoch.specs.declared.planned_set.PlannedSet.{PlannedSet}
use Rattle.set_coder.specs.SetSegments.{AreObjectsOf, AreSetSegments}
use Rattle.shown_plan.specs.NamedSets.{by_place, AreNames, named_leading, IsNamedObject, AreNamedSegments}

pub are_places : (cues : List ℕ) → AreNames by_place cues
are_places cues first second one two same = same

pub objects_named : (pictures : List Picture) (epoch : Epoch) (cues : List ℕ) (segments : List SegmentValue)
    → AreObjectsOf pictures epoch cues segments → AllZip (IsNamedObject by_place pictures epoch) cues segments
objects_named pictures epoch [] [] objects = tt
objects_named pictures epoch [] (segment ∷ segments) objects = absurd objects
objects_named pictures epoch (place ∷ cues) [] objects = absurd objects
objects_named pictures epoch (place ∷ cues) (segment ∷ segments) objects =
    let one = objects.0 in (
      record { top = one.top; bottom = one.bottom; blocks = one.blocks; drawn = one.drawn; value = one.value },
      objects_named pictures epoch cues segments objects.1,
    )

-- what the compiler sends of a set
abbrev pub set_is_named : (script : Script) (page : ℕ) (set : PlannedSet) (segments : List SegmentValue)
    → AreSetSegments script page set segments → AreNamedSegments script set segments
set_is_named script page set segments are =
    record {
      epoch = are.epoch;
      found = are.found;
      names = by_place;
      apart = are_places set.cues;
      cluts = set.cluts;
      permuted = IsPermutation-refl set.cluts;
      objects = are.objects;
      drawn = objects_named script.pictures are.epoch set.cues are.objects are.drawn;
      whole = are.whole;
    }

-- a set with names has a segment
pub some_segments : {script : Script} {set : PlannedSet} {segments : List SegmentValue}
    → AreNamedSegments script set segments → 1 ≤ length segments
some_segments {script} {set} are =
    omega (
      arith,
      ap length are.whole,
      length-append (named_leading are.names script are.epoch set are.cluts) (are.objects ++ end_of_set ∷ []),
      length-append are.objects (end_of_set ∷ []),
    )
