-- A display set of a plan as it is read, with names of its own for its objects.
use Rattle.std.proofs.Common.{◌≡◌, ℕ, List, [], ◌∷◌, ◌++◌, map, None, refl}
use Rattle.std.specs.Prelude.{All}
use Rattle.std.specs.List.{AllZip}
use Rattle.std.specs.List.Sorted.{IsPermutation}
use Rattle.std.proofs.lemmas.List.Elements.{All-cons}
use Rattle.sub_base.specs.Picture.{Picture}
use Rattle.stream_syntax.specs.Segments.{SegmentValue, of_object, end_of_set, Object}
use Rattle.cue_list.specs.declared.epoch.Epoch.{Epoch}
use Rattle.cue_list.specs.declared.script.Script.{Script}
use Rattle.page_epoch.proofs.ListLaws.{All-none}
use Rattle.page_epoch.specs.declared.planned_set.PlannedSet.{PlannedSet}
use Rattle.page_epoch.specs.declared.planned_set.SentClut.{SentClut}
use Rattle.set_coder.specs.SetSegments.{picture_of_cue, depth_of_cue}
use Rattle.decoder_model.specs.Faults.{too_deep_at}
use Rattle.decoder_model.specs.Readings.{Content}
use Rattle.decoder_model.proofs.DrawnPictures.{FieldsDraw}
use Rattle.shown_plan.specs.NamedSets.{Names, AreNames, named_value, named_leading}

-- a segment that is no object
abbrev pub plain : SegmentValue → Content
plain of_value = record { value = of_value; top = []; bottom = [] }

-- the object of the cue at a place, which draws the cue's picture and is not too deep for the cue's region
pub record IsDrawnObject (names : Names) (pictures : List Picture) (epoch : Epoch) (place : ℕ)
    (content : Content) : Type 0 where
  pub top_bytes : List ℕ
  pub bottom_bytes : List ℕ
  pub value_is : content.value ≡ of_object (named_value names epoch place top_bytes bottom_bytes)
  pub draws : FieldsDraw (depth_of_cue epoch place) content.top content.bottom (picture_of_cue pictures epoch place)
  pub top_depth : too_deep_at (depth_of_cue epoch place) content.top ≡ None
  pub bottom_depth : too_deep_at (depth_of_cue epoch place) content.bottom ≡ None

-- the contents of a set of an epoch, with the set's own names, and its CLUTs in any order
pub record IsReadSet (script : Script) (epoch : Epoch) (set : PlannedSet) (contents : List Content) : Type 0 where
  pub names : Names
  pub apart : AreNames names set.cues
  pub cluts : List SentClut
  pub permuted : IsPermutation set.cluts cluts
  pub objects : List Content
  pub drawn : AllZip (IsDrawnObject names script.pictures epoch) set.cues objects
  pub are : contents ≡ map plain (named_leading names script epoch set cluts) ++ (objects ++ plain end_of_set ∷ [])

-- ---- objects

-- the object that a drawn one is
abbrev pub drawn_value : {names : Names} {pictures : List Picture} {epoch : Epoch} {place : ℕ} {content : Content}
    → IsDrawnObject names pictures epoch place content → Object
drawn_value {names = names} {epoch = epoch} {place = place} drawn =
    named_value names epoch place drawn.top_bytes drawn.bottom_bytes

-- an object of version 0
pub record IsObject (content : Content) : Type 0 where
  pub object : Object
  pub is : content.value ≡ of_object object
  pub version : object.version ≡ 0

-- what is drawn of cues are objects of version 0
pub are_objects : (names : Names) (pictures : List Picture) (epoch : Epoch) (cues : List ℕ) (objects : List Content)
    → AllZip (IsDrawnObject names pictures epoch) cues objects → All IsObject objects
are_objects names pictures epoch [] [] drawn = All-none _
are_objects names pictures epoch [] (o ∷ objects) drawn = absurd drawn
are_objects names pictures epoch (place ∷ cues) [] drawn = absurd drawn
are_objects names pictures epoch (place ∷ cues) (o ∷ objects) drawn =
    All-cons IsObject o objects (record { object = drawn_value drawn.0; is = drawn.0.value_is; version = refl })
    (are_objects names pictures epoch cues objects drawn.1)

pub objects_of : {script : Script} {epoch : Epoch} {set : PlannedSet} {contents : List Content}
    (is : IsReadSet script epoch set contents) → All IsObject is.objects
objects_of {script = script} {epoch = epoch} {set = set} is =
    are_objects is.names script.pictures epoch set.cues is.objects is.drawn
