-- The objects of a set as they are collected and found.
use Rattle.std.specs.Prelude.{◌≡◌, ℕ, ◌+◌, ◌<◌, ◌≤◌, Bool, List, [], ◌∷◌, ◌++◌, length, drop, take, slice_index_or, Option, Some, None}
use Rattle.std.specs.List.{AllZip}
use Rattle.sub_base.specs.Picture.{Picture}
use Rattle.stream_syntax.specs.Segments.{SegmentValue}
use Rattle.cue_list.specs.declared.epoch.Epoch.{Epoch}
use Rattle.page_epoch.specs.Sendable.{IsSendableIn}
use Rattle.set_coder.specs.SetSegments.{IsObjectOf, object_segment}
use Rattle.set_coder.specs.Usable.{IsUsable}
use Rattle.page_pair.specs.PairSets.{CueObject, IsSide, Side, at_cue, before_cue, behind_cue, first_and_rest, shared_objects}

-- the object as the compiler sends it: with the place of its cue as its number
abbrev pub by_cue : CueObject → SegmentValue
by_cue object = object_segment object.cue object.see_through object.top object.bottom

-- the object draws the picture of the cue at that place
abbrev pub IsAt : List Picture → Epoch → ℕ → CueObject → Type 0
IsAt pictures epoch place object = (object.cue ≡ place) × IsObjectOf pictures epoch place (by_cue object)

-- an object for each cue, in order
abbrev pub AreAt : List Picture → Epoch → List ℕ → List CueObject → Type 0
AreAt pictures epoch places objects = AllZip (IsAt pictures epoch) places objects

-- a set of a plan with its epoch and its objects, whose numbers fit their fields
pub record IsReady (side : Side) : Type 0 where
  pub is_side : IsSide side
  pub usable : IsUsable side.epoch
  pub carried : IsSendableIn side.epoch side.set

-- the first object that passes a test was found at this place, or none was
abbrev pub WasFound : (CueObject → Bool) → List CueObject → Option ℕ → Type 0
WasFound test objects None = first_and_rest test objects ≡ None
WasFound test objects (Some at) =
    (at < length objects)
    × ((d : CueObject) → first_and_rest test objects ≡ Some ((slice_index_or objects at d).cue, drop (at + 1) objects))

-- the first object of a cue stands at this place, or there is none
abbrev pub IsPlaceOf : ℕ → List CueObject → Option ℕ → Type 0
IsPlaceOf cue objects None =
    (before_cue cue objects ≡ objects) × (at_cue cue objects ≡ []) × (behind_cue cue objects ≡ [])
IsPlaceOf cue objects (Some at) =
    (at < length objects) × (before_cue cue objects ≡ take at objects)
    × (at_cue cue objects ≡ take 1 (drop at objects)) × (behind_cue cue objects ≡ drop 1 (drop at objects))

-- an object was shared with one of these or not: with these pairs behind those before it, and these objects left
pub record Shares (object : CueObject) (others : List CueObject) (old new : List (ℕ × ℕ))
    (left : List CueObject) : Type 0 where
  pub more : List (ℕ × ℕ)
  pub few : length more ≤ 1
  pub pushed : new ≡ old ++ more
  pub goes_on : (two : List CueObject) → shared_objects others (object ∷ two) ≡ more ++ shared_objects left two
