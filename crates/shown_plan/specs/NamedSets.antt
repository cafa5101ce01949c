-- A display set of a plan whose objects have numbers of the set's own, in place of the places of their cues, and whose
-- CLUTs stand in any order (EN 300 743, clauses 7.2.3 to 7.2.5).
use Rattle.std.specs.Prelude.{◌≡◌, ℕ, List, [], ◌∷◌, ◌++◌, map, Some, slice_get}
use Rattle.std.specs.List.{AllZip, Contains}
use Rattle.std.specs.List.Sorted.{IsPermutation}
use Rattle.sub_base.specs.Picture.{Picture}
use Rattle.stream_syntax.specs.FieldBlocks.{AreFieldBlocks, DrawsPicture}
use Rattle.stream_syntax.specs.Segments.{SegmentValue, of_object, end_of_set, Object}
use Rattle.stream_syntax.specs.declared.region.Listing.{Listing}
use Rattle.cue_list.specs.declared.epoch.Epoch.{Epoch}
use Rattle.cue_list.specs.declared.script.Script.{Script}
use Rattle.page_epoch.specs.Live.{cue_at}
use Rattle.page_epoch.specs.declared.planned_set.PlannedSet.{PlannedSet}
use Rattle.page_epoch.specs.declared.planned_set.SentClut.{SentClut}
use Rattle.page_epoch.specs.declared.planned_set.SentRegion.{SentRegion}
use Rattle.set_coder.specs.SetSegments.{picture_of_cue, depth_of_cue, display_segments, page_segment, listed_region, clut_segment_of, object_with}

-- the number of the object of a cue, by the cue's place in its epoch
abbrev pub Names : Type 0
Names = ℕ → ℕ

-- the numbers that the compiler gives: the places of the cues
abbrev pub by_place : Names
by_place place = place

-- no two of these cues have one number
abbrev pub AreNames : Names → List ℕ → Type 0
AreNames names cues =
    (first second : ℕ) → Contains cues first → Contains cues second → names first ≡ names second
    → first ≡ second

-- a cue that a region lists: its object has the cue's number, and stands at the cue's place in the region
abbrev pub named_listing : Names → Epoch → ℕ → Listing
named_listing names epoch place =
    record { object = names place; x = (cue_at epoch.cues place).x; y = (cue_at epoch.cues place).y }

-- a region, with the cues that it lists
abbrev pub named_region : Names → Epoch → SentRegion → SegmentValue
named_region names epoch sent = listed_region epoch sent (map (named_listing names epoch) sent.cues)

-- the object of the cue at a place, with these blocks of its two fields
abbrev pub named_value : Names → Epoch → ℕ → List ℕ → List ℕ → Object
named_value names epoch place top bottom =
    object_with (names place) (cue_at epoch.cues place).see_through top bottom

-- the segments of a set before its objects, with its CLUTs in an order
abbrev pub named_leading : Names → Script → Epoch → PlannedSet → List SentClut → List SegmentValue
named_leading names script epoch set cluts =
    display_segments script set.state
    ++ (page_segment script epoch set
    ∷ (map (named_region names epoch) set.regions ++ map (clut_segment_of epoch) cluts))

-- an object of a cue draws the cue's picture, in blocks for the depth of the cue's region
pub record IsNamedObject (names : Names) (pictures : List Picture) (epoch : Epoch) (place : ℕ)
    (segment : SegmentValue) : Type 0 where
  pub top : List ℕ
  pub bottom : List ℕ
  pub blocks : AreFieldBlocks (picture_of_cue pictures epoch place) (depth_of_cue epoch place) top bottom
  pub drawn : DrawsPicture (picture_of_cue pictures epoch place) (depth_of_cue epoch place) top bottom
  pub value : segment ≡ of_object (named_value names epoch place top bottom)

-- The segments of a set of the script, with names that are the set's own: those before the objects, its CLUTs in any
-- order, an object for each cue of the set, and the end of the set.
pub record AreNamedSegments (script : Script) (set : PlannedSet) (segments : List SegmentValue) : Type 0 where
  pub epoch : Epoch
  pub found : slice_get script.epochs set.epoch ≡ Some epoch
  pub names : Names
  pub apart : AreNames names set.cues
  pub cluts : List SentClut
  pub permuted : IsPermutation set.cluts cluts
  pub objects : List SegmentValue
  pub drawn : AllZip (IsNamedObject names script.pictures epoch) set.cues objects
  pub whole : segments ≡ named_leading names script epoch set cluts ++ (objects ++ end_of_set ∷ [])
