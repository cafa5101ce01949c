-- Blocks that are kept, and the pictures that they are right for.
use Rattle.std.specs.Prelude.{◌≡◌, ℕ, ◌+◌, ◌*◌, ◌<◌, ◌≤◌, List, ◌++◌, length, slice_get, slice_index_or, All, Any, Option, Some}
use Rattle.std.specs.Option.{option_and_then}
use Rattle.sub_base.specs.Picture.{Picture}
use Rattle.sub_base.specs.declared.depth.Depth.{Depth}
use Rattle.sub_base.specs.declared.depth.Depth.TheVariants.{Two, Four, Eight}
use Rattle.stream_syntax.specs.PixelBlocks.{IsNoDeeper}
use Rattle.stream_syntax.specs.FieldBlocks.{AreFieldBlocks, AreFieldSizes, DrawsPicture}
use Rattle.cue_list.specs.declared.epoch.Cue.{Cue}
use Rattle.cue_list.specs.declared.epoch.Epoch.{Epoch}
use Rattle.cue_records.specs.declared.region.Region.{Region}
use Rattle.cue_list.specs.declared.script.Script.{Script}
use Rattle.cue_list.specs.Past.{region_with}
use Rattle.set_coder.specs.declared.coded_picture.CodedPicture.{CodedPicture}
use Rattle.set_coder.specs.declared.coded_picture.Slots.{Slots}
use Rattle.sub_base.specs.declared.profile.TheConstants.{LARGEST_BUFFER}

-- the blocks are those of the picture's two fields for a region of that depth, and draw it there
pub record IsCoded (picture : Picture) (region : Depth) (coded : CodedPicture) : Type 0 where
  pub blocks : (top : List ℕ) × (bottom : List ℕ) × (coded.blocks.items ≡ top ++ bottom)
      × (coded.lengths.top ≡ length top) × (coded.lengths.bottom ≡ length bottom)
      × AreFieldBlocks picture region top bottom
  pub sizes : AreFieldSizes picture region coded.lengths.top coded.lengths.bottom
  pub room : coded.lengths.top + coded.lengths.bottom ≤ 35 + picture.height * (3 * picture.width + 10)
  pub only_sizes : (top bottom : ℕ) → AreFieldSizes picture region top bottom → (coded.lengths.top ≡ top)
      × (coded.lengths.bottom ≡ bottom)
  pub drawn : (top : List ℕ) × (bottom : List ℕ) × (coded.blocks.items ≡ top ++ bottom)
      × (coded.lengths.top ≡ length top) × (coded.lengths.bottom ≡ length bottom)
      × DrawsPicture picture region top bottom

-- each is right for the picture of its number
abbrev pub AreCoded : List Picture → List CodedPicture → Type 0
AreCoded pictures coded =
    All (λ one. (d : Picture) → IsCoded (slice_index_or pictures one.number d) one.region one) coded

-- the picture is no deeper than a region of that depth, and its blocks for it fit into the largest coded data buffer
pub record CanBeKept (picture : Picture) (region : Depth) : Type 0 where
  pub shallow : IsNoDeeper picture.depth region
  pub top : ℕ
  pub bottom : ℕ
  pub sizes : AreFieldSizes picture region top bottom
  pub fits : top + bottom ≤ LARGEST_BUFFER

-- the blocks fit into the largest coded data buffer
abbrev pub FitsLargestBuffer : CodedPicture → Type 0
FitsLargestBuffer coded = coded.lengths.top + coded.lengths.bottom ≤ LARGEST_BUFFER

-- the blocks are those of the picture of that number for a region of that depth
abbrev pub IsOf : ℕ → Depth → CodedPicture → Type 0
IsOf number region coded = (coded.number ≡ number) × (coded.region ≡ region)

-- the picture of that number, where there is one and it can be kept, is kept for a region of that depth
abbrev pub IsPictureKept : List Picture → List CodedPicture → ℕ → Depth → Type 0
IsPictureKept pictures coded number region =
    (picture : Picture) → slice_get pictures number ≡ Some picture → CanBeKept picture region
    → Any (IsOf number region) coded

-- the picture that the cue shows is kept for the depth of the region in which it is shown
abbrev pub IsCueKept : List Picture → List CodedPicture → Epoch → Cue → Type 0
IsCueKept pictures coded epoch cue =
    (region : Region) → region_with cue.region epoch.regions ≡ Some region
    → IsPictureKept pictures coded cue.picture region.depth

-- for each cue of each epoch, the picture that it shows is kept
abbrev pub AreKept : Script → List CodedPicture → Type 0
AreKept script coded =
    All (λ (epoch : Epoch). All (IsCueKept script.pictures coded epoch) epoch.cues) script.epochs

-- ---- how they are found

-- what the slots of a picture say for a region of a depth
abbrev pub place_in : Slots → Depth → Option ℕ
place_in slots Two = slots.two
place_in slots Four = slots.four
place_in slots Eight = slots.eight

-- what the slots of the picture of that number say
abbrev pub place_of : List Slots → ℕ → Depth → Option ℕ
place_of slots number region = option_and_then (λ (one : Slots). place_in one region) (slice_get slots number)

-- the slot of each of the coded pictures leads to it, so that none is kept twice for a depth
abbrev pub AreLedTo : List Slots → List CodedPicture → Type 0
AreLedTo slots coded = (k : ℕ) (d : CodedPicture) → k < length coded
    → place_of slots (slice_index_or coded k d).number (slice_index_or coded k d).region ≡ Some k
