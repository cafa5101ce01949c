-- Blocks that are kept while more of them are, and the slots that lead to them.
use Rattle.std.specs.Prelude.{◌≡◌, ℕ, ◌+◌, ◌*◌, ◌≤◌, ◌⊎◌, List, ◌++◌, length, Some}
use Rattle.sub_base.specs.Picture.{Picture}
use Rattle.sub_base.specs.declared.depth.Depth.{Depth}
use Rattle.sub_base.specs.declared.depth.Depth.TheVariants.{Two, Four, Eight}
use Rattle.set_coder.specs.declared.coded_picture.CodedPicture.{CodedPicture}
use Rattle.set_coder.specs.declared.coded_picture.KeptBlocks.{KeptBlocks}
use Rattle.set_coder.specs.declared.coded_picture.Slots.{Slots}
use Rattle.stream_syntax.specs.FieldBlocks.{AreFieldSizes}
use Rattle.sub_base.specs.declared.profile.TheConstants.{LARGEST_BUFFER}
use Rattle.set_coder.specs.KeptBlocks.{AreLedTo}

-- what was kept is the front of what is kept now
abbrev pub StaysInFront : List CodedPicture → List CodedPicture → Type 0
StaysInFront old new = (more : List CodedPicture) × (new ≡ old ++ more)

-- the slots with another place for regions of a depth
abbrev pub with_place : Slots → Depth → ℕ → Slots
with_place slots Two place = record slots { two = Some place }
with_place slots Four place = record slots { four = Some place }
with_place slots Eight place = record slots { eight = Some place }

-- the blocks of a picture for a region of that depth fit into the largest coded data buffer: they do by the picture's
-- sides, or whatever sizes its fields have are no more
abbrev pub FitsBuffer : Picture → Depth → Type 0
FitsBuffer picture region = (70 + picture.height * (3 * picture.width + 10) ≤ 2 * LARGEST_BUFFER)
    ⊎ ((top bottom : ℕ) → AreFieldSizes picture region top bottom → top + bottom ≤ LARGEST_BUFFER)

-- what was kept before any further picture is the front of what is kept now, which slots lead to, and no slots are gone
pub record HasGrown (old new : KeptBlocks) : Type 0 where
  pub front : StaysInFront old.coded.items new.coded.items
  pub led : AreLedTo new.slots.items new.coded.items
  pub slots : length old.slots.items ≤ length new.slots.items
