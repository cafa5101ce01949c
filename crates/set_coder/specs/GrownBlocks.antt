-- Blocks that are kept while a script goes on: further pictures come behind those that are there, and can go again.
use Rattle.std.specs.Prelude.{◌≡◌, ◌≤◌, List, ◌++◌, length, All}
use Rattle.sub_base.specs.Picture.{Picture}
use Rattle.set_coder.specs.declared.coded_picture.CodedPicture.{CodedPicture}
use Rattle.set_coder.specs.declared.coded_picture.KeptBlocks.{KeptBlocks}
use Rattle.set_coder.specs.declared.grown_blocks.BlocksBefore.{BlocksBefore}
use Rattle.set_coder.specs.KeptBlocks.{AreCoded, AreLedTo, FitsLargestBuffer}

-- blocks of these pictures are kept: each is right for the picture of its number, each picture has its slots, these
-- lead to what is kept of it, and no buffer is too small for what is kept
pub record AreBlocksOf (pictures : List Picture) (kept : KeptBlocks) : Type 0 where
  pub coded : AreCoded pictures kept.coded.items
  pub each : length kept.slots.items ≡ length pictures
  pub led : AreLedTo kept.slots.items kept.coded.items
  pub small : All FitsLargestBuffer kept.coded.items

-- what was kept for these pictures is the front of what is kept now, with slots that lead to it still; the mark counts
-- these pictures and the blocks that were kept for them
pub record IsGrownFrom (pictures : List Picture) (now : KeptBlocks) (before : BlocksBefore) : Type 0 where
  pub was : KeptBlocks
  pub blocks : AreBlocksOf pictures was
  pub more : List CodedPicture
  pub front : now.coded.items ≡ was.coded.items ++ more
  pub slots : length pictures ≤ length now.slots.items
  pub led : AreLedTo now.slots.items was.coded.items
  pub pictures_counted : before.pictures ≡ length pictures
  pub blocks_counted : before.blocks ≡ length was.coded.items
