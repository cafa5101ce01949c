-- The blocks of a cue's picture by themselves.
use Rattle.std.specs.Prelude.{ℕ, ◌+◌, ◌^◌, ◌≤◌, List, length, take, drop}
use Rattle.stream_syntax.specs.SegmentTests.{AreBlocks}
use Rattle.set_coder.specs.declared.cue_blocks.BlockBytes.{BlockBytes}
use Rattle.set_coder.specs.declared.cue_blocks.BlockBytes.TheVariants.{Kept, Coded}

-- the blocks of the two fields of a picture
pub record TwoBlocks : Type 0 where
  pub top : List ℕ
  pub bottom : List ℕ

-- their bytes, one block after the other
abbrev pub bytes_in : BlockBytes → List ℕ
bytes_in (Kept bytes) = bytes.now
bytes_in (Coded bytes) = bytes.items

-- bytes whose first so many are the top block of an object and whose others are the bottom block; neither has more than
-- 2 to the 32 bytes
pub record AreCueBlocks (top : ℕ) (bytes : List ℕ) : Type 0 where
  pub blocks : AreBlocks (take top bytes) (drop top bytes)
  pub within : top ≤ length bytes
  pub top_short : top ≤ 2 ^ 32
  pub bottom_short : length bytes ≤ top + 2 ^ 32
