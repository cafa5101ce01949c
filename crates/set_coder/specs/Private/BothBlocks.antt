use Rattle.std.specs.Prelude.{◌≡◌, ℕ, List, ◌++◌, length}
use Rattle.sub_base.specs.Picture.{Picture}
use Rattle.sub_base.specs.declared.depth.Depth.{Depth}
use Rattle.stream_syntax.specs.FieldBlocks.{AreFieldBlocks, DrawsPicture}

-- the blocks of a picture's two fields, one after the other: where the first ends, and what they draw
pub record AreBothBlocks (picture : Picture) (region : Depth) (blocks : List ℕ) (end : ℕ) : Type 0 where
  pub written : (top : List ℕ) × (bottom : List ℕ) × (blocks ≡ top ++ bottom) × (end ≡ length top)
      × AreFieldBlocks picture region top bottom
  pub drawn : (top : List ℕ) × (bottom : List ℕ) × (blocks ≡ top ++ bottom) × (end ≡ length top)
      × DrawsPicture picture region top bottom
