-- What the first byte of sub-blocks says of them.
use Rattle.std.specs.Prelude.{◌≡◌, ℕ, List, ◌∷◌, ◌++◌, length, Option, Some, None}
use Rattle.sub_base.specs.declared.depth.Depth.{Depth}
use Rattle.stream_syntax.specs.PixelCodes.{Code, IsString}
use Rattle.stream_syntax.specs.PixelBlocks.{Part, string, table, line_end, entries_of, table_size, IsNoDeeper, AreParts}
use Rattle.pixel_codes.specs.declared.part.Head.{Head}
use Rattle.pixel_codes.specs.declared.part.Head.TheVariants.{PixelString, Table, LineEnd}
use Rattle.pixel_codes.specs.Heads.{head_of}

-- bytes begin with the type byte of a sub-block, behind which this body stands
abbrev pub Begins : Head → List ℕ → List ℕ → Type 0
Begins head bytes body = (first : ℕ) × (bytes ≡ first ∷ body) × (head_of first ≡ Some head)

-- the sub-blocks whose bytes are a type byte, by what that says, and a body
abbrev pub AreBegun : Depth → Option Head → List Part → List ℕ → Type 0
AreBegun region None parts body = ⊥
AreBegun region (Some (PixelString depth)) parts body =
    (codes : List Code) × (left : List Part) × (front : List ℕ) × (rest : List ℕ)
    × (parts ≡ string depth codes ∷ left) × (body ≡ front ++ rest) × IsNoDeeper depth region
    × IsString depth codes front × AreParts region left rest
AreBegun region (Some (Table kind)) parts body =
    (left : List Part) × (front : List ℕ) × (rest : List ℕ) × (parts ≡ table kind (entries_of kind front) ∷ left)
    × (body ≡ front ++ rest) × (length front ≡ table_size kind) × AreParts region left rest
AreBegun region (Some LineEnd) parts body = (left : List Part) × (parts ≡ line_end ∷ left) × AreParts region left body
