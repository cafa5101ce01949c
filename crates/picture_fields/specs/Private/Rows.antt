-- Rows of a picture, and the room that their bytes want.
use Rattle.std.specs.Prelude.{[], ◌∷◌, ◌*◌, ◌+◌, ℕ, ◌<◌, ◌≤◌, List, length, All}
use Rattle.sub_base.specs.declared.depth.Depth.{Depth}
use Rattle.sub_base.specs.Depth.{code_count}

-- a row of codes of a depth, no longer than a row can be
pub record IsRowOf (depth : Depth) (row : List ℕ) : Type 0 where
  pub short : length row ≤ 65535
  pub each : All (λ code. code < code_count depth) row

-- rows of codes of a depth, none longer than a row can be
abbrev pub AreRows : Depth → List (List ℕ) → Type 0
AreRows depth rows = All (IsRowOf depth) rows

-- twice the most bytes that the sub-blocks of rows have: one and a half a pixel, and five a row
abbrev pub room_of : List (List ℕ) → ℕ
room_of [] = 0
room_of (row ∷ rows) = 3 * length row + 10 + room_of rows
