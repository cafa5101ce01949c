use Rattle.std.specs.Prelude.{◌≡◌, ℕ, ◌+◌, ◌-◌, ◌*◌, ◌/◌, ◌%◌, ◌<◌, ◌≤◌, ◌^◌, ◌&&◌, Bool, nat_le, nat_lt, List, length, All, map, take, drop, slice_index}
use Rattle.std.specs.List.{range_with_len}
use Rattle.sub_base.specs.declared.depth.Depth.{Depth}
use Rattle.sub_base.specs.Depth.{code_count}

-- an indexed picture: its sides in pixels, and its pixel codes by rows, from the top and from the left
pub record Picture : Type 0 where
  pub width : ℕ
  pub height : ℕ
  pub depth : Depth
  pub codes : List ℕ

-- the sides are at least 1, and there is one code of the depth for each pixel
pub record IsPicture (picture : Picture) : Type 0 where
  pub wide : (1 ≤ picture.width) × (picture.width < 2 ^ 16)
  pub high : (1 ≤ picture.height) × (picture.height < 2 ^ 16)
  pub full : length picture.codes ≡ picture.width * picture.height
  pub each : All (λ code. code < code_count picture.depth) picture.codes

-- the code in a column of a row, both counted from 0
abbrev pub code_at : Picture → ℕ → ℕ → ℕ
code_at picture column row = slice_index picture.codes (row * picture.width + column)

-- row y: as many codes as the picture is wide, from the row's first place on
abbrev pub row_of : Picture → ℕ → List ℕ
row_of picture y = take picture.width (drop (y * picture.width) picture.codes)

-- a row that the picture can have: as wide as it is, of codes of its depth
pub record IsRow (picture : Picture) (row : List ℕ) : Type 0 where
  pub whole : length row ≡ picture.width
  pub each : All (λ code. code < code_count picture.depth) row

-- all rows, from the top
abbrev pub rows_of : Picture → List (List ℕ)
rows_of picture = map (row_of picture) (range_with_len 0 picture.height)

-- every second row, from row `first` on
abbrev pub every_second_row : Picture → ℕ → List (List ℕ)
every_second_row picture first =
    map (λ k. row_of picture (first + 2 * k)) (range_with_len 0 ((picture.height + 1 - first) / 2))

-- the rows of the top field are 0, 2, 4 and so on (EN 300 743, object data segment)
abbrev pub top_field : Picture → List (List ℕ)
top_field picture = every_second_row picture 0

-- those of the bottom field are 1, 3, 5 and so on
abbrev pub bottom_field : Picture → List (List ℕ)
bottom_field picture = every_second_row picture 1

-- the height is even, and each row 2k is the same as row 2k + 1: the data of one field serve for both
pub record HasEqualFields (picture : Picture) : Type 0 where
  pub even : picture.height % 2 ≡ 0
  pub same : (k : ℕ) → 2 * k + 1 < picture.height → row_of picture (2 * k) ≡ row_of picture (2 * k + 1)

-- the picture of these sides, depth and codes
abbrev pub picture_of : ℕ → ℕ → Depth → List ℕ → Picture
picture_of width height depth codes = record { width = width; height = height; depth = depth; codes = codes }

-- a place lies in a rectangle by its corner and sides
abbrev pub is_inside : (left top width height x y : ℕ) → Bool
is_inside left top width height x y =
    nat_le left x && (nat_lt x (left + width) && (nat_le top y && nat_lt y (top + height)))
