use Rattle.std.specs.Prelude.{◌≡◌, ◌==◌, ◌&&◌, if◌then◌else◌, ℕ, ◌+◌, ◌<◌, ◌≤◌, ◌⊎◌, Bool, List, length, slice_index}
use Rattle.sub_base.specs.Depth.{code_count}
use Rattle.sub_base.specs.Picture.{Picture, code_at}

-- `over` lies within `under` with its upper left corner at column x of row y, and is not deeper
pub record LiesWithin (over under : Picture) (x y : ℕ) : Type 0 where
  pub across : x + over.width ≤ under.width
  pub down : y + over.height ≤ under.height
  pub not_deeper : code_count over.depth ≤ code_count under.depth

-- what a code of a picture makes of the code beneath it: code 1 of a picture that is seen through leaves it
abbrev pub code_over : Bool → ℕ → ℕ → ℕ
code_over see_through beneath code = if see_through && code == 1 then beneath else code

-- `new` is `under` with `over` painted on it at column x of row y
pub record IsPainted (under over : Picture) (x y : ℕ) (see_through : Bool) (new : Picture) : Type 0 where
  pub width : new.width ≡ under.width
  pub height : new.height ≡ under.height
  pub depth : new.depth ≡ under.depth
  pub covered : (column row : ℕ) → column < over.width → row < over.height →
      code_at new (x + column) (y + row)
      ≡ code_over see_through (code_at under (x + column) (y + row)) (code_at over column row)
  pub outside : (column row : ℕ) → column < under.width → row < under.height →
      (column < x) ⊎ (x + over.width ≤ column) ⊎ (row < y) ⊎ (y + over.height ≤ row) →
      code_at new column row ≡ code_at under column row

-- a row of codes was painted on a list of codes, from place `start` on
pub record PaintsRow (row : List ℕ) (start : ℕ) (see_through : Bool) (old new : List ℕ) : Type 0 where
  pub covered : (k : ℕ) → k < length row
      → slice_index new (start + k) ≡ code_over see_through (slice_index old (start + k)) (slice_index row k)
  pub outside : (place : ℕ) → (place < start) ⊎ (start + length row ≤ place)
      → slice_index new place ≡ slice_index old place
