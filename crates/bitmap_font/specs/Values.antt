-- What the words of a line say; the first of them stands at place 0.
use Rattle.std.specs.Prelude.{◌==◌, ◌&&◌, ◌||◌, if◌then◌else◌, ℕ, ◌+◌, ◌*◌, ◌≤◌, ℤ, pos, negsuc, nat_abs, Bool, List, length, map, Option, Some, None, is_some, nat_lt, nat_le, slice_index, option_map, option_and_then, unwrap_or}
use Rattle.std.specs.List.{list_all, range_with_len}
use Rattle.sub_base.specs.Number.{hex_value}
use Rattle.bitmap_font.specs.declared.bounds.BoundingBox.{BoundingBox}
use Rattle.bitmap_font.specs.Font.{row_bytes, IsOffset}
use Rattle.bitmap_font.specs.Words.{number_within}

-- a box: its sides, from the least to 256, and its offsets
abbrev pub box_of : ℕ → List (List ℕ) → Option BoundingBox
box_of least line_words =
    option_and_then (λ width.
    option_and_then (λ height.
    option_and_then (λ left.
    option_map (λ bottom. record { width = nat_abs width; height = nat_abs height; left = left; bottom = bottom })
    (number_within line_words 4 (negsuc 255) (pos 256)))
    (number_within line_words 3 (negsuc 255) (pos 256)))
    (number_within line_words 2 (pos least) (pos 256)))
    (number_within line_words 1 (pos least) (pos 256))

-- the ranges of a box
pub record IsBox (least : ℕ) (bounds : BoundingBox) : Type 0 where
  pub wide : (least ≤ bounds.width) × (bounds.width ≤ 256)
  pub high : (least ≤ bounds.height) × (bounds.height ≤ 256)
  pub left : IsOffset bounds.left
  pub bottom : IsOffset bounds.bottom

-- how far a glyph moves the pen
abbrev pub advance_of_words : List (List ℕ) → Option ℕ
advance_of_words line_words = option_map nat_abs (number_within line_words 1 (pos 0) (pos 255))

-- a Unicode scalar value
abbrev pub is_scalar : ℕ → Bool
is_scalar number = nat_lt number 55296 || (nat_le 57344 number && nat_lt number 1114112)

-- the character of a number, or none for -1
abbrev pub encoding_from : ℤ → Option (Option ℕ)
encoding_from (pos number) = if is_scalar number then Some (Some number) else None
encoding_from (negsuc _) = Some None

-- what the words of a line say of a glyph's encoding: a character, or none for -1
abbrev pub encoding_of : List (List ℕ) → Option (Option ℕ)
encoding_of line_words = option_and_then encoding_from (number_within line_words 1 (negsuc 0) (pos 1114111))

-- a row of a bitmap: two hexadecimal digits a byte
abbrev pub is_row : ℕ → List ℕ → Bool
is_row width line = (length line == 2 * row_bytes width) && list_all (λ byte. is_some (hex_value byte)) line

-- the bytes that the first 2n digits of a line spell
abbrev pub bytes_from : List ℕ → ℕ → List ℕ
bytes_from line n =
    map (λ k. unwrap_or (hex_value (slice_index line (2 * k))) 0 * 16
    + unwrap_or (hex_value (slice_index line (2 * k + 1))) 0)
    (range_with_len 0 n)

-- the bytes of a row of a bitmap of that width
abbrev pub bytes_of_row : ℕ → List ℕ → List ℕ
bytes_of_row width line = bytes_from line (row_bytes width)
