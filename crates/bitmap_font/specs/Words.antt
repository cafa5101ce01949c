-- The words of a line, what its first one means, and the numbers that words spell.
use Rattle.std.specs.Prelude.{◌==◌, ◌&&◌, if◌then◌else◌, ℕ, ◌+◌, ℤ, pos, neg_ℤ, Bool, List, [], ◌∷◌, length, Option, Some, None, filter, min, negsuc, nat_lt, int_le, slice_get, slice_index_or, option_and_then, codes, bytes_eq}
use Rattle.std.specs.List.{slice_split, list_all}
use Rattle.sub_base.specs.Number.{is_digit, value_from}
use Rattle.bitmap_font.specs.declared.keyword.Keyword.{Keyword}
use Rattle.bitmap_font.specs.declared.keyword.Keyword.TheVariants.{StartFont, FontBoundingBox, StartProperties, EndProperties, StartChar, Encoding, Dwidth, Bbx, Bitmap, EndChar, EndFont, Other}

-- the words of a line: what stands between its spaces
abbrev pub words : List ℕ → List (List ℕ)
words line = filter (λ word. nat_lt 0 (length word)) (slice_split (λ byte. byte == 32) line)

-- the meaning of a first word
abbrev pub keyword_of_word : List ℕ → Keyword
keyword_of_word word =
    if bytes_eq word (codes "STARTFONT") then StartFont
    else if bytes_eq word (codes "FONTBOUNDINGBOX") then FontBoundingBox
    else if bytes_eq word (codes "STARTPROPERTIES") then StartProperties
    else if bytes_eq word (codes "ENDPROPERTIES") then EndProperties
    else if bytes_eq word (codes "STARTCHAR") then StartChar
    else if bytes_eq word (codes "ENCODING") then Encoding
    else if bytes_eq word (codes "DWIDTH") then Dwidth
    else if bytes_eq word (codes "BBX") then Bbx
    else if bytes_eq word (codes "BITMAP") then Bitmap
    else if bytes_eq word (codes "ENDCHAR") then EndChar
    else if bytes_eq word (codes "ENDFONT") then EndFont
    else Other

-- the meaning of a line's first word, or of no word where the line has none
abbrev pub keyword_of : List ℕ → Keyword
keyword_of line = keyword_of_word (slice_index_or (words line) 0 [])

-- the number that decimal digits spell
abbrev pub value_of : List ℕ → ℕ
value_of digits = value_from 0 digits

-- one or more digits
abbrev pub are_digits : List ℕ → Bool
are_digits digits = nat_lt 0 (length digits) && list_all is_digit digits

-- the number that a word spells: digits, perhaps after a minus sign
abbrev pub number_of : List ℕ → Option ℤ
number_of [] = None
number_of (byte ∷ rest) =
    if byte == 45 then (if are_digits rest then Some (neg_ℤ (pos (value_of rest))) else None)
    else (if are_digits (byte ∷ rest) then Some (pos (value_of (byte ∷ rest))) else None)

-- a number, where it lies between two bounds
abbrev pub within : ℤ → ℤ → ℤ → Option ℤ
within low high number = if int_le low number && int_le number high then Some number else None

-- the number of the word at a place, where it lies between two bounds
abbrev pub number_within : List (List ℕ) → ℕ → ℤ → ℤ → Option ℤ
number_within line_words place low high =
    option_and_then (within low high) (option_and_then number_of (slice_get line_words place))

-- a number, but no more than a bound past all that are allowed
abbrev pub capped : ℤ → ℤ
capped (pos n) = pos (min n 2000000)
capped (negsuc n) = neg_ℤ (pos (min (n + 1) 2000000))
