-- Pixel codes as hexadecimal text.
use Rattle.std.specs.Prelude.{ℕ, ◌+◌, ◌*◌, nat_lt, Bool, is_some, if◌then◌else◌, List, [], ◌∷◌, ◌++◌, Option, Some, None}
use Rattle.sub_base.specs.declared.depth.Depth.{Depth}
use Rattle.sub_base.specs.declared.depth.Depth.TheVariants.{Two, Four, Eight}
use Rattle.sub_base.specs.Number.{hex_value}
use Rattle.std.specs.List.{list_all}
use Rattle.cue_records.specs.Cells.{◌>>=◌}

-- the code of one digit, below the limit
abbrev pub single_code : ℕ → ℕ → Option ℕ
single_code limit digit = hex_value digit >>= λ value. if nat_lt value limit then Some value else None

-- the code of two digits
abbrev pub double_code : ℕ → ℕ → Option ℕ
double_code high low = hex_value high >>= λ h. hex_value low >>= λ l. Some (16 * h + l)

-- a code, and the codes after it
abbrev pub with_code : Option ℕ → Option (List ℕ) → Option (List ℕ)
with_code code more = code >>= λ first. more >>= λ others. Some (first ∷ others)

-- the codes of a text of one digit a code
abbrev pub single_codes : ℕ → List ℕ → Option (List ℕ)
single_codes limit [] = Some []
single_codes limit (digit ∷ text) = with_code (single_code limit digit) (single_codes limit text)

-- the codes of a text of two digits a code
abbrev pub double_codes : List ℕ → Option (List ℕ)
double_codes [] = Some []
double_codes (digit ∷ []) = None
double_codes (high ∷ low ∷ text) = with_code (double_code high low) (double_codes text)

-- the codes of a text: one hexadecimal digit a code, two at 8 bits
abbrev pub codes_of : Depth → List ℕ → Option (List ℕ)
codes_of Two text = single_codes 4 text
codes_of Four text = single_codes 16 text
codes_of Eight text = double_codes text

-- codes that were read, and those of the text after them
abbrev pub after_codes : List ℕ → Option (List ℕ) → Option (List ℕ)
after_codes front more = more >>= λ others. Some (front ++ others)

-- a character is a digit below the limit
abbrev pub has_code : ℕ → ℕ → Bool
has_code limit digit = is_some (single_code limit digit)

-- each character is a digit that a code of the depth may have
abbrev pub are_digits : Depth → List ℕ → Bool
are_digits Two text = list_all (has_code 4) text
are_digits Four text = list_all (has_code 16) text
are_digits Eight text = list_all (has_code 16) text
