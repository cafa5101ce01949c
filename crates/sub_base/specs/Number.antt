-- Numbers as decimal text, without a sign and without leading zeros, and the values of hexadecimal digits.
use Rattle.std.specs.Prelude.{ℕ, ◌+◌, ◌-◌, ◌*◌, ◌==◌, nat_le, nat_lt, Bool, ◌&&◌, not, slice_index, if◌then◌else◌, List, [], ◌∷◌, length, Option, Some, None, option_and_then}
use Rattle.std.specs.List.{list_all}

-- the byte is a decimal digit
abbrev pub is_digit : ℕ → Bool
is_digit byte = nat_le 48 byte && nat_le byte 57

-- the number that the digits before make with these digits
abbrev pub value_from : ℕ → List ℕ → ℕ
value_from before [] = before
value_from before (digit ∷ digits) = value_from (10 * before + (digit - 48)) digits

-- a zero stands first, and something follows it
abbrev pub has_leading_zero : List ℕ → Bool
has_leading_zero text = nat_lt 1 (length text) && (slice_index text 0 == 48)

-- one to that many digits, the first of several not 0
abbrev pub is_number : ℕ → List ℕ → Bool
is_number most text =
    nat_lt 0 (length text) && nat_le (length text) most && list_all is_digit text && not (has_leading_zero text)

-- the number that the text is, of at most that many digits
abbrev pub number_of : ℕ → List ℕ → Option ℕ
number_of most text = if is_number most text then Some (value_from 0 text) else None

-- the number, where it lies in that range
abbrev pub in_range : ℕ → ℕ → ℕ → Option ℕ
in_range least most number = if nat_le least number && nat_le number most then Some number else None

-- the number that the text is, of at most eleven digits, where it lies in that range
abbrev pub number_in : ℕ → ℕ → List ℕ → Option ℕ
number_in least most text = option_and_then (in_range least most) (number_of 11 text)

-- the value of a hexadecimal digit, in capital or small letters
abbrev pub hex_value : ℕ → Option ℕ
hex_value digit =
    if nat_le 48 digit && nat_le digit 57 then Some (digit - 48)
    else if nat_le 65 digit && nat_le digit 70 then Some (digit - 55)
    else if nat_le 97 digit && nat_le digit 102 then Some (digit - 87)
    else None
