-- What lines of text are made of.
use Rattle.std.specs.Prelude.{ℕ, ◌+◌, ◌/◌, ◌%◌, nat_lt, if◌then◌else◌, List, [], ◌∷◌, ◌++◌, codes}
use Rattle.std.specs.Fmt.{decimal}

-- the line feed
abbrev pub line_end : List ℕ
line_end = 10 ∷ []

-- the hexadecimal digit of a number below 16, in capitals
abbrev pub hex_digit : ℕ → ℕ
hex_digit n = if nat_lt n 10 then 48 + n else 55 + n

-- the two hexadecimal digits of a byte, the upper one first
abbrev pub two_hex : ℕ → List ℕ
two_hex byte = hex_digit (byte / 16) ∷ hex_digit (byte % 16) ∷ []

-- a space and a number
abbrev pub then_number : ℕ → List ℕ
then_number n = codes " " ++ decimal n
