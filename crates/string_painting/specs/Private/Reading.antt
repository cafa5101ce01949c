-- What the readers of a string give: a field of as many bits as the depth has, and the code at a place, with the place
-- after it. Places count fields.
use Rattle.std.specs.Prelude.{ℕ, ◌+◌, ◌-◌, ◌*◌, ◌/◌, ◌==◌, ◌<◌, ◌≤◌, if◌then◌else◌, nat_lt, List, length, Option, Some, None}
use Rattle.sub_base.specs.declared.depth.Depth.{Depth}
use Rattle.sub_base.specs.declared.depth.Depth.TheVariants.{Two, Four, Eight}
use Rattle.sub_base.specs.Depth.{code_count}
use Rattle.string_painting.specs.Codes.{codes_in_byte, packed_code}
use Rattle.code_strings.specs.Reading.{◌>>=◌}
use Rattle.code_strings.specs.declared.token.Token.{Token}
use Rattle.code_strings.specs.declared.token.Token.TheVariants.{Pixels, End}

-- the field at a place, if the bytes have it
unfoldable pub field_at : Depth → List ℕ → ℕ → Option ℕ
field_at depth bytes place =
    if nat_lt (place / codes_in_byte depth) (length bytes) then Some (packed_code depth bytes place) else None

-- a middle run of 2 bit codes, behind its form
unfoldable pub two_middle_at : List ℕ → ℕ → Option (Token × ℕ)
two_middle_at bytes place = do
  high ← field_at Two bytes place
  low ← field_at Two bytes (place + 1)
  code ← field_at Two bytes (place + 2)
  Some (Pixels (high * 4 + low + 12) code, place + 3)

-- a long run of 2 bit codes, behind its form
unfoldable pub two_long_at : List ℕ → ℕ → Option (Token × ℕ)
two_long_at bytes place = do
  first ← field_at Two bytes place
  second ← field_at Two bytes (place + 1)
  third ← field_at Two bytes (place + 2)
  fourth ← field_at Two bytes (place + 3)
  code ← field_at Two bytes (place + 4)
  Some (Pixels (first * 64 + second * 16 + third * 4 + fourth + 29) code, place + 5)

-- a 2 bit code behind four bits 0
unfoldable pub two_far_at : List ℕ → ℕ → Option (Token × ℕ)
two_far_at bytes place = do
  form ← field_at Two bytes place
  if form == 0 then Some (End, place + 1) else (if form == 1 then Some (Pixels 2 0, place + 1) else (if form == 2
      then two_middle_at bytes (place + 1)
      else two_long_at bytes (place + 1)))

-- a code of a 2-bit/pixel_code_string at a place, and the place after it, if the bytes have all of it
unfoldable pub two_at : List ℕ → ℕ → Option (Token × ℕ)
two_at bytes place = do
  first ← field_at Two bytes place
  if first == 0 then (field_at Two bytes (place + 1) >>= λ second.
      if second == 0 then two_far_at bytes (place + 2) else (if second == 1 then Some (Pixels 1 0, place + 2) else
      (field_at Two bytes (place + 2) >>= λ low. field_at Two bytes (place + 3) >>= λ code. Some
      (Pixels ((second - 2) * 4 + low + 3) code, place + 4))))
      else Some (Pixels 1 first, place + 1)

-- a 4 bit code behind four bits 0 and a bit 1, by the three bits behind these
unfoldable pub four_far_at : List ℕ → ℕ → ℕ → Option (Token × ℕ)
four_far_at bytes place form =
    if nat_lt form 4 then (field_at Four bytes place >>= λ code. Some (Pixels (form + 4) code, place + 1)) else
    (if form == 4 then Some (Pixels 1 0, place) else (if form == 5 then Some (Pixels 2 0, place) else
    (field_at Four bytes place >>= λ first. field_at Four bytes (place + 1) >>= λ second.
    if form == 6 then Some (Pixels (first + 9) second, place + 2)
    else (field_at Four bytes (place + 2) >>= λ code. Some
    (Pixels (first * 16 + second + 25) code, place + 3)))))

-- a code of a 4-bit/pixel_code_string at a place, and the place after it, if the bytes have all of it
unfoldable pub four_at : List ℕ → ℕ → Option (Token × ℕ)
four_at bytes place = do
  first ← field_at Four bytes place
  if first == 0 then (field_at Four bytes (place + 1) >>= λ second.
      if second == 0 then Some (End, place + 2)
      else (if nat_lt second 8 then Some (Pixels (second + 2) 0, place + 2) else
      four_far_at bytes (place + 2) (second - 8)))
      else Some (Pixels 1 first, place + 1)

-- a code of an 8-bit/pixel_code_string at a place, and the place after it, if the bytes have all of it
unfoldable pub eight_at : List ℕ → ℕ → Option (Token × ℕ)
eight_at bytes place = do
  first ← field_at Eight bytes place
  if first == 0 then (field_at Eight bytes (place + 1) >>= λ second.
      if second == 0 then Some (End, place + 2) else (if nat_lt second 128 then Some (Pixels second 0, place + 2) else
      (field_at Eight bytes (place + 2) >>= λ code. Some (Pixels (second - 128) code, place + 3))))
      else Some (Pixels 1 first, place + 1)

-- the code of a depth at a place, and the place after it
abbrev pub token_at : Depth → List ℕ → ℕ → Option (Token × ℕ)
token_at Two = two_at
token_at Four = four_at
token_at Eight = eight_at

-- how many pixels a token gives
abbrev pub token_length : Token → ℕ
token_length (Pixels length code) = length
token_length End = 0

-- their code
abbrev pub token_code : Token → ℕ
token_code (Pixels length code) = code
token_code End = 0

-- a token ends behind or at a place and not behind the last field of the bytes, gives no more pixels than a code can,
-- and has a code of the depth
pub record EndsWithin (depth : Depth) (bytes : List ℕ) (place : ℕ) (found : Token × ℕ) : Type 0 where
  pub on : place ≤ found.1
  pub within : found.1 ≤ codes_in_byte depth * length bytes
  pub short : token_length found.0 ≤ 284
  pub narrow : token_code found.0 < code_count depth
