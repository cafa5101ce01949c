-- What the readers of a string give: a field of bits, and the code at a place, with the place after it.
use Rattle.std.specs.Prelude.{ℕ, ◌+◌, ◌-◌, ◌*◌, ◌==◌, if◌then◌else◌, nat_lt, List, length, take, drop, Option, Some, None}
use Rattle.sub_base.specs.declared.depth.Depth.{Depth}
use Rattle.sub_base.specs.declared.depth.Depth.TheVariants.{Two, Four, Eight}
use Rattle.stream_syntax.specs.Fields.{number_of}
use Rattle.code_strings.specs.declared.token.Token.{Token}
use Rattle.code_strings.specs.declared.token.Token.TheVariants.{Pixels, End}

-- a further reading where the first gave something
infixl 10 ◌>>=◌
abbrev pub ◌>>=◌ : {A B : Type 0} → Option A → (A → Option B) → Option B
None >>= f = None
(Some x) >>= f = f x

-- the number in so many bits from a place on
unfoldable pub field_at : List ℕ → ℕ → ℕ → Option ℕ
field_at xs place width =
    if nat_lt (length xs) (place + width) then None else Some (number_of (take width (drop place xs)))

-- a 2 bit code behind four bits 0
unfoldable pub two_long_at : List ℕ → ℕ → Option (Token × ℕ)
two_long_at xs place = do
  form ← field_at xs place 2
  if form == 0 then Some (End, place + 2) else (if form == 1 then Some (Pixels 2 0, place + 2) else (if form == 2
      then (field_at xs (place + 2) 4 >>= λ count. field_at xs (place + 6) 2 >>= λ code. Some
      (Pixels (count + 12) code, place + 8))
      else (field_at xs (place + 2) 8 >>= λ count. field_at xs (place + 10) 2 >>= λ code. Some
      (Pixels (count + 29) code, place + 12))))

-- a 2 bit code at a place
unfoldable pub two_at : List ℕ → ℕ → Option (Token × ℕ)
two_at xs place = do
  first ← field_at xs place 2
  if first == 0 then (field_at xs (place + 2) 2 >>= λ second.
      if second == 0 then two_long_at xs (place + 4) else (if second == 1 then Some (Pixels 1 0, place + 4) else
      (field_at xs (place + 4) 2 >>= λ low. field_at xs (place + 6) 2 >>= λ code. Some
      (Pixels ((second - 2) * 4 + low + 3) code, place + 8))))
      else Some (Pixels 1 first, place + 2)

-- a 4 bit code behind four bits 0 and a bit 1, by the three bits behind these
unfoldable pub four_run_at : List ℕ → ℕ → ℕ → Option (Token × ℕ)
four_run_at xs place form =
    if nat_lt form 4 then (field_at xs place 4 >>= λ code. Some (Pixels (form + 4) code, place + 4)) else
    (if form == 4 then Some (Pixels 1 0, place) else (if form == 5 then Some (Pixels 2 0, place) else (if form == 6
    then (field_at xs place 4 >>= λ count. field_at xs (place + 4) 4 >>= λ code. Some
    (Pixels (count + 9) code, place + 8))
    else (field_at xs place 8 >>= λ count. field_at xs (place + 8) 4 >>= λ code. Some
    (Pixels (count + 25) code, place + 12)))))

-- a 4 bit code at a place
unfoldable pub four_at : List ℕ → ℕ → Option (Token × ℕ)
four_at xs place = do
  first ← field_at xs place 4
  if first == 0 then (field_at xs (place + 4) 4 >>= λ second.
      if second == 0 then Some (End, place + 8)
      else (if nat_lt second 8 then Some (Pixels (second + 2) 0, place + 8) else
      four_run_at xs (place + 8) (second - 8)))
      else Some (Pixels 1 first, place + 4)

-- an 8 bit code at a place
unfoldable pub eight_at : List ℕ → ℕ → Option (Token × ℕ)
eight_at xs place = do
  first ← field_at xs place 8
  if first == 0 then (field_at xs (place + 8) 8 >>= λ second.
      if second == 0 then Some (End, place + 16) else (if nat_lt second 128 then Some (Pixels second 0, place + 16) else
      (field_at xs (place + 16) 8 >>= λ code. Some (Pixels (second - 128) code, place + 24))))
      else Some (Pixels 1 first, place + 8)

-- the code of a depth at a place, and the place after it
abbrev pub token_at : Depth → List ℕ → ℕ → Option (Token × ℕ)
token_at Two = two_at
token_at Four = four_at
token_at Eight = eight_at
