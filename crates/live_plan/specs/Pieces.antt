-- The bytes of a script cut into pieces, each of which is read by itself.
use Rattle.std.specs.Prelude.{ℕ, ◌==◌, Bool, false, not, ◌&&◌, if◌then◌else◌, List, [], ◌∷◌, ◌++◌}

-- a quotation mark turns what stands within marks and what does not
abbrev pub turned : Bool → ℕ → Bool
turned quoted byte = if byte == 0x22 then not quoted else quoted

-- what follows these bytes stands within quotation marks: an odd count of them is among the bytes
abbrev pub is_quoted : List ℕ → Bool
is_quoted [] = false
is_quoted (byte ∷ bytes) = turned (is_quoted bytes) byte

-- a byte behind these bytes of a piece ends the piece: a line feed that an even count of quotation marks precedes
abbrev pub ends_piece : List ℕ → ℕ → Bool
ends_piece front byte = (byte == 10) && not (is_quoted front)

-- bytes in pieces: those that are whole, and the bytes behind them
pub record Pieces : Type 0 where
  pub whole : List (List ℕ)
  pub rest : List ℕ

-- one more whole piece stands before the others
abbrev pub put_first : List ℕ → Pieces → Pieces
put_first piece pieces = record { whole = piece ∷ pieces.whole; rest = pieces.rest }

-- the pieces of bytes that go on with a piece of which these bytes came before
abbrev pub pieces_behind : List ℕ → List ℕ → Pieces
pieces_behind front [] = record { whole = []; rest = front }
pieces_behind front (byte ∷ bytes) =
    if ends_piece front byte then put_first (front ++ byte ∷ []) (pieces_behind [] bytes)
    else pieces_behind (front ++ byte ∷ []) bytes

-- the pieces of a script, as far as it was read
abbrev pub pieces_of : List ℕ → Pieces
pieces_of bytes = pieces_behind [] bytes

-- all of them, and then the bytes behind them as one more, where there are any
abbrev pub with_rest : List (List ℕ) → List ℕ → List (List ℕ)
with_rest whole [] = whole
with_rest whole (byte ∷ rest) = whole ++ (byte ∷ rest) ∷ []

-- the bytes behind the last whole piece as a piece, where there are any
abbrev pub rest_only : List ℕ → List (List ℕ)
rest_only rest = with_rest [] rest

-- the pieces of a script that was read to its end
abbrev pub all_pieces : List ℕ → List (List ℕ)
all_pieces bytes = with_rest (pieces_of bytes).whole (pieces_of bytes).rest
