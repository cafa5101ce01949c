-- What is found of the end of a piece, and what a cutter takes up.
use Rattle.std.specs.Prelude.{◌≡◌, ℕ, ◌<◌, ◌≤◌, Bool, false, List, [], ◌++◌, length, take, drop, Option, Some, None}
use Rattle.live_plan.specs.Pieces.{Pieces, is_quoted, pieces_behind, put_first}
use Rattle.live_plan.specs.declared.pieces.PieceEnd.{PieceEnd}
use Rattle.live_plan.specs.declared.pieces.PieceEnd.TheVariants as end

-- pieces before others
abbrev pub put_all : List (List ℕ) → Pieces → Pieces
put_all passed pieces = record { whole = passed ++ pieces.whole; rest = pieces.rest }

-- the bytes go on with the piece in hand up to the end of that piece, which is whole then
pub record IsEnded (front bytes piece : List ℕ) (count : ℕ) : Type 0 where
  pub some : 0 < count
  pub within : count ≤ length bytes
  pub piece_is : piece ≡ front ++ take count bytes
  pub outside : is_quoted piece ≡ false
  pub pieces : pieces_behind front bytes ≡ put_first piece (pieces_behind [] (drop count bytes))

-- all of the bytes go on with the piece in hand, which is not whole then
pub record IsGoingOn (front bytes piece : List ℕ) : Type 0 where
  pub piece_is : piece ≡ front ++ bytes
  pub pieces : pieces_behind front bytes ≡ record { whole = []; rest = piece }

-- the bytes up to the end of the piece in hand, or all of them, were taken up
abbrev pub IsTakenUp : List ℕ → List ℕ → List ℕ → Option ℕ → Type 0
IsTakenUp front piece bytes (Some count) = IsEnded front bytes piece count
IsTakenUp front piece bytes None = IsGoingOn front bytes piece

-- where the piece in hand ends in further bytes, whatever it has so far that leaves what follows within quotation marks
-- or not
abbrev pub IsFound : Bool → List ℕ → PieceEnd → Type 0
IsFound was_quoted bytes (end.Behind count) =
    (front : List ℕ) → is_quoted front ≡ was_quoted → IsEnded front bytes (front ++ take count bytes) count
IsFound was_quoted bytes (end.Later now_quoted) =
    (front : List ℕ) → is_quoted front ≡ was_quoted
    → IsGoingOn front bytes (front ++ bytes) × (is_quoted (front ++ bytes) ≡ now_quoted)
