-- Pieces of bytes: where one ends, and what further bytes bring.
use Rattle.std.proofs.Common.{◌≡◌, ◌≢◌, ◌∙◌, ◌⊎◌, inl, inr, ℕ, ◌+◌, ◌<◌, ◌==◌, Bool, true, false, not, ◌&&◌, if◌then◌else◌, List, [], ◌∷◌, ◌++◌, length, take, drop, get_or, refl, sym, ap, arith, append_assoc, append-nil, add-one, drop-cons}
use Rattle.std.proofs.lemmas.Bool.Decides.{nat_tests}
use Rattle.std.proofs.lemmas.List.{drop_all, take_all, take_more}
use Rattle.live_plan.specs.Pieces.{Pieces, ends_piece, is_quoted, pieces_behind, pieces_of, put_first, turned}
use Rattle.live_plan.specs.Private.Cutting.{IsEnded, IsGoingOn, put_all}

-- ---- quotation marks

abbrev turn : Bool → Bool → Bool
turn mark quoted = if mark then not quoted else quoted

turns_commute : (a b quoted : Bool) → turn b (turn a quoted) ≡ turn a (turn b quoted)
turns_commute true true quoted = refl
turns_commute true false quoted = refl
turns_commute false true quoted = refl
turns_commute false false quoted = refl

-- one more byte turns it where it is a mark
pub quoted-more : (bytes : List ℕ) (byte : ℕ) → is_quoted (bytes ++ byte ∷ []) ≡ turned (is_quoted bytes) byte
quoted-more [] byte = refl
quoted-more (first ∷ bytes) byte =
    ap (λ quoted. turned quoted first) (quoted-more bytes byte)
    ∙ turns_commute (byte == 0x22) (first == 0x22) (is_quoted bytes)

-- ---- more bytes

-- the whole pieces of bytes stay where more bytes follow, which go on with the rest
pub behind-append : (front first more : List ℕ)
    → pieces_behind front (first ++ more)
    ≡ put_all (pieces_behind front first).whole (pieces_behind (pieces_behind front first).rest more)
behind-append front [] more = refl
behind-append front (byte ∷ first) more =
    by (ends_piece front byte) (behind-append [] first more) (behind-append (front ++ byte ∷ []) first more)
  where
    ended : Pieces → Pieces
    ended pieces = put_first (front ++ byte ∷ []) pieces

    by : (ends : Bool)
        → pieces_behind [] (first ++ more)
        ≡ put_all (pieces_behind [] first).whole (pieces_behind (pieces_behind [] first).rest more)
        → pieces_behind (front ++ byte ∷ []) (first ++ more)
        ≡ put_all (pieces_behind (front ++ byte ∷ []) first).whole
        (pieces_behind (pieces_behind (front ++ byte ∷ []) first).rest more)
        → (if ends then put_first (front ++ byte ∷ []) (pieces_behind [] (first ++ more))
        else pieces_behind (front ++ byte ∷ []) (first ++ more))
        ≡ put_all
        (if ends then put_first (front ++ byte ∷ []) (pieces_behind [] first)
        else pieces_behind (front ++ byte ∷ []) first).whole
        (pieces_behind
        (if ends then put_first (front ++ byte ∷ []) (pieces_behind [] first)
        else pieces_behind (front ++ byte ∷ []) first).rest
        more)
    by true anew on = ap (put_first (front ++ byte ∷ [])) anew
    by false anew on = on

-- the pieces of a script that was read further
pub pieces-append : (first more : List ℕ)
    → pieces_of (first ++ more) ≡ put_all (pieces_of first).whole (pieces_behind (pieces_of first).rest more)
pieces-append first more = behind-append [] first more

-- ---- where a piece ends

-- so many bytes were looked at, none of which ends the piece, and what follows them stands within marks or not
abbrev pub AreLookedAt : Bool → List ℕ → ℕ → Bool → Type 0
AreLookedAt was_quoted bytes place quoted = (front : List ℕ) → is_quoted front ≡ was_quoted
    → (is_quoted (front ++ take place bytes) ≡ quoted)
    × (pieces_behind front bytes ≡ pieces_behind (front ++ take place bytes) (drop place bytes))

pub look_none : (was_quoted : Bool) (bytes : List ℕ) → AreLookedAt was_quoted bytes 0 was_quoted
look_none was_quoted bytes =
    λ front same. (
      ap is_quoted (append-nil front) ∙ same,
      ap (λ f. pieces_behind f bytes) (sym (append-nil front)),
    )

-- a byte more stands behind those that were looked at
front_more : (front bytes : List ℕ) (place : ℕ) → place < length bytes
    → front ++ take (place + 1) bytes ≡ (front ++ take place bytes) ++ get_or bytes place 0 ∷ []
front_more front bytes place inside =
    ap (λ l. front ++ l) (take_more bytes place 0 inside) ∙ sym (append_assoc front (take place bytes) _)

next_is : (front bytes : List ℕ) (place : ℕ) → place < length bytes
    → pieces_behind front (drop place bytes)
    ≡ pieces_behind front (get_or bytes place 0 ∷ drop (place + 1) bytes)
next_is front bytes place inside =
    let split : drop place bytes ≡ get_or bytes place 0 ∷ drop (place + 1) bytes =
    rw (add-one, drop-cons bytes place 0) refl in
    ap (pieces_behind front) split

goes_by : (front : List ℕ) (byte : ℕ) (rest : List ℕ) → ends_piece front byte ≡ false
    → pieces_behind front (byte ∷ rest) ≡ pieces_behind (front ++ byte ∷ []) rest
goes_by front byte rest goes =
    ap (λ ends. if ends then put_first (front ++ byte ∷ []) (pieces_behind [] rest)
    else pieces_behind (front ++ byte ∷ []) rest) goes

ends_by : (front : List ℕ) (byte : ℕ) (rest : List ℕ) → ends_piece front byte ≡ true
    → pieces_behind front (byte ∷ rest) ≡ put_first (front ++ byte ∷ []) (pieces_behind [] rest)
ends_by front byte rest ends =
    ap (λ e. if e then put_first (front ++ byte ∷ []) (pieces_behind [] rest)
    else pieces_behind (front ++ byte ∷ []) rest) ends

pub look_more : (was_quoted quoted now_quoted : Bool) (bytes : List ℕ) (place : ℕ)
    → place < length bytes → (((get_or bytes place 0 == 10) && not quoted) ≡ false)
    → now_quoted ≡ turned quoted (get_or bytes place 0)
    → AreLookedAt was_quoted bytes place quoted → AreLookedAt was_quoted bytes (place + 1) now_quoted
look_more was_quoted quoted now_quoted bytes place inside goes turns looked =
    λ front same.
    let byte = get_or bytes place 0 in
    let before = front ++ take place bytes in
    let on : ends_piece before byte ≡ false = ap (λ q. (byte == 10) && not q) (looked front same).0 ∙ goes in (
      ap is_quoted (front_more front bytes place inside)
          ∙ (quoted-more before byte ∙ (ap (λ q. turned q byte) (looked front same).0 ∙ sym turns)),
      (looked front same).1
          ∙ (next_is before bytes place inside
          ∙ (goes_by before byte (drop (place + 1) bytes) on
          ∙ ap (λ f. pieces_behind f (drop (place + 1) bytes)) (sym (front_more front bytes place inside)))),
    )

-- the byte at that place ends the piece: a line feed, which is no mark
turned_by_end : (byte : ℕ) (quoted : Bool) → ((byte == 10) && not quoted) ≡ true → turned quoted byte ≡ false
turned_by_end byte quoted ends = grind (arith, nat_tests)

-- no end of a piece: another byte, or a line feed within marks
pub goes_there : (byte : ℕ) (quoted : Bool) → ((byte ≡ 10) × (quoted ≡ true)) ⊎ (byte ≢ 10)
    → ((byte == 10) && not quoted) ≡ false
goes_there byte quoted (inl (feed, within)) = grind (arith, nat_tests)
goes_there byte quoted (inr other) = grind (arith, nat_tests)

pub look_ended : (was_quoted quoted : Bool) (bytes : List ℕ) (place : ℕ)
    → place < length bytes → (((get_or bytes place 0 == 10) && not quoted) ≡ true)
    → AreLookedAt was_quoted bytes place quoted
    → (front : List ℕ) → is_quoted front ≡ was_quoted
    → IsEnded front bytes (front ++ take (place + 1) bytes) (place + 1)
look_ended was_quoted quoted bytes place inside ends looked front same =
    let byte = get_or bytes place 0 in
    let before = front ++ take place bytes in
    let shut : ends_piece before byte ≡ true = ap (λ q. (byte == 10) && not q) (looked front same).0 ∙ ends in
    record {
      some = omega arith;
      within = omega arith;
      piece_is = refl;
      outside = ap is_quoted (front_more front bytes place inside)
          ∙ (quoted-more before byte
          ∙ (ap (λ q. turned q byte) (looked front same).0 ∙ turned_by_end byte quoted ends));
      pieces = (looked front same).1
          ∙ (next_is before bytes place inside
          ∙ (ends_by before byte (drop (place + 1) bytes) shut
          ∙ ap (λ f. put_first f (pieces_behind [] (drop (place + 1) bytes)))
          (sym (front_more front bytes place inside))));
    }

pub look_all : (was_quoted quoted : Bool) (bytes : List ℕ) (place : ℕ) → place ≡ length bytes
    → AreLookedAt was_quoted bytes place quoted
    → (front : List ℕ) → is_quoted front ≡ was_quoted
    → IsGoingOn front bytes (front ++ bytes) × (is_quoted (front ++ bytes) ≡ quoted)
look_all was_quoted quoted bytes place all looked front same =
    let whole : take place bytes ≡ bytes = take_all place bytes (omega arith) in
    let none : drop place bytes ≡ [] = drop_all place bytes (omega arith) in (
      record {
        piece_is = refl;
        pieces = (looked front same).1
            ∙ (ap (λ f. pieces_behind f (drop place bytes)) (ap (λ l. front ++ l) whole)
            ∙ ap (λ l. pieces_behind (front ++ bytes) l) none);
      },
      ap is_quoted (ap (λ l. front ++ l) (sym whole)) ∙ (looked front same).0,
    )
